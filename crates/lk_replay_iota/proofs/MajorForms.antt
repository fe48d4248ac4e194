-- The major premise of a recursor.
use Rattle.std.proofs.Common.{◌≡◌, ℕ, Bool, true, false, ◌&&◌, nat_eq, List, length, Option, Some, None, refl, sym, ap, ◌∙◌}
use Rattle.lk_tree.specs.Tree.{Name, Level, Tree, app}
use Rattle.lk_tree.specs.Spine.{head, args}
use Rattle.lk_rulebook.specs.Place.{Place, Entry, Recursor}
use Rattle.lk_rulebook.specs.Structures.{before_major}
use Rattle.lk_rulebook.specs.Claims.{Claim}
use Rattle.lk_questions.specs.Steps.{is_same_tree}
use Rattle.lk_questions.specs.Tests.{◌>>=◌, test, passes, reads}
use Rattle.lk_written.specs.Premises.{Left, ends, reduced}
use Rattle.lk_written.specs.Reducing.{major_of, the_recursor, red_major}
use Rattle.lk_premises.specs.Heads.{head_means}
use Rattle.lk_premises.proofs.AtHead.{head_some, head_none}
use Rattle.lk_replay_iota.specs.Majors.{has_before, major_read}
use Rattle.lk_replay_iota.proofs.RuledForms.{before_all}

both_pass : {A : Type 0} (o : Option A) (q : Bool) (k : Option (Unit {0})) → (o >>= λ v. test q >>= λ u. k) ≡ (test (passes o && q) >>= λ u. k)
both_pass (Some v) q k = refl
both_pass None q k = refl

pub major_by : (w : Place) (ps : List Claim) (js : Left) (f e g n : Tree) → red_major w ps js (app f e) (app g n) ≡ major_read w ps js f e g n
major_by w ps js f e g n = both_pass (major_of w (head f) (length (args f))) (is_same_tree g f) (reduced ps js e >>= λ m. reads w m.0 n >>= λ v. ends m.1)

module _ (w : Place) (f : Tree) where
  abbrev counted : Name × List Level → Entry → Option (Name × List Level × Entry × Recursor)
  counted c g = do
    r ← the_recursor g.kind
    u ← test (nat_eq (length (args f)) (before_major r))
    Some (c.0, c.1, g, r)

  pub recursor_given : (c : Name × List Level) (g : Entry) → head_means w f ≡ Some (c, g) → passes (has_before (length (args f)) g.kind) ≡ passes (major_of w (head f) (length (args f)))
  recursor_given c g h = sym (ap passes (head_some w f counted c g h) ∙ before_all (length (args f)) (λ r. (c.0, c.1, g, r)) g.kind)

  pub recursor_lost : head_means w f ≡ None → false ≡ passes (major_of w (head f) (length (args f)))
  recursor_lost h = sym (ap passes (head_none w f counted h))
