-- Checks that lead on to other checks.
use Rattle.std.proofs.Common.{◌≡◌, ℕ, Bool, true, false, Ok, Err, List, ◌∷◌, refl, ap}
use Rattle.std.proofs.Math.Path.{fun_ext}
use Rattle.lk_tree.specs.Tree.{Tree}
use Rattle.lk_tree.specs.declared.rule.Rule.TheVariants.{RecursorDiffers}
use Rattle.lk_rulebook.specs.Place.{RecRule}
use Rattle.lk_questions.specs.Query.{infer, same}
use Rattle.lk_questions.specs.Program.{Program, done, ask, asked, ◌>>=◌}
use Rattle.lk_questions.specs.Steps.{given}
use Rattle.lk_questions.specs.Declarations.{Yes, checked}
use Rattle.lk_inductive.specs.Recursors.{BlockRecursor}
use Rattle.lk_inductive.specs.Compare.{renamed, rules_steps}
use Rattle.lk_ask.specs.declared.stop.Stop.TheVariants.{No}
use Rattle.lk_ask.specs.Asking.{Standing}
use Rattle.lk_declaration.specs.Courses.{Goes, Halts}
use Rattle.lk_declaration.proofs.Running.{settles_on}
use Rattle.lk_recursor.specs.Comparisons.{same_form, rule_form}

module _ {Base : Type 0} (t : Standing Base) (a b : Tree) (left after : ℕ) (r : Bool) (first : Goes t (asked (same a b)) left r after) where
  pub same_goes : r ≡ true → Goes t (same_form a b) left checked after
  same_goes agrees = settles_on t (asked (same a b)) (λ equal. given equal RecursorDiffers (done checked)) left after r (λ (y : Yes). y) (Ok checked) first (ap (λ q. given q RecursorDiffers (done checked)) agrees)

  pub same_differs : r ≡ false → Halts t (same_form a b) left (No RecursorDiffers)
  same_differs differs = settles_on t (asked (same a b)) (λ equal. given equal RecursorDiffers (done checked)) left after r (λ (y : Yes). y) (Err (No RecursorDiffers)) first (ap (λ q. given q RecursorDiffers (done checked)) differs)

-- two trees that are to be the same, and then the rest
pub same_then : (a b : Tree) (p : Program Yes) → (asked (same a b) >>= λ equal. given equal RecursorDiffers p) ≡ (same_form a b >>= λ u. p)
same_then a b p = ap (ask (same a b)) (fun_ext go)
  where
    go : (equal : Bool) → given equal RecursorDiffers p ≡ (given equal RecursorDiffers (done checked) >>= λ u. p)
    go true = refl
    go false = refl

-- the first rule, and then the others
pub rules_then : (s r : BlockRecursor) (a b : RecRule) (as_ bs : List RecRule) → rules_steps s r (a ∷ as_) (b ∷ bs) ≡ (rule_form a.value (renamed s r b.value) >>= λ u. rules_steps s r as_ bs)
rules_then s r a b as_ bs = ap (λ p. ask (infer a.value) (λ V. p)) (same_then a.value (renamed s r b.value) (rules_steps s r as_ bs))
