-- A function that is applied to one argument more.
use Rattle.std.proofs.Common.{◌≡◌, List, ◌∷◌, Option, Some, None, refl, ap, ◌∙◌}
use Rattle.lk_tree.specs.Tree.{Tree}
use Rattle.lk_tree.specs.Bind.{opened}
use Rattle.lk_rulebook.specs.Claims.{Claim}
use Rattle.lk_questions.specs.Tests.{◌>>=◌}
use Rattle.lk_written.specs.Premises.{Left, typed, equal, to_pi}
use Rattle.lk_written.specs.Typing.{applied_type}
use Rattle.lk_premises.proofs.Binding.{bind_bind}
use Rattle.lk_replay_types.specs.Parts.{body_for}
use Rattle.lk_replay_types.specs.Applications.{applied_once}

module _ (ps : List Claim) (x : Tree) (xs : List Tree) where
  -- the other arguments, behind the codomain for this one
  abbrev others : Tree × Left → Option (Tree × Left)
  others b = applied_type ps b.1 (opened b.0 x) xs

  -- the codomain is opened with this one
  abbrev opens : Tree × Left → Option (Tree × Left)
  opens b = Some (opened b.0 x, b.1)

  applied_by : (js : Left) (F : Tree) → applied_type ps js F (x ∷ xs) ≡ (body_for ps js F x >>= others)
  unfolding body_for
  applied_by js F =
      bind_bind (to_pi ps js F)
      (λ p. typed ps p.1 x >>= λ X. equal ps X.1 X.0 p.0.0 >>= λ r. Some (p.0.1, r)) others
      (λ p. typed ps p.1 x >>= λ X. equal ps X.1 X.0 p.0.0 >>= λ r. applied_type ps r (opened p.0.1 x) xs)
      (λ p. bind_bind (typed ps p.1 x) (λ X. equal ps X.1 X.0 p.0.0 >>= λ r. Some (p.0.1, r)) others
      (λ X. equal ps X.1 X.0 p.0.0 >>= λ r. applied_type ps r (opened p.0.1 x) xs)
      (λ X. bind_bind (equal ps X.1 X.0 p.0.0) (λ r. Some (p.0.1, r)) others
      (λ r. applied_type ps r (opened p.0.1 x) xs) (λ r. refl)))

  -- the argument fits
  pub applied_on : (js : Left) (F : Tree) (s : Tree × Left) → applied_once ps js F x ≡ Some s → applied_type ps js F (x ∷ xs) ≡ applied_type ps s.1 s.0 xs
  applied_on js F s h = applied_by js F ∙ go (body_for ps js F x) h
    where
      go : (o : Option (Tree × Left)) → (o >>= opens) ≡ Some s → (o >>= others) ≡ applied_type ps s.1 s.0 xs
      go None i = absurd (cc)
      go (Some b) i = let same : (opened b.0 x, b.1) ≡ s = cc in ap (λ (y : Tree × Left). applied_type ps y.1 y.0 xs) same

  -- it does not
  pub applied_stops : (js : Left) (F : Tree) → applied_once ps js F x ≡ None → applied_type ps js F (x ∷ xs) ≡ None
  applied_stops js F h = applied_by js F ∙ go (body_for ps js F x) h
    where
      go : (o : Option (Tree × Left)) → (o >>= opens) ≡ None → (o >>= others) ≡ None
      go None i = refl
      go (Some b) i = absurd (cc)
