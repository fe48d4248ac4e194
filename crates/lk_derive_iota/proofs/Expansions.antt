-- What is so of an expansion at another state.
use Rattle.std.proofs.Common.{ℕ, ◌≡◌, sym, subst}
use Rattle.lk_tree.specs.Tree.{Tree}
use Rattle.lk_tree.specs.Spine.{head, args}
use Rattle.lk_rulebook.specs.Place.{Place}
use Rattle.lk_constructor.specs.Looking.{app_at}
use Rattle.lk_store.specs.Contents.{Contents}
use Rattle.lk_env.specs.StoredLibrary.{StoredLibrary}
use Rattle.lk_step.specs.declared.step.Row.{Row}
use Rattle.lk_derive_iota.specs.declared.redexes.Redex.{Redex}
use Rattle.lk_derive_iota.specs.Stages.{at_ctor, IsUnderWay}
use Rattle.lk_derive_iota.specs.Taken.{IsExpanded}
use Rattle.lk_derive_iota.specs.Expanding.{IsExpansionAsked}

module _ {w w' : Place} {l l' : StoredLibrary} {c : Contents} {r : Row} {most : ℕ} {u : Redex} (ew : w' ≡ w) (el : l' ≡ l) where
  pub ctor_on : {x x' : Tree} → x' ≡ x → IsUnderWay w l c r most u x (at_ctor (app_at w (head x) (args x))) 0 → IsUnderWay w' l' c r most u x' (at_ctor (app_at w' (head x') (args x'))) 0
  ctor_on {x = x} {x' = x'} ex h =
      subst (λ z. IsUnderWay z l' c r most u x' (at_ctor (app_at z (head x') (args x'))) 0) (sym ew) (subst (λ z. IsUnderWay w z c r most u x' (at_ctor (app_at w (head x') (args x'))) 0) (sym el)
      (subst (λ z. IsUnderWay w l c r most u z (at_ctor (app_at w (head z) (args z))) 0) (sym ex) h))

  pub expansion_on : {m m' x x' S T U V : Tree} → m' ≡ m → x' ≡ x → IsExpansionAsked w l c r most u m x S T U V → IsExpansionAsked w' l' c r most u m' x' S T U V
  expansion_on {m = m} {m' = m'} {x = x} {x' = x'} {S = S} {T = T} {U = U} {V = V} em ex h =
      subst (λ z. IsExpansionAsked z l' c r most u m' x' S T U V) (sym ew) (subst (λ z. IsExpansionAsked w z c r most u m' x' S T U V) (sym el)
      (subst (λ z. IsExpansionAsked w l c r most u z x' S T U V) (sym em) (subst (λ z. IsExpansionAsked w l c r most u m z S T U V) (sym ex) h)))

  pub expanded_there : {m x : Tree} → IsExpanded w l c r most u m x (at_ctor (app_at w (head x) (args x))) → IsExpanded w' l' c r most u m x (at_ctor (app_at w' (head x) (args x)))
  expanded_there {m = m} {x = x} h = subst (λ z. IsExpanded z l' c r most u m x (at_ctor (app_at z (head x) (args x)))) (sym ew) (subst (λ z. IsExpanded w z c r most u m x (at_ctor (app_at w (head x) (args x)))) (sym el) h)
