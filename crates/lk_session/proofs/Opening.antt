-- The rule holds of a new session.
use Rattle.std.proofs.Common.{◌≡◌, ℕ, zero, suc, false, true, subst, [], ◌∷◌, refl, arith}
use Rattle.std.proofs.lemmas.Bool.Decides.{nat_tests}
use mathlib.Core.Option.{some}
use mathlib.Core.List.{IsPrefix}
use lib.ListN.{get_elem?}
use Rattle.atomic_table.specs.Table.{opening}
use Rattle.lk_session.specs.declared.view.View.{View}
use Rattle.lk_session.specs.Rule.{IsSession, IsSeated, first_view}
use Rattle.lk_session.proofs.Prefixes.{prefix_none, all_none}

only_first : (id : ℕ) (v : View) → get_elem? (first_view ∷ []) id ≡ some v → (v.keeps ≡ true → id ≡ 0) × IsSeated [] v
only_first zero v e =
    let same : first_view ≡ v = cc in
    subst (λ (u : View). (u.keeps ≡ true → ◌≡◌ {A = ℕ} 0 0) × IsSeated [] u) same ((λ k. refl), record { seen = prefix_none []; whole = λ k. refl; olds = all_none (λ o. IsPrefix o []); refusals = omega arith; spent = λ k p. absurd (let bad : true ≡ false = k in cc) })
only_first (suc id) v e = absurd cc

pub opened : IsSession (opening (0 ∷ 1 ∷ []) [] first_view)
opened = record {
  words = refl;
  log = [];
  keeper = 0;
  book = (first_view, refl, refl);
  only = λ i u t k. (only_first i u t).0 k;
  count = refl;
  each = λ i u t. (only_first i u t).1;
  once = λ x. grind (arith, nat_tests);
  passes = refl;
  refused = refl;
}
