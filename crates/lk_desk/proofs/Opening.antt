-- The rule holds of a new desk.
use Rattle.std.proofs.Common.{◌≡◌, ℕ, zero, suc, ◌^◌, ◌<◌, false, true, subst, List, [], ◌∷◌, All, length, map, slice_index, Some, refl, ap, arith}
use Rattle.std.proofs.lemmas.List.{length-map}
use Rattle.std.proofs.lemmas.Bool.Decides.{nat_tests}
use mathlib.Core.Option.{some}
use lib.ListN.{get_elem?}
use Rattle.atomic_table.specs.Table.{opening}
use Rattle.lk_desk.specs.declared.view.View.{View}
use Rattle.lk_desk.specs.declared.shard.Shard.{Shard}
use Rattle.lk_desk.specs.Job.{Job, units_of}
use Rattle.lk_desk.specs.Truth.{AreTrue, entries_of}
use Rattle.lk_desk.proofs.Truths.{none_false}
use Rattle.lk_desk.specs.Rule.{Slot, IsDesk, IsSeated, first_view, IsEmptyShard}

home_at : (job : Job) (slots : List Slot) → All IsEmptyShard slots → (k : ℕ) → k < length slots → (x : Shard) × (get_elem? (map some slots) k ≡ some (some (Some x))) × AreTrue job (entries_of x)
home_at job [] each k lt = absurd (omega arith)
home_at job (x ∷ xs) each zero lt = let e = each 0 x lt in (e.0, ap (λ (y : Slot). some (some y)) e.1, none_false job _ e.2)
home_at job (x ∷ xs) each (suc k) lt = home_at job xs (λ i d l. each (suc i) d (omega (arith, l))) k (omega (arith, lt))

only_first : (job : Job) (id : ℕ) (v : View) → get_elem? (first_view job ∷ []) id ≡ some v → IsSeated job 0 v
only_first job zero v e =
    let same : first_view job ≡ v = cc in
    subst (IsSeated job 0) same (record {
      live = λ h. record { same_job = refl; going = λ x. refl; over = λ x. absurd (let bad : false ≡ true = x in cc); overdrawn = omega arith; refusals = omega arith };
      spent = λ h. absurd (let bad : 1 ≡ 0 = h in omega arith);
    })
only_first job (suc id) v e = absurd cc

pub opened : (job : Job) (words : List ℕ) (slots : List Slot) → units_of job < 2 ^ 32 → length words ≡ 66 → slice_index words 0 ≡ 0 → slice_index words 1 ≡ 1 → length slots ≡ 64 → All IsEmptyShard slots
    → IsDesk job (opening words slots (first_view job))
opened job words slots small w zero-at one-at s each = record {
  words = w;
  homes = simp length-map s;
  small = small;
  each = rw zero-at (only_first job);
  once = λ x. rw zero-at (grind (arith, nat_tests));
  bound = rw zero-at (omega arith);
  seats = rw one-at refl;
  refused = rw one-at refl;
  home = λ k k-in e. home_at job slots each k (omega (arith, s));
}
