-- Verdicts that were drawn, in the order of the units.
use Rattle.std.proofs.Common.{◌≡◌, ℕ, zero, suc, ◌<◌, Bool, true, false, List, [], ◌∷◌, All, length, map, fold, refl, sym, ap, subst, ◌∙◌, arith, inl, inr}
use Rattle.std.specs.Prelude.{◌==◌, slice_get, slice_index_or, Some, if◌then◌else◌}
use Rattle.std.proofs.lemmas.Bool.Decides.{nat_tests}
use Rattle.std.proofs.lemmas.List.{length-map}
use Rattle.lk_rulebook.specs.Units.{LibraryUnit, Library}
use Rattle.lk_verdict.specs.GoodUnit.{IsClearLibrary}
use Rattle.lk_verdict.specs.Told.{Verdict, IsPlainVerdict, AreVerdicts}
use Rattle.lk_store.specs.Contents.{Contents}
use Rattle.lk_store.specs.Store.{contents_of}
use Rattle.lk_env.specs.declared.unit.Unit.{Unit as StoredUnit}
use Rattle.lk_env.specs.Units.{unit_at, library_at, library_of, IsUnitIn}
use Rattle.lk_env.specs.StoredLibrary.{StoredLibrary}
use Rattle.lk_verdict.specs.declared.verdict.Verdict.{Verdict as HeldVerdict}
use Rattle.lk_verdict.specs.declared.verdict.Verdict.TheVariants.{Memory}
use Rattle.lk_verdict.specs.Held.{verdict}
use Rattle.leancheck.specs.declared.order.UnitVerdict.{UnitVerdict}
use Rattle.leancheck.specs.Rows.{row_verdict}
use Rattle.leancheck.specs.Held.{IsPlain}
use Rattle.leancheck.specs.Drawn.{IsPlainUnder, unit_budget, IsRight, AreRight, given}
use Rattle.leancheck.proofs.Scanning.{found_plain, good_of_plain}

module _ (l : StoredLibrary) (steps n : ℕ) where
  -- the last that was said of a number is right, where all that was said is, and what was said before
  last_right : (v : HeldVerdict) (answers : List UnitVerdict) → IsRight l steps n v → AreRight l steps answers → IsRight l steps n (fold (λ v a. if a.number == n then a.verdict else v) v answers)
  last_right v [] this are = this
  last_right v (a ∷ rest) this are = last_right (if a.number == n then a.verdict else v) rest (one (a.number == n) refl (are 0 a (omega arith)).1) (λ k d lt. are (suc k) d (omega (arith, lt)))
    where
      one : (b : Bool) → a.number == n ≡ b → IsRight l steps a.number a.verdict → IsRight l steps n (if b then a.verdict else v)
      one true e r = let same : a.number ≡ n = grind (arith, nat_tests) in subst (λ m. IsRight l steps m a.verdict) same r
      one false e r = this

  given_right : (answers : List UnitVerdict) → AreRight l steps answers → IsRight l steps n (given n answers)
  given_right answers are = last_right Memory answers (λ u there. inr refl) are

stands_at : (vs : List HeldVerdict) (n : ℕ) (v : HeldVerdict) → slice_get vs n ≡ Some v → (n < length vs) × (slice_index_or vs n v ≡ v)
stands_at [] n v e = absurd (cc)
stands_at (w ∷ vs) zero v e = (omega arith, cc)
stands_at (w ∷ vs) (suc n) v e = let h = stands_at vs n v e in (omega (arith, h.0), h.1)

told_at : (vs : List HeldVerdict) (n : ℕ) (v : Verdict) → slice_get (map verdict vs) n ≡ Some v → (w : HeldVerdict) × (slice_get vs n ≡ Some w) × (verdict w ≡ v)
told_at [] n v e = absurd (cc)
told_at (w ∷ vs) zero v e = (w, refl, cc)
told_at (w ∷ vs) (suc n) v e = told_at vs n v e

pub has_unit : (us : Library) (n : ℕ) → n < length us → (u : LibraryUnit) × (slice_get us n ≡ Some u)
has_unit [] n lt = absurd (omega arith)
has_unit (u ∷ us) zero lt = (u, refl)
has_unit (u ∷ us) (suc n) lt = has_unit us n (omega (arith, lt))

verdict_is : (steps : ℕ) (all : Library) (n : ℕ) (u : LibraryUnit) (v : HeldVerdict) → slice_get all n ≡ Some u → IsPlain (row_verdict all steps n u) v → IsPlainVerdict all steps n (verdict v)
verdict_is steps all n u v there (inl e) = inl (found_plain all steps n u (verdict v) there e)
verdict_is steps all n u v there (inr e) = inr e

-- a verdict that is held of a unit is the plain one, or memory
pub plain_held : (l : StoredLibrary) (steps n : ℕ) (v : HeldVerdict) → n < length l.units → IsPlainUnder l steps n v → IsPlainVerdict (library_of l) steps n (verdict v)
plain_held l steps n v below right =
    let as_many = length-map l.units (unit_at (contents_of l.tables)) in
    let unit = has_unit (library_of l) n (omega (arith, below, as_many)) in
    verdict_is steps (library_of l) n unit.0 v unit.1 (right unit.0 unit.1)

-- each answer at its number
module _ (l : StoredLibrary) (steps : ℕ) (answers : List UnitVerdict) (vs : List HeldVerdict) (are : AreRight l steps answers) (len : length vs ≡ length l.units)
    (is : (n : ℕ) (d : HeldVerdict) → n < length l.units → slice_index_or vs n d ≡ given n answers) where
  plain_at : (n : ℕ) (v : Verdict) → slice_get (map verdict vs) n ≡ Some v → IsPlainVerdict (library_of l) (unit_budget l steps n) n v
  plain_at n v at =
      let told = told_at vs n v at in
      let w = told.0 in
      let h = stands_at vs n w told.1 in
      let below : n < length l.units = omega (arith, len, h.0) in
      let said : given n answers ≡ w = sym (is n w below) ∙ h.1 in
      let right : IsRight l steps n w = subst (IsRight l steps n) said (given_right l steps n answers are) in
      subst (IsPlainVerdict (library_of l) (unit_budget l steps n) n) told.2
      (plain_held l (unit_budget l steps n) n w below right)

  pub in_order : IsClearLibrary (library_of l) → AreVerdicts (library_of l) (unit_budget l steps) (map verdict vs)
  in_order clear = record {
    as_many = length-map vs verdict ∙ len ∙ sym (length-map l.units (unit_at (contents_of l.tables)));
    each = λ n v at. record { plain = plain_at n v at; good = λ yes before. good_of_plain (library_of l) clear (unit_budget l steps) (map verdict vs) plain_at n v at yes before };
  }

unit_got : (c : Contents) (us : List StoredUnit) (n : ℕ) (d : StoredUnit) → n < length us → slice_get (library_at c us) n ≡ Some (unit_at c (slice_index_or us n d))
unit_got c [] n d lt = absurd (omega arith)
unit_got c (u ∷ us) zero d lt = refl
unit_got c (u ∷ us) (suc n) d lt = unit_got c us n d (omega (arith, lt))

-- a unit that stands at a number of these units, which are all
module _ (c : Contents) (us all : List StoredUnit) (n : ℕ) (u : StoredUnit) (lt : n < length all) (same : us ≡ all) (at : u ≡ slice_index_or us n u) where
  pub unit_stands : slice_get (library_at c all) n ≡ Some (unit_at c u)
  unit_stands = unit_got c all n u lt ∙ ap (λ x. Some (unit_at c x)) (sym (at ∙ ap (λ (xs : List StoredUnit). slice_index_or xs n u) same))

  pub unit_known : All (IsUnitIn c) us → IsUnitIn c u
  unit_known known = subst (IsUnitIn c) (sym at) (known n u (subst (λ (xs : List StoredUnit). n < length xs) (sym same) lt))

same_unit : (c : Contents) (us : List StoredUnit) (n : ℕ) (u : StoredUnit) (w : LibraryUnit) → slice_get (library_at c us) n ≡ Some (unit_at c u) → slice_get (library_at c us) n ≡ Some w → unit_at c u ≡ w
same_unit c us n u w a b = let e : Some (unit_at c u) ≡ Some w = sym a ∙ b in cc

-- what was judged of the unit that stands at the number is right
pub judged_right : (l : StoredLibrary) (steps n : ℕ) (u : StoredUnit) (v : HeldVerdict) → slice_get (library_of l) n ≡ Some (unit_at (contents_of l.tables) u)
    → IsPlain (row_verdict (library_of l) steps n (unit_at (contents_of l.tables) u)) v → IsPlainUnder l steps n v
judged_right l steps n u v stands judged = λ w at. subst (λ x. IsPlain (row_verdict (library_of l) steps n x) v) (same_unit (contents_of l.tables) l.units n u w stands at) judged
