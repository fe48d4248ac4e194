-- A unit with a section that holds is derived.
use Rattle.std.proofs.Common.{ℕ, ◌≡◌, Bool, true, false, [], Option, Some, None, refl}
use Rattle.std.specs.Prelude.{slice_get}
use Rattle.lk_rulebook.specs.Place.{Place}
use Rattle.lk_rulebook.specs.Units.{Decl, LibraryUnit, of_decl, of_block, Library, place_of}
use Rattle.lk_rulebook.specs.Scan.{IsScanned, is_none, scan_of}
use Rattle.lk_rulebook.proofs.Scans.{scan_right}
use Rattle.lk_rulebook.specs.Derived.{DeclDerived}
use Rattle.lk_claims.proofs.Pieces.{halves}
use Rattle.lk_questions.specs.Sound.{IsSoundPlace}
use Rattle.lk_questions.specs.Tests.{passes}
use Rattle.lk_written.specs.Section.{Section, section_test, unit_section, section_holds}
use Rattle.lk_written_sound.proofs.Premises.{passed}
use Rattle.lk_written_sound.proofs.Sections.{section_right}

nothing_broken : {A : Type 0} (o : Option A) → is_none o ≡ true → o ≡ None
nothing_broken None h = refl
nothing_broken (Some x) h = absurd cc

abbrev Derives : Library → ℕ → Option LibraryUnit → Type 0
Derives us n o = (d : Decl) × (o ≡ Some (of_decl d)) × IsScanned us n (of_decl d) × DeclDerived (place_of us n []) d

at_unit : (us : Library) (n : ℕ) → IsSoundPlace (place_of us n []) → (u : LibraryUnit) (s : Section) → unit_section us n u s ≡ true → Derives us n (Some u)
at_unit us n ok (of_decl d) s h =
    let w : Place = place_of us n [] in
    let x : (is_none (scan_of us n (of_decl d)) ≡ true) × (passes (section_test w d s) ≡ true) = halves (is_none (scan_of us n (of_decl d))) (passes (section_test w d s)) h in
    (d, refl, scan_right us n (of_decl d) (nothing_broken (scan_of us n (of_decl d)) x.0), passed (section_test w d s) (DeclDerived w d) (section_right w ok d s) x.1)
at_unit us n ok (of_block b rs) s h = absurd cc

at_number : (us : Library) (n : ℕ) → IsSoundPlace (place_of us n []) → (o : Option LibraryUnit) (s : Section) → elim o as (λ y. Bool) [ Some u ↦ unit_section us n u s | None ↦ false ] ≡ true → Derives us n o
at_number us n ok (Some u) s h = at_unit us n ok u s h
at_number us n ok None s h = absurd cc

pub unit_derived : (us : Library) (n : ℕ) (s : Section) → IsSoundPlace (place_of us n []) → section_holds us n s ≡ true → Derives us n (slice_get us n)
unit_derived us n s ok h = at_number us n ok (slice_get us n) s h
