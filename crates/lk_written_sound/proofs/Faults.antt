-- A section holds exactly where none of its lines is at fault.
use Rattle.std.proofs.Common.{ℕ, suc, ◌≡◌, Bool, true, false, length, List, [], ◌∷◌, ◌++◌, Option, Some, None, refl, if◌then◌else◌}
use Rattle.std.specs.Prelude.{slice_get}
use Rattle.lk_tree.proofs.LevelTests.{both}
use Rattle.lk_rulebook.specs.Place.{Place}
use Rattle.lk_rulebook.specs.Units.{LibraryUnit, of_decl, of_block, Library, place_of}
use Rattle.lk_rulebook.specs.Scan.{is_none, scan_of}
use Rattle.lk_rulebook.specs.Claims.{Claim}
use Rattle.lk_written.specs.Line.{Line, claim_of}
use Rattle.lk_questions.specs.Tests.{◌>>=◌, passes}
use Rattle.lk_written.specs.Section.{Section, line_holds, claims_by, parts_test, section_test, unit_section, section_holds, line_at_fault, unit_at_fault, section_at_fault}

no_line : (w : Place) (ps : List Claim) (i : ℕ) (ls : List Line) (qs : List Claim) → claims_by w ps ls ≡ Some qs → line_at_fault w ps i ls ≡ None
no_line w ps i [] qs e = refl
no_line w ps i (l ∷ ls) qs e = go (line_holds w ps l) (no_line w (ps ++ (claim_of l ∷ [])) (suc i) ls qs) e
  where
    go : (b : Bool) → (claims_by w (ps ++ (claim_of l ∷ [])) ls ≡ Some qs → line_at_fault w (ps ++ (claim_of l ∷ [])) (suc i) ls ≡ None) →
        (if b then claims_by w (ps ++ (claim_of l ∷ [])) ls else None) ≡ Some qs → (if b then line_at_fault w (ps ++ (claim_of l ∷ [])) (suc i) ls else Some i) ≡ None
    go true r x = r x
    go false r x = absurd cc

some_before : {A B : Type 0} (o : Option A) (k : A → Option B) → passes (o >>= k) ≡ true → (v : A) × (o ≡ Some v)
some_before (Some v) k h = (v, refl)
some_before None k h = absurd cc

no_fault_in : (us : Library) (n : ℕ) (u : LibraryUnit) (s : Section) → unit_section us n u s ≡ true → unit_at_fault us n u s ≡ None
no_fault_in us n (of_decl d) s h =
    let x : (is_none (scan_of us n (of_decl d)) ≡ true) × (passes (section_test (place_of us n []) d s) ≡ true) = both (is_none (scan_of us n (of_decl d))) (passes (section_test (place_of us n []) d s)) h in
    let c : (qs : List Claim) × (claims_by (place_of us n []) [] s.lines ≡ Some qs) = some_before (claims_by (place_of us n []) [] s.lines) (λ ps. parts_test (place_of us n []) ps s.parts d) x.1 in
    none_left (line_at_fault (place_of us n []) [] 0 s.lines) (unit_section us n (of_decl d) s) (length s.lines) (no_line (place_of us n []) [] 0 s.lines c.0 c.1) h
  where
    none_left : (o : Option ℕ) (b : Bool) (k : ℕ) → o ≡ None → b ≡ true → elim o as (λ x. Option ℕ) [ Some i ↦ Some i | None ↦ if b then None else Some k ] ≡ None
    none_left None true k e f = refl
    none_left None false k e f = absurd cc
    none_left (Some i) b k e f = absurd cc
no_fault_in us n (of_block b rs) s h = absurd cc

holds_in : (us : Library) (n : ℕ) (u : LibraryUnit) (s : Section) → unit_at_fault us n u s ≡ None → unit_section us n u s ≡ true
holds_in us n u s h = go (line_at_fault (place_of us n []) [] 0 s.lines) (unit_section us n u s) h
  where
    go : (o : Option ℕ) (b : Bool) → elim o as (λ x. Option ℕ) [ Some i ↦ Some i | None ↦ if b then None else Some (length s.lines) ] ≡ None → b ≡ true
    go o true e = refl
    go (Some i) false e = absurd cc
    go None false e = absurd cc

pub no_fault : (us : Library) (n : ℕ) (s : Section) → section_holds us n s ≡ true → section_at_fault us n s ≡ None
no_fault us n s h = go (slice_get us n) h
  where
    go : (o : Option LibraryUnit) → elim o as (λ x. Bool) [ Some u ↦ unit_section us n u s | None ↦ false ] ≡ true → elim o as (λ x. Option ℕ) [ Some u ↦ unit_at_fault us n u s | None ↦ Some (length s.lines) ] ≡ None
    go (Some u) e = no_fault_in us n u s e
    go None e = absurd cc

pub holds_so : (us : Library) (n : ℕ) (s : Section) → section_at_fault us n s ≡ None → section_holds us n s ≡ true
holds_so us n s h = go (slice_get us n) h
  where
    go : (o : Option LibraryUnit) → elim o as (λ x. Option ℕ) [ Some u ↦ unit_at_fault us n u s | None ↦ Some (length s.lines) ] ≡ None → elim o as (λ x. Bool) [ Some u ↦ unit_section us n u s | None ↦ false ] ≡ true
    go (Some u) e = holds_in us n u s e
    go None e = absurd cc
