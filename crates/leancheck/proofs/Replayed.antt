-- Sections that hold, in a file.
use Rattle.std.proofs.Common.{◌≡◌, ℕ, zero, suc, ◌<◌, ◌+◌, Bool, true, false, List, [], ◌∷◌, All, map, refl, sym, ap, subst, ◌∙◌, arith}
use Rattle.std.specs.Prelude.{◌||◌, ◌&&◌, nat_eq, Option, Some, None, slice_get, if◌then◌else◌}
use Rattle.std.specs.List.{list_any}
use Rattle.std.proofs.lemmas.Bool.Decides.{nat_tests}
use Rattle.std.proofs.lemmas.List.Elements.{All-head, All-tail}
use Rattle.std.proofs.lemmas.List.Folds.{list_any-append}
use Rattle.lk_rulebook.specs.Units.{LibraryUnit, of_decl, of_block, Library}
use Rattle.lk_written.specs.Section.{section_holds, section_at_fault}
use Rattle.lk_written.specs.Outcomes.{FileSection, section_of, section_for, by_fault, by_section, by_unit, holds, unwritten, Outcome}
use Rattle.lk_written_sound.proofs.Faults.{no_fault}
use Rattle.lk_sections.specs.Sections.{UnitSection}
use Rattle.leancheck.specs.Traces.{is_declaration, is_accepted, has_section, traced_below, AreSections, without_numbers, AllHold}
use Rattle.leancheck.proofs.SectionsBelow.{traced_more}

-- the number is one of them
abbrev has : ℕ → List ℕ → Bool
has n ms = list_any (λ m. nat_eq m n) ms

or_right : (a b : Bool) → b ≡ true → (a || b) ≡ true
or_right true b h = refl
or_right false b h = h

or_left : (a b : Bool) → a ≡ true → (a || b) ≡ true
or_left true b h = refl
or_left false b h = absurd cc

-- a unit that has a section is one of those that have
module _ (us : Library) (budget : ℕ → ℕ) (m : ℕ) (says : has_section us (budget m) m ≡ true) where
  abbrev last : ℕ → List ℕ
  last n = if has_section us (budget n) n then n ∷ [] else []

  parts : (n : ℕ) → has m (traced_below us budget (n + 1)) ≡ (has m (traced_below us budget n) || has m (last n))
  parts n = ap (has m) (traced_more us budget n) ∙ list_any-append (λ k. nat_eq k m) (traced_below us budget n) (last n)

  itself : (n : ℕ) → n ≡ m → has m (last n) ≡ true
  itself n e =
      let own : last n ≡ m ∷ [] = subst (λ k. last k ≡ m ∷ []) (sym e) (ap (λ b. if b then m ∷ [] else []) says) in
      ap (has m) own ∙ grind (arith, nat_tests)

  among : (n : ℕ) → m < n → has m (traced_below us budget n) ≡ true
  among zero below = absurd (omega (arith, below))
  among (suc n) below = let e : n + 1 ≡ suc n = omega arith in subst (λ k. has m (traced_below us budget k) ≡ true) e (by_case (nat_eq n m) refl (among n))
    where
      by_case : (b : Bool) → nat_eq n m ≡ b → (m < n → has m (traced_below us budget n) ≡ true) → has m (traced_below us budget (n + 1)) ≡ true
      by_case true e before = parts n ∙ or_right (has m (traced_below us budget n)) (has m (last n)) (itself n (grind (arith, nat_tests)))
      by_case false e before = parts n ∙ or_left (has m (traced_below us budget n)) (has m (last n)) (before (grind (arith, nat_tests)))

-- the first section of a unit, where each holds, holds
module _ (us : Library) (m : ℕ) where
  abbrev IsHolding : UnitSection → Type 0
  IsHolding s = section_holds us s.unit s.section ≡ true

  found : (fs : List FileSection) → All IsHolding (map without_numbers fs) → has m (map (λ (s : UnitSection). s.unit) (map without_numbers fs)) ≡ true
      → (f : FileSection) × (section_for m fs ≡ Some f) × (section_holds us m (section_of f) ≡ true)
  found [] h there = absurd cc
  found (f ∷ fs) h there = at (nat_eq f.unit m) refl (found fs (All-tail IsHolding (without_numbers f) (map without_numbers fs) h))
    where
      at : (b : Bool) → nat_eq f.unit m ≡ b → (has m (map (λ (s : UnitSection). s.unit) (map without_numbers fs)) ≡ true
          → (g : FileSection) × (section_for m fs ≡ Some g) × (section_holds us m (section_of g) ≡ true))
          → (g : FileSection) × (section_for m (f ∷ fs) ≡ Some g) × (section_holds us m (section_of g) ≡ true)
      at true e more =
          let same : f.unit ≡ m = grind (arith, nat_tests) in (
            f,
            ap (λ b. if b then Some f else section_for m fs) e,
            subst (λ k. section_holds us k (section_of f) ≡ true) same (All-head IsHolding (without_numbers f) (map without_numbers fs) h),
          )
      at false e more =
          let rest : has m (map (λ (s : UnitSection). s.unit) (map without_numbers fs)) ≡ true = sym (ap (λ b. b || has m (map (λ (s : UnitSection). s.unit) (map without_numbers fs))) e) ∙ there in
          let g = more rest in
          (g.0, ap (λ b. if b then Some f else section_for m fs) e ∙ g.1, g.2)

  comes : (fs : List FileSection) (o : Option LibraryUnit) (accepted : Bool) (f : FileSection) → (is_declaration o && accepted) ≡ true → section_for m fs ≡ Some f → section_at_fault us m (section_of f) ≡ None
      → elim o as (λ x. Outcome) [ Some u ↦ by_unit us m fs u | None ↦ unwritten ] ≡ holds
  comes fs (Some (of_decl d)) accepted f says at none = ap (by_section us m) at ∙ ap (by_fault f) none
  comes fs (Some (of_block b rs)) accepted f says at none = absurd cc
  comes fs None accepted f says at none = absurd cc

pub all_hold : (us : Library) (budget : ℕ → ℕ) (n : ℕ) (ss : List UnitSection) → AreSections us budget n ss → AllHold us budget n ss
all_hold us budget n ss are = λ fs same m below says.
    let there : has m (map (λ (s : UnitSection). s.unit) ss) ≡ true = ap (has m) are.units ∙ among us budget m says n below in
    let f = found us m fs (subst (All (IsHolding us m)) (sym same) are.hold)
    (subst (λ (xs : List UnitSection). has m (map (λ (s : UnitSection). s.unit) xs) ≡ true) (sym same) there) in
    comes us m fs (slice_get us m) (is_accepted us (budget m) m) f.0 says f.1 (no_fault us m (section_of f.0) f.2)
