-- A unit with a section that holds is good, where the operations before it have sections or are answered yes.
use Rattle.std.proofs.Common.{ℕ, zero, suc, ◌≡◌, ◌<◌, ◌⊎◌, inl, inr, true, [], Some, arith}
use Rattle.std.specs.Prelude.{slice_get}
use Rattle.lk_rulebook.specs.Derived.{DeclDerived}
use Rattle.lk_rulebook.specs.Lawful.{IsLawfulPlace}
use Rattle.lk_rulebook.specs.Scan.{IsScanned}
use Rattle.lk_rulebook.specs.Units.{Decl, of_decl, Library, place_of}
use Rattle.lk_questions.specs.Table.{steps}
use Rattle.lk_verdict.specs.GoodUnit.{declaration, IsGoodUnit, IsClearLibrary}
use Rattle.lk_verdict.proofs.Clears.{clear_at}
use Rattle.lk_sound.proofs.Statedness.{all_well_stated}
use Rattle.lk_sound.proofs.Lawful.{lawful_at}
use Rattle.lk_written.specs.Section.{Section, section_holds}
use Rattle.lk_written_sound.proofs.Units.{unit_derived}
use Rattle.lk_answered.specs.Operations.{IsShown, OperationsShown}
use Rattle.lk_sound.proofs.GoodUnits.{good_at}
use Rattle.lk_table_sound.proofs.Derivations.{sound_steps}

written_at_lawful : (us : Library) (n : ℕ) (s : Section) → IsLawfulPlace (place_of us n []) → IsClearLibrary us → section_holds us n s ≡ true → IsGoodUnit us n
written_at_lawful us n s lawful cl h =
    let x : (d : Decl) × (slice_get us n ≡ Some (of_decl d)) × IsScanned us n (of_decl d) × DeclDerived (place_of us n []) d = unit_derived us n s (record { stated = all_well_stated us n; lawful = lawful }) h in
    record { unit = of_decl x.0; given = x.1; scanned = x.2; clear = clear_at us n (of_decl x.0) cl x.1; derived = declaration x.3 }

shown_at_lawful : (us : Library) (n : ℕ) → IsLawfulPlace (place_of us n []) → IsClearLibrary us → IsShown us n → IsGoodUnit us n
shown_at_lawful us n lawful cl (inl x) = written_at_lawful us n x.0 lawful cl x.1
shown_at_lawful us n lawful cl (inr y) = good_at steps sound_steps us n y.0 lawful cl y.1

-- the operations before unit n are good first, and so have their laws there
lawful_below : (k : ℕ) (us : Library) → IsClearLibrary us → (n : ℕ) → n < k → OperationsShown us n → IsLawfulPlace (place_of us n [])
lawful_below zero us cl n l ops = absurd (omega arith)
lawful_below (suc k) us cl n l ops =
    lawful_at us n (λ m below gives.
    shown_at_lawful us m (lawful_below k us cl m (omega arith) (λ i j. ops i (omega arith))) cl (ops m below gives))

pub written_good : (us : Library) (n : ℕ) (s : Section) → IsClearLibrary us → OperationsShown us n → section_holds us n s ≡ true → IsGoodUnit us n
written_good us n s cl ops h = written_at_lawful us n s (lawful_below (suc n) us cl n (omega arith) ops) cl h
