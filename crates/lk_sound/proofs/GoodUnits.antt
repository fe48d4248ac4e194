-- A unit that is answered yes is good.
use Rattle.std.proofs.Common.{ℕ, zero, suc, ◌≡◌, ◌<◌, length, arith, List, [], ◌∷◌, Some, None, refl}
use Rattle.std.specs.Prelude.{slice_get}
use Rattle.lk_rulebook.specs.Place.{Place, Block, BlockRecursor}
use Rattle.lk_rulebook.specs.Units.{Body, as_axiom, as_def, as_thm, as_opaque, as_quot, LibraryUnit, of_decl, of_block, Library, trees_of, body_trees, place_of}
use Rattle.lk_rulebook.specs.Scan.{IsScanned, scan_of}
use Rattle.lk_rulebook.specs.Derived.{BodyWellFormed, DeclDerived}
use Rattle.lk_rulebook.proofs.Scans.{scan_right, AllStated, scanned_stated}
use Rattle.lk_questions.specs.Answer.{outcome_of, plain_answer}
use Rattle.lk_questions.specs.Program.{Table}
use Rattle.lk_questions.specs.Sound.{IsSoundPlace, IsSoundTable}
use Rattle.lk_rulebook.specs.Lawful.{IsLawfulPlace}
use Rattle.lk_verdict.specs.Operations.{OperationsYes}
use Rattle.lk_sound.proofs.Lawful.{lawful_at}
use Rattle.lk_questions.specs.Declarations.{unit_steps}
use Rattle.lk_inductive.specs.Block.{Shape}
use Rattle.lk_inductive.specs.Whole.{BlockStated}
use Rattle.lk_inductive.specs.Nested.{Aux}
use Rattle.lk_inductive.specs.NestedTask.{plain_whole}
use Rattle.lk_inductive.specs.NestedRelation.{NestedDerived}
use Rattle.lk_verdict.specs.GoodUnit.{UnitDerived, declaration, block, nested, IsGoodUnit, IsClearLibrary}
use Rattle.lk_verdict.specs.Verdict.{says_yes, questions_of, verdict_of, plain_verdict}
use Rattle.lk_verdict.proofs.Clears.{block_clear, clear_at}
use Rattle.lk_verdict.proofs.Verdicts.{IsAnswer, yes_answer, scanned_yes, yes_of}
use Rattle.lk_table_sound.proofs.Derivations.{yes_is_good}
use Rattle.lk_sound.proofs.WholeYes.{yes_whole}
use Rattle.lk_sound.proofs.NoNested.{nothing_nested}
use Rattle.lk_sound.proofs.Statedness.{all_well_stated, block_stated}

body_fine : (ps : _) (b : Body) → AllStated (body_trees ps b) → BodyWellFormed b
body_fine ps as_axiom h = tt
body_fine ps (as_def i v) h = h.0.0
body_fine ps (as_thm v) h = h.0.0
body_fine ps (as_opaque v) h = h.0.0
body_fine ps as_quot h = tt

either_block : (us : Library) (n : ℕ) (b : Block) (rs : List BlockRecursor) (s : Shape) → BlockStated b rs → (g : NestedDerived (place_of us n) b rs s) → (auxs : List Aux) → g.larger.auxs ≡ auxs → UnitDerived us n (of_block b rs)
either_block us n b rs s st g [] e = block (nothing_nested (place_of us n) b rs s st g e)
either_block us n b rs s st g (a ∷ as_) e = nested g

derived : (table : Table) → IsSoundTable table → (us : Library) (n budget : ℕ) (u : LibraryUnit) → IsSoundPlace (place_of us n []) → IsClearLibrary us → slice_get us n ≡ Some u → IsScanned us n u → questions_of table us n u budget ≡ says_yes → UnitDerived us n u
derived table sound us n budget (of_decl d) ok cl at sc e =
    let st : AllStated (trees_of (of_decl d)) = scanned_stated (trees_of (of_decl d)) sc.trees in
    let w : Place = place_of us n [] in
    declaration (yes_answer (outcome_of w (plain_answer table w) budget (unit_steps d)) (λ y c t. DeclDerived w d) (yes_is_good table sound w ok d budget (st.0.0, body_fine d.levels d.body st.1)) e).has
derived table sound us n budget (of_block b rs) ok cl at sc e =
    let st : BlockStated b rs = block_stated b rs (scanned_stated (trees_of (of_block b rs)) sc.trees) in
    let a : IsAnswer (plain_whole table us n b rs budget) (λ v c t. NestedDerived (place_of us n) b rs v.0) =
    yes_answer (plain_whole table us n b rs budget) (λ v c t. NestedDerived (place_of us n) b rs v.0) (yes_whole table sound us n b rs budget ok cl sc.names st (block_clear b rs (clear_at us n (of_block b rs) cl at).trees)) e in
    either_block us n b rs a.value.0 st a.has a.has.larger.auxs refl

pub good_at : (table : Table) → IsSoundTable table → (us : Library) (n budget : ℕ) → IsLawfulPlace (place_of us n []) → IsClearLibrary us → plain_verdict table us n budget ≡ says_yes → IsGoodUnit us n
good_at table sound us n budget lawful cl h =
    let a : (u : LibraryUnit) × (slice_get us n ≡ Some u) × (verdict_of table us n u budget ≡ says_yes) = yes_of table us n budget (slice_get us n) h in
    let s : (scan_of us n a.0 ≡ None) × (questions_of table us n a.0 budget ≡ says_yes) = scanned_yes (scan_of us n a.0) (questions_of table us n a.0 budget) a.2 in
    let sc : IsScanned us n a.0 = scan_right us n a.0 s.0 in
    record { unit = a.0; given = a.1; scanned = sc; clear = clear_at us n a.0 cl a.1; derived = derived table sound us n budget a.0 (record { stated = all_well_stated us n; lawful = lawful }) cl a.1 sc s.1 }

-- the operations before unit n are derived first, and so have their laws there
good_below : (k : ℕ) (table : Table) → IsSoundTable table → (us : Library) → IsClearLibrary us → (n budget : ℕ) → n < k → OperationsYes table us n → plain_verdict table us n budget ≡ says_yes → IsGoodUnit us n
good_below zero table sound us cl n budget l ops h = absurd (omega arith)
good_below (suc k) table sound us cl n budget l ops h =
    good_at table sound us n budget
    (lawful_at us n (λ m below gives.
    let y : (b : ℕ) × (plain_verdict table us m b ≡ says_yes) = ops m below gives in
    good_below k table sound us cl m y.0 (omega arith) (λ i j. ops i (omega arith)) y.1))
    cl h

pub good_of_yes : (table : Table) → IsSoundTable table → (us : Library) (n budget : ℕ) → IsClearLibrary us → OperationsYes table us n → plain_verdict table us n budget ≡ says_yes → IsGoodUnit us n
good_of_yes table sound us n budget cl ops h = good_below (suc n) table sound us cl n budget (omega arith) ops h

-- where each unit says yes, each is good
pub all_good : (table : Table) → IsSoundTable table → (us : Library) → IsClearLibrary us → ((n : ℕ) → n < length us → (b : ℕ) × (plain_verdict table us n b ≡ says_yes)) → (n : ℕ) → n < length us → IsGoodUnit us n
all_good table sound us cl yes_all n l =
    let y : (b : ℕ) × (plain_verdict table us n b ≡ says_yes) = yes_all n l in
    good_of_yes table sound us n y.0 cl (λ m below gives. yes_all m (omega arith)) y.1
