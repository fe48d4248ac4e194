-- What the table answers can be written, and so a declaration that is answered yes has a section that holds.
use Rattle.std.proofs.Common.{ℕ, ◌≡◌, true, List, [], ◌∷◌, Option, Some, None}
use Rattle.std.specs.Prelude.{slice_get}
use Rattle.lk_tree.specs.Tree.{Name, Level, Tree}
use Rattle.lk_tree.specs.Operations.{Op}
use Rattle.lk_rulebook.specs.NumberLaws.{Law, laws_of}
use Rattle.lk_questions.specs.NumberLaws.{lawful_op}
use Rattle.lk_table_sound.proofs.NumberLaws.{EachMet, AreMet}
use Rattle.lk_rulebook.specs.Place.{Place}
use Rattle.lk_rulebook.specs.Units.{Body, as_axiom, as_def, as_thm, as_opaque, as_quot, Decl, LibraryUnit, of_decl, Library, trees_of, body_trees, place_of}
use Rattle.lk_rulebook.specs.Scan.{IsScanned, scan_of}
use Rattle.lk_rulebook.specs.Derived.{BodyWellFormed}
use Rattle.lk_rulebook.proofs.Scans.{scan_right, AllStated, scanned_stated}
use Rattle.lk_questions.specs.Answer.{outcome_of, plain_answer}
use Rattle.lk_questions.specs.Table.{steps}
use Rattle.lk_questions.specs.Declarations.{unit_steps}
use Rattle.lk_verdict.specs.Verdict.{says_yes, questions_of, verdict_of, plain_verdict}
use Rattle.lk_verdict.proofs.Verdicts.{yes_answer, scanned_yes, yes_of}
use Rattle.lk_sound.proofs.Statedness.{all_well_stated}
use Rattle.lk_claims.proofs.Pieces.{Some_inj}
use Rattle.lk_written.specs.Section.{Section, section_holds}
use Rattle.lk_written.specs.Written.{CanWrite, CanSort, CanBe, CanMeet, CanBeLawful, CanBody, CanDeclare, KeepsNumerals}
use Rattle.lk_written_sound.proofs.Closeds.{types_follow, reductions_follow, equalities_follow}
use Rattle.lk_written_sound.proofs.Wholes.{declaration_written}
use Rattle.lk_table_sound.proofs.Book.{Book, HasSort}
use Rattle.lk_table_sound.proofs.WholeTable.{sound_steps}
use Rattle.lk_table_sound.proofs.Declarations.{IsOf, BodyHolds, DeclHolds, yes_holds}

-- that a claim can be written at w
abbrev pub written_at : (w : Place) → KeepsNumerals w → Book
written_at w kept = record { place = w; holds = CanWrite w; shaped = λ c h. h.shaped; typing = types_follow w; reduction = reductions_follow w kept; conversion = equalities_follow w }

can_sort : (w : Place) (kept : KeepsNumerals w) (A : Tree) (l : Level) → HasSort (written_at w kept) A l → CanSort w A l
can_sort w kept A l h = record { between = h.between; typed = h.types.shown; reduced = h.reduces.shown }

can_be : (w : Place) (kept : KeepsNumerals w) (value type : Tree) → IsOf (written_at w kept) value type → CanBe w value type
can_be w kept value type h = record { inferred = h.inferred; typed = h.types.shown; equal = h.equals.shown }

can_meet : (w : Place) (kept : KeepsNumerals w) (laws : List Law) → EachMet (written_at w kept) laws → CanMeet w laws
can_meet w kept [] h = tt
can_meet w kept (law ∷ laws) h = ((h.0.0, h.0.1.shown), can_meet w kept laws h.1)

can_be_lawful : (w : Place) (kept : KeepsNumerals w) (o : Option Op) (ps : List Name) (value : Tree) → AreMet (written_at w kept) o ps value → CanBeLawful w o ps value
can_be_lawful w kept None ps value h = tt
can_be_lawful w kept (Some op) ps value h = (h.0, h.1, h.2, can_meet w kept (laws_of op value) h.3)

can_body : (w : Place) (kept : KeepsNumerals w) (d : Decl) (l : Level) (b : Body) → BodyHolds (written_at w kept) d l b → CanBody w d l b
can_body w kept d l as_axiom h = tt
can_body w kept d l (as_def i value) h = (can_be w kept value d.type h.0, can_be_lawful w kept (lawful_op d.name) d.levels value h.1)
can_body w kept d l (as_thm value) h = (can_be w kept value d.type h.0, h.1)
can_body w kept d l (as_opaque value) h = can_be w kept value d.type h
can_body w kept d l as_quot h = h

can_declare : (w : Place) (kept : KeepsNumerals w) (d : Decl) → DeclHolds (written_at w kept) d → CanDeclare w d
can_declare w kept d h = record { level = h.level; sorted = can_sort w kept d.type h.level h.sorted; body = can_body w kept d h.level d.body h.body }

body_well_formed : (ps : _) (b : Body) → AllStated (body_trees ps b) → BodyWellFormed b
body_well_formed ps as_axiom h = tt
body_well_formed ps (as_def i v) h = h.0.0
body_well_formed ps (as_thm v) h = h.0.0
body_well_formed ps (as_opaque v) h = h.0.0
body_well_formed ps as_quot h = tt

at_unit : (us : Library) (n budget : ℕ) → KeepsNumerals (place_of us n []) → (u : LibraryUnit) (d : Decl) → u ≡ of_decl d → slice_get us n ≡ Some u → verdict_of steps us n u budget ≡ says_yes → (s : Section) × (section_holds us n s ≡ true)
at_unit us n budget kept (of_decl e) d i at v =
    let s : (scan_of us n (of_decl e) ≡ None) × (questions_of steps us n (of_decl e) budget ≡ says_yes) = scanned_yes (scan_of us n (of_decl e)) (questions_of steps us n (of_decl e) budget) v in
    let sc : IsScanned us n (of_decl e) = scan_right us n (of_decl e) s.0 in
    let st : AllStated (trees_of (of_decl e)) = scanned_stated (trees_of (of_decl e)) sc.trees in
    let w : Place = place_of us n [] in
    let h : DeclHolds (written_at w kept) e =
    (yes_answer (outcome_of w (plain_answer steps w) budget (unit_steps e)) (λ y c t. DeclHolds (written_at w kept) e)
    (yes_holds steps sound_steps (written_at w kept) (all_well_stated us n) e budget (st.0.0, body_well_formed e.levels e.body st.1)) s.1).has in
    declaration_written us n e at sc (can_declare w kept e h)
at_unit us n budget kept _ d i at v = absurd cc

pub yes_written : (us : Library) (n budget : ℕ) (d : Decl) → KeepsNumerals (place_of us n []) → slice_get us n ≡ Some (of_decl d) → plain_verdict steps us n budget ≡ says_yes → (s : Section) × (section_holds us n s ≡ true)
yes_written us n budget d kept at h =
    let a : (u : LibraryUnit) × (slice_get us n ≡ Some u) × (verdict_of steps us n u budget ≡ says_yes) = yes_of steps us n budget (slice_get us n) h in
    let e : Some a.0 ≡ Some (of_decl d) = cc in
    at_unit us n budget kept a.0 d (Some_inj e) a.1 a.2
