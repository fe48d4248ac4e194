-- What a verdict is made of: the scan, and what the questions say.
use Rattle.std.proofs.Common.{true, ℕ, ◌≡◌, List, [], ◌∷◌, take, Some, None, Option, refl, ap, sym, ◌∙◌, ◌&&◌, if◌then◌else◌}
use Rattle.lk_tree.specs.Tree.{Name}
use Rattle.lk_tree.specs.declared.rule.Rule.{Rule}
use Rattle.lk_tree.specs.declared.rule.Rule.TheVariants.{DuplicateName}
use Rattle.lk_rulebook.specs.Units.{trees_of, all_bound, Body, as_axiom, as_def, as_thm, as_opaque, as_quot, Decl, LibraryUnit, of_decl, Library, Members, members_of, body_trees, Found, given_by, first_giving, place_of}
use Rattle.lk_rulebook.specs.Scan.{is_none, are_new, own_scan, scan_of}
use Rattle.lk_questions.specs.Program.{Table}
use Rattle.lk_questions.specs.Answer.{Outcome, answered, refused, spent, outcome_of, plain_answer}
use Rattle.lk_questions.specs.Declarations.{unit_steps}
use Rattle.lk_questions.proofs.Renamed.{Alike}
use Rattle.lk_verdict.specs.Verdict.{PlainVerdict, says_no, says_steps, verdict_by, questions_of, verdict_of}
use Rattle.lk_closure.proofs.Over.{TreesOver, NamesOver, UnitOver, SameFound, IsSeenAlike}
use Rattle.lk_closure.proofs.Names.{IsClosed, HasBuiltins}
use Rattle.lk_closure.proofs.Within.{KeepsTo}
use Rattle.lk_closure.proofs.Pieces.{Any}
use Rattle.lk_closure.proofs.Rows.{BodyOver}
use Rattle.lk_closure.proofs.Agree.{declarations_alike, places_alike}

none_alike : (o o' : Option Found) → SameFound o o' → is_none o ≡ is_none o'
none_alike None None h = refl
none_alike (Some f) (Some g) h = refl
none_alike None (Some g) h = absurd h
none_alike (Some f) None h = absurd h

new_alike : (P : Name → Type 0) (us vs : Library) (n m : ℕ) (ms : Members) → IsSeenAlike P us n vs m → NamesOver P ms → are_new vs m ms ≡ are_new us n ms
new_alike P us vs n m [] h o = refl
new_alike P us vs n m (x ∷ ms) h o =
    ap (λ b. (b && is_none (given_by ms x.0)) && are_new vs m ms) (sym (none_alike (first_giving 0 (take n us) x.0) (first_giving 0 (take m vs) x.0) (h x.0 o.0)))
    ∙ ap (λ b. (is_none (first_giving 0 (take n us) x.0) && is_none (given_by ms x.0)) && b) (new_alike P us vs n m ms h o.1)

pub scan_alike : (P : Name → Type 0) (us vs : Library) (n m : ℕ) (u : LibraryUnit) → IsSeenAlike P us n vs m → NamesOver P (members_of u) → scan_of vs m u ≡ scan_of us n u
scan_alike P us vs n m u h o = ap (λ b. if b then own_scan u else Some DuplicateName) (new_alike P us vs n m (members_of u) h o)

pub verdict_alike : {A : Type 0} (Q : A → Type 0) (o o' : Outcome A) → Alike Q o o' → verdict_by o' ≡ verdict_by o
verdict_alike Q (answered v c t) (answered u d s) h = refl
verdict_alike Q (refused m) (refused n) h = ap says_no (sym h)
verdict_alike Q spent spent h = refl
verdict_alike Q (answered v c t) (refused n) h = absurd h
verdict_alike Q (answered v c t) spent h = absurd h
verdict_alike Q (refused n) (answered v c t) h = absurd h
verdict_alike Q (refused n) spent h = absurd h
verdict_alike Q spent (answered v c t) h = absurd h
verdict_alike Q spent (refused n) h = absurd h

body_over : (P : Name → Type 0) (ps : List Name) (b : Body) → TreesOver P (body_trees ps b) → BodyOver P b
body_over P ps as_axiom h = tt
body_over P ps (as_def i v) h = h.0
body_over P ps (as_thm v) h = h.0
body_over P ps (as_opaque v) h = h.0
body_over P ps as_quot h = tt

pub questions_alike : (P : Name → Type 0) (table : Table) → KeepsTo P table → (us vs : Library) (n m : ℕ) (d : Decl) (budget : ℕ) → all_bound (trees_of (of_decl d)) ≡ true → HasBuiltins P → IsClosed P (place_of us n []) → IsSeenAlike P us n vs m → UnitOver P (of_decl d) →
    questions_of table vs m (of_decl d) budget ≡ questions_of table us n (of_decl d) budget
questions_alike P table st us vs n m d budget ab b cl h o =
    let t : TreesOver P (trees_of (of_decl d)) = o.trees ab in
    verdict_alike Any (outcome_of (place_of us n []) (plain_answer table (place_of us n [])) budget (unit_steps d)) (outcome_of (place_of vs m []) (plain_answer table (place_of vs m [])) budget (unit_steps d))
    (declarations_alike P table st b (place_of us n []) (place_of vs m []) cl (places_alike P us vs n m [] h) d budget t.0 (body_over P d.levels d.body t.1))

-- the verdict is of the scan and of what the questions say
abbrev pub verdict_from : Option Rule → PlainVerdict → PlainVerdict
verdict_from o v = elim o as (λ x. PlainVerdict) [ Some r ↦ says_no r | None ↦ v ]

-- the verdict of what stands at the number
abbrev pub verdict_at : Table → Library → ℕ → ℕ → Option LibraryUnit → PlainVerdict
verdict_at table us n budget o = elim o as (λ x. PlainVerdict) [ Some u ↦ verdict_of table us n u budget | None ↦ says_steps ]
