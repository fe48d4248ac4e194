-- A yes is steady, and a yes of a part of a table is one of the table.
use Rattle.std.proofs.Common.{ℕ, ◌≡◌, ◌≤◌, [], Option, Some, None, refl, ap, ◌∙◌, ◌⊎◌, inl, inr}
use Rattle.std.specs.Prelude.{slice_get}
use Rattle.lk_tree.specs.declared.rule.Rule.{Rule}
use Rattle.lk_rulebook.specs.Place.{Place}
use Rattle.lk_rulebook.specs.Units.{LibraryUnit, of_decl, of_block, Library, Members, place_of}
use Rattle.lk_rulebook.specs.Scan.{scan_of}
use Rattle.lk_questions.specs.Answer.{Outcome, answered, refused, spent, IfAnswered, outcome_of, plain_answer}
use Rattle.lk_questions.specs.Laws.{IsSteady}
use Rattle.lk_questions.specs.Program.{Table}
use Rattle.lk_questions.specs.Parts.{IsPartOf}
use Rattle.lk_questions.specs.Declarations.{unit_steps}
use Rattle.lk_questions.proofs.Budgets.{run_steady, ans_steady}
use Rattle.lk_questions.proofs.Parts.{Gives, part_itself, ans_gives, run_gives}
use Rattle.lk_questions.proofs.Settled.{Settles, run_settled, ans_settled}
use Rattle.lk_inductive.specs.Block.{Shape}
use Rattle.lk_inductive.specs.NestedTask.{plain_whole}
use Rattle.lk_inductive.proofs.Plain.{plain_steady}
use Rattle.lk_inductive.proofs.SettledTasks.{plain_settled}
use Rattle.lk_inductive.proofs.PartTasks.{plain_gives}
use Rattle.lk_verdict.specs.Verdict.{PlainVerdict, says_yes, says_no, says_steps, verdict_by, questions_of, verdict_of, plain_verdict, IsYesFrom}

-- an outcome that says yes is an answer
pub record IsAnswer {A : Type 0} (o : Outcome A) (P : A → ℕ → Option ℕ → Type 0) : Type 0 where
  pub value : A
  pub cost : ℕ
  pub top : Option ℕ
  pub is : o ≡ answered value cost top
  pub has : P value cost top

pub yes_answer : {A : Type 0} (o : Outcome A) (P : A → ℕ → Option ℕ → Type 0) → IfAnswered o P → verdict_by o ≡ says_yes → IsAnswer o P
yes_answer (answered v c t) P h e = record { value = v; cost = c; top = t; is = refl; has = h }
yes_answer (refused r) P h e = absurd cc
yes_answer spent P h e = absurd cc

-- past the scan
pub scanned_yes : (o : Option Rule) (v : PlainVerdict) → elim o as (λ y. PlainVerdict) [ Some r ↦ says_no r | None ↦ v ] ≡ says_yes → (o ≡ None) × (v ≡ says_yes)
scanned_yes (Some r) v h = absurd cc
scanned_yes None v h = (refl, h)

pub yes_of : (table : Table) (us : Library) (n budget : ℕ) (o : Option LibraryUnit) → elim o as (λ y. PlainVerdict) [ Some u ↦ verdict_of table us n u budget | None ↦ says_steps ] ≡ says_yes → (u : LibraryUnit) × (o ≡ Some u) × (verdict_of table us n u budget ≡ says_yes)
yes_of table us n budget (Some u) h = (u, refl, h)
yes_of table us n budget None h = absurd cc

-- a steady outcome's verdict
yes_from : {A : Type 0} (g : ℕ → Outcome A) (budget c : ℕ) (v : A) (t : Option ℕ) → IsSteady g budget v c t → IsYesFrom (λ b. verdict_by (g b)) c
yes_from g budget c v t h = record { enough = λ b l. ap verdict_by (h.enough b l); too_little = λ b l. ap verdict_by (h.too_little b l) }

questions_steady : (table : Table) (us : Library) (n budget : ℕ) (u : LibraryUnit) → questions_of table us n u budget ≡ says_yes → (c : ℕ) × (c ≤ budget) × IsYesFrom (questions_of table us n u) c
questions_steady table us n budget (of_decl d) e =
    let w : Place = place_of us n [] in
    let g : ℕ → Outcome _ = λ b. outcome_of w (plain_answer table w) b (unit_steps d) in
    let a : IsAnswer (g budget) (IsSteady g budget) = yes_answer (g budget) (IsSteady g budget) (run_steady w (plain_answer table w) (ans_steady table w) (unit_steps d) budget) e in
    (a.cost, a.has.paid, yes_from g budget a.cost a.value a.top a.has)
questions_steady table us n budget (of_block b rs) e =
    let g : ℕ → Outcome (Shape × Members) = plain_whole table us n b rs in
    let a : IsAnswer (g budget) (IsSteady g budget) = yes_answer (g budget) (IsSteady g budget) (plain_steady table us n b rs budget) e in
    (a.cost, a.has.paid, yes_from g budget a.cost a.value a.top a.has)

pub steady_yes : (table : Table) (us : Library) (n budget : ℕ) → plain_verdict table us n budget ≡ says_yes → (c : ℕ) × (c ≤ budget) × IsYesFrom (plain_verdict table us n) c
steady_yes table us n budget h =
    let a : (u : LibraryUnit) × (slice_get us n ≡ Some u) × (verdict_of table us n u budget ≡ says_yes) = yes_of table us n budget (slice_get us n) h in
    let s : (scan_of us n a.0 ≡ None) × (questions_of table us n a.0 budget ≡ says_yes) = scanned_yes (scan_of us n a.0) (questions_of table us n a.0 budget) a.2 in
    let q : (c : ℕ) × (c ≤ budget) × IsYesFrom (questions_of table us n a.0) c = questions_steady table us n budget a.0 s.1 in
    let same : (b : ℕ) → plain_verdict table us n b ≡ questions_of table us n a.0 b =
    λ b. ap (λ o. elim o as (λ y. PlainVerdict) [ Some x ↦ verdict_of table us n x b | None ↦ says_steps ]) a.1 ∙ ap (λ o. elim o as (λ y. PlainVerdict) [ Some r ↦ says_no r | None ↦ questions_of table us n a.0 b ]) s.0 in
    (q.0, q.1, record { enough = λ b l. same b ∙ q.2.enough b l; too_little = λ b l. same b ∙ q.2.too_little b l })

-- a verdict but steps is the same under each greater budget
settled_verdict : {A : Type 0} (o o' : Outcome A) → Settles o o' → (verdict_by o ≡ says_steps) ⊎ (verdict_by o' ≡ verdict_by o)
settled_verdict o o' (inl e) = inl (ap verdict_by e)
settled_verdict o o' (inr e) = inr (ap verdict_by e)

settled_questions : (table : Table) (us : Library) (n b more : ℕ) (u : LibraryUnit) → b ≤ more → (questions_of table us n u b ≡ says_steps) ⊎ (questions_of table us n u more ≡ questions_of table us n u b)
settled_questions table us n b more (of_decl d) l =
    let w : Place = place_of us n [] in
    settled_verdict (outcome_of w (plain_answer table w) b (unit_steps d)) (outcome_of w (plain_answer table w) more (unit_steps d)) (run_settled w (plain_answer table w) (ans_settled table w) (unit_steps d) b more l)
settled_questions table us n b more (of_block c rs) l = settled_verdict (plain_whole table us n c rs b) (plain_whole table us n c rs more) (plain_settled table us n c rs b more l)

settled_scan : (o : Option Rule) (v v' : PlainVerdict) → (v ≡ says_steps) ⊎ (v' ≡ v) →
    (elim o as (λ y. PlainVerdict) [ Some r ↦ says_no r | None ↦ v ] ≡ says_steps) ⊎ (elim o as (λ y. PlainVerdict) [ Some r ↦ says_no r | None ↦ v' ] ≡ elim o as (λ y. PlainVerdict) [ Some r ↦ says_no r | None ↦ v ])
settled_scan (Some r) v v' h = inr refl
settled_scan None v v' h = h

settled_at : (table : Table) (us : Library) (n b more : ℕ) (o : Option LibraryUnit) → b ≤ more →
    (elim o as (λ y. PlainVerdict) [ Some u ↦ verdict_of table us n u b | None ↦ says_steps ] ≡ says_steps)
    ⊎ (elim o as (λ y. PlainVerdict) [ Some u ↦ verdict_of table us n u more | None ↦ says_steps ] ≡ elim o as (λ y. PlainVerdict) [ Some u ↦ verdict_of table us n u b | None ↦ says_steps ])
settled_at table us n b more (Some u) l = settled_scan (scan_of us n u) (questions_of table us n u b) (questions_of table us n u more) (settled_questions table us n b more u l)
settled_at table us n b more None l = inl refl

pub settled : (table : Table) (us : Library) (n b more : ℕ) → b ≤ more → (plain_verdict table us n b ≡ says_steps) ⊎ (plain_verdict table us n more ≡ plain_verdict table us n b)
settled table us n b more l = settled_at table us n b more (slice_get us n) l

-- a yes of a part of a table is a yes of the table
yes_gives : {A : Type 0} (o o' : Outcome A) → Gives o o' → verdict_by o ≡ says_yes → verdict_by o' ≡ says_yes
yes_gives (answered v c t) o' h e = ap verdict_by h
yes_gives (refused r) o' h e = absurd cc
yes_gives spent o' h e = absurd cc

questions_give : (part table : Table) → IsPartOf part table → (us : Library) (n budget : ℕ) (u : LibraryUnit) → questions_of part us n u budget ≡ says_yes → questions_of table us n u budget ≡ says_yes
questions_give part table h us n budget (of_decl d) e =
    let w : Place = place_of us n [] in
    yes_gives (outcome_of w (plain_answer part w) budget (unit_steps d)) (outcome_of w (plain_answer table w) budget (unit_steps d))
    (run_gives w (plain_answer part w) (plain_answer table w) (ans_gives part table h w) (unit_steps d) (unit_steps d) budget (part_itself (unit_steps d))) e
questions_give part table h us n budget (of_block b rs) e =
    yes_gives (plain_whole part us n b rs budget) (plain_whole table us n b rs budget) (plain_gives part table h us n b rs budget) e

pub yes_stays : (part table : Table) → IsPartOf part table → (us : Library) (n budget : ℕ) → plain_verdict part us n budget ≡ says_yes → plain_verdict table us n budget ≡ says_yes
yes_stays part table h us n budget e =
    let a : (u : LibraryUnit) × (slice_get us n ≡ Some u) × (verdict_of part us n u budget ≡ says_yes) = yes_of part us n budget (slice_get us n) e in
    let s : (scan_of us n a.0 ≡ None) × (questions_of part us n a.0 budget ≡ says_yes) = scanned_yes (scan_of us n a.0) (questions_of part us n a.0 budget) a.2 in
    let there : plain_verdict table us n budget ≡ verdict_of table us n a.0 budget = ap (λ x. elim x as (λ y. PlainVerdict) [ Some u ↦ verdict_of table us n u budget | None ↦ says_steps ]) a.1 in
    let asked : verdict_of table us n a.0 budget ≡ questions_of table us n a.0 budget = ap (λ x. elim x as (λ y. PlainVerdict) [ Some r ↦ says_no r | None ↦ questions_of table us n a.0 budget ]) s.0 in
    there ∙ asked ∙ questions_give part table h us n budget a.0 s.1
