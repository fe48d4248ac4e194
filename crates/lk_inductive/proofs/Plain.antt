-- The plain verdict of a block is steady: it comes exactly where the budget is at least its cost.
use Rattle.std.proofs.Common.{ℕ, suc, ◌≡◌, ◌≤◌, ◌<◌, ◌+◌, ◌-◌, ◌++◌, List, [], Option, None, refl, ap, ◌∙◌, arith}
use Rattle.lk_rulebook.specs.Place.{Place, Block}
use Rattle.lk_rulebook.specs.Units.{Members, LibraryUnit, place_of}
use Rattle.lk_questions.specs.Query.{Query, AnswerTo}
use Rattle.lk_questions.specs.Program.{Table, Program, done, refuse, ask, look}
use Rattle.lk_questions.specs.Answer.{Outcome, answered, and_then, IfAnswered, outcome_of, plain_answer}
use Rattle.lk_questions.specs.Laws.{IsSteady}
use Rattle.lk_questions.proofs.Outcomes.{and_then_same, found_same, if_map, of_answered}
use Rattle.lk_questions.proofs.Budgets.{ans_steady}
use Rattle.lk_inductive.specs.Block.{parameters_of}
use Rattle.lk_inductive.specs.BlockSteps.{TypeParts, counts_steps, types_steps, all_ctor_sorts, shape_steps}
use Rattle.lk_inductive.specs.Recursors.{BlockRecursor}
use Rattle.lk_inductive.specs.Nested.{Larger, larger_block, enlarge, aux_sorts, aux_indices, bare_entries}
use Rattle.lk_inductive.specs.NestedTask.{setting_of, nested_recs, nested_shape, whole_task, plain_whole}
use Rattle.lk_inductive.specs.Whole.{partial_types}
use Rattle.lk_inductive.specs.Task.{Task, here, give_partial, ◌>>=◌, run_task}
use Rattle.lk_inductive.proofs.Tasks.{and_then_then, then_found, run_then, task_steady}
use Rattle.lk_inductive.proofs.Fuel.{Costs, plain_costs, same_shape, Same}

with_half : {A : Type 0} → Members → A → ℕ → Outcome (A × Members)
with_half h v c = answered (v, h) 0 None

-- a program at the place that stands
run_here : {A : Type 0} (places : Members → Place) (f : Place → (q : Query) → ℕ → Outcome (AnswerTo q)) (h : Members) (left : ℕ) (p : Program A) →
    run_task places f h left (here p) ≡ and_then (outcome_of (places h) (f (places h)) left p) (with_half h)
unfolding with_half
run_here places f h left (done v) = refl
run_here places f h left (refuse r) = refl
run_here places f h left (ask q k) =
    and_then_same (f (places h) q left) (λ v c. run_task places f h (left - c) (here (k v))) _ (λ v c. run_here places f h (left - c) (k v))
    ∙ and_then_then (f (places h) q left) (λ v c. outcome_of (places h) (f (places h)) (left - c) (k v)) (with_half h)
run_here places f h left (look r c k) =
    found_same r ((places h).means c) ((places h).origin c) ((places h).flaw c) (λ e. run_task places f h left (here (k e))) _ (λ e. run_here places f h left (k e))
    ∙ then_found r ((places h).means c) ((places h).origin c) ((places h).flaw c) (λ e. outcome_of (places h) (f (places h)) left (k e)) (with_half h)

pub record SameTask {A : Type 0} (places : Members → Place) (f : Place → (q : Query) → ℕ → Outcome (AnswerTo q)) (most : ℕ) (p q : Task A) : Type 0 where
  pub agrees : (h : Members) (left : ℕ) → left ≤ most → run_task places f h left p ≡ run_task places f h left q

same_itself : {A : Type 0} (places : Members → Place) (f : Place → (q : Query) → ℕ → Outcome (AnswerTo q)) (most : ℕ) (p : Task A) → SameTask places f most p p
same_itself places f most p = record { agrees = λ h left small. refl }

same_here : {A : Type 0} (places : Members → Place) (f : Place → (q : Query) → ℕ → Outcome (AnswerTo q)) (most : ℕ) (p q : Program A) →
    ((w : Place) → Same w (f w) most p q) → SameTask places f most (here p) (here q)
same_here places f most p q s = record {
  agrees = λ h left small.
      let a : run_task places f h left (here p) ≡ and_then (outcome_of (places h) (f (places h)) left p) (with_half h) = run_here places f h left p in
      let b : run_task places f h left (here q) ≡ and_then (outcome_of (places h) (f (places h)) left q) (with_half h) = run_here places f h left q in
      let c : outcome_of (places h) (f (places h)) left p ≡ outcome_of (places h) (f (places h)) left q = s (places h) left small in cc;
}

same_then : {A B : Type 0} (places : Members → Place) (f : Place → (q : Query) → ℕ → Outcome (AnswerTo q)) (most : ℕ) (p q : Task A) (k l : A → Task B) →
    SameTask places f most p q → ((v : A) → SameTask places f most (k v) (l v)) → SameTask places f most (p >>= k) (q >>= l)
same_then places f most p q k l s t = record {
  agrees = λ h left small.
      let a : run_task places f h left (p >>= k) ≡ and_then (run_task places f h left p) (λ v c. run_task places f v.1 (left - c) (k v.0)) = run_then places f h left p k in
      let b : run_task places f h left (q >>= l) ≡ and_then (run_task places f h left q) (λ v c. run_task places f v.1 (left - c) (l v.0)) = run_then places f h left q l in
      let c : and_then (run_task places f h left p) (λ v c. run_task places f v.1 (left - c) (k v.0)) ≡ and_then (run_task places f h left q) (λ v c. run_task places f v.1 (left - c) (k v.0)) =
      ap (λ o. and_then o (λ v c. run_task places f v.1 (left - c) (k v.0))) (s.agrees h left small) in
      let d : and_then (run_task places f h left q) (λ v c. run_task places f v.1 (left - c) (k v.0)) ≡ and_then (run_task places f h left q) (λ v c. run_task places f v.1 (left - c) (l v.0)) =
      and_then_same (run_task places f h left q) (λ v c. run_task places f v.1 (left - c) (k v.0)) (λ v c. run_task places f v.1 (left - c) (l v.0)) (λ v c. (t v.0).agrees v.1 (left - c) (omega arith)) in cc;
}

-- the checks from the constructors on do not depend on fuel above the budget
same_nested_shape : (places : Members → Place) (f : Place → (q : Query) → ℕ → Outcome (AnswerTo q)) → ((w : Place) → Costs (f w)) →
    (most m n : ℕ) → most < m → most < n → (b : Block) (stated : List BlockRecursor) (ts : TypeParts) (lg : Larger) → SameTask places f most (nested_shape m b stated ts lg) (nested_shape n b stated ts lg)
same_nested_shape places f cost most m n lm ln b stated ts lg =
    let parts : TypeParts = record ts { indices = ts.indices ++ aux_indices lg.auxs } in
    same_then places f most (give_partial (bare_entries lg.aux)) (give_partial (bare_entries lg.aux)) _ _ (same_itself places f most (give_partial (bare_entries lg.aux)))
    (λ k. same_then places f most (here (shape_steps m (larger_block lg) parts)) (here (shape_steps n (larger_block lg) parts)) _ _
    (same_here places f most (shape_steps m (larger_block lg) parts) (shape_steps n (larger_block lg) parts) (λ w. same_shape w (f w) (cost w) most m n lm ln (larger_block lg) parts))
    (λ s. same_itself places f most (nested_recs b stated (setting_of b ts.params) lg s)))

-- nor does the check of a block
pub same_whole : (places : Members → Place) (f : Place → (q : Query) → ℕ → Outcome (AnswerTo q)) → ((w : Place) → Costs (f w)) →
    (most m n : ℕ) → most < m → most < n → (b : Block) (stated : List BlockRecursor) → SameTask places f most (whole_task m b stated) (whole_task n b stated)
same_whole places f cost most m n lm ln b stated =
    same_then places f most (here (counts_steps b)) (here (counts_steps b)) _ _ (same_itself places f most (here (counts_steps b)))
    (λ y. same_then places f most (here (types_steps (parameters_of b) b.types)) (here (types_steps (parameters_of b) b.types)) _ _ (same_itself places f most (here (types_steps (parameters_of b) b.types)))
    (λ ts. same_then places f most (give_partial (partial_types b)) (give_partial (partial_types b)) _ _ (same_itself places f most (give_partial (partial_types b)))
    (λ hs. same_then places f most (here (all_ctor_sorts b.types)) (here (all_ctor_sorts b.types)) _ _ (same_itself places f most (here (all_ctor_sorts b.types)))
    (λ ls. same_then places f most (here (enlarge (setting_of b ts.params) b.types)) (here (enlarge (setting_of b ts.params) b.types)) _ _ (same_itself places f most (here (enlarge (setting_of b ts.params) b.types)))
    (λ lg. same_then places f most (here (aux_sorts ts.sort lg.auxs)) (here (aux_sorts ts.sort lg.auxs)) _ _ (same_itself places f most (here (aux_sorts ts.sort lg.auxs)))
    (λ z. same_nested_shape places f cost most m n lm ln b stated ts lg))))))

-- a check that does not depend on fuel above the budget
pub record NeedsNoFuel {A : Type 0} (task : ℕ → Task A) : Type 0 where
  pub same : (places : Members → Place) (f : Place → (q : Query) → ℕ → Outcome (AnswerTo q)) → ((w : Place) → Costs (f w)) → (most m n : ℕ) → most < m → most < n → SameTask places f most (task m) (task n)

pub whole_fuel : (b : Block) (stated : List BlockRecursor) → NeedsNoFuel (λ fuel. whole_task fuel b stated)
whole_fuel b stated = record { same = λ places f cost most m n lm ln. same_whole places f cost most m n lm ln b stated }

abbrev pub at_fuel : {A : Type 0} → Table → List LibraryUnit → ℕ → (ℕ → Task A) → ℕ → ℕ → Outcome (A × Members)
at_fuel table us n task fuel i = run_task (place_of us n) (λ w. plain_answer table w) [] i (task fuel)

-- the fuel is above the budget
abbrev pub fueled : {A : Type 0} → Table → List LibraryUnit → ℕ → (ℕ → Task A) → ℕ → Outcome (A × Members)
fueled table us n task i = at_fuel table us n task (suc i) i

pub same_fuel : {A : Type 0} (table : Table) (us : List LibraryUnit) (n : ℕ) (task : ℕ → Task A) → NeedsNoFuel task → (x y i : ℕ) → i < x → i < y → at_fuel table us n task x i ≡ at_fuel table us n task y i
same_fuel table us n task free x y i lx ly = (free.same (place_of us n) (λ w. plain_answer table w) (plain_costs table) i x y lx ly).agrees [] i (omega arith)

fuel_steady : {A : Type 0} (table : Table) (us : List LibraryUnit) (n : ℕ) (task : ℕ → Task A) (fuel i : ℕ) → IfAnswered (at_fuel table us n task fuel i) (IsSteady (at_fuel table us n task fuel) i)
fuel_steady table us n task fuel i = task_steady (place_of us n) (λ w. plain_answer table w) (λ w q j. ans_steady table w q j) [] (task fuel) i

steady_from : {A : Type 0} (table : Table) (us : List LibraryUnit) (n : ℕ) (task : ℕ → Task A) → NeedsNoFuel task → (budget : ℕ) (v : A × Members) (c : ℕ) (t : Option ℕ) →
    IsSteady (at_fuel table us n task (suc budget)) budget v c t → IsSteady (fueled table us n task) budget v c t
steady_from table us n task free budget v c t h = record {
  paid = h.paid;
  enough = λ i l.
      let fuel : ℕ = suc (budget + i) in
      let there : at_fuel table us n task fuel budget ≡ answered v c t = same_fuel table us n task free fuel (suc budget) budget (omega arith) (omega arith) ∙ h.enough budget h.paid in
      let y : IsSteady (at_fuel table us n task fuel) budget v c t = of_answered (IsSteady (at_fuel table us n task fuel) budget) (at_fuel table us n task fuel budget) v c t there (fuel_steady table us n task fuel budget) in
      same_fuel table us n task free (suc i) fuel i (omega arith) (omega arith) ∙ y.enough i l;
  too_little = λ i l. same_fuel table us n task free (suc i) (suc budget) i (omega arith) (omega (arith, h.paid)) ∙ h.too_little i l;
}

-- such a check's outcome comes exactly where the budget is at least its cost, and is then the same
pub fueled_steady : {A : Type 0} (table : Table) (us : List LibraryUnit) (n : ℕ) (task : ℕ → Task A) → NeedsNoFuel task → (budget : ℕ) → IfAnswered (fueled table us n task budget) (IsSteady (fueled table us n task) budget)
fueled_steady table us n task free budget =
    if_map (IsSteady (at_fuel table us n task (suc budget)) budget) (IsSteady (fueled table us n task) budget) (fueled table us n task budget)
    (λ v c t h. steady_from table us n task free budget v c t h) (fuel_steady table us n task (suc budget) budget)

pub plain_steady : (table : Table) (us : List LibraryUnit) (n : ℕ) (b : Block) (stated : List BlockRecursor) (budget : ℕ) →
    IfAnswered (plain_whole table us n b stated budget) (IsSteady (plain_whole table us n b stated) budget)
plain_steady table us n b stated budget = fueled_steady table us n (λ fuel. whole_task fuel b stated) (whole_fuel b stated) budget
