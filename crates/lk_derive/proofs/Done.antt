-- What doing a task leaves.
use Rattle.std.proofs.Common.{◌≡◌, ℕ, true, List, [], ◌∷◌, ◌++◌, length, map, refl, ap, sym, subst, ◌∙◌}
use Rattle.std.specs.Prelude.{All, Some, reverse, slice_get}
use Rattle.std.proofs.lemmas.List.{map_push, map-append}
use Rattle.std.proofs.lemmas.List.Elements.{All-cons, All-append, All-map, All-pop}
use Rattle.lk_rulebook.specs.Place.{Place}
use Rattle.lk_questions.specs.Query as plain
use Rattle.lk_written.specs.Written.{Keeps}
use Rattle.lk_store.specs.Contents.{Contents, tree_at, Extends}
use Rattle.lk_ask.specs.declared.query.Query.{Query}
use Rattle.lk_ask.specs.Questions.{query_of, IsKnownQuery}
use Rattle.lk_step.specs.declared.step.Step.{Step}
use Rattle.lk_step.specs.declared.step.Row.{Row}
use Rattle.lk_step.specs.Rows.{IsClaim}
use Rattle.lk_step.specs.Meaning.{step_at, IsRowIn, IsRowOf}
use Rattle.lk_derive.specs.declared.derivation.Derivation.{Derivation}
use Rattle.lk_derive.specs.declared.task.Task.{Task}
use Rattle.lk_derive.specs.declared.task.Task.TheVariants.{Open, Write}
use Rattle.lk_derive.specs.Notes.{stated_at}
use Rattle.lk_derive.specs.Derived.{is_marked, IsDerivation, Derives}
use Rattle.lk_derive.specs.Tasks as tasks
use Rattle.lk_derive.specs.Tasks.{Waits, Comes, IsRowAbove, IsTask, AreWaiting}
use Rattle.lk_derive.specs.Stages.{task_at, tasks_at, IsTaskIn, IsStage, GoesOn}
use Rattle.lk_derive.proofs.Lists.{map-reverse, All-reverse}
use Rattle.lk_derive.proofs.Waiting.{IsRowFor, IsNext, on_top, passed, written, opened}
use Rattle.lk_derive.proofs.Steady.{query_same, tasks_same, stated_same, stage_grown}

row_for : (w : Place) (c : Contents) (q : plain.Query) (r : Row) → IsRowOf w c q r → IsRowFor w q (map (query_of (tree_at c)) r.asks.items) (map (step_at c) r.steps.items)
row_for w c q r h = record { answer = h.answer; cost = h.cost; answered = h.answered; claimed = h.claimed; row = h.row }

openings_at : (c : Contents) (qs : List (Query ℕ)) → tasks_at c (map Open qs) ≡ map tasks.opening (map (query_of (tree_at c)) qs)
openings_at c [] = refl
openings_at c (q ∷ qs) = ap (λ ts. tasks.opening (query_of (tree_at c) q) ∷ ts) (openings_at c qs)

module _ (w : Place) (most : ℕ) (c : Contents) (v : Derivation) (stack : List Task) where
  module _ (t : Task) (h : IsStage w most c v (stack ++ t ∷ [])) where
    popped_in : All (IsTaskIn c) stack × IsTaskIn c t
    popped_in = All-pop (IsTaskIn c) (stack ++ t ∷ []) stack (Some t) refl h.tasks_in

    waiting : AreWaiting w most (stated_at c v.notes) (tasks_at c stack ++ task_at c t ∷ [])
    waiting = subst (AreWaiting w most (stated_at c v.notes)) (map_push (task_at c) stack t) h.waiting

    pub top_in : IsTaskIn c t
    top_in = popped_in.1

    pub top_waits : IsTask w most (stated_at c v.notes) (task_at c t) []
    top_waits = on_top w most (stated_at c v.notes) (tasks_at c stack) (task_at c t) waiting

    -- the task is done, and nothing is put on the stack
    pub leaves : (new : Derivation) → IsDerivation w c new → Keeps (stated_at c v.notes) (stated_at c new.notes)
        → IsNext w most (stated_at c v.notes) (stated_at c new.notes) (tasks_at c stack ++ task_at c t ∷ []) (tasks_at c stack)
        → GoesOn w most c c v new (stack ++ t ∷ []) stack
    leaves new derivation keeps after =
        let goes : IsNext w most (stated_at c v.notes) (stated_at c new.notes) (tasks_at c (stack ++ t ∷ [])) (tasks_at c stack) =
        subst (λ ts. IsNext w most (stated_at c v.notes) (stated_at c new.notes) ts (tasks_at c stack)) (sym (map_push (task_at c) stack t)) after in
        record {
          stage = record { derivation = derivation; tasks_in = popped_in.0; waiting = goes.waiting };
          keeps = keeps;
          comes = goes.comes;
          less = goes.less;
        }

  module _ (q : Query ℕ) (h : IsStage w most c v (stack ++ Open q ∷ [])) where
    pub opens_known : IsKnownQuery (length c.trees) q
    opens_known = top_in (Open q) h

    pub opens_claim : IsClaim w (query_of (tree_at c) q) most
    opens_claim = top_waits (Open q) h

    -- it was derived before
    pub opens_nothing : is_marked v q ≡ true → GoesOn w most c c v v (stack ++ Open q ∷ []) stack
    opens_nothing m =
        let derived = (h.derivation.marked q m).derived in
        leaves (Open q) h v h.derivation (λ i p e. e) (passed w most (stated_at c v.notes) (tasks_at c stack) (query_of (tree_at c) q) (waiting (Open q) h) derived)

  module _ (q : Query ℕ) (ss : List Step) (t : Task) (is : task_at c t ≡ tasks.writing (query_of (tree_at c) q) (map (step_at c) ss)) (h : IsStage w most c v (stack ++ t ∷ [])) where
    pub writes_row : IsRowAbove w (stated_at c v.notes) (query_of (tree_at c) q) (map (step_at c) ss) []
    writes_row = subst (λ u. IsTask w most (stated_at c v.notes) u []) is (top_waits t h)

    -- its question is derived
    pub writes : (new : Derivation) → Derives w c c v new (query_of (tree_at c) q) → GoesOn w most c c v new (stack ++ t ∷ []) stack
    writes new d =
        let ts = tasks_at c stack in
        let p = query_of (tree_at c) q in
        let rows = map (step_at c) ss in
        let waits : AreWaiting w most (stated_at c v.notes) (ts ++ tasks.writing p rows ∷ []) = subst (λ u. AreWaiting w most (stated_at c v.notes) (ts ++ u ∷ [])) is (waiting t h) in
        let after = written w most (stated_at c v.notes) (stated_at c new.notes) ts p rows waits d.keeps d.derived in
        leaves t h new d.derivation d.keeps (subst (λ u. IsNext w most (stated_at c v.notes) (stated_at c new.notes) (ts ++ u ∷ []) ts) (sym is) after)

-- its row is put on the stack
module _ (w : Place) (most : ℕ) (c d : Contents) (x : Extends c d) (v : Derivation) (stack : List Task) (q : Query ℕ) (h : IsStage w most c v (stack ++ Open q ∷ []))
    (r : Row) (row_in : IsRowIn d r) (row_of : IsRowOf w d (query_of (tree_at c) q) r) where
  grown : IsStage w most d v (stack ++ Open q ∷ [])
  grown = stage_grown c d x w most v (stack ++ Open q ∷ []) h

  row : IsRowFor w (query_of (tree_at d) q) (map (query_of (tree_at d)) r.asks.items) (map (step_at d) r.steps.items)
  row = row_for w d (query_of (tree_at d) q) r (subst (λ p. IsRowOf w d p r) (sym (query_same c d x q (opens_known w most c v stack q h))) row_of)

  pushed_at : tasks_at d (stack ++ Write q r.steps ∷ map Open (reverse r.asks.items))
      ≡ tasks_at d stack ++ tasks.writing (query_of (tree_at d) q) (map (step_at d) r.steps.items) ∷ map tasks.opening (reverse (map (query_of (tree_at d)) r.asks.items))
  pushed_at =
      map-append (task_at d) stack (Write q r.steps ∷ map Open (reverse r.asks.items))
      ∙ ap (λ ts. tasks_at d stack ++ tasks.writing (query_of (tree_at d) q) (map (step_at d) r.steps.items) ∷ ts) (openings_at d (reverse r.asks.items) ∙ ap (map tasks.opening) (map-reverse (query_of (tree_at d)) r.asks.items))

  goes : IsNext w most (stated_at c v.notes) (stated_at d v.notes) (tasks_at c (stack ++ Open q ∷ [])) (tasks_at d (stack ++ Write q r.steps ∷ map Open (reverse r.asks.items)))
  goes =
      let qs = stated_at d v.notes in
      let one = opened w most qs (tasks_at d stack) (query_of (tree_at d) q) (map (query_of (tree_at d)) r.asks.items) (map (step_at d) r.steps.items)
      (subst (AreWaiting w most qs) (map_push (task_at d) stack (Open q)) grown.waiting) row in
      let two = subst (λ ts. IsNext w most qs qs ts (tasks_at d stack ++ tasks.writing (query_of (tree_at d) q) (map (step_at d) r.steps.items) ∷ map tasks.opening (reverse (map (query_of (tree_at d)) r.asks.items))))
      (sym (map_push (task_at d) stack (Open q)) ∙ tasks_same c d x (stack ++ Open q ∷ []) h.tasks_in) one in
      let three = subst (IsNext w most qs qs (tasks_at c (stack ++ Open q ∷ []))) (sym pushed_at) two in
      subst (λ ps. IsNext w most ps qs (tasks_at c (stack ++ Open q ∷ [])) (tasks_at d (stack ++ Write q r.steps ∷ map Open (reverse r.asks.items)))) (stated_same c d x v.notes h.derivation.notes.indexed) three

  all_in : All (IsTaskIn d) (stack ++ Write q r.steps ∷ map Open (reverse r.asks.items))
  all_in =
      let popped = All-pop (IsTaskIn d) (stack ++ Open q ∷ []) stack (Some (Open q)) refl grown.tasks_in in
      All-append (IsTaskIn d) stack (Write q r.steps ∷ map Open (reverse r.asks.items)) popped.0
      (All-cons (IsTaskIn d) (Write q r.steps) (map Open (reverse r.asks.items)) (popped.1, row_in.steps_in) (All-map (IsTaskIn d) Open (reverse r.asks.items) (All-reverse (λ (q : Query ℕ). IsTaskIn d (Open q)) r.asks.items row_in.asks_in)))

  pub opens : (new : List Task) → new ≡ stack ++ Write q r.steps ∷ map Open (reverse r.asks.items) → GoesOn w most c d v v (stack ++ Open q ∷ []) new
  opens new is =
      subst (GoesOn w most c d v v (stack ++ Open q ∷ [])) (sym is)
      (record {
        stage = record { derivation = grown.derivation; tasks_in = all_in; waiting = goes.waiting };
        keeps = λ i p e. subst (λ ps. slice_get ps i ≡ Some p) (sym (stated_same c d x v.notes h.derivation.notes.indexed)) e;
        comes = goes.comes;
        less = goes.less;
      })
