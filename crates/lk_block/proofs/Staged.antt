-- A task runs as its pieces run one after another.
use Rattle.std.proofs.Common.{◌≡◌, ℕ, suc, ◌-◌, ◌++◌, true, Option, None, Some, List, [], refl, sym, subst, ◌∙◌}
use Rattle.std.proofs.lemmas.List.{append-nil}
use Rattle.lk_tree.specs.declared.rule.Rule.{Rule}
use Rattle.lk_rulebook.specs.Place.{Place, Entry, Block, BlockRecursor}
use Rattle.lk_rulebook.specs.Units.{Members, Library, of_block, place_of, partial_types, partial_members}
use Rattle.lk_questions.specs.Query.{Query, AnswerTo, core, whnf, infer, same}
use Rattle.lk_questions.specs.Program.{Program, Table, done, refuse, ask, look}
use Rattle.lk_questions.specs.Answer.{Outcome, answered, refused, spent, after, and_then, looked_up, plain_answer}
use Rattle.lk_questions.specs.Erased.{truth, value_of, Out, finished, stopped, used_up, seen, go_on, left_of, out_of}
use Rattle.lk_env.specs.Places.{partial_beside}
use Rattle.lk_inductive.specs.Block.{parameters_of, Shape}
use Rattle.lk_inductive.specs.BlockSteps.{TypeParts, counts_steps, types_steps, all_ctor_sorts, shape_steps}
use Rattle.lk_inductive.specs.Recursors.{recursors_by}
use Rattle.lk_inductive.specs.Compare.{compare_steps}
use Rattle.lk_inductive.specs.Enlarged.{Larger, larger_block, setting_of, bare_entries}
use Rattle.lk_inductive.specs.Nested.{enlarge, aux_sorts}
use Rattle.lk_inductive.specs.NestedTask.{nested_recs, nested_shape, whole_task}
use Rattle.lk_inductive.specs.Restore.{restoring_of}
use Rattle.lk_inductive.specs.Task.{Task, done_with, here, give_partial, ◌>>=◌, run_task}
use Rattle.lk_block.specs.Stages.{Places, larger_parts, recursors_stage, shape_stage, auxiliary_stage, larger_stage, sorts_stage, types_stage, block_stages}
use Rattle.lk_declaration.specs.Courses.{answer_then, look_then, run_then}
use Rattle.lk_block.specs.Agreeing.{Agrees, GoesByStages}

after_agrees : {A : Type 0} (c : ℕ) (t s : Option ℕ) (o : Outcome A) (p : Out) → Agrees o p → Agrees (after c t o) (seen s p)
after_agrees c t s (answered v d u) (finished w left last) h = tt
after_agrees c t s (answered v d u) (stopped r) h = absurd h
after_agrees c t s (answered v d u) used_up h = absurd h
after_agrees c t s (refused r) (finished w left last) h = absurd h
after_agrees c t s (refused r) (stopped q) h = h
after_agrees c t s (refused r) used_up h = absurd h
after_agrees c t s spent (finished w left last) h = absurd h
after_agrees c t s spent (stopped q) h = absurd h
after_agrees c t s spent used_up h = tt

then_value : (q : Query) (k : AnswerTo q → ℕ → Out) (v : AnswerTo q) (left : ℕ) → answer_then q k (value_of q v) left ≡ k v left
then_value (core e) k v left = refl
then_value (whnf e) k v left = refl
then_value (infer e) k v left = refl
then_value (same a b) k v left = refl

asked_agrees : {A : Type 0} (q : Query) (b : ℕ) (o : Outcome (AnswerTo q)) (next : AnswerTo q → ℕ → Outcome A) (k : AnswerTo q → ℕ → Out)
    → ((v : AnswerTo q) (c : ℕ) → Agrees (next v c) (k v (b - c))) → Agrees (and_then o next) (go_on (left_of (value_of q) b o) (answer_then q k))
asked_agrees q b (answered v c t) next k h = subst (λ p. Agrees (after c t (next v c)) (seen t p)) (sym (then_value q k v (b - c))) (after_agrees c t t (next v c) (k v (b - c)) (h v c))
asked_agrees q b (refused r) next k h = refl
asked_agrees q b spent next k h = tt

looked_agrees : {A : Type 0} (r : Rule) (e : Option Entry) (unit : ℕ) (flaw : Option Rule) (next : Entry → Outcome A) (k : Entry → Out)
    → ((e : Entry) → Agrees (next e) (k e)) → Agrees (looked_up r e unit flaw next) (look_then r e unit flaw k)
looked_agrees r None unit flaw next k h = refl
looked_agrees r (Some e) unit flaw next k h = after_agrees 0 (Some unit) (Some unit) (next e) (k e) (h e)

module _ (places : Members → Place) (table : Table) {A B : Type 0} (h : Members) (k : A → Task B) (K : A → ℕ → Out)
    (next : (v : A) (left : ℕ) → Agrees (run_task places (λ w. plain_answer table w) h left (k v)) (K v left)) where
  -- a program at the place that stands, and then the rest
  pub piece_agrees : (p : Program A) (left : ℕ) → Agrees (run_task places (λ w. plain_answer table w) h left (here p >>= k)) (run_then (out_of table (places h)) (places h) p left K)
  unfolding out_of
  piece_agrees (done v) left = next v left
  piece_agrees (refuse r) left = refl
  piece_agrees (ask q f) left =
      asked_agrees q left (plain_answer table (places h) q left) (λ v c. run_task places (λ w. plain_answer table w) h (left - c) (here (f v) >>= k)) (λ v rest. run_then (out_of table (places h)) (places h) (f v) rest K)
      (λ v c. piece_agrees (f v) (left - c))
  piece_agrees (look r c f) left =
      looked_agrees r ((places h).means c) ((places h).origin c) ((places h).flaw c) (λ e. run_task places (λ w. plain_answer table w) h left (here (f e) >>= k)) (λ e. run_then (out_of table (places h)) (places h) (f e) left K)
      (λ e. piece_agrees (f e) left)

  -- the same where what is partial is told in another way
  stage_agrees : (h' : Members) → h ≡ h' → (p : Program A) (left : ℕ) → Agrees (run_task places (λ w. plain_answer table w) h left (here p >>= k)) (run_then (out_of table (places h')) (places h') p left K)
  stage_agrees h' e p left = subst (λ x. Agrees (run_task places (λ w. plain_answer table w) h left (here p >>= k)) (run_then (out_of table (places x)) (places x) p left K)) e (piece_agrees p left)

-- no auxiliary type is partial, or nothing after them
beside_nothing : (ms : Members) → ms ≡ (ms ++ []) ++ []
beside_nothing ms = sym (append-nil (ms ++ []) ∙ append-nil ms)

beside : (ms aux : Members) → ms ++ aux ≡ (ms ++ aux) ++ []
beside ms aux = sym (append-nil (ms ++ aux))

module _ (table : Table) (us : Library) (n : ℕ) (b : Block) (rs : List BlockRecursor) (fuel : ℕ) where
  abbrev places : Members → Place
  places = place_of us n

  abbrev given : Places
  given p aux = place_of us n (partial_beside (of_block b rs) p aux)

  abbrev types : Members
  types = partial_types b

  module _ (ts : TypeParts) (lg : Larger) where
    abbrev bare : Members
    bare = bare_entries lg.aux

    compare_agrees : (s : Shape) (left : ℕ) → Agrees (run_task places (λ w. plain_answer table w) (types ++ bare) left (nested_recs b rs (setting_of b ts.params) lg s)) (recursors_stage table given b rs ts lg s left)
    compare_agrees s left =
        piece_agrees places table ((types ++ bare) ++ partial_members b rs) (λ y. done_with s) (λ y left. finished (truth true) left None) (λ y left. tt)
        (compare_steps (recursors_by (restoring_of b (setting_of b ts.params) lg) s) rs) left

    shape_agrees : (left : ℕ) → Agrees (run_task places (λ w. plain_answer table w) types left (nested_shape fuel b rs ts lg)) (shape_stage table given fuel b rs ts lg left)
    shape_agrees left =
        stage_agrees places table (types ++ bare) (nested_recs b rs (setting_of b ts.params) lg) (recursors_stage table given b rs ts lg) compare_agrees
        ((types ++ bare) ++ []) (beside types bare) (shape_steps fuel (larger_block lg) (larger_parts ts lg)) left

    auxiliary_agrees : (left : ℕ) → Agrees (run_task places (λ w. plain_answer table w) types left (here (aux_sorts ts.sort lg.auxs) >>= λ z. nested_shape fuel b rs ts lg)) (auxiliary_stage table given fuel b rs ts lg left)
    auxiliary_agrees left =
        stage_agrees places table types (λ z. nested_shape fuel b rs ts lg) (λ z rest. shape_stage table given fuel b rs ts lg rest) (λ z rest. shape_agrees rest)
        ((types ++ []) ++ []) (beside_nothing types) (aux_sorts ts.sort lg.auxs) left

  module _ (ts : TypeParts) where
    abbrev larger_rest : Task Shape
    larger_rest = here (enlarge (setting_of b ts.params) b.types) >>= λ lg. here (aux_sorts ts.sort lg.auxs) >>= λ z. nested_shape fuel b rs ts lg

    larger_agrees : (left : ℕ) → Agrees (run_task places (λ w. plain_answer table w) types left larger_rest) (larger_stage table given fuel b rs ts left)
    larger_agrees left =
        stage_agrees places table types (λ lg. here (aux_sorts ts.sort lg.auxs) >>= λ z. nested_shape fuel b rs ts lg) (auxiliary_stage table given fuel b rs ts) (auxiliary_agrees ts)
        ((types ++ []) ++ []) (beside_nothing types) (enlarge (setting_of b ts.params) b.types) left

    abbrev sorts_rest : Task Shape
    sorts_rest = give_partial types >>= λ h. here (all_ctor_sorts b.types) >>= λ ls. larger_rest

    sorts_agree : (left : ℕ) → Agrees (run_task places (λ w. plain_answer table w) [] left sorts_rest) (sorts_stage table given fuel b rs ts left)
    sorts_agree left =
        stage_agrees places table types (λ ls. larger_rest) (λ ls rest. larger_stage table given fuel b rs ts rest) (λ ls rest. larger_agrees rest)
        ((types ++ []) ++ []) (beside_nothing types) (all_ctor_sorts b.types) left

  abbrev types_rest : Task Shape
  types_rest = here (types_steps (parameters_of b) b.types) >>= sorts_rest

  types_agree : (left : ℕ) → Agrees (run_task places (λ w. plain_answer table w) [] left types_rest) (types_stage table given fuel b rs left)
  types_agree left = piece_agrees places table [] sorts_rest (sorts_stage table given fuel b rs) sorts_agree (types_steps (parameters_of b) b.types) left

  all_agree : (left : ℕ) → Agrees (run_task places (λ w. plain_answer table w) [] left (whole_task fuel b rs)) (block_stages table given fuel b rs left)
  all_agree left = piece_agrees places table [] (λ y. types_rest) (λ y rest. types_stage table given fuel b rs rest) (λ y rest. types_agree rest) (counts_steps b) left

pub goes_by_stages : GoesByStages
goes_by_stages table us n b rs budget = all_agree table us n b rs (suc budget) budget
