-- The parameters that the checks of a block's types find are Locals.
use Rattle.std.proofs.Common.{◌≡◌, ℕ, zero, suc, Bool, true, false, List, [], ◌∷◌, map, Option, None, Some, Ok, Err, Result, refl, subst, IfOk}
use Rattle.lk_tree.specs.Tree.{Tree, local}
use Rattle.lk_tree.specs.LevelTest.{level_test}
use Rattle.lk_tree.specs.Bind.{opened}
use Rattle.lk_tree.specs.declared.rule.Rule.{Rule}
use Rattle.lk_tree.specs.declared.rule.Rule.TheVariants.{BlockShape}
use Rattle.lk_rulebook.specs.Place.{Place, Entry, BlockType}
use Rattle.lk_questions.specs.Query.{Query, AnswerTo, core, whnf, infer, same}
use Rattle.lk_questions.specs.Program.{Program, done, refuse, ask, look}
use Rattle.lk_questions.specs.Erased.{Value, a_tree, truth, Out, finished, stopped, used_up, seen, go_on, out_of}
use Rattle.lk_questions.specs.Steps.{given, as_pi, sort_of}
use Rattle.lk_questions.specs.Levels.{tested}
use Rattle.lk_inductive.specs.Block.{a_local, AreLocals}
use Rattle.lk_inductive.specs.BlockSteps.{telescope, type_end, next_types, types_steps}
use Rattle.lk_inductive.proofs.Always.{Always, always_any, always_bind}
use Rattle.lk_store.specs.Contents.{Contents, tree_at}
use Rattle.lk_ask.specs.declared.stop.Stop.{Stop}
use Rattle.lk_ask.specs.Asking.{Standing}
use Rattle.lk_declaration.specs.Courses.{answer_then, look_then, run_then, Goes, ComesTo}
use Rattle.lk_block.specs.declared.types.TypeParts.{TypeParts}
use Rattle.lk_block.specs.Parts.{parts_at}

-- it does not end with a no
abbrev EndsNotInNo : Out → Type 0
EndsNotInNo (finished (truth false) left last) = ⊥
EndsNotInNo _ = Unit {0}

later_ends : (last : Option ℕ) (o : Out) → EndsNotInNo o → EndsNotInNo (seen last o)
later_ends last (finished (truth true) left t) h = tt
later_ends last (finished (truth false) left t) h = h
later_ends last (finished (a_tree e) left t) h = tt
later_ends last (stopped r) h = tt
later_ends last used_up h = tt

ended : (last : Option ℕ) (o : Out) → EndsNotInNo (seen last o) → EndsNotInNo o
ended last (finished (truth true) left t) h = tt
ended last (finished (truth false) left t) h = h
ended last (finished (a_tree e) left t) h = tt
ended last (stopped r) h = tt
ended last used_up h = tt

asked_ends : (o : Out) (k : Value → ℕ → Out) → ((v : Value) (left : ℕ) → EndsNotInNo (k v left)) → EndsNotInNo (go_on o k)
asked_ends (finished v left t) k h = later_ends t (k v left) (h v left)
asked_ends (stopped r) k h = tt
asked_ends used_up k h = tt

answer_ends : (q : Query) (v : Value) (left : ℕ) (k : AnswerTo q → ℕ → Out) → ((v : AnswerTo q) → EndsNotInNo (k v left)) → EndsNotInNo (answer_then q k v left)
answer_ends (core e) (a_tree t) left k h = h t
answer_ends (core e) (truth r) left k h = tt
answer_ends (whnf e) (a_tree t) left k h = h t
answer_ends (whnf e) (truth r) left k h = tt
answer_ends (infer e) (a_tree t) left k h = h t
answer_ends (infer e) (truth r) left k h = tt
answer_ends (same x y) (a_tree t) left k h = tt
answer_ends (same x y) (truth r) left k h = h r

looked_ends : (r : Rule) (e : Option Entry) (unit : ℕ) (flaw : Option Rule) (k : Entry → Out) → ((e : Entry) → EndsNotInNo (k e)) → EndsNotInNo (look_then r e unit flaw k)
looked_ends r None unit flaw k h = tt
looked_ends r (Some e) unit flaw k h = later_ends (Some unit) (k e) (h e)

module _ (answer : Query → ℕ → Out) (w : Place) {A : Type 0} (test : A → Bool) where
  told : A → ℕ → Out
  told v left = finished (truth (test v)) left None

  yes_ends : (v : A) (left : ℕ) → test v ≡ true → EndsNotInNo (told v left)
  unfolding told
  yes_ends v left h = rw h tt

  run_ends : (p : Program A) (left : ℕ) → Always p (λ v. test v ≡ true) → EndsNotInNo (run_then answer w p left told)
  run_ends (done v) left h = yes_ends v left h
  run_ends (refuse r) left h = tt
  run_ends (ask q f) left h =
      asked_ends (answer q left) (answer_then q (λ v rest. run_then answer w (f v) rest told)) (λ v rest. answer_ends q v rest (λ v rest. run_then answer w (f v) rest told) (λ u. run_ends (f u) rest (h u)))
  run_ends (look r n f) left h = looked_ends r (w.means n) (w.origin n) (w.flaw n) (λ e. run_then answer w (f e) left told) (λ e. run_ends (f e) left (h e))

  yes_told : (v : A) (left : ℕ) → EndsNotInNo (told v left) → test v ≡ true
  unfolding told
  yes_told v left h = go (test v) h
    where
      go : (b : Bool) → EndsNotInNo (finished (truth b) left None) → b ≡ true
      go true i = refl
      go false i = absurd i

-- a test that whatever a program is done with meets is met by what it gives
pub given_meets : {A Base : Type 0} (t : Standing Base) (p : Program A) (b : ℕ) (v : A) (left : ℕ) (test : A → Bool) → Always p (λ v. test v ≡ true) → Goes t p b v left → test v ≡ true
given_meets {A} t p b v left test always goes =
    let answer : Query → ℕ → Out = out_of t.table t.place in
    let passes = goes.on (told answer t.place test) in
    yes_told answer t.place test v left (ended passes.0 (told answer t.place test v left) (subst EndsNotInNo passes.1 (run_ends answer t.place test p b always)))

are_locals : List Tree → Bool
are_locals [] = true
are_locals (local k T ∷ ps) = are_locals ps
are_locals (_ ∷ ps) = false

locals_are : (ps : List Tree) → are_locals ps ≡ true → AreLocals ps
unfolding are_locals
locals_are [] h = tt
locals_are (local k T ∷ ps) h = (a_local, locals_are ps h)
locals_are (_ ∷ ps) h = absurd cc

-- Pis are opened with Locals
opened_locals : (j n : ℕ) (r : Tree) → Always (telescope j n r) (λ t. are_locals t.0 ≡ true)
unfolding are_locals
opened_locals j zero r = refl
opened_locals j (suc n) r = λ R. always_bind (as_pi BlockShape R) _ (λ p. Unit {0}) (λ t. are_locals t.0 ≡ true) (always_any (as_pi BlockShape R))
    (λ p x. always_bind (telescope (suc j) n (opened p.1 (local j p.0))) (λ t. done (local j p.0 ∷ t.0, t.1)) (λ t. are_locals t.0 ≡ true) (λ t. are_locals t.0 ≡ true) (opened_locals (suc j) n (opened p.1 (local j p.0))) (λ t h. h))

parameters_locals : (n : ℕ) (ts : List BlockType) → Always (types_steps n ts) (λ v. are_locals v.params ≡ true)
parameters_locals n [] = tt
parameters_locals n (t ∷ ts) =
    always_bind (sort_of t.type) _ (λ s. Unit {0}) (λ v. are_locals v.params ≡ true) (always_any (sort_of t.type))
    (λ s x. always_bind (telescope 0 n t.type) _ (λ ps. are_locals ps.0 ≡ true) (λ v. are_locals v.params ≡ true) (opened_locals 0 n t.type)
    (λ ps h. always_bind (type_end n t.indices ps.1) _ (λ e. Unit {0}) (λ v. are_locals v.params ≡ true) (always_any (type_end n t.indices ps.1))
    (λ e y. always_bind (tested (level_test e.1 e.1)) _ (λ q. Unit {0}) (λ v. are_locals v.params ≡ true) (always_any (tested (level_test e.1 e.1)))
    (λ q z. always_bind (given q BlockShape (next_types ps.0 e.1 ts)) (λ xs. done (record { params = ps.0; sort = e.1; indices = e.0 ∷ xs })) (λ xs. Unit {0}) (λ v. are_locals v.params ≡ true)
    (always_any (given q BlockShape (next_types ps.0 e.1 ts))) (λ xs u. h)))))

pub found_locals : {Base : Type 0} (t : Standing Base) (n : ℕ) (ts : List BlockType) (b left : ℕ) (c : Contents) (r : Result TypeParts Stop) → ComesTo t (types_steps n ts) b (parts_at c) left r
    → IfOk r (λ p. AreLocals (map (tree_at c) p.parameters.items))
found_locals t n ts b left c (Ok p) h = locals_are (map (tree_at c) p.parameters.items) (given_meets t (types_steps n ts) b (parts_at c p) left (λ v. are_locals v.params) (parameters_locals n ts) h)
found_locals t n ts b left c (Err stop) h = tt
