-- Telescopes: that asking for one binder after the other runs as the row does.
use Rattle.std.proofs.Common.{◌≡◌, ℕ, zero, suc, ◌≤◌, ◌⊎◌, List, [], ◌∷◌, length, Option, Some, None, refl, ap, sym, ◌∙◌}
use Rattle.lk_tree.specs.Tree.{Tree, Level, imax_level, var, sort, const, app, lam, pi, let_in, proj, lit, wide, str, local}
use Rattle.lk_tree.specs.Bind.{opened, bound}
use Rattle.lk_tree.specs.Loose.{loose}
use Rattle.lk_tree.specs.declared.rule.Rule.{Rule}
use Rattle.lk_rulebook.specs.Place.{Place, Entry}
use Rattle.lk_questions.specs.Query.{Query, AnswerTo, core, whnf, infer, same}
use Rattle.lk_questions.specs.Program.{Program, done, refuse, ask, look, ◌>>=◌}
use Rattle.lk_questions.specs.Erased.{Value, a_tree, truth, Steps, with_tree, with_answer, looked, erased, Out, finished, stopped, used_up, seen, go_on, run_steps, out_of}
use Rattle.lk_questions.proofs.Erasing.{run_from, seen_goes, seen_none, out-suc, out-zero}
use Rattle.lk_questions.specs.Infer.{infer_steps}
use Rattle.lk_questions.specs.Steps.{as_sort}
use Rattle.lk_questions.specs.Table.{steps}
use Rattle.lk_type.specs.declared.sheet.Binders.{Binders}
use Rattle.lk_type.specs.declared.sheet.Binders.TheVariants.{Pis, Lambdas}
use Rattle.lk_type.specs.Telescopes.{bound_by, fresh, OpensTo, ahead, gather, started, asked_for, pis_end, lambdas_type, telescope_on, telescope_domain}
use Rattle.lk_type.proofs.OwnDomains.{one_by_one, own_type}

-- what goes on with an outcome goes on with each part of it
go_on_same : (o : Out) (k l : Value → ℕ → Out) → ((v : Value) (b : ℕ) → k v b ≡ l v b) → go_on o k ≡ go_on o l
go_on_same (finished v left t) k l h = ap (seen t) (h v left)
go_on_same (stopped r) k l h = refl
go_on_same used_up k l h = refl

go_on_twice : (o : Out) (k l : Value → ℕ → Out) → go_on (go_on o k) l ≡ go_on o (λ v b. go_on (k v b) l)
go_on_twice (finished v left t) k l = seen_goes t (k v left) l
go_on_twice (stopped r) k l = refl
go_on_twice used_up k l = refl

-- two programs run alike
pub record IsAlike (w : Place) (p q : Program Tree) : Type 0 where
  pub runs : (t : Option ℕ) (b : ℕ) → run_steps (out_of steps w) (erased w a_tree t p) b ≡ run_steps (out_of steps w) (erased w a_tree t q) b

module _ (w : Place) where
  abbrev runs : Steps → ℕ → Out
  runs s b = run_steps (out_of steps w) s b

  abbrev Alike : Program Tree → Program Tree → Type 0
  Alike p q = IsAlike w p q

  answered_same : (q : Query) (k l : AnswerTo q → Steps) → ((v : AnswerTo q) (b : ℕ) → runs (k v) b ≡ runs (l v) b) → (v : Value) (b : ℕ) → runs (with_answer q k v) b ≡ runs (with_answer q l v) b
  answered_same (core e) k l h (a_tree v) b = h v b
  answered_same (core e) k l h (truth v) b = refl
  answered_same (whnf e) k l h (a_tree v) b = h v b
  answered_same (whnf e) k l h (truth v) b = refl
  answered_same (infer e) k l h (a_tree v) b = h v b
  answered_same (infer e) k l h (truth v) b = refl
  answered_same (same a c) k l h (a_tree v) b = refl
  answered_same (same a c) k l h (truth v) b = h v b

  ask_alike : (q : Query) (k l : AnswerTo q → Program Tree) → ((v : AnswerTo q) → Alike (k v) (l v)) → Alike (ask q k) (ask q l)
  ask_alike q k l h = record {
    runs = λ t b. ap (seen t) (go_on_same (out_of steps w q b) _ _
        (answered_same q (λ v. erased w a_tree None (k v)) (λ v. erased w a_tree None (l v)) (λ v c. (h v).runs None c)));
  }

  itself : (p : Program Tree) → Alike p p
  itself p = record { runs = λ t b. refl }

  sort_alike : (S : Tree) (k l : Level → Program Tree) → ((u : Level) → Alike (k u) (l u)) → Alike (as_sort S >>= k) (as_sort S >>= l)
  sort_alike (sort u) k l h = h u
  sort_alike (var i) k l h = itself _
  sort_alike (const c ls) k l h = itself _
  sort_alike (app f a) k l h = itself _
  sort_alike (lam A e) k l h = itself _
  sort_alike (pi A e) k l h = itself _
  sort_alike (let_in A v e) k l h = itself _
  sort_alike (proj S i s) k l h = itself _
  sort_alike (lit n) k l h = itself _
  sort_alike wide k l h = itself _
  sort_alike (str s) k l h = itself _
  sort_alike (local n T) k l h = itself _

  -- what goes on with the value of a program
  abbrev behind_program : (Tree → Program Tree) → Value → ℕ → Out
  behind_program k v b = runs (with_tree (λ x. erased w a_tree None (k x)) v) b

  answered_then : (q : Query) (g : AnswerTo q → Program Tree) (k : Tree → Program Tree)
      → ((v : AnswerTo q) (b : ℕ) → go_on (runs (erased w a_tree None (g v)) b) (behind_program k) ≡ runs (erased w a_tree None (g v >>= k)) b)
      → (v : Value) (b : ℕ) → go_on (runs (with_answer q (λ x. erased w a_tree None (g x)) v) b) (behind_program k) ≡ runs (with_answer q (λ x. erased w a_tree None (g x >>= k)) v) b
  answered_then (core e) g k h (a_tree v) b = h v b
  answered_then (core e) g k h (truth v) b = refl
  answered_then (whnf e) g k h (a_tree v) b = h v b
  answered_then (whnf e) g k h (truth v) b = refl
  answered_then (infer e) g k h (a_tree v) b = h v b
  answered_then (infer e) g k h (truth v) b = refl
  answered_then (same a c) g k h (a_tree v) b = refl
  answered_then (same a c) g k h (truth v) b = h v b

  found_then : (r : Rule) (t : Option ℕ) (m : Option Entry) (n : ℕ) (f : Option Rule) (g : Entry → Program Tree) (k : Tree → Program Tree) (b : ℕ)
      → ((u : Option ℕ) (e : Entry) → go_on (runs (erased w a_tree u (g e)) b) (behind_program k) ≡ runs (erased w a_tree u (g e >>= k)) b)
      → go_on (runs (looked r t m n f (λ u e. erased w a_tree u (g e))) b) (behind_program k) ≡ runs (looked r t m n f (λ u e. erased w a_tree u (g e >>= k))) b
  found_then r t None n f g k b h = refl
  found_then r t (Some e) n f g k b h = h _ e

  run_then : (t : Option ℕ) (p : Program Tree) (k : Tree → Program Tree) (b : ℕ) → go_on (runs (erased w a_tree t p) b) (behind_program k) ≡ runs (erased w a_tree t (p >>= k)) b
  run_then t (done v) k b = sym (run_from steps w a_tree t (k v) b)
  run_then t (refuse r) k b = refl
  run_then t (ask q g) k b =
      seen_goes t _ (behind_program k) ∙ ap (seen t) (go_on_twice (out_of steps w q b) _ (behind_program k)
      ∙ go_on_same (out_of steps w q b) _ _ (answered_then q g k (λ v c. run_then None (g v) k c)))
  run_then t (look r c g) k b = found_then r t (w.means c) (w.origin c) (w.flaw c) g k b (λ u e. run_then u (g e) k b)

  -- what goes on with the type of a binder, inside others: for Pis their sorts, for lambdas their Locals are known
  abbrev Around : Binders → Type 0
  Around Pis = Tree
  Around Lambdas = Tree → Tree

  abbrev ends : (b : Binders) → Around b → Tree → Program Tree
  ends Pis us T = pis_end us T
  ends Lambdas k T = done (k T)

  -- the same, after a binder
  abbrev with_binder : (b : Binders) → Around b → Level → Tree → Around b
  with_binder Pis us u x = app us (sort u)
  with_binder Lambdas k u x = λ T. k (one_by_one (x ∷ []) T)

  -- the row of a binder, with what goes on
  abbrev after_row : (b : Binders) → Around b → Tree → Tree → Program Tree
  after_row b k A B =
      ask (infer A) (λ T. ask (whnf T) (λ S. as_sort S >>= λ u. ask (infer (opened B (fresh b A B)))
      (λ U. ends b (with_binder b k u (fresh b A B)) U)))

  -- what is gathered leads to the same, after these Locals
  abbrev Agrees : (b : Binders) → Around b → List Tree → Tree → Type 0
  Agrees Pis us xs g = g ≡ us
  Agrees Lambdas k xs g = (T : Tree) → k (one_by_one xs T) ≡ lambdas_type g T

  alike_on : {p q r : Program Tree} → Alike p q → Alike q r → Alike p r
  alike_on h k = record { runs = λ t b. h.runs t b ∙ k.runs t b }

  sort_then : (S : Tree) (k : Level → Program Tree) (l : Tree → Program Tree) → Alike ((as_sort S >>= k) >>= l) (as_sort S >>= λ u. k u >>= l)
  sort_then (sort u) k l = itself _
  sort_then (var i) k l = itself _
  sort_then (const c ls) k l = itself _
  sort_then (app f a) k l = itself _
  sort_then (lam A e) k l = itself _
  sort_then (pi A e) k l = itself _
  sort_then (let_in A v e) k l = itself _
  sort_then (proj S i s) k l = itself _
  sort_then (lit n) k l = itself _
  sort_then wide k l = itself _
  sort_then (str s) k l = itself _
  sort_then (local n T) k l = itself _

  -- a binder's row, and then what goes on
  row_then : (b : Binders) (k : Around b) (A B : Tree) → Alike (infer_steps (bound_by b A B) >>= ends b k) (after_row b k A B)
  row_then Pis us A B =
      ask_alike (infer A) _ _ (λ T. ask_alike (whnf T) _ _ (λ S.
      alike_on (sort_then S _ (ends Pis us)) (sort_alike S _ _ (λ u.
      ask_alike (infer (opened B (fresh Pis A B))) _ _ (λ U. ask_alike (whnf U) _ _ (λ V.
      sort_then V (λ v. done (sort (imax_level u v))) (ends Pis us)))))))
  row_then Lambdas k A B =
      ask_alike (infer A) _ _ (λ T. ask_alike (whnf T) _ _ (λ S. sort_then S _ (ends Lambdas k)))

  -- a binder inside another one costs what its Local costs
  inner_runs : (b : Binders) (k : Around b) (A B : Tree) (n : ℕ) (p : Tree → Program Tree) → Alike (after_row b k A B) (p A) → Alike (ask (infer (bound_by b A B)) (λ U. ends b k U)) (ask (infer (local n A)) p)
  inner_runs b k A B n p h = record { runs = inside_runs }
    where
      inside_runs : (t : Option ℕ) (m : ℕ) → runs (erased w a_tree t (ask (infer (bound_by b A B)) (λ U. ends b k U))) m ≡ runs (erased w a_tree t (ask (infer (local n A)) p)) m
      inside_runs t zero = rw (out-zero steps w (infer (bound_by b A B)), out-zero steps w (infer (local n A))) refl
      inside_runs t (suc m) =
          ap (λ o. seen t (go_on o (behind_program (ends b k)))) (out-suc steps w (infer (bound_by b A B)) m)
          ∙ (ap (seen t) (run_then None (infer_steps (bound_by b A B)) (ends b k) m ∙ ((row_then b k A B).runs None m ∙ (h.runs None m ∙ sym (seen_none _))))
          ∙ sym (ap (λ o. seen t (go_on o (behind_program p))) (out-suc steps w (infer (local n A)) m)))

  done_alike : (T U : Tree) → T ≡ U → Alike (done T) (done U)
  done_alike T U e = rw e (itself (done U))

  last_body : (b : Binders) (k : Around b) (g A B r : Tree) (u : Level) → opened B (fresh b A B) ≡ r → Agrees b k (fresh b A B ∷ []) g
      → Alike (ask (infer (opened B (fresh b A B))) (λ U. ends b (with_binder b k u (fresh b A B)) U)) (telescope_on b zero r (gather b g (sort u)))
  last_body Pis us g A B r u e a = rw (e, a) (itself _)
  last_body Lambdas k g A B r u e a = rw e (ask_alike (infer r) _ _ (λ T. done_alike _ _ (a T)))

  agrees_on : (b : Binders) (k : Around b) (x y : Tree) (ys : List Tree) (g : Tree) (u : Level) → Agrees b k (x ∷ y ∷ ys) g → Agrees b (with_binder b k u x) (y ∷ ys) (gather b g (sort u))
  agrees_on Pis us x y ys g u h = ap (λ t. app t (sort u)) h
  agrees_on Lambdas k x y ys g u h = h

  next_binder : (b : Binders) (k : Around b) (g A B x : Tree) (xs : List Tree) (r A' B' : Tree) (u : Level) → opened B (fresh b A B) ≡ bound_by b A' B' → x ≡ fresh b A' B'
      → Alike (after_row b (with_binder b k u (fresh b A B)) A' B') (telescope_domain (asked_for b (gather b g (sort u)) xs r) A')
      → Alike (ask (infer (opened B (fresh b A B))) (λ U. ends b (with_binder b k u (fresh b A B)) U))
      (telescope_on b (suc (length xs)) (app x (ahead xs r)) (gather b g (sort u)))
  next_binder b k g A B x xs r A' B' u e f h =
      rw (e, f) (inner_runs b (with_binder b k u (fresh b A B)) A' B' (bound (bound_by b A' B')) _ h)

  telescope_runs : (b : Binders) (k : Around b) (g A B : Tree) (xs : List Tree) (r : Tree) → OpensTo b (opened B (fresh b A B)) xs r → Agrees b k (fresh b A B ∷ xs) g
      → Alike (after_row b k A B) (telescope_domain (asked_for b g xs r) A)
  telescope_runs b k g A B [] r h a =
      ask_alike (infer A) _ _ (λ T. ask_alike (whnf T) _ _ (λ S. sort_alike S _ _ (λ u. last_body b k g A B r u h a)))
  telescope_runs b k g A B (x ∷ xs) r (A', B', e, f, h) a =
      ask_alike (infer A) _ _ (λ T. ask_alike (whnf T) _ _ (λ S. sort_alike S _ _ (λ u.
      next_binder b k g A B x xs r A' B' u e f
      (telescope_runs b (with_binder b k u (fresh b A B)) (gather b g (sort u)) A' B' xs r (rw f at h)
      (rw f at (agrees_on b k (fresh b A B) x xs g u a))))))

  -- around the first binder there is none
  abbrev nothing : (b : Binders) → Tree → Around b
  nothing Pis x = x
  nothing Lambdas x = λ T. T

  first_row : (b : Binders) (A B : Tree) → Alike (infer_steps (bound_by b A B)) (after_row b (nothing b (fresh b A B)) A B)
  first_row Pis A B = itself _
  first_row Lambdas A B = itself _

  first_agrees : (b : Binders) (A B : Tree) (xs : List Tree) (r : Tree) → (xs ≡ []) ⊎ (loose B ≤ 1) → OpensTo b (opened B (fresh b A B)) xs r
      → Agrees b (nothing b (fresh b A B)) (fresh b A B ∷ xs) (started b (bound_by b A B) (fresh b A B) (ahead xs r))
  first_agrees Pis A B xs r c h = refl
  first_agrees Lambdas A B xs r c h = λ T. own_type A B xs r T c h

  -- the telescope runs as the row of its first binder does
  pub runs_as_row : (b : Binders) (A B : Tree) (xs : List Tree) (r : Tree) → (xs ≡ []) ⊎ (loose B ≤ 1) → OpensTo b (opened B (fresh b A B)) xs r
      → Alike (infer_steps (bound_by b A B)) (telescope_domain (asked_for b (started b (bound_by b A B) (fresh b A B) (ahead xs r)) xs r) A)
  runs_as_row b A B xs r c h = alike_on (first_row b A B) (telescope_runs b (nothing b (fresh b A B)) _ A B xs r h (first_agrees b A B xs r c h))
