-- Programs that run alike.
use Rattle.std.proofs.Common.{ℕ, zero, suc, None, ◌≡◌, refl, ap, sym, ◌∙◌}
use Rattle.lk_tree.specs.Tree.{Tree, Level, var, sort, const, app, lam, pi, let_in, proj, lit, wide, str, local}
use Rattle.lk_rulebook.specs.Place.{Place}
use Rattle.lk_questions.specs.Query.{Query, AnswerTo, core, whnf, infer, same}
use Rattle.lk_questions.specs.Program.{Program, ask, ◌>>=◌}
use Rattle.lk_questions.specs.Erased.{Value, a_tree, truth, Steps, with_answer, erased, Out, finished, stopped, used_up, seen, go_on, run_steps, out_of}
use Rattle.lk_questions.proofs.Erasing.{out-suc, out-zero}
use Rattle.lk_questions.specs.Infer.{infer_steps}
use Rattle.lk_questions.specs.Steps.{as_sort}
use Rattle.lk_questions.specs.Table.{steps}
use Rattle.lk_chain.specs.Alike.{IsAlike}

-- what goes on with an outcome goes on with each part of it
pub go_on_same : (o : Out) (k l : Value → ℕ → Out) → ((v : Value) (b : ℕ) → k v b ≡ l v b) → go_on o k ≡ go_on o l
go_on_same (finished v left t) k l h = ap (seen t) (h v left)
go_on_same (stopped r) k l h = refl
go_on_same used_up k l h = refl

module _ (w : Place) where
  abbrev runs : Steps → ℕ → Out
  runs s b = run_steps (out_of steps w) s b

  answered_same : (q : Query) (k l : AnswerTo q → Steps) → ((v : AnswerTo q) (b : ℕ) → runs (k v) b ≡ runs (l v) b) → (v : Value) (b : ℕ) → runs (with_answer q k v) b ≡ runs (with_answer q l v) b
  answered_same (core e) k l h (a_tree v) b = h v b
  answered_same (core e) k l h (truth v) b = refl
  answered_same (whnf e) k l h (a_tree v) b = h v b
  answered_same (whnf e) k l h (truth v) b = refl
  answered_same (infer e) k l h (a_tree v) b = h v b
  answered_same (infer e) k l h (truth v) b = refl
  answered_same (same a c) k l h (a_tree v) b = refl
  answered_same (same a c) k l h (truth v) b = h v b

  pub ask_alike : (q : Query) (k l : AnswerTo q → Program Tree) → ((v : AnswerTo q) → IsAlike w (k v) (l v)) → IsAlike w (ask q k) (ask q l)
  ask_alike q k l h = record {
    runs = λ t b. ap (seen t) (go_on_same (out_of steps w q b) _ _
        (answered_same q (λ v. erased w a_tree None (k v)) (λ v. erased w a_tree None (l v)) (λ v c. (h v).runs None c)));
  }

  pub itself : (p : Program Tree) → IsAlike w p p
  itself p = record { runs = λ t b. refl }

  pub alike_on : {p q r : Program Tree} → IsAlike w p q → IsAlike w q r → IsAlike w p r
  alike_on h k = record { runs = λ t b. h.runs t b ∙ k.runs t b }

  pub sort_alike : (S : Tree) (k l : Level → Program Tree) → ((u : Level) → IsAlike w (k u) (l u)) → IsAlike w (as_sort S >>= k) (as_sort S >>= l)
  sort_alike (sort u) k l h = h u
  sort_alike (var i) k l h = itself _
  sort_alike (const c ls) k l h = itself _
  sort_alike (app f a) k l h = itself _
  sort_alike (lam A e) k l h = itself _
  sort_alike (pi A e) k l h = itself _
  sort_alike (let_in A v e) k l h = itself _
  sort_alike (proj S i s) k l h = itself _
  sort_alike (lit n) k l h = itself _
  sort_alike wide k l h = itself _
  sort_alike (str s) k l h = itself _
  sort_alike (local n T) k l h = itself _

  -- Infer of terms whose rows run alike comes to the same
  same_out : (e f : Tree) → IsAlike w (infer_steps e) (infer_steps f) → (b : ℕ) → out_of steps w (infer e) b ≡ out_of steps w (infer f) b
  same_out e f h zero = out-zero steps w (infer e) ∙ sym (out-zero steps w (infer f))
  same_out e f h (suc b) = out-suc steps w (infer e) b ∙ (h.runs None b ∙ sym (out-suc steps w (infer f) b))

  pub infer_alike : (e f : Tree) (k : Tree → Program Tree) → IsAlike w (infer_steps e) (infer_steps f) → IsAlike w (ask (infer e) k) (ask (infer f) k)
  infer_alike e f k h = record {
    runs = λ t b. ap (λ o. seen t (go_on o (λ v rest. runs (with_answer (infer e) (λ x. erased w a_tree None (k x)) v) rest))) (same_out e f h b);
  }
