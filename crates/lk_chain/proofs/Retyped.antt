-- Functions that are given arguments, of which one has a type that has the arguments already.
use Rattle.std.proofs.Common.{ℕ, zero, suc, Bool, true, false, List, [], ◌∷◌, ◌++◌, Option, None, ◌≡◌, refl, ap, sym, ◌∙◌, arith}
use Rattle.std.proofs.lemmas.List.Elements.{All-head, All-tail}
use Rattle.lk_tree.specs.Tree.{Tree, app, pi, local}
use Rattle.lk_tree.specs.Bind.{opened}
use Rattle.lk_tree.specs.Loose.{loose}
use Rattle.lk_tree.specs.Spine.{apply, head}
use Rattle.lk_tree.specs.declared.rule.Rule.TheVariants.{NotAFunction, ArgumentType}
use Rattle.lk_rulebook.specs.Place.{Place}
use Rattle.lk_questions.specs.Query.{Query, AnswerTo, core, whnf, infer, same}
use Rattle.lk_questions.specs.Program.{Program, done, ask, ◌>>=◌}
use Rattle.lk_questions.specs.Answer.{later}
use Rattle.lk_questions.specs.Erased.{Value, a_tree, truth, Steps, asks, with_tree, with_answer, erased, Out, finished, stopped, used_up, seen, go_on, run_steps, out_of}
use Rattle.lk_questions.proofs.Erasing.{out-suc, out-zero, seen_seen, seen_none, seen_goes, later_none, run_from}
use Rattle.lk_questions.specs.Core.{whnf_headed}
use Rattle.lk_questions.specs.Infer.{infer_steps}
use Rattle.lk_questions.specs.Steps.{given, as_pi}
use Rattle.lk_questions.specs.Table.{steps}
use Rattle.lk_subst.proofs.Unchanged.{open_at-closed}
use Rattle.lk_chain.specs.Pis.{pis_over}
use Rattle.lk_chain.specs.Spines.{OpensWith, HasTypeAtOnce}
use Rattle.lk_chain.proofs.Puttings.{NoneLoose, open_loose}

-- the outcome with T as the answer
abbrev pub retyped : Tree → Out → Out
retyped T (finished v left u) = finished (a_tree T) left u
retyped T (stopped r) = stopped r
retyped T used_up = used_up

retyped_seen : (T : Tree) (t : Option ℕ) (o : Out) → retyped T (seen t o) ≡ seen t (retyped T o)
retyped_seen T t (finished v left u) = refl
retyped_seen T t (stopped r) = refl
retyped_seen T t used_up = refl

retyped_goes : (T : Tree) (o : Out) (k l : Value → ℕ → Out)
    → ((v : Value) (b : ℕ) → k v b ≡ retyped T (l v b)) → go_on o k ≡ retyped T (go_on o l)
retyped_goes T (finished v left t) k l h = ap (seen t) (h v left)
    ∙ sym (retyped_seen T t (l v left))
retyped_goes T (stopped r) k l h = refl
retyped_goes T used_up k l h = refl

-- what an application asks of an argument that is to be of the type A, and after the function's
-- type
abbrev fitted : Tree → Tree → Tree → Program Tree
fitted A B a = ask (infer a) (λ V. ask (same V A) (λ equal. given equal ArgumentType
    (done (opened B a))))

abbrev applied : Tree → Tree → Program Tree
applied a F = ask (whnf F) (λ S. as_pi NotAFunction S >>= λ p. fitted p.0 p.1 a)

module _ (w : Place) where
  abbrev pub out : Tree → ℕ → Out
  out e b = out_of steps w (infer e) b

  abbrev runs : Steps → ℕ → Out
  runs s b = run_steps (out_of steps w) s b

  answered_retyped : (T : Tree) (q : Query) (k l : AnswerTo q → Steps)
      → ((v : AnswerTo q) (b : ℕ) → runs (k v) b ≡ retyped T (runs (l v) b)) → (v : Value) (b : ℕ)
      → runs (with_answer q k v) b ≡ retyped T (runs (with_answer q l v) b)
  answered_retyped T (core e) k l h (a_tree v) b = h v b
  answered_retyped T (core e) k l h (truth v) b = refl
  answered_retyped T (whnf e) k l h (a_tree v) b = h v b
  answered_retyped T (whnf e) k l h (truth v) b = refl
  answered_retyped T (infer e) k l h (a_tree v) b = h v b
  answered_retyped T (infer e) k l h (truth v) b = refl
  answered_retyped T (same a c) k l h (a_tree v) b = refl
  answered_retyped T (same a c) k l h (truth v) b = h v b

  ask_retyped : (T : Tree) (q : Query) (k l : AnswerTo q → Steps)
      → ((v : AnswerTo q) (b : ℕ) → runs (k v) b ≡ retyped T (runs (l v) b)) → (b : ℕ)
      → runs (asks None q (with_answer q k)) b ≡ retyped T (runs (asks None q (with_answer q l)) b)
  ask_retyped T q k l h b =
      ap (seen None) (retyped_goes T (out_of steps w q b) (λ v rest. runs (with_answer q k v) rest)
      (λ v rest. runs (with_answer q l v) rest) (answered_retyped T q k l h))
      ∙ sym (retyped_seen T None (go_on (out_of steps w q b) (λ v rest. runs (with_answer q l v)
      rest)))

  -- the end is the same whichever body is opened, but for the answer
  fitted_retyped : (A B C a : Tree) (b : ℕ) → runs (erased w a_tree None (fitted A B a)) b
      ≡ retyped (opened B a) (runs (erased w a_tree None (fitted A C a)) b)
  fitted_retyped A B C a = ask_retyped (opened B a) (infer a) _ _ (λ V. ask_retyped (opened B a)
      (same V A) _ _ ends)
    where
      ends : (equal : Bool) (b : ℕ)
          → runs (erased w a_tree None (given equal ArgumentType (done (opened B a)))) b
          ≡ retyped (opened B a) (runs (erased w a_tree None (given equal ArgumentType
          (done (opened C a)))) b)
      ends true b = refl
      ends false b = refl

  core_pi : (A B : Tree) (b : ℕ) → out_of steps w (core (pi A B)) (suc b)
      ≡ finished (a_tree (pi A B)) b None
  core_pi A B b = out-suc steps w (core (pi A B)) b

  -- what Whnf does after the form without delta, and an application after its function's form
  abbrev headed : Value → ℕ → Out
  headed v b = runs (with_tree (λ c. erased w a_tree None (whnf_headed c (head c))) v) b

  abbrev formed : Tree → Value → ℕ → Out
  formed a v b = runs (with_tree (λ S. erased w a_tree None (as_pi NotAFunction S >>= λ p. fitted
      p.0 p.1 a)) v) b

  -- a Pi is its own weak head form, at the cost of two questions
  whnf_pi : (A B : Tree) (b : ℕ) → out_of steps w (whnf (pi A B)) (suc (suc b))
      ≡ finished (a_tree (pi A B)) b None
  unfolding head
  whnf_pi A B b = out-suc steps w (whnf (pi A B)) (suc b)
      ∙ ap (λ o. seen None (go_on o headed)) (core_pi A B b)

  whnf_pi_one : (A B : Tree) → out_of steps w (whnf (pi A B)) (suc zero) ≡ used_up
  whnf_pi_one A B = out-suc steps w (whnf (pi A B)) zero
      ∙ ap (λ o. seen None (go_on o headed)) (out-zero steps w (core (pi A B)))

  -- what is asked after the function's type, where that is a Pi
  applied_pi : (A B a : Tree) (b : ℕ) → runs (erased w a_tree None (applied a (pi A B)))
      (suc (suc b)) ≡ runs (erased w a_tree None (fitted A B a)) b
  applied_pi A B a b =
      ap (λ o. seen None (go_on o (formed a))) (whnf_pi A B b)
      ∙ (seen_none (seen None (runs (erased w a_tree None (fitted A B a)) b))
      ∙ seen_none (runs (erased w a_tree None (fitted A B a)) b))

  applied_retyped : (A B C a : Tree) (b : ℕ) → runs (erased w a_tree None (applied a (pi A B))) b
      ≡ retyped (opened B a) (runs (erased w a_tree None (applied a (pi A C))) b)
  applied_retyped A B C a zero =
      ap (λ o. seen None (go_on o (formed a))) (out-zero steps w (whnf (pi A B)))
      ∙ sym (ap (λ o. retyped (opened B a) (seen None (go_on o (formed a)))) (out-zero steps w
      (whnf (pi A C))))
  applied_retyped A B C a (suc zero) =
      ap (λ o. seen None (go_on o (formed a))) (whnf_pi_one A B)
      ∙ sym (ap (λ o. retyped (opened B a) (seen None (go_on o (formed a)))) (whnf_pi_one A C))
  applied_retyped A B C a (suc (suc b)) =
      applied_pi A B a b ∙ (fitted_retyped A B C a b ∙ sym (ap (retyped (opened B a)) (applied_pi A
      C a b)))

  -- what an application does after its function's type
  abbrev goes : Tree → Value → ℕ → Out
  goes a v b = runs (with_tree (λ F. erased w a_tree None (applied a F)) v) b

  out_app : (f a : Tree) (b : ℕ) → out (app f a) (suc b) ≡ go_on (out f b) (goes a)
  out_app f a b = out-suc steps w (infer (app f a)) b ∙ seen_none (go_on (out f b) (goes a))

  goes_retyped : (A B C a : Tree) (o : Out) → go_on (retyped (pi A B) o) (goes a)
      ≡ retyped (opened B a) (go_on (retyped (pi A C) o) (goes a))
  goes_retyped A B C a (finished v left u) = ap (seen u) (applied_retyped A B C a left)
      ∙ sym (retyped_seen (opened B a) u (goes a (a_tree (pi A C)) left))
  goes_retyped A B C a (stopped r) = refl
  goes_retyped A B C a used_up = refl

  -- Infer of f comes to T where that of g comes to U, with t looked at beside
  record ComesBeside (t : Option ℕ) (T U f g : Tree) : Type 0 where
    itself : (b : ℕ) → out g b ≡ retyped U (out g b)
    other : (b : ℕ) → out f b ≡ seen t (retyped T (out g b))

  -- the same of what they are at an argument, where the body of U is closed
  beside_app : (t : Option ℕ) (A B C f g a : Tree) → loose C ≡ 0
      → ComesBeside t (pi A B) (pi A C) f g → ComesBeside t (opened B a) C (app f a) (app g a)
  beside_app t A B C f g a z h = record { itself = itself; other = other }
    where
      same_goes : (b : ℕ) → go_on (retyped (pi A C) (out g b)) (goes a) ≡ out (app g a) (suc b)
      same_goes b = ap (λ o. go_on o (goes a)) (sym (h.itself b)) ∙ sym (out_app g a b)

      itself : (b : ℕ) → out (app g a) b ≡ retyped C (out (app g a) b)
      itself zero = out-zero steps w (infer (app g a))
          ∙ sym (ap (retyped C) (out-zero steps w (infer (app g a))))
      itself (suc b) =
          sym (same_goes b) ∙ (goes_retyped A C C a (out g b)
          ∙ (ap (retyped (opened C a)) (same_goes b) ∙ ap (λ T. retyped T (out (app g a) (suc b)))
          (open_at-closed 0 a C (omega (arith, z)))))

      other : (b : ℕ) → out (app f a) b ≡ seen t (retyped (opened B a) (out (app g a) b))
      other zero = out-zero steps w (infer (app f a))
          ∙ sym (ap (λ o. seen t (retyped (opened B a) o)) (out-zero steps w (infer (app g a))))
      other (suc b) =
          out_app f a b ∙ (ap (λ o. go_on o (goes a)) (h.other b)
          ∙ (seen_goes t (retyped (pi A B) (out g b)) (goes a)
          ∙ ap (seen t) (goes_retyped A B C a (out g b) ∙ ap (retyped (opened B a)) (same_goes b))))

  -- from where no Pi was pushed they come to the same
  rest_beside : (t : Option ℕ) (f g : Tree) (xs : List Tree)
      → ((b : ℕ) → out f b ≡ seen t (out g b)) → (b : ℕ) → out (apply f xs) b
      ≡ seen t (out (apply g xs) b)
  rest_beside t f g [] h = h
  rest_beside t f g (a ∷ xs) h = rest_beside t (app f a) (app g a) xs both
    where
      both : (b : ℕ) → out (app f a) b ≡ seen t (out (app g a) b)
      both zero = out-zero steps w (infer (app f a))
          ∙ sym (ap (seen t) (out-zero steps w (infer (app g a))))
      both (suc b) =
          out_app f a b ∙ (ap (λ o. go_on o (goes a)) (h b) ∙ (seen_goes t (out g b) (goes a)
          ∙ ap (seen t) (sym (out_app g a b))))

  -- what Pis are opened to is closed, and so are the Pis over it
  pub over_closed : (T : Tree) (xs Ds : List Tree) (r : Tree) → loose T ≡ 0 → NoneLoose xs
      → OpensWith T xs Ds r → loose (pis_over Ds r) ≡ 0
  over_closed T [] [] r z n p = ap loose (sym p) ∙ z
  over_closed T (a ∷ xs) (A ∷ Ds) r z n (B, is, p) =
      let P : Tree → Type 0 = λ x. loose x ≡ 0 in
      let all : loose (pi A B) ≡ 0 = ap loose (sym is) ∙ z in
      let less = open_loose 0 a B (All-head P a xs n) (omega (arith, all)) in
      let more = over_closed (opened B a) xs Ds r (omega (arith, less)) (All-tail P a xs n) p in
      omega (arith, all, more)
  over_closed T [] (A ∷ Ds) r z n p = absurd p
  over_closed T (a ∷ xs) [] r z n p = absurd p

  all_beside : (t : Option ℕ) (T : Tree) (xs Ds more : List Tree) (r f g : Tree) → loose T ≡ 0
      → NoneLoose xs → OpensWith T xs Ds r → ComesBeside t T (pis_over Ds r) f g
      → (b : ℕ) → out (apply f (xs ++ more)) b ≡ seen t (out (apply g (xs ++ more)) b)
  all_beside t T [] [] more r f g z n p h =
      rest_beside t f g more (λ b. h.other b ∙ ap (seen t) (ap (λ U. retyped U (out g b)) p
      ∙ sym (h.itself b)))
  all_beside t T (a ∷ xs) (A ∷ Ds) more r f g z n (B, is, p) h =
      let P : Tree → Type 0 = λ x. loose x ≡ 0 in
      let all : loose (pi A B) ≡ 0 = ap loose (sym is) ∙ z in
      let less = open_loose 0 a B (All-head P a xs n) (omega (arith, all)) in
      let here : loose (opened B a) ≡ 0 = omega (arith, less) in
      let tail = All-tail P a xs n in
      all_beside t (opened B a) xs Ds more r (app f a) (app g a) here tail p
      (beside_app t A B (pis_over Ds r) f g a (over_closed (opened B a) xs Ds r here tail p)
      (rw is at h))
  all_beside t T [] (A ∷ Ds) more r f g z n p h = absurd p
  all_beside t T (a ∷ xs) [] more r f g z n p h = absurd p

  -- a Local in place of what has its type at once
  local_beside : (t : Option ℕ) (T U f : Tree) (k : ℕ) → HasTypeAtOnce w t f T
      → ComesBeside t T U f (local k U)
  local_beside t T U f k h = record { itself = itself; other = other }
    where
      itself : (b : ℕ) → out (local k U) b ≡ retyped U (out (local k U) b)
      itself zero = out-zero steps w (infer (local k U))
          ∙ sym (ap (retyped U) (out-zero steps w (infer (local k U))))
      itself (suc b) = out-suc steps w (infer (local k U)) b
          ∙ sym (ap (retyped U) (out-suc steps w (infer (local k U)) b))

      other : (b : ℕ) → out f b ≡ seen t (retyped T (out (local k U) b))
      other zero = out-zero steps w (infer f)
          ∙ sym (ap (λ o. seen t (retyped T o)) (out-zero steps w (infer (local k U))))
      other (suc b) =
          h b ∙ (ap (finished (a_tree T) b) (sym (later_none t))
          ∙ sym (ap (λ o. seen t (retyped T o)) (out-suc steps w (infer (local k U)) b)))

  -- Infer of both comes to the same, with t looked at beside
  pub spine_beside : (t : Option ℕ) (T : Tree) (xs Ds more : List Tree) (r f : Tree) (k : ℕ)
      → HasTypeAtOnce w t f T → loose T ≡ 0 → NoneLoose xs → OpensWith T xs Ds r
      → (b : ℕ) → out (apply f (xs ++ more)) b
      ≡ seen t (out (apply (local k (pis_over Ds r)) (xs ++ more)) b)
  spine_beside t T xs Ds more r f k h z n p =
      all_beside t T xs Ds more r f (local k (pis_over Ds r)) z n p (local_beside t T
      (pis_over Ds r) f k h)

  -- rows whose questions come to the same run alike, once that was looked at
  pub rows_beside : (t before : Option ℕ) (e d : Tree) → ((b : ℕ) → out e b ≡ seen t (out d b))
      → (b : ℕ) → run_steps (out_of steps w) (erased w a_tree (later before t) (infer_steps d)) b
      ≡ run_steps (out_of steps w) (erased w a_tree before (infer_steps e)) b
  rows_beside t before e d h b =
      run_from steps w a_tree (later before t) (infer_steps d) b
      ∙ (sym (seen_seen before t (runs (erased w a_tree None (infer_steps d)) b))
      ∙ (ap (λ o. seen before (seen t o)) (sym (out-suc steps w (infer d) b))
      ∙ (ap (seen before) (sym (h (suc b)) ∙ out-suc steps w (infer e) b)
      ∙ sym (run_from steps w a_tree before (infer_steps e) b))))
