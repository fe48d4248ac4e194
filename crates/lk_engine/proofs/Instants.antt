-- Questions whose answer is at hand cost one step, or two.
use Rattle.std.proofs.Common.{◌≡◌, ◌⊎◌, inl, inr, ℕ, zero, suc, ◌-◌, ◌<◌, Option, None, Some, length, refl, ap, ◌∙◌, arith}
use Rattle.std.specs.Prelude.{IfSome, true, if◌then◌else◌}
use Rattle.lk_tree.specs.Tree.{tree_discrete, Tree, var, sort, const, app, lam, pi, let_in, proj, lit, wide, str, local}
use Rattle.lk_tree.specs.Spine.{head}
use Rattle.lk_rulebook.specs.Place.{Place}
use Rattle.lk_questions.specs.Query.{Query as Plain, core, whnf, infer, same}
use Rattle.lk_questions.specs.Erased.{Value, a_tree, truth, gives, erased, Out, finished, used_up, seen, go_on, with_tree, run_steps, out_of, steps_of, IsAnsweredAt}
use Rattle.lk_questions.proofs.Erasing.{out-step, out-none}
use Rattle.lk_questions.specs.Program.{done}
use Rattle.lk_rulebook.specs.SameTree.{decided, is_same_tree}
use Rattle.lk_questions.specs.Core.{whnf_headed}
use Rattle.lk_questions.specs.Same.{by_shape}
use Rattle.lk_questions.specs.Table.{steps}
use Rattle.lk_store.specs.Contents.{Contents, tree_at}
use Rattle.lk_ask.specs.declared.kept.Kept.{Kept}
use Rattle.lk_ask.specs.declared.query.Query.TheVariants.{Core, Whnf, Infer, Same}
use Rattle.lk_ask.specs.declared.query.Answer.TheVariants.{Term, Truth}
use Rattle.lk_engine.specs.Entries.{IsTrueAt}
use Rattle.lk_engine.specs.Instants.{IsForm, IsTypeOf}

module _ (w : Place) where
  -- its row gives the value, and asks nothing
  one_step : (q : Plain) (v : Value) → steps_of steps w q ≡ gives None v → IsAnsweredAt (out_of steps w q) v 1 None
  one_step q v h = record {
    some = omega arith;
    enough = λ b l. out-step steps w q b (omega (arith, l)) ∙ ap (λ s. run_steps (out_of steps w) s (b - 1)) h;
    too_little = λ b l. out-none steps w q b (omega (arith, l));
  }

  core_gives : (e : Tree) → IsForm e → steps_of steps w (core e) ≡ gives None (a_tree e)
  core_gives (const c ls) f = absurd f
  core_gives (app g a) f = absurd f
  core_gives (let_in A v b) f = absurd f
  core_gives (proj S i s) f = absurd f
  core_gives (var i) f = refl
  core_gives (sort l) f = refl
  core_gives (lam A b) f = refl
  core_gives (pi A b) f = refl
  core_gives (lit n) f = refl
  core_gives wide f = refl
  core_gives (str s) f = refl
  core_gives (local k T) f = refl

  end_gives : (e : Tree) → IsForm e → erased w a_tree None (whnf_headed e (head e)) ≡ gives None (a_tree e)
  unfolding head
  end_gives (const c ls) f = absurd f
  end_gives (app g a) f = absurd f
  end_gives (let_in A v b) f = absurd f
  end_gives (proj S i s) f = absurd f
  end_gives (var i) f = refl
  end_gives (sort l) f = refl
  end_gives (lam A b) f = refl
  end_gives (pi A b) f = refl
  end_gives (lit n) f = refl
  end_gives wide f = refl
  end_gives (str s) f = refl
  end_gives (local k T) f = refl

  core_form : (e : Tree) → IsForm e → IsAnsweredAt (out_of steps w (core e)) (a_tree e) 1 None
  core_form e f = one_step (core e) (a_tree e) (core_gives e f)

  -- what is left to do once the core is there
  abbrev end : Value → ℕ → Out
  end v rest = run_steps (out_of steps w) (with_tree (λ c. erased w a_tree None (whnf_headed c (head c))) v) rest

  whnf_asks : (e : Tree) (b : ℕ) → 0 < b → out_of steps w (whnf e) b ≡ seen None (go_on (out_of steps w (core e) (b - 1)) end)
  whnf_asks e b l = out-step steps w (whnf e) b l

  whnf_form : (e : Tree) → IsForm e → IsAnsweredAt (out_of steps w (whnf e)) (a_tree e) 2 None
  whnf_form e f = record {
    some = omega arith;
    enough = λ b l.
        whnf_asks e b (omega (arith, l))
        ∙ ap (λ o. seen None (go_on o end)) ((core_form e f).enough (b - 1) (omega (arith, l)))
        ∙ ap (λ s. seen None (seen None (run_steps (out_of steps w) s (b - 1 - 1)))) (end_gives e f)
        ∙ ap (λ n. finished (a_tree e) n None) (let i : b - 1 - 1 ≡ b - 2 = omega arith in i);
    too_little = λ b l. go b l;
  }
    where
      go : (b : ℕ) → b < 2 → out_of steps w (whnf e) b ≡ used_up
      go b l = elim (zero_or b) [
        | inl z ↦ out-none steps w (whnf e) b z
        | inr p ↦ whnf_asks e b p
            ∙ ap (λ o. seen None (go_on o end)) ((core_form e f).too_little (b - 1) (omega (arith, l)))
      ]
        where
          zero_or : (b : ℕ) → (b ≡ 0) ⊎ (0 < b)
          zero_or zero = inl refl
          zero_or (suc n) = inr (omega arith)

  one_tree : (a b : Tree) → a ≡ b → IsAnsweredAt (out_of steps w (same a b)) (truth true) 1 None
  one_tree a b e = one_step (same a b) (truth true) (ap (λ q. erased w truth None (if q then done true else by_shape a b)) (is_one a b e))
    where
      is_one : (a b : Tree) → a ≡ b → is_same_tree a b ≡ true
      is_one a b e = go (tree_discrete a b)
        where
          go : (d : Dec (a ≡ b)) → decided d ≡ true
          go (yes p) = refl
          go (no q) = absurd (q e)

  local_type : (e T : Tree) (k : ℕ) → e ≡ local k T → IsAnsweredAt (out_of steps w (infer e)) (a_tree T) 1 None
  local_type e T k h = rw h (one_step (infer (local k T)) (a_tree T) refl)

pub same_true : (w : Place) (c : Contents) (a b : ℕ) → a < length c.trees → b < length c.trees
    → (k : Option Kept) → IfSome k (λ x. tree_at c a ≡ tree_at c b)
    → IfSome k (λ x. x ≡ record { answer = Truth true; cost = 1; top = None })
    → IfSome k (IsTrueAt w c (Same a b))
same_true w c a b l m (Some k) e is = rw is (record { query = (l, m); answer = tt; is = one_tree w (tree_at c a) (tree_at c b) e })
same_true w c a b l m None e is = tt

module _ (w : Place) (c : Contents) (e : ℕ) (known : e < length c.trees) where
  pub core_true : (k : Option Kept) → IfSome k (λ x. IsForm (tree_at c e)) → IfSome k (λ x. x ≡ record { answer = Term e; cost = 1; top = None }) → IfSome k (IsTrueAt w c (Core e))
  core_true (Some k) f is = rw is (record { query = known; answer = known; is = core_form w (tree_at c e) f })
  core_true None f is = tt

  pub whnf_true : (k : Option Kept) → IfSome k (λ x. IsForm (tree_at c e)) → IfSome k (λ x. x ≡ record { answer = Term e; cost = 2; top = None }) → IfSome k (IsTrueAt w c (Whnf e))
  whnf_true (Some k) f is = rw is (record { query = known; answer = known; is = whnf_form w (tree_at c e) f })
  whnf_true None f is = tt

  pub infer_true : (k : Option Kept) → IfSome k (IsTypeOf c e) → IfSome k (IsTrueAt w c (Infer e))
  infer_true (Some k) h = rw h.answer (record { query = known; answer = h.known; is = local_type w (tree_at c e) (tree_at c h.type) h.number h.is_local })
  infer_true None h = tt
