-- A term is asked for in place of another one, and it runs as that does.
use Rattle.std.proofs.Common.{◌≡◌, ◌<◌, ℕ, Some, length, ap, subst, ◌∙◌}
use Rattle.std.specs.Prelude.{Result, Ok, Err, IfOk}
use Rattle.lk_rulebook.specs.Place.{Place}
use Rattle.lk_questions.specs.Erased.{a_tree, erased, run_steps, out_of}
use Rattle.lk_questions.specs.Infer.{infer_steps}
use Rattle.lk_questions.specs.Table.{steps}
use Rattle.lk_store.specs.declared.memory.NoMemory.{NoMemory}
use Rattle.lk_store.specs.Contents.{Contents, tree_at, Extends}
use Rattle.lk_store.proofs.Extending.{Extends-trans}
use Rattle.lk_ask.specs.declared.next.Next.{Next}
use Rattle.lk_ask.specs.declared.query.Query.TheVariants.{Infer}
use Rattle.lk_ask.specs.Looks.{Basis, Sight}
use Rattle.lk_chain.specs.Alike.{IsAlike}
use Rattle.lk_chain.specs.Spines.{RunsFor}
use Rattle.lk_engine.specs.Sheets.{AnySheet}
use Rattle.lk_engine.specs.Rests.{next_of, Does, Starts}

ok_on : {A E : Type 0} {P Q : A → Type 0} (r : Result A E) → ((v : A) → P v → Q v) → IfOk r P → IfOk r Q
ok_on (Ok v) f h = f v h
ok_on (Err e) f h = tt

module _ {S R B : Type 0} {contents : S → Contents} {rest : S → R} {sight : R → Sight B} where
  pub replaced_starts : {old mid new : S} {e : ℕ} (r : ℕ) (result : Result (Next ℕ (AnySheet ℕ)) NoMemory) → Extends (contents old) (contents mid) → rest mid ≡ rest old
      → ((w : Place) → IsAlike w (infer_steps (tree_at (contents mid) r)) (infer_steps (tree_at (contents old) e)))
      → Does contents rest sight mid new result a_tree (λ t. infer_steps (t r))
      → Starts contents rest sight old new result (Infer e)
  replaced_starts {old} {mid} {new} {e} r result grows stays alike h =
      let place = (sight (rest old)).basis.place in
      let last = (sight (rest old)).last in
      record {
        keeps = Extends-trans _ _ _ grows h.keeps;
        stays = h.stays ∙ ap (λ q. (sight q).basis) stays;
        known = h.known;
        runs = ok_on result (λ next told budget.
            ap (λ s. run_steps (out_of steps place) s budget) (subst (λ q. next_of (sight q).basis.place (tree_at (contents new)) (sight (rest new)).last next
            ≡ erased (sight q).basis.place a_tree (sight q).last (infer_steps (tree_at (contents mid) r))) stays told)
            ∙ (alike place).runs last budget) h.steps;
      }

  -- the term was made where the unit of what it was made for is looked at
  pub spine_starts : {old mid new : S} {e : ℕ} (r : ℕ) (result : Result (Next ℕ (AnySheet ℕ))
      NoMemory) → Extends (contents old) (contents mid)
      → (sight (rest mid)).basis ≡ (sight (rest old)).basis
      → RunsFor contents rest sight old mid e (Some r)
      → Does contents rest sight mid new result a_tree (λ t. infer_steps (t r))
      → Starts contents rest sight old new result (Infer e)
  spine_starts {old} {mid} {new} {e} r result grows stays runs h =
      let place = (sight (rest old)).basis.place in
      record {
        keeps = Extends-trans _ _ _ grows h.keeps;
        stays = h.stays ∙ stays;
        known = h.known;
        runs = ok_on result (λ next told budget.
            ap (λ s. run_steps (out_of steps place) s budget) (subst (λ (q : Basis B). next_of
            q.place (tree_at (contents new)) (sight (rest new)).last next
            ≡ erased q.place a_tree (sight (rest mid)).last (infer_steps (tree_at (contents mid)
            r))) stays told)
            ∙ runs.1 budget) h.steps;
      }

  -- no term was made
  pub plain_starts : {old mid new : S} {e : ℕ} (result : Result (Next ℕ (AnySheet ℕ)) NoMemory)
      → e < length (contents old).trees → Extends (contents old) (contents mid)
      → rest mid ≡ rest old → Does contents rest sight mid new result a_tree (λ t. infer_steps
      (t e))
      → Starts contents rest sight old new result (Infer e)
  plain_starts {old} {mid} {new} {e} result known grows stays h =
      replaced_starts e result grows stays (λ w. record {
        runs = λ t b. ap (λ x. run_steps (out_of steps w) (erased w a_tree t (infer_steps x)) b)
            (grows.trees.same e known);
      }) h
