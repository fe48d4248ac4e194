-- A question waits for what it asks, and one that waits for itself is neither answered nor refused. It holds of every table.
use Rattle.std.proofs.Common.{ℕ, zero, suc, ◌≡◌, ◌<◌, ◌≤◌, ◌-◌, ◌⊎◌, inl, inr, Option, ap, sym, ◌∙◌, arith}
use Rattle.lk_rulebook.specs.Place.{Place}
use Rattle.lk_questions.specs.Query.{Query}
use Rattle.lk_questions.specs.Program.{Table}
use Rattle.lk_questions.specs.Erased.{Value, Steps, asks, gives, Out, finished, stopped, used_up, seen, go_on, run_steps, out_of, steps_of, IsAnsweredAt}
use Rattle.lk_questions.proofs.Erasing.{out-zero, out-suc}
use Rattle.lk_engine.specs.Waiting.{WaitsFor}

pub waits_on : {f g h : ℕ → Out} → WaitsFor f g → WaitsFor g h → WaitsFor f h
waits_on p q b n = p b (λ c l. q c (λ d m. n d (omega arith)))

-- what runs alike is waited for alike
pub waits_same : {f g h : ℕ → Out} → WaitsFor f g → ((b : ℕ) → h b ≡ g b) → WaitsFor f h
waits_same p e b n = p b (λ c l. sym (e c) ∙ n c l)

-- what waits for itself, by induction on the budget
pub waits_for_itself : {f : ℕ → Out} → WaitsFor f f → (b : ℕ) → f b ≡ used_up
waits_for_itself {f} p b = p b (below b)
  where
    below : (n : ℕ) → (less : ℕ) → less < n → f less ≡ used_up
    below zero less l = absurd (omega arith)
    below (suc n) less l = p less (λ c m. below n c (omega arith))

-- units that were looked at make no difference
pub waits_unseen : {f g h : ℕ → Out} (t : Option ℕ) → WaitsFor f g → ((b : ℕ) → h b ≡ seen t (g b)) → WaitsFor f h
waits_unseen {f} {g} {h} t p e b n = p b (λ c l. unseen (g c) (let x = e c in let y = n c l in let z : seen t (g c) ≡ used_up = cc in z))
  where
    unseen : (o : Out) → seen t o ≡ used_up → o ≡ used_up
    unseen (finished v left u) z = absurd cc
    unseen (stopped r) z = absurd cc
    unseen used_up z = cc

module _ (table : Table) (w : Place) where
  -- a question costs a step before its row begins
  pub waits_begins : (q : Query) → WaitsFor (out_of table w q) (run_steps (out_of table w) (steps_of table w q))
  waits_begins q zero n = out-zero table w q
  waits_begins q (suc b) n = out-suc table w q b ∙ n b (omega arith)

  -- an answer is no wait
  pub waits_given : (q : Query) (t : Option ℕ) (v : Value) → WaitsFor (out_of table w q) (run_steps (out_of table w) (gives t v))
  waits_given q t v zero n = out-zero table w q
  waits_given q t v (suc b) n = let e : finished v 0 t ≡ used_up = n 0 (omega arith) in absurd cc

  -- what asks r waits for r
  pub waits_asks : {f : ℕ → Out} (t : Option ℕ) (r : Query) (k : Value → Steps) → WaitsFor f (run_steps (out_of table w) (asks t r k)) → WaitsFor f (out_of table w r)
  waits_asks t r k p b n = p b (λ c l. ap (λ o. seen t (go_on o (λ v rest. run_steps (out_of table w) (k v) rest))) (n c l))

  -- where r has an answer, what asked it waits for what goes on with that
  pub waits_goes : {f : ℕ → Out} (t : Option ℕ) (r : Query) (k : Value → Steps) (v : Value) (cost : ℕ) (top : Option ℕ) → IsAnsweredAt (out_of table w r) v cost top
      → WaitsFor f (run_steps (out_of table w) (asks t r k)) → WaitsFor f (run_steps (out_of table w) (k v))
  waits_goes t r k v cost top a p b n = p b (λ c l. elim (less_or_not c cost) [
    | inl few ↦ ap behind (a.too_little c few)
    | inr enough ↦ ap behind (a.enough c enough) ∙ ap (λ o. seen t (seen top o)) (n (c - cost) (omega (arith, a.some)))
  ])
    where
      behind : Out → Out
      behind o = seen t (go_on o (λ v rest. run_steps (out_of table w) (k v) rest))

      less_or_not : (a b : ℕ) → (a < b) ⊎ (b ≤ a)
      less_or_not a b = grind arith
