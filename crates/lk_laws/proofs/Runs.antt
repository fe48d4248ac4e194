-- The run of a program that asks nothing.
use Rattle.std.proofs.Common.{◌≡◌, ℕ, Option, Some, None, refl, ap, sym, subst}
use Rattle.std.specs.Prelude.{Result, Ok, Err}
use Rattle.lk_tree.specs.declared.rule.Rule.{Rule}
use Rattle.lk_rulebook.specs.Place.{Place, Entry}
use Rattle.lk_questions.specs.Query.{Query}
use Rattle.lk_questions.specs.Answer.{later}
use Rattle.lk_questions.specs.Program.{Program, done, refuse, ask, look}
use Rattle.lk_questions.specs.Erased.{Out, stopped, seen, out_of}
use Rattle.lk_questions.specs.Settled.{comes, fails, settle_look, settle}
use Rattle.lk_ask.specs.declared.stop.Stop.{Stop}
use Rattle.lk_ask.specs.declared.stop.Stop.TheVariants.{No, Spent, NoMemory}
use Rattle.lk_ask.specs.Asking.{Standing}
use Rattle.lk_declaration.specs.Courses.{look_then, run_then, Passes, Goes, Halts, ComesTo}
use Rattle.lk_declaration.proofs.Running.{passes_same, passes_on, halts_nowhere}
use Rattle.lk_quot.specs.Units.{IsMet}

module _ {A : Type 0} (answer : Query → ℕ → Out) (w : Place) (b : ℕ) (k : A → ℕ → Out) where
  run_comes : (t last : Option ℕ) (v : A) (p : Program A) → settle w t p ≡ comes last v
      → Passes (run_then answer w p b k) (k v b)
  run_comes t last v (done x) h = let e : x ≡ v = cc in passes_same _ _ (ap (λ y. k y b) e)
  run_comes t last v (refuse r) h = absurd (cc)
  run_comes t last v (ask q f) h = absurd (cc)
  run_comes t last v (look r c f) h =
      at_entry (w.means c) (λ e. run_comes next last v (f e)) h
    where
      next : Option ℕ
      next = later t (Some (w.origin c))

      at_entry : (o : Option Entry) → ((e : Entry) → settle w next (f e) ≡ comes last v
          → Passes (run_then answer w (f e) b k) (k v b))
          → settle_look r t o (w.origin c) (w.flaw c) (λ x e. settle w x (f e)) ≡ comes last v
          → Passes (look_then r o (w.origin c) (w.flaw c) (λ e. run_then answer w (f e) b k))
          (k v b)
      at_entry None ih i = absurd (cc)
      at_entry (Some e) ih i = passes_on _ _ _ (Some (w.origin c), refl) (ih e i)

  run_fails : (t : Option ℕ) (rule : Rule) (p : Program A) → settle w t p ≡ fails rule
      → run_then answer w p b k ≡ stopped rule
  run_fails t rule (done x) h = absurd (cc)
  run_fails t rule (refuse r) h = cc
  run_fails t rule (ask q f) h = absurd (cc)
  run_fails t rule (look r c f) h =
      at_entry (w.means c) (λ e. run_fails next rule (f e)) h
    where
      next : Option ℕ
      next = later t (Some (w.origin c))

      at_entry : (o : Option Entry) → ((e : Entry) → settle w next (f e) ≡ fails rule
          → run_then answer w (f e) b k ≡ stopped rule)
          → settle_look r t o (w.origin c) (w.flaw c) (λ x e. settle w x (f e)) ≡ fails rule
          → look_then r o (w.origin c) (w.flaw c) (λ e. run_then answer w (f e) b k) ≡ stopped rule
      at_entry None ih i = cc
      at_entry (Some e) ih i = ap (seen (Some (w.origin c))) (ih e i)

module _ {Base : Type 0} (s : Standing Base) (p : Program (Unit {0})) (b : ℕ) where
  -- it is met, and what comes next goes on with as much as was left
  pub goes : (u : Unit {0}) (left : ℕ) → left ≡ b → IsMet (settle s.place None p) (Ok u)
      → Goes s p b tt left
  goes u left kept h = subst (λ n. Goes s p b tt n) (sym kept) (record {
    on = λ k. run_comes (out_of s.table s.place) s.place b k None h.0 tt p h.1;
  })

  -- it is refused, whatever comes next
  pub halts : (stop : Stop) → IsMet (settle s.place None p) (Err stop) → Halts s p b stop
  halts (No r) h = record {
    stops = λ k. run_fails (out_of s.table s.place) s.place b k None r p h;
  }
  halts Spent h = absurd h
  halts NoMemory h = halts_nowhere s p b

  -- it comes to what the result says, and so much is left as was left before
  pub met_comes : (left : ℕ) (r : Result (Unit {0}) Stop) → left ≡ b
      → IsMet (settle s.place None p) r → ComesTo s p b (λ u. u) left r
  met_comes left (Ok u) kept h = goes u left kept h
  met_comes left (Err stop) kept h = halts stop h
