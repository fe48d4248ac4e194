-- What a program that asks nothing finds, and what its run gives.
use Rattle.std.proofs.Common.{◌≡◌, ℕ, Bool, true, false, Option, None, Some, Ok, Err, Result, refl, sym, ap}
use Rattle.lk_tree.specs.declared.rule.Rule.{Rule}
use Rattle.lk_rulebook.specs.Place.{Place, Entry}
use Rattle.lk_questions.specs.Query.{Query}
use Rattle.lk_questions.specs.Program.{Program, done, refuse, ask, look}
use Rattle.lk_questions.specs.Answer.{refusal}
use Rattle.lk_questions.specs.Erased.{Out, stopped, seen, out_of}
use Rattle.lk_inductive.specs.Nested.{either_holds}
use Rattle.lk_ask.specs.declared.stop.Stop.{Stop}
use Rattle.lk_ask.specs.declared.stop.Stop.TheVariants.{No, Spent, NoMemory}
use Rattle.lk_ask.specs.Asking.{Standing}
use Rattle.lk_declaration.specs.Courses.{look_then, run_then, Passes, ComesTo}
use Rattle.lk_nested.specs.Findings.{Finding, found, refused, looked, finding, then_held, Finds}
use Rattle.lk_declaration.proofs.Running.{passes_same, passes_on, halts_nowhere}

found_same : {A : Type 0} (x y : A) → found x ≡ found y → x ≡ y
found_same x y h = cc

looked_then : {A B : Type 0} (m : Finding A → Finding B) (o : Option Entry) (flaw : Option Rule) (r : Rule) (k : Entry → Finding A) (l : Entry → Finding B)
    → ((s : Rule) → m (refused s) ≡ refused s) → ((e : Entry) → m (k e) ≡ l e) → m (looked o flaw r k) ≡ looked o flaw r l
looked_then m None flaw r k l refuses same = refuses (refusal r flaw)
looked_then m (Some e) flaw r k l refuses same = same e

-- the one or the other
pub either_found : (w : Place) (p q : Program Bool) → finding w (either_holds p q) ≡ then_held (finding w p) (finding w q)
either_found w (done true) q = refl
either_found w (done false) q = refl
either_found w (refuse r) q = refl
either_found w (ask s f) q = refl
either_found w (look r c f) q =
    sym (looked_then (λ x. then_held x (finding w q)) (w.means c) (w.flaw c) r (λ e. finding w (f e)) (λ e. finding w (either_holds (f e) q)) (λ s. refl) (λ e. sym (either_found w (f e) q)))

module _ {A : Type 0} (answer : Query → ℕ → Out) (w : Place) where
  look_passes : (r : Rule) (o : Option Entry) (unit : ℕ) (flaw : Option Rule) (g : Entry → Finding A) (k : Entry → Out) (v : A) (out : Out)
      → ((e : Entry) → g e ≡ found v → Passes (k e) out) → looked o flaw r g ≡ found v → Passes (look_then r o unit flaw k) out
  look_passes r None unit flaw g k v out next h = absurd cc
  look_passes r (Some e) unit flaw g k v out next h = passes_on _ _ _ (Some unit, refl) (next e h)

  found_passes : (p : Program A) (v : A) (b : ℕ) (k : A → ℕ → Out) → finding w p ≡ found v → Passes (run_then answer w p b k) (k v b)
  found_passes (done u) v b k h = passes_same _ _ (ap (λ y. k y b) (found_same u v h))
  found_passes (refuse r) v b k h = absurd cc
  found_passes (ask s f) v b k h = absurd cc
  found_passes (look r c f) v b k h =
      look_passes r (w.means c) (w.origin c) (w.flaw c) (λ e. finding w (f e)) (λ e. run_then answer w (f e) b k) v (k v b) (λ e i. found_passes (f e) v b k i) h

  look_stops : (r s : Rule) (o : Option Entry) (unit : ℕ) (flaw : Option Rule) (g : Entry → Finding A) (k : Entry → Out)
      → ((e : Entry) → g e ≡ refused s → k e ≡ stopped s) → looked o flaw r g ≡ refused s → look_then r o unit flaw k ≡ stopped s
  look_stops r s None unit flaw g k next h = let same : refusal r flaw ≡ s = cc in ap stopped same
  look_stops r s (Some e) unit flaw g k next h = ap (seen (Some unit)) (next e h)

  refused_stops : (p : Program A) (s : Rule) (b : ℕ) (k : A → ℕ → Out) → finding w p ≡ refused s → run_then answer w p b k ≡ stopped s
  refused_stops (done u) s b k h = absurd cc
  refused_stops (refuse r) s b k h = let same : r ≡ s = cc in ap stopped same
  refused_stops (ask q f) s b k h = absurd cc
  refused_stops (look r c f) s b k h =
      look_stops r s (w.means c) (w.origin c) (w.flaw c) (λ e. finding w (f e)) (λ e. run_then answer w (f e) b k) (λ e i. refused_stops (f e) s b k i) h

-- its run costs nothing
pub finds_gives : {A X Base : Type 0} (t : Standing Base) (p : Program A) (b : ℕ) (value : X → A) (r : Result X Stop) → Finds (finding t.place p) value r → ComesTo t p b value b r
finds_gives t p b value (Ok x) h = record { on = λ k. found_passes (out_of t.table t.place) t.place p (value x) b k h }
finds_gives t p b value (Err (No r)) h = record { stops = λ k. refused_stops (out_of t.table t.place) t.place p r b k h }
finds_gives t p b value (Err Spent) h = absurd h
finds_gives t p b value (Err NoMemory) h = halts_nowhere t p b
