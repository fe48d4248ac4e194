-- Programs that lead to what is left of them, part by part.
use Rattle.std.proofs.Common.{◌≡◌, ◌∙◌, ℕ, refl, ap, subst}
use Rattle.lk_rulebook.specs.Place.{Place}
use Rattle.lk_questions.specs.Query.{Query}
use Rattle.lk_questions.specs.Program.{Program, done, ◌>>=◌}
use Rattle.lk_questions.specs.Erased.{Out, out_of}
use Rattle.lk_ask.specs.declared.stop.Stop.{Stop}
use Rattle.lk_ask.specs.Asking.{Standing}
use Rattle.lk_declaration.specs.Courses.{run_then, Passes, Goes, Halts}
use Rattle.lk_declaration.proofs.Running.{run_bind, passes_same, passes_on, stop_passes}

-- whatever comes next, the one is the other
pub record Leads {A Base : Type 0} (t : Standing Base) (p : Program A) (b : ℕ) (q : Program A) (c : ℕ) : Type 0 where
  pub on : (k : A → ℕ → Out) → Passes (run_then (out_of t.table t.place) t.place p b k) (run_then (out_of t.table t.place) t.place q c k)

-- the run of q is that of p, and then of what its value leads to
pub record Splits {A B : Type 0} (q : Program B) (p : Program A) (f : A → Program B) : Type 0 where
  pub run : (answer : Query → ℕ → Out) (w : Place) (b : ℕ) (k : B → ℕ → Out) → run_then answer w q b k ≡ run_then answer w p b (λ v left. run_then answer w (f v) left k)

pub split_bind : {A B : Type 0} (q : Program B) (p : Program A) (f : A → Program B) → q ≡ (p >>= f) → Splits q p f
split_bind q p f is = record { run = λ answer w b k. ap (λ y. run_then answer w y b k) is ∙ run_bind answer w p f b k }

pub leads_here : {A Base : Type 0} (t : Standing Base) (p : Program A) (b : ℕ) → Leads t p b p b
leads_here t p b = record { on = λ k. passes_same _ _ refl }

pub leads_end : {A Base : Type 0} (t : Standing Base) (p : Program A) (b : ℕ) (q : Program A) (c : ℕ) (v : A) → Leads t p b q c → q ≡ done v → Goes t p b v c
leads_end t p b q c v so_far is = record { on = λ k. passes_on _ _ _ (so_far.on k) (passes_same _ _ (ap (λ r. run_then (out_of t.table t.place) t.place r c k) is)) }

module _ {A B Base : Type 0} (t u : Standing Base) (stays : u ≡ t) (p : Program B) (b : ℕ) (q : Program B) (c : ℕ) (so_far : Leads t p b q c)
    (first : Program A) (f : A → Program B) (split : Splits q first f) where
  -- the first part gives a value, and so much is left of the program
  pub leads_on : (v : A) (d : ℕ) (r : Program B) → Goes u first c v d → f v ≡ r → Leads t p b r d
  leads_on v d r goes is =
      let here : Goes t first c v d = subst (λ y. Goes y first c v d) stays goes in
      record {
        on = λ k.
            passes_on _ _ _ (so_far.on k)
            (passes_on _ _ _ (passes_same _ _ (split.run (out_of t.table t.place) t.place c k))
            (passes_on _ _ _ (here.on (λ y left. run_then (out_of t.table t.place) t.place (f y) left k))
            (passes_same _ _ (ap (λ s. run_then (out_of t.table t.place) t.place s d k) is))));
      }

  -- the first part stops
  pub leads_stop : (stop : Stop) → Halts u first c stop → Halts t p b stop
  leads_stop stop halts =
      let here : Halts t first c stop = subst (λ y. Halts y first c stop) stays halts in
      record {
        stops = λ k.
            stop_passes _ _ stop (passes_on _ _ _ (so_far.on k) (passes_same _ _ (split.run (out_of t.table t.place) t.place c k)))
            (here.stops (λ y left. run_then (out_of t.table t.place) t.place (f y) left k));
      }
