-- Runs and steps of what stands around a program that asks nothing, once it comes to its value.
use Rattle.std.proofs.Common.{ℕ, ◌≡◌, Bool, Option, Some, refl, subst, ap, ◌∙◌}
use Rattle.lk_tree.specs.Tree.{Name}
use Rattle.lk_tree.specs.declared.rule.Rule.{Rule}
use Rattle.lk_rulebook.specs.Place.{Place, Entry}
use Rattle.lk_questions.specs.Answer.{later}
use Rattle.lk_questions.specs.Program.{Program, done, refuse, ask, look, ◌>>=◌}
use Rattle.lk_questions.specs.Erased.{truth, erased}
use Rattle.lk_questions.specs.Sound.{IsSound}
use Rattle.lk_questions.specs.Tests.{found}
use Rattle.lk_table_sound.proofs.Soundness.{IsQuiet}
use Rattle.lk_step.specs.Runs.{Runs}
use Rattle.lk_step.proofs.Quiet.{found_next}

-- what is behind a program does not matter
pub quiet_first : {A B : Type 0} (p : Program A) (k : A → Program B) → IsQuiet (p >>= k) → IsQuiet p
quiet_first (done v) k h = tt
quiet_first (refuse r) k h = tt
quiet_first (ask q f) k h = absurd h
quiet_first (look r c f) k h = λ e. quiet_first (f e) k (h e)

-- K stands around p, which came to a value: look-ups and refusals go through it
pub record Reached {A : Type 0} (w : Place) (K : Program A → Program Bool) (P : A → Type 0) (p : Program A) (v : Bool) (n : ℕ) (last : Option ℕ) : Type 0 where
  pub value : A
  pub found_is : found w p ≡ Some value
  pub holds : P value
  pub runs : Runs w (K (done value)) v n
  pub next : Option ℕ
  pub same : erased w truth last (K p) ≡ erased w truth next (K (done value))

module _ {A : Type 0} (w : Place) (K : Program A → Program Bool) (P : A → Type 0)
    (looks : (r : Rule) (c : Name) (k : Entry → Program A) → K (look r c k) ≡ look r c (λ e. K (k e)))
    (refuses : (r : Rule) → K (refuse r) ≡ refuse r) where
  pub reach : (p : Program A) (v : Bool) (n : ℕ) (last : Option ℕ) → IsQuiet p → IsSound w p P → Runs w (K p) v n → Reached w K P p v n last
  reach (done x) v n last q s h = record { value = x; found_is = refl; holds = s; runs = h; next = last; same = refl }
  reach (refuse r) v n last q s h = absurd (subst (λ z. Runs w z v n) (refuses r) h)
  reach (ask x f) v n last q s h = absurd q
  reach (look r c f) v n last q s h =
      let g : Runs w (look r c (λ e. K (f e))) v n = subst (λ z. Runs w z v n) (looks r c f) h in
      let i : Reached w K P (f g.0) v n (later last (Some (w.origin c))) = reach (f g.0) v n (later last (Some (w.origin c))) (q g.0) (s g.0 g.1) g.2 in
      record {
        value = i.value;
        found_is = rw g.1 i.found_is;
        holds = i.holds;
        runs = i.runs;
        next = i.next;
        same = ap (λ z. erased w truth last z) (looks r c f) ∙ (found_next w r last c (w.means c) g.0 (λ u e. erased w truth u (K (f e))) g.1 ∙ i.same);
      }
