-- Pis that are opened with Locals one after another.
use Rattle.std.proofs.Common.{◌≡◌, ℕ, Bool, true, false, List, [], ◌∷◌, refl, sym, ap, subst, ◌∙◌}
use Rattle.lk_tree.specs.Tree.{Tree}
use Rattle.lk_tree.specs.Bind.{opened}
use Rattle.lk_tree.specs.declared.rule.Rule.TheVariants.{BlockShape, ParameterDiffers}
use Rattle.lk_rulebook.specs.Place.{Place}
use Rattle.lk_questions.specs.Query.{Query, whnf, same}
use Rattle.lk_questions.specs.Program.{Program, done, asked, ◌>>=◌}
use Rattle.lk_questions.specs.Erased.{Out, out_of}
use Rattle.lk_questions.specs.Steps.{as_pi, given}
use Rattle.lk_inductive.specs.Block.{domain}
use Rattle.lk_inductive.specs.BlockSteps.{over}
use Rattle.lk_ask.specs.declared.stop.Stop.{Stop}
use Rattle.lk_ask.specs.Asking.{Standing}
use Rattle.lk_declaration.specs.Courses.{tree_then, truth_then, run_then, Passes, Goes, Halts}
use Rattle.lk_block.specs.Forms.{put_form, over_form}
use Rattle.lk_ask.specs.declared.stop.Stop.TheVariants.{No}
use Rattle.lk_declaration.proofs.Running.{go_on_same, answer_then_same, run_same, run_bind, passes_same, passes_on, stop_passes, halts_first, halts_later, ends_at}

module _ (answer : Query → ℕ → Out) (w : Place) where
  -- one Local is put in, and then the others
  pub over_one : (P : Tree) (ps : List Tree) (r : Tree) (b : ℕ) (k : Tree → ℕ → Out)
      → run_then answer w (over (P ∷ ps) r) b k ≡ run_then answer w (over_form P r) b (λ u left. run_then answer w (over ps u) left k)
  over_one P ps r b k =
      let next : Tree → ℕ → Out = λ u left. run_then answer w (over ps u) left k in
      let end : Tree × Tree → Bool → Program Tree = λ p equal. given equal ParameterDiffers (over ps (opened p.1 P)) in
      let own : Tree × Tree → Bool → Program Tree = λ p equal. given equal ParameterDiffers (done (opened p.1 P)) in
      let after : Tree × Tree → Program Tree = λ p. asked (same p.0 (domain P)) >>= end p in
      let made : Tree × Tree → Program Tree = λ p. put_form P p.0 p.1 in
      let one : (p : Tree × Tree) (left : ℕ) → run_then answer w (after p) left k ≡ run_then answer w (made p) left next = λ p left.
      go_on_same (answer (same p.0 (domain P)) left) (truth_then (λ equal rest. run_then answer w (end p equal) rest k)) (truth_then (λ equal rest. run_then answer w (own p equal) rest next))
      (answer_then_same (same p.0 (domain P)) (λ equal rest. run_then answer w (end p equal) rest k) (λ equal rest. run_then answer w (own p equal) rest next) (ending p)) in
      let form : (R : Tree) (left : ℕ) → run_then answer w (as_pi BlockShape R >>= after) left k ≡ run_then answer w (as_pi BlockShape R >>= made) left next =
      λ R left. run_bind answer w (as_pi BlockShape R) after left k
      ∙ run_same answer w (as_pi BlockShape R) left (λ p rest. run_then answer w (after p) rest k) (λ p rest. run_then answer w (made p) rest next) one
      ∙ sym (run_bind answer w (as_pi BlockShape R) made left next) in
      go_on_same (answer (whnf r) b) (tree_then (λ R left. run_then answer w (as_pi BlockShape R >>= after) left k)) (tree_then (λ R left. run_then answer w (as_pi BlockShape R >>= made) left next))
      (answer_then_same (whnf r) (λ R left. run_then answer w (as_pi BlockShape R >>= after) left k) (λ R left. run_then answer w (as_pi BlockShape R >>= made) left next) form)
    where
      ending : (p : Tree × Tree) (equal : Bool) (rest : ℕ) → run_then answer w (given equal ParameterDiffers (over ps (opened p.1 P))) rest k
          ≡ run_then answer w (given equal ParameterDiffers (done (opened p.1 P))) rest (λ u left. run_then answer w (over ps u) left k)
      ending p true rest = refl
      ending p false rest = refl

-- whatever comes next, the one is the other
pub record LeadsOver {Base : Type 0} (t : Standing Base) (ps : List Tree) (r : Tree) (b : ℕ) (qs : List Tree) (s : Tree) (c : ℕ) : Type 0 where
  pub on : (k : Tree → ℕ → Out) → Passes (run_then (out_of t.table t.place) t.place (over ps r) b k) (run_then (out_of t.table t.place) t.place (over qs s) c k)

module _ {Base : Type 0} (t u : Standing Base) (stays : u ≡ t) (ps : List Tree) (r : Tree) (b : ℕ) (qs : List Tree) (s : Tree) (c : ℕ) (so_far : LeadsOver t ps r b qs s c) where
  pub over_next : (P P' : Tree) (others : List Tree) (v : Tree) (d : ℕ) → qs ≡ P ∷ others → P' ≡ P → Goes u (over_form P' s) c v d → LeadsOver t ps r b others v d
  over_next P P' others v d one is goes =
      let here : Goes t (over_form P s) c v d = subst (λ Q. Goes t (over_form Q s) c v d) is (subst (λ y. Goes y (over_form P' s) c v d) stays goes) in
      record {
        on = λ k.
            passes_on _ _ _ (so_far.on k)
            (passes_on _ _ _ (passes_same _ _ (ap (λ y. run_then (out_of t.table t.place) t.place (over y s) c k) one ∙ over_one (out_of t.table t.place) t.place P others s c k))
            (here.on (λ y left. run_then (out_of t.table t.place) t.place (over others y) left k)));
      }

  pub over_halt : (P P' : Tree) (others : List Tree) (stop : Stop) → qs ≡ P ∷ others → P' ≡ P → Halts u (over_form P' s) c stop → Halts t (over ps r) b stop
  over_halt P P' others stop one is halts =
      let here : Halts t (over_form P s) c stop = subst (λ Q. Halts t (over_form Q s) c stop) is (subst (λ y. Halts y (over_form P' s) c stop) stays halts) in
      record {
        stops = λ k.
            stop_passes _ _ stop (passes_on _ _ _ (so_far.on k)
            (passes_same _ _ (ap (λ y. run_then (out_of t.table t.place) t.place (over y s) c k) one ∙ over_one (out_of t.table t.place) t.place P others s c k)))
            (here.stops (λ y left. run_then (out_of t.table t.place) t.place (over others y) left k));
      }

  pub over_end : qs ≡ [] → Goes t (over ps r) b s c
  over_end none = record { on = λ k. passes_on _ _ _ (so_far.on k) (passes_same _ _ (ap (λ y. run_then (out_of t.table t.place) t.place (over y s) c k) none)) }

module _ {Base : Type 0} (t : Standing Base) (P A B D : Tree) (b : ℕ) (is : D ≡ domain P) where
  pub put_stops : (stop : Stop) → Halts t (asked (same A D)) b stop → Halts t (put_form P A B) b stop
  put_stops stop h = halts_first t (asked (same A (domain P))) (λ equal. given equal ParameterDiffers (done (opened B P))) b stop (subst (λ E. Halts t (asked (same A E)) b stop) is h)

  pub put_differs : (r : Bool) (c : ℕ) → Goes t (asked (same A D)) b r c → r ≡ false → Halts t (put_form P A B) b (No ParameterDiffers)
  put_differs r c h differs =
      halts_later t t refl (asked (same A (domain P))) (λ equal. given equal ParameterDiffers (done (opened B P))) b c r (No ParameterDiffers) (subst (λ E. Goes t (asked (same A E)) b r c) is h)
      (rw differs (record { stops = λ k. refl }))

  pub put_goes : (r : Bool) (c d : ℕ) (z : Tree) → Goes t (asked (same A D)) b r c → r ≡ true → z ≡ opened B P → d ≡ c → Goes t (put_form P A B) b z d
  put_goes r c d z h agrees made left =
      ends_at t (asked (same A (domain P))) (λ equal. given equal ParameterDiffers (done (opened B P))) b c d r (opened B P) z (subst (λ E. Goes t (asked (same A E)) b r c) is h) (rw agrees refl) made left
