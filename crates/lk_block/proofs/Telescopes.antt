-- A telescope that leads on, Local by Local.
use Rattle.std.proofs.Common.{◌≡◌, ℕ, suc, List, [], ◌∷◌, ◌++◌, refl, sym, ap, subst, ◌∙◌, append_assoc}
use Rattle.std.proofs.lemmas.List.{append-nil}
use Rattle.lk_tree.specs.Tree.{Tree, local}
use Rattle.lk_tree.specs.Bind.{opened}
use Rattle.lk_tree.specs.declared.rule.Rule.TheVariants.{BlockShape}
use Rattle.lk_rulebook.specs.Place.{Place}
use Rattle.lk_questions.specs.Query.{Query, whnf}
use Rattle.lk_questions.specs.Program.{Program, done, ◌>>=◌}
use Rattle.lk_questions.specs.Erased.{Out, out_of}
use Rattle.lk_questions.specs.Steps.{as_pi}
use Rattle.lk_inductive.specs.BlockSteps.{telescope}
use Rattle.lk_ask.specs.declared.stop.Stop.{Stop}
use Rattle.lk_ask.specs.Asking.{Standing}
use Rattle.lk_declaration.specs.Courses.{tree_then, run_then, Passes, Goes, Halts}
use Rattle.lk_block.specs.Forms.{pi_form, local_form}
use Rattle.lk_declaration.proofs.Running.{go_on_same, answer_then_same, run_same, run_bind, passes_same, passes_on, stop_passes, goes_on, goes_done}

-- a Pi's Local, once its parts are known
pub local_goes : {Base : Type 0} (t : Standing Base) (j : ℕ) (r A B L u : Tree) (b c d : ℕ) → Goes t (pi_form r) b (A, B) c → d ≡ c → L ≡ local j A → u ≡ opened B (local j A) → Goes t (local_form j r) b (L, u) d
local_goes t j r A B L u b c d first same is rest =
    subst (λ n. Goes t (local_form j r) b (L, u) n) (sym same)
    (goes_on t t refl (pi_form r) (λ p. done (local j p.0, opened p.1 (local j p.0))) b c c (A, B) (L, u) first (goes_done t (local j A, opened B (local j A)) (L, u) c (rw (is, rest) refl)))

module _ (answer : Query → ℕ → Out) (w : Place) where
  -- one Pi is opened, and then the others
  pub telescope_one : (j n : ℕ) (r : Tree) (b : ℕ) (k : List Tree × Tree → ℕ → Out)
      → run_then answer w (telescope j (suc n) r) b k ≡ run_then answer w (local_form j r) b (λ p left. run_then answer w (telescope (suc j) n p.1) left (λ x rest. k (p.0 ∷ x.0, x.1) rest))
  telescope_one j n r b k =
      let next : Tree × Tree → ℕ → Out = λ p left. run_then answer w (telescope (suc j) n p.1) left (λ x rest. k (p.0 ∷ x.0, x.1) rest) in
      let after : Tree × Tree → Program (List Tree × Tree) = λ p. telescope (suc j) n (opened p.1 (local j p.0)) >>= λ x. done (local j p.0 ∷ x.0, x.1) in
      let made : Tree × Tree → Program (Tree × Tree) = λ p. done (local j p.0, opened p.1 (local j p.0)) in
      let one : (p : Tree × Tree) (left : ℕ) → run_then answer w (after p) left k ≡ run_then answer w (made p) left next = λ p left. run_bind answer w (telescope (suc j) n (opened p.1 (local j p.0))) (λ x. done (local j p.0 ∷ x.0, x.1)) left k in
      let form : (R : Tree) (left : ℕ) → run_then answer w (as_pi BlockShape R >>= after) left k ≡ run_then answer w (as_pi BlockShape R >>= made) left next =
      λ R left. run_bind answer w (as_pi BlockShape R) after left k
      ∙ run_same answer w (as_pi BlockShape R) left (λ p rest. run_then answer w (after p) rest k) (λ p rest. run_then answer w (made p) rest next) one
      ∙ sym (run_bind answer w (as_pi BlockShape R) made left next) in
      go_on_same (answer (whnf r) b) (tree_then (λ R left. run_then answer w (as_pi BlockShape R >>= after) left k)) (tree_then (λ R left. run_then answer w (as_pi BlockShape R >>= made) left next))
      (answer_then_same (whnf r) (λ R left. run_then answer w (as_pi BlockShape R >>= after) left k) (λ R left. run_then answer w (as_pi BlockShape R >>= made) left next) form)

-- whatever comes next, the telescope of n Pis from number j on is, after these Locals, that of m Pis from number i on
pub record LeadsOn {Base : Type 0} (t : Standing Base) (j n : ℕ) (r : Tree) (b : ℕ) (ps : List Tree) (i m : ℕ) (s : Tree) (c : ℕ) : Type 0 where
  pub on : (k : List Tree × Tree → ℕ → Out) → Passes (run_then (out_of t.table t.place) t.place (telescope j n r) b k) (run_then (out_of t.table t.place) t.place (telescope i m s) c (λ x left. k (ps ++ x.0, x.1) left))

pub leads_first : {Base : Type 0} (t : Standing Base) (j n : ℕ) (r : Tree) (b : ℕ) → LeadsOn t j n r b [] j n r b
leads_first t j n r b = record { on = λ k. passes_same _ _ refl }

module _ {Base : Type 0} (t u : Standing Base) (stays : u ≡ t) (j n : ℕ) (r : Tree) (b : ℕ) (ps : List Tree) (i m : ℕ) (s : Tree) (c : ℕ) (so_far : LeadsOn t j n r b ps i m s c) where
  pub leads_next : (qs : List Tree) (h l : ℕ) (L v : Tree) (d : ℕ) → m ≡ suc l → h ≡ suc i → qs ≡ ps ++ L ∷ [] → Goes u (local_form i s) c (L, v) d → LeadsOn t j n r b qs h l v d
  leads_next qs h l L v d one next more goes =
      let here : Goes t (local_form i s) c (L, v) d = subst (λ y. Goes y (local_form i s) c (L, v) d) stays goes in
      record {
        on = λ k.
            passes_on _ _ _ (so_far.on k)
            (passes_on _ _ _ (passes_same _ _ (ap (λ y. run_then (out_of t.table t.place) t.place (telescope i y s) c (λ x left. k (ps ++ x.0, x.1) left)) one ∙ telescope_one (out_of t.table t.place) t.place i l s c (λ x left. k (ps ++ x.0, x.1) left)))
            (passes_on _ _ _ (here.on (λ p left. run_then (out_of t.table t.place) t.place (telescope (suc i) l p.1) left (λ x rest. k (ps ++ p.0 ∷ x.0, x.1) rest)))
            (passes_same _ _ (run_same (out_of t.table t.place) t.place (telescope (suc i) l v) d (λ x rest. k (ps ++ L ∷ x.0, x.1) rest) (λ x rest. k (qs ++ x.0, x.1) rest)
            (λ x rest. ap (λ ys. k (ys, x.1) rest) (sym (append_assoc ps (L ∷ []) x.0) ∙ ap (λ zs. zs ++ x.0) (sym more)))
            ∙ ap (λ y. run_then (out_of t.table t.place) t.place (telescope y l v) d (λ x rest. k (qs ++ x.0, x.1) rest)) (sym next)))));
      }

  pub leads_halt : (l : ℕ) (stop : Stop) → m ≡ suc l → Halts u (local_form i s) c stop → Halts t (telescope j n r) b stop
  leads_halt l stop one halts =
      let here : Halts t (local_form i s) c stop = subst (λ y. Halts y (local_form i s) c stop) stays halts in
      record {
        stops = λ k.
            stop_passes _ _ stop (passes_on _ _ _ (so_far.on k)
            (passes_same _ _ (ap (λ y. run_then (out_of t.table t.place) t.place (telescope i y s) c (λ x left. k (ps ++ x.0, x.1) left)) one ∙ telescope_one (out_of t.table t.place) t.place i l s c (λ x left. k (ps ++ x.0, x.1) left))))
            (here.stops (λ p left. run_then (out_of t.table t.place) t.place (telescope (suc i) l p.1) left (λ x rest. k (ps ++ p.0 ∷ x.0, x.1) rest)));
      }

  pub leads_end : m ≡ 0 → Goes t (telescope j n r) b (ps, s) c
  leads_end none = record {
    on = λ k.
        passes_on _ _ _ (so_far.on k)
        (passes_same _ _ (ap (λ y. run_then (out_of t.table t.place) t.place (telescope i y s) c (λ x left. k (ps ++ x.0, x.1) left)) none ∙ ap (λ ys. k (ys, s) c) (append-nil ps)));
  }
