-- The walk of a field's type, form by form.
use Rattle.std.proofs.Common.{◌≡◌, ◌<◌, ◌≤◌, ◌-◌, IfOk, ℕ, zero, suc, Bool, true, false, List, [], ◌∷◌, ◌++◌, Option, None, Some, Ok, Err, Result, if◌then◌else◌, refl, sym, ap, subst, ◌∙◌, append_assoc, arith}
use Rattle.std.proofs.lemmas.List.{append-nil}
use Rattle.lk_tree.specs.Tree.{Name, Tree, pi, local}
use Rattle.lk_tree.specs.Bind.{opened}
use Rattle.lk_tree.specs.Spine.{head, args}
use Rattle.lk_tree.specs.Mentions.{mentions}
use Rattle.lk_tree.specs.declared.rule.Rule.TheVariants.{NotPositive}
use Rattle.lk_rulebook.specs.Place.{Place}
use Rattle.lk_questions.specs.Query.{Query, whnf}
use Rattle.lk_questions.specs.Program.{Program, done, refuse, asked, ◌>>=◌}
use Rattle.lk_questions.specs.Answer.{Outcome, answered, refused, spent, IfAnswered, later, plain_answer}
use Rattle.lk_questions.specs.Erased.{a_tree, Out, finished, stopped, used_up, go_on, left_of, out_of}
use Rattle.lk_inductive.specs.Block.{Frame, FieldKind, plain, recursive, under}
use Rattle.lk_inductive.specs.BlockSteps.{as_member, last_kind, walk_on, walk}
use Rattle.lk_inductive.proofs.Fuel.{plain_costs}
use Rattle.lk_ask.specs.declared.stop.Stop.{Stop}
use Rattle.lk_ask.specs.Asking.{Standing}
use Rattle.lk_declaration.specs.Courses.{tree_then, run_then, Passes, Goes, Halts}
use Rattle.lk_block.specs.Positive.{Walked, ends, goes_under, kind_with, under_all, member_step, inner_step, form_step, walk_step, followed}
use Rattle.lk_declaration.proofs.Running.{go_on_same, answer_then_same, run_same, run_bind, passes_same, passes_on, stop_passes}

-- what is left of an outcome that is there
abbrev left_in : Out → ℕ
left_in (finished v left t) = left
left_in (stopped r) = 0
left_in used_up = 0

-- an answer has its cost
paid_by : (b c : ℕ) (v : Tree) (last : Option ℕ) (o : Outcome Tree) → IfAnswered o (λ u n t. (1 ≤ n) × (n ≤ b))
    → go_on (left_of a_tree b o) (tree_then (λ u left. finished (a_tree u) left None)) ≡ finished (a_tree v) c last → c < b
paid_by b c v last (answered u n t) h e = let same : b - n ≡ c = ap left_in e in let some = h.0 in let most = h.1 in omega arith
paid_by b c v last (refused r) h e = absurd (cc)
paid_by b c v last spent h e = absurd (cc)

pub form_paid : {Base : Type 0} (t : Standing Base) (a : Tree) (b c : ℕ) (v : Tree) → Goes t (asked (whnf a)) b v c → c < b
unfolding out_of
form_paid t a b c v h = let p = h.on (λ u left. finished (a_tree u) left None) in paid_by b c v (later p.0 None) (plain_answer t.table t.place (whnf a) b) (plain_costs t.table t.place (whnf a) b) p.1

-- where the walk is at a weak head form, and how it goes on
member_follows : (next : ℕ → Tree → Program FieldKind) (j : ℕ) (o : Option (Name × List Tree)) → last_kind o ≡ (member_step o >>= followed next j)
member_follows next j None = refl
member_follows next j (Some t) = refl

inner_follows : (next : ℕ → Tree → Program FieldKind) (F : Frame) (j : ℕ) (A : Tree) → walk_on next F j A ≡ (inner_step F j A >>= followed next j)
inner_follows next F j (pi D E) = go (mentions F.names D)
  where
    go : (b : Bool) → (if b then refuse NotPositive else (next (suc j) (opened E (local j D)) >>= λ k. done (under (local j D) k)))
        ≡ ((if b then refuse NotPositive else done (goes_under (local j D) (opened E (local j D)))) >>= followed next j)
    go true = refl
    go false = refl
inner_follows next F j A = member_follows next j (as_member F (head A) (args A))

form_follows : (next : ℕ → Tree → Program FieldKind) (F : Frame) (j : ℕ) (A : Tree) → (if mentions F.names A then walk_on next F j A else done plain) ≡ (form_step F j A >>= followed next j)
form_follows next F j A = go (mentions F.names A)
  where
    go : (b : Bool) → (if b then walk_on next F j A else done plain) ≡ ((if b then inner_step F j A else done (ends None)) >>= followed next j)
    go true = inner_follows next F j A
    go false = refl

pub walk_one : (answer : Query → ℕ → Out) (w : Place) (fuel : ℕ) (F : Frame) (j : ℕ) (A : Tree) (b : ℕ) (k : FieldKind → ℕ → Out)
    → run_then answer w (walk (suc fuel) F j A) b k ≡ run_then answer w (walk_step F j A) b (λ s left. run_then answer w (followed (walk fuel F) j s) left k)
walk_one answer w fuel F j A b k =
    let next : Walked → ℕ → Out = λ s left. run_then answer w (followed (walk fuel F) j s) left k in
    let whole : Tree → Program FieldKind = λ R. if mentions F.names R then walk_on (walk fuel F) F j R else done plain in
    go_on_same (answer (whnf A) b) (tree_then (λ R left. run_then answer w (whole R) left k)) (tree_then (λ R left. run_then answer w (form_step F j R) left next))
    (answer_then_same (whnf A) (λ R left. run_then answer w (whole R) left k) (λ R left. run_then answer w (form_step F j R) left next)
    (λ R left. ap (λ p. run_then answer w p left k) (form_follows (walk fuel F) F j R) ∙ run_bind answer w (form_step F j R) (followed (walk fuel F) j) left k))

-- Locals in front of a kind
pub under_none : (x : FieldKind) → under_all [] x ≡ x
under_none plain = refl
under_none (recursive zs T is) = refl

pub under_more : (ys qs : List Tree) (L : Tree) (x : FieldKind) → qs ≡ ys ++ L ∷ [] → under_all ys (under L x) ≡ under_all qs x
under_more ys qs L plain e = refl
under_more ys qs L (recursive zs T is) e = ap (λ q. recursive q T is) (sym (append_assoc ys (L ∷ []) zs) ∙ ap (λ q. q ++ zs) (sym e))

pub under_end : (ys : List Tree) (o : Option (Name × List Tree)) → under_all ys (kind_with [] o) ≡ kind_with ys o
under_end ys None = refl
under_end ys (Some t) = ap (λ q. recursive q t.0 t.1) (append-nil ys)

-- whatever comes next, the walk of a with enough fuel is, after these Locals, that of r with enough of what is left
pub record LeadsWalk {Base : Type 0} (t : Standing Base) (F : Frame) (j : ℕ) (a : Tree) (b : ℕ) (ys : List Tree) (i : ℕ) (r : Tree) (c : ℕ) : Type 0 where
  pub on : (fuel : ℕ) → b < fuel → (rest : ℕ) × (c < rest) × ((k : FieldKind → ℕ → Out) → Passes (run_then (out_of t.table t.place) t.place (walk fuel F j a) b k) (run_then (out_of t.table t.place) t.place (walk rest F i r) c (λ x left. k (under_all ys x) left)))

pub walk_first : {Base : Type 0} (t : Standing Base) (F : Frame) (j : ℕ) (a : Tree) (b : ℕ) → LeadsWalk t F j a b [] j a b
walk_first t F j a b = record {
  on = λ fuel enough. (fuel, enough, λ k. passes_same _ _ (run_same (out_of t.table t.place) t.place (walk fuel F j a) b k (λ x left. k (under_all [] x) left) (λ x left. ap (λ y. k y left) (sym (under_none x)))));
}

module _ {Base : Type 0} (t u : Standing Base) (stays : u ≡ t) (F : Frame) (j : ℕ) (a : Tree) (b : ℕ) (ys : List Tree) (i : ℕ) (r : Tree) (c : ℕ) (so_far : LeadsWalk t F j a b ys i r c) (G : Frame) (same_frame : G ≡ F) where
  moved_goes : (s : Walked) (d : ℕ) → Goes u (walk_step G i r) c s d → Goes t (walk_step F i r) c s d
  moved_goes s d h = subst (λ f. Goes t (walk_step f i r) c s d) same_frame (subst (λ y. Goes y (walk_step G i r) c s d) stays h)

  moved_halts : (stop : Stop) → Halts u (walk_step G i r) c stop → Halts t (walk_step F i r) c stop
  moved_halts stop h = subst (λ f. Halts t (walk_step f i r) c stop) same_frame (subst (λ y. Halts y (walk_step G i r) c stop) stays h)

  pub walk_next : (qs : List Tree) (h : ℕ) (L v : Tree) (d : ℕ) → h ≡ suc i → qs ≡ ys ++ L ∷ [] → d < c → Goes u (walk_step G i r) c (goes_under L v) d → LeadsWalk t F j a b qs h v d
  walk_next qs h L v d next more paid goes = record { on = λ fuel enough. go fuel (so_far.on fuel enough) }
    where
      go : (fuel : ℕ) → ((rest : ℕ) × (c < rest) × ((k : FieldKind → ℕ → Out) → Passes (run_then (out_of t.table t.place) t.place (walk fuel F j a) b k) (run_then (out_of t.table t.place) t.place (walk rest F i r) c (λ x left. k (under_all ys x) left))))
          → (rest : ℕ) × (d < rest) × ((k : FieldKind → ℕ → Out) → Passes (run_then (out_of t.table t.place) t.place (walk fuel F j a) b k) (run_then (out_of t.table t.place) t.place (walk rest F h v) d (λ x left. k (under_all qs x) left)))
      go fuel (zero, enough, on) = absurd (omega arith)
      go fuel (suc m, enough, on) = (
        m,
        omega arith,
        λ k.
            let inner : FieldKind → ℕ → Out = λ y left. k (under_all ys y) left in
            passes_on _ _ _ (on k)
            (passes_on _ _ _ (passes_same _ _ (walk_one (out_of t.table t.place) t.place m F i r c inner))
            (passes_on _ _ _ ((moved_goes (goes_under L v) d goes).on (λ s left. run_then (out_of t.table t.place) t.place (followed (walk m F) i s) left inner))
            (passes_same _ _ (run_bind (out_of t.table t.place) t.place (walk m F (suc i) v) (λ y. done (under L y)) d inner
            ∙ run_same (out_of t.table t.place) t.place (walk m F (suc i) v) d (λ y left. inner (under L y) left) (λ y left. k (under_all qs y) left) (λ y left. ap (λ z. k z left) (under_more ys qs L y more))
            ∙ ap (λ n. run_then (out_of t.table t.place) t.place (walk m F n v) d (λ y left. k (under_all qs y) left)) (sym next))))),
      )

  pub walk_ends : (o : Option (Name × List Tree)) (d : ℕ) → Goes u (walk_step G i r) c (ends o) d → (fuel : ℕ) → b < fuel → Goes t (walk fuel F j a) b (kind_with ys o) d
  walk_ends o d goes fuel enough = go (so_far.on fuel enough)
    where
      go : ((rest : ℕ) × (c < rest) × ((k : FieldKind → ℕ → Out) → Passes (run_then (out_of t.table t.place) t.place (walk fuel F j a) b k) (run_then (out_of t.table t.place) t.place (walk rest F i r) c (λ x left. k (under_all ys x) left))))
          → Goes t (walk fuel F j a) b (kind_with ys o) d
      go (zero, more, on) = absurd (omega arith)
      go (suc m, more, on) = record {
        on = λ k.
            let inner : FieldKind → ℕ → Out = λ y left. k (under_all ys y) left in
            passes_on _ _ _ (on k)
            (passes_on _ _ _ (passes_same _ _ (walk_one (out_of t.table t.place) t.place m F i r c inner))
            (passes_on _ _ _ ((moved_goes (ends o) d goes).on (λ s left. run_then (out_of t.table t.place) t.place (followed (walk m F) i s) left inner))
            (passes_same _ _ (ap (λ z. k z d) (under_end ys o)))));
      }

  pub walk_halts : (stop : Stop) → Halts u (walk_step G i r) c stop → (fuel : ℕ) → b < fuel → Halts t (walk fuel F j a) b stop
  walk_halts stop halts fuel enough = go (so_far.on fuel enough)
    where
      go : ((rest : ℕ) × (c < rest) × ((k : FieldKind → ℕ → Out) → Passes (run_then (out_of t.table t.place) t.place (walk fuel F j a) b k) (run_then (out_of t.table t.place) t.place (walk rest F i r) c (λ x left. k (under_all ys x) left))))
          → Halts t (walk fuel F j a) b stop
      go (zero, more, on) = absurd (omega arith)
      go (suc m, more, on) = record {
        stops = λ k.
            let inner : FieldKind → ℕ → Out = λ y left. k (under_all ys y) left in
            stop_passes _ _ stop (passes_on _ _ _ (on k) (passes_same _ _ (walk_one (out_of t.table t.place) t.place m F i r c inner)))
            ((moved_halts stop halts).stops (λ s left. run_then (out_of t.table t.place) t.place (followed (walk m F) i s) left inner));
      }

-- a fact that does not depend on the value
pub whichever : {X E : Type 0} (r : Result X E) (P : Type 0) → P → IfOk r (λ s. P)
whichever (Ok s) P p = p
whichever (Err e) P p = tt
