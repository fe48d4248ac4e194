-- Programs run one after another.
use Rattle.std.proofs.Common.{◌≡◌, ℕ, Option, None, Some, Ok, Err, Result, refl, ap, sym, subst, ◌∙◌}
use Rattle.lk_tree.specs.declared.rule.Rule.{Rule}
use Rattle.lk_rulebook.specs.Place.{Place, Entry}
use Rattle.lk_questions.specs.Query.{Query, AnswerTo, core, whnf, infer, same}
use Rattle.lk_questions.specs.Program.{Program, done, refuse, ask, look, ◌>>=◌}
use Rattle.lk_questions.specs.Answer.{later}
use Rattle.lk_questions.specs.Erased.{Value, a_tree, truth, Out, finished, stopped, used_up, seen, go_on, out_of}
use Rattle.lk_questions.proofs.Erasing.{seen_seen, seen_none}
use Rattle.lk_ask.specs.declared.stop.Stop.{Stop}
use Rattle.lk_ask.specs.declared.stop.Stop.TheVariants.{No, Spent, NoMemory}
use Rattle.lk_ask.specs.Asking.{Standing}
use Rattle.lk_ask.specs.Outcomes.{IsStop}
use Rattle.lk_declaration.specs.Courses.{answer_then, look_then, run_then, Passes, Goes, Halts, ComesTo, Settles}

pub go_on_same : (o : Out) (k l : Value → ℕ → Out) → ((v : Value) (left : ℕ) → k v left ≡ l v left) → go_on o k ≡ go_on o l
go_on_same (finished v left t) k l h = ap (seen t) (h v left)
go_on_same (stopped r) k l h = refl
go_on_same used_up k l h = refl

pub answer_then_same : (q : Query) (k l : AnswerTo q → ℕ → Out) → ((v : AnswerTo q) (left : ℕ) → k v left ≡ l v left) → (v : Value) (left : ℕ) → answer_then q k v left ≡ answer_then q l v left
answer_then_same (core e) k l h (a_tree t) left = h t left
answer_then_same (core e) k l h (truth b) left = refl
answer_then_same (whnf e) k l h (a_tree t) left = h t left
answer_then_same (whnf e) k l h (truth b) left = refl
answer_then_same (infer e) k l h (a_tree t) left = h t left
answer_then_same (infer e) k l h (truth b) left = refl
answer_then_same (same a b) k l h (a_tree t) left = refl
answer_then_same (same a b) k l h (truth r) left = h r left

look_then_same : (r : Rule) (e : Option Entry) (unit : ℕ) (flaw : Option Rule) (k l : Entry → Out) → ((e : Entry) → k e ≡ l e) → look_then r e unit flaw k ≡ look_then r e unit flaw l
look_then_same r None unit flaw k l h = refl
look_then_same r (Some e) unit flaw k l h = ap (seen (Some unit)) (h e)

module _ (answer : Query → ℕ → Out) (w : Place) where
  -- what comes next alike, the runs are
  pub run_same : {A : Type 0} (p : Program A) (b : ℕ) (k l : A → ℕ → Out) → ((v : A) (left : ℕ) → k v left ≡ l v left) → run_then answer w p b k ≡ run_then answer w p b l
  run_same (done v) b k l h = h v b
  run_same (refuse r) b k l h = refl
  run_same (ask q f) b k l h =
      go_on_same (answer q b) (answer_then q (λ v left. run_then answer w (f v) left k)) (answer_then q (λ v left. run_then answer w (f v) left l))
      (answer_then_same q (λ v left. run_then answer w (f v) left k) (λ v left. run_then answer w (f v) left l) (λ v left. run_same (f v) left k l h))
  run_same (look r c f) b k l h = look_then_same r (w.means c) (w.origin c) (w.flaw c) (λ e. run_then answer w (f e) b k) (λ e. run_then answer w (f e) b l) (λ e. run_same (f e) b k l h)

  -- a program and then another
  pub run_bind : {A B : Type 0} (p : Program A) (f : A → Program B) (b : ℕ) (k : B → ℕ → Out) → run_then answer w (p >>= f) b k ≡ run_then answer w p b (λ v left. run_then answer w (f v) left k)
  run_bind (done v) f b k = refl
  run_bind (refuse r) f b k = refl
  run_bind (ask q g) f b k =
      go_on_same (answer q b) (answer_then q (λ v left. run_then answer w (g v >>= f) left k)) (answer_then q (λ v left. run_then answer w (g v) left (λ u rest. run_then answer w (f u) rest k)))
      (answer_then_same q (λ v left. run_then answer w (g v >>= f) left k) (λ v left. run_then answer w (g v) left (λ u rest. run_then answer w (f u) rest k)) (λ v left. run_bind (g v) f left k))
  run_bind (look r c g) f b k =
      look_then_same r (w.means c) (w.origin c) (w.flaw c) (λ e. run_then answer w (g e >>= f) b k) (λ e. run_then answer w (g e) b (λ u rest. run_then answer w (f u) rest k)) (λ e. run_bind (g e) f b k)

  -- a program and then others that run alike
  pub bind_same : {A B C : Type 0} (p : Program A) (f : A → Program B) (g : A → Program C) (b : ℕ) (k : B → ℕ → Out) (l : C → ℕ → Out)
      → ((v : A) (left : ℕ) → run_then answer w (f v) left k ≡ run_then answer w (g v) left l) → run_then answer w (p >>= f) b k ≡ run_then answer w (p >>= g) b l
  bind_same p f g b k l h = run_bind p f b k ∙ run_same p b (λ v left. run_then answer w (f v) left k) (λ v left. run_then answer w (g v) left l) h ∙ sym (run_bind p g b l)

pub passes_same : (o p : Out) → o ≡ p → Passes o p
passes_same o p e = (None, e ∙ sym (seen_none p))

pub passes_on : (o p q : Out) → Passes o p → Passes p q → Passes o q
passes_on o p q x y = (later x.0 y.0, x.1 ∙ ap (seen x.0) y.1 ∙ seen_seen x.0 y.0 q)

pub stop_passes : (o p : Out) (stop : Stop) → Passes o p → IsStop p stop → IsStop o stop
stop_passes o p (No r) x h = x.1 ∙ ap (seen x.0) h
stop_passes o p Spent x h = x.1 ∙ ap (seen x.0) h
stop_passes o p NoMemory x h = tt

pub stop_same : (o p : Out) (stop : Stop) → o ≡ p → IsStop p stop → IsStop o stop
stop_same o p stop e h = subst (λ q. IsStop q stop) (sym e) h

module _ {A B Base : Type 0} (t u : Standing Base) (stays : u ≡ t) (p : Program A) (f : A → Program B) where
  -- the first gives a value; the second, answered as the first was, gives what both do
  pub goes_on : (b c d : ℕ) (v : A) (z : B) → Goes t p b v c → Goes u (f v) c z d → Goes t (p >>= f) b z d
  goes_on b c d v z first second =
      let here : Goes t (f v) c z d = subst (λ y. Goes y (f v) c z d) stays second in
      record { on = λ k. passes_on _ _ _ (passes_same _ _ (run_bind (out_of t.table t.place) t.place p f b k)) (passes_on _ _ _ (first.on (λ y left. run_then (out_of t.table t.place) t.place (f y) left k)) (here.on k)) }

  pub halts_later : (b c : ℕ) (v : A) (stop : Stop) → Goes t p b v c → Halts u (f v) c stop → Halts t (p >>= f) b stop
  halts_later b c v stop first second =
      let here : Halts t (f v) c stop = subst (λ y. Halts y (f v) c stop) stays second in
      record { stops = λ k. stop_passes _ _ stop (passes_on _ _ _ (passes_same _ _ (run_bind (out_of t.table t.place) t.place p f b k)) (first.on (λ y left. run_then (out_of t.table t.place) t.place (f y) left k))) (here.stops k) }

  pub gives_on : {X : Type 0} (b c d : ℕ) (v : A) (value : X → B) (r : Result X Stop) → Goes t p b v c → ComesTo u (f v) c value d r → ComesTo t (p >>= f) b value d r
  gives_on b c d v value (Ok z) first second = goes_on b c d v (value z) first second
  gives_on b c d v value (Err stop) first second = halts_later b c v stop first second

-- where the first stops, both do
pub halts_first : {A B Base : Type 0} (t : Standing Base) (p : Program A) (f : A → Program B) (b : ℕ) (stop : Stop) → Halts t p b stop → Halts t (p >>= f) b stop
halts_first t p f b stop h = record { stops = λ k. stop_same _ _ stop (run_bind (out_of t.table t.place) t.place p f b k) (h.stops (λ y left. run_then (out_of t.table t.place) t.place (f y) left k)) }

-- want of memory may come at any time
pub halts_nowhere : {A Base : Type 0} (t : Standing Base) (p : Program A) (b : ℕ) → Halts t p b NoMemory
halts_nowhere t p b = record { stops = λ k. tt }

-- a program that is done
pub goes_done : {A Base : Type 0} (t : Standing Base) (v z : A) (b : ℕ) → v ≡ z → Goes t (done v) b z b
goes_done t v z b e = record { on = λ k. passes_same _ _ (ap (λ y. k y b) e) }

-- a program that asks nothing
pub settled : {A X Base : Type 0} (t : Standing Base) (p : Program A) (b : ℕ) (value : X → A) (r : Result X Stop) → Settles p value r → ComesTo t p b value b r
settled t p b value (Ok x) h = record { on = λ k. passes_same _ _ (ap (λ q. run_then (out_of t.table t.place) t.place q b k) h) }
settled t p b value (Err (No r)) h = record { stops = λ k. ap (λ q. run_then (out_of t.table t.place) t.place q b k) h }
settled t p b value (Err Spent) h = absurd h
settled t p b value (Err NoMemory) h = halts_nowhere t p b

pub settles_on : {A B X Base : Type 0} (t : Standing Base) (p : Program A) (f : A → Program B) (b c : ℕ) (v : A) (value : X → B) (r : Result X Stop) → Goes t p b v c → Settles (f v) value r → ComesTo t (p >>= f) b value c r
settles_on t p f b c v value r first h = gives_on t t refl p f b c c v value r first (settled t (f v) c value r h)

-- a value and then an end that asks nothing, under other names
pub ends_at : {A B Base : Type 0} (t : Standing Base) (p : Program A) (f : A → Program B) (b c d : ℕ) (v : A) (y z : B) → Goes t p b v c → f v ≡ done y → z ≡ y → d ≡ c → Goes t (p >>= f) b z d
ends_at t p f b c d v y z first end is kept =
    subst (λ n. Goes t (p >>= f) b z n) (sym kept) (goes_on t t refl p f b c c v z first (subst (λ q. Goes t q c z c) (sym end) (goes_done t y z c (sym is))))
