-- The work of the loop: questions that wait, the one that is worked on, and what is kept.
use Rattle.std.proofs.Common.{◌≡◌, ℕ, zero, suc, Bool, true, false, ◌||◌, ◌-◌, ◌/◌, ◌<◌, ◌≤◌, List, [], ◌∷◌, ◌++◌, length, drop, Option, Some, None, refl, ap, sym, ◌∙◌, arith, inl, inr, ◌⊎◌}
use Rattle.std.specs.Prelude.{All}
use Rattle.std.proofs.lemmas.Bool.Decides.{nat_tests}
use Rattle.std.proofs.lemmas.List.Elements.{All-push, All-pop}
use Rattle.lk_tree.specs.Tree.{Tree}
use Rattle.lk_rulebook.specs.Place.{Place}
use Rattle.lk_questions.specs.Query as plain
use Rattle.lk_questions.specs.Answer.{later}
use Rattle.lk_questions.specs.Erased.{Value, Steps, asks, Out, finished, stopped, used_up, seen, go_on, run_steps, out_of, steps_of}
use Rattle.lk_questions.proofs.Erasing.{out-zero, out-step, seen_seen}
use Rattle.lk_questions.proofs.Exact.{out_exact}
use Rattle.lk_questions.specs.Table.{steps}
use Rattle.lk_store.specs.Contents.{Contents, tree_at, Extends}
use Rattle.lk_ask.specs.declared.query.Query.{Query}
use Rattle.lk_ask.specs.declared.query.Query.TheVariants.{Core, Whnf, Infer, Same}
use Rattle.lk_ask.specs.declared.query.Answer.{Answer}
use Rattle.lk_tree.specs.declared.rule.Rule.{Rule}
use Rattle.lk_ask.specs.declared.stop.Stop.{Stop}
use Rattle.lk_ask.specs.declared.stop.Stop.TheVariants as stop
use Rattle.lk_ask.specs.declared.next.Next.{Next}
use Rattle.lk_ask.specs.declared.next.Next.TheVariants.{Ask, Done, No}
use Rattle.lk_ask.specs.Questions.{query_of, value_at, IsKnownQuery, IsKnownAnswer}
use Rattle.lk_ask.specs.Nexts.{IsKnownNext}
use Rattle.lk_ask.specs.Outcomes.{IsStop}
use Rattle.lk_engine.specs.Sheets.{AnySheet, map_any, IsKnownAny}
use Rattle.lk_engine.specs.declared.answering.Frame.{Frame}
use Rattle.lk_engine.specs.Entries.{IsTrueAt}
use Rattle.lk_engine.specs.Rests.{any_rest, next_of, query_steps, IsKnownFrame, Linked}
use Rattle.lk_engine.specs.Waiting.{WaitsFor, is_same, is_waiting, is_first_again, is_circle}
use Rattle.lk_engine.proofs.Frames.{any_from, query_steady, query_known, stack_known, links_steady}
use Rattle.lk_engine.proofs.Waiting.{waits_on, waits_same, waits_for_itself, waits_unseen, waits_begins, waits_asks, waits_goes}

-- a question's row is its row in the table
query_steps_is : (w : Place) (t : ℕ → Tree) (q : Query ℕ) → query_steps w t None q ≡ steps_of steps w (query_of t q)
query_steps_is w t (Core e) = refl
query_steps_is w t (Whnf e) = refl
query_steps_is w t (Infer e) = refl
query_steps_is w t (Same a b) = refl

module _ (w : Place) (t : ℕ → Tree) where
  -- what waits for an answer, with this frame
  abbrev waiting : Frame → Out → Out
  waiting f o = seen f.last (go_on o (λ v rest. run_steps (out_of steps w) (any_rest w None (map_any t f.sheet) v) rest))

  -- what the question of this frame goes on with, which asks r
  abbrev asks_for : Frame → plain.Query → Steps
  asks_for f r = asks f.last r (any_rest w None (map_any t f.sheet))

  -- one more question is asked
  links_push : (q : plain.Query) (b : ℕ) (fs : List Frame) (f : Frame) (asked : plain.Query) (left : ℕ)
      → Linked w t q b fs (query_of t f.asker) f.budget → out_of steps w (query_of t f.asker) f.budget ≡ waiting f (out_of steps w asked left)
      → WaitsFor (out_of steps w (query_of t f.asker)) (run_steps (out_of steps w) (asks_for f asked)) → Linked w t q b (fs ++ f ∷ []) asked left
  links_push q b [] f asked left h e n = (h.0, h.1, (asked, left, rw (h.0, h.1) at e, rw h.0 at n, (refl, refl)))
  links_push q b (g ∷ fs) f asked left h e n = (h.0, h.1, (h.2.0, h.2.1, h.2.2, h.2.3, links_push h.2.0 h.2.1 fs f asked left h.2.4 e n))

  links_pop : (q : plain.Query) (b : ℕ) (fs : List Frame) (f : Frame) (asked : plain.Query) (left : ℕ)
      → Linked w t q b (fs ++ f ∷ []) asked left → Linked w t q b fs (query_of t f.asker) f.budget × (out_of steps w (query_of t f.asker) f.budget ≡ waiting f (out_of steps w asked left))
      × WaitsFor (out_of steps w (query_of t f.asker)) (run_steps (out_of steps w) (asks_for f asked))
  links_pop q b [] f asked left h =
      let p = h.2.4.0 in
      let r = h.2.4.1 in
      ((h.0, h.1), rw (h.0, h.1, p, r) h.2.2, rw (h.0, p) h.2.3)
  links_pop q b (g ∷ fs) f asked left h =
      let r = links_pop h.2.0 h.2.1 fs f asked left h.2.4 in
      ((h.0, h.1, (h.2.0, h.2.1, h.2.2, h.2.3, r.0)), r.1, r.2)

  same_is : (p q : Query ℕ) → is_same p q ≡ true → p ≡ q
  same_is (Core a) (Core b) h = let e : a ≡ b = grind (arith, nat_tests) in ap Core e
  same_is (Whnf a) (Whnf b) h = let e : a ≡ b = grind (arith, nat_tests) in ap Whnf e
  same_is (Infer a) (Infer b) h = let e : a ≡ b = grind (arith, nat_tests) in ap Infer e
  same_is (Same a x) (Same b y) h = let e : a ≡ b = grind (arith, nat_tests) in let d : x ≡ y = grind (arith, nat_tests) in cc
  same_is _ _ h = absurd cc

  first_or_later : (x y : Bool) → (x || y) ≡ true → (x ≡ true) ⊎ (y ≡ true)
  first_or_later true y h = inl refl
  first_or_later false y h = inr h

  -- what waits for the first question here waits for each one that waits, and for the one that is asked
  links_among : (f : ℕ → Out) (q : plain.Query) (b : ℕ) (fs : List Frame) (asked : plain.Query) (left : ℕ) (p : Query ℕ) → WaitsFor f (out_of steps w q) → Linked w t q b fs asked left → is_waiting fs p ≡ true
      → WaitsFor f (out_of steps w (query_of t p))
  links_among f q b [] asked left p n h again = absurd cc
  links_among f q b (g ∷ fs) asked left p n h again = elim (first_or_later (is_same g.asker p) (is_waiting fs p) again) [
    | inl here ↦
        let e : q ≡ query_of t p = sym h.0 ∙ ap (query_of t) (same_is g.asker p here) in
        rw e at n
    | inr above ↦ links_among f h.2.0 h.2.1 fs asked left p (waits_on n (waits_asks steps w g.last h.2.0 (any_rest w None (map_any t g.sheet)) h.2.3)) h.2.4 above
  ]

  links_to : (f : ℕ → Out) (q : plain.Query) (b : ℕ) (fs : List Frame) (asked : plain.Query) (left : ℕ) → WaitsFor f (out_of steps w q) → Linked w t q b fs asked left → WaitsFor f (out_of steps w asked)
  links_to f q b [] asked left n h = rw h.0 n
  links_to f q b (g ∷ fs) asked left n h = links_to f h.2.0 h.2.1 fs asked left (waits_on n (waits_asks steps w g.last h.2.0 (any_rest w None (map_any t g.sheet)) h.2.3)) h.2.4

  -- the first question waits for itself where it is asked again above
  links_first : (q : plain.Query) (b : ℕ) (fs : List Frame) (asked : plain.Query) (left : ℕ) → Linked w t q b fs asked left → is_first_again fs ≡ true → WaitsFor (out_of steps w q) (out_of steps w q)
  links_first q b [] asked left h again = absurd cc
  links_first q b (f ∷ fs) asked left h again =
      let n = links_among (out_of steps w q) h.2.0 h.2.1 fs asked left f.asker (waits_asks steps w f.last h.2.0 (any_rest w None (map_any t f.sheet)) h.2.3) h.2.4 again in
      rw h.0 at n

  -- what was asked before waits for itself
  links_again : (q : plain.Query) (b : ℕ) (fs : List Frame) (asked : Query ℕ) (left : ℕ) → Linked w t q b fs (query_of t asked) left → is_waiting fs asked ≡ true
      → WaitsFor (out_of steps w (query_of t asked)) (out_of steps w (query_of t asked))
  links_again q b [] asked left h again = absurd cc
  links_again q b (f ∷ fs) asked left h again = elim (first_or_later (is_same f.asker asked) (is_waiting fs asked) again) [
    | inl here ↦
        let e : q ≡ query_of t asked = sym h.0 ∙ ap (query_of t) (same_is f.asker asked here) in
        rw e at (links_to (out_of steps w q) h.2.0 h.2.1 fs (query_of t asked) left (waits_asks steps w f.last h.2.0 (any_rest w None (map_any t f.sheet)) h.2.3) h.2.4)
    | inr above ↦ links_again h.2.0 h.2.1 fs asked left h.2.4 above
  ]

  -- where one of those that wait waits for itself the first one is used up
  links_circle : (n : ℕ) (q : plain.Query) (b : ℕ) (fs : List Frame) (asked : plain.Query) (left : ℕ) → Linked w t q b fs asked left → is_first_again (drop n fs) ≡ true → out_of steps w q b ≡ used_up
  links_circle zero q b fs asked left h again = waits_for_itself (links_first q b fs asked left h again) b
  links_circle (suc n) q b [] asked left h again = absurd cc
  links_circle (suc n) q b (f ∷ fs) asked left h again = h.2.2 ∙ ap (waiting f) (links_circle n h.2.0 h.2.1 fs asked left h.2.4 again)

  -- a stop goes through to the first question
  links_stop : (q : plain.Query) (b : ℕ) (fs : List Frame) (asked : plain.Query) (left : ℕ) (s : Stop) → Linked w t q b fs asked left → IsStop (out_of steps w asked left) s → IsStop (out_of steps w q b) s
  links_stop q b [] asked left s h e = rw (h.0, h.1) at e
  links_stop q b (f ∷ fs) asked left s h e = stops_behind f q b h.2.0 h.2.1 s h.2.2 (links_stop h.2.0 h.2.1 fs asked left s h.2.4 e)
    where
      stops_behind : (f : Frame) (q : plain.Query) (b : ℕ) (r : plain.Query) (c : ℕ) (s : Stop) → out_of steps w q b ≡ waiting f (out_of steps w r c) → IsStop (out_of steps w r c) s → IsStop (out_of steps w q b) s
      stops_behind f q b r c (stop.No rule) h e = h ∙ ap (waiting f) e
      stops_behind f q b r c stop.Spent h e = h ∙ ap (waiting f) e
      stops_behind f q b r c stop.NoMemory h e = tt

  -- an answer goes to the frame that waits
  waiting_goes : (f : Frame) (v : Value) (left : ℕ) (last last2 : Option ℕ) → last2 ≡ later f.last last → waiting f (finished v left last) ≡ run_steps (out_of steps w) (any_rest w last2 (map_any t f.sheet) v) left
  waiting_goes f v left last last2 e =
      seen_seen f.last last (run_steps (out_of steps w) (any_rest w None (map_any t f.sheet) v) left)
      ∙ ap (λ s. seen s (run_steps (out_of steps w) (any_rest w None (map_any t f.sheet) v) left)) (sym e)
      ∙ sym (any_from w last2 left (map_any t f.sheet) v)

-- a question is opened
pub opened : (w : Place) (t u : ℕ → Tree) (q : Query ℕ) (next : Next ℕ (AnySheet ℕ)) (left left2 : ℕ) (last : Option ℕ) → 0 < left → left2 ≡ left - 1
    → ((b : ℕ) → run_steps (out_of steps w) (next_of w u last next) b ≡ run_steps (out_of steps w) (query_steps w t None q) b)
    → run_steps (out_of steps w) (next_of w u last next) left2 ≡ out_of steps w (query_of t q) left
opened w t u q next left left2 last l e p =
    ap (run_steps (out_of steps w) (next_of w u last next)) e
    ∙ (p (left - 1) ∙ (ap (λ r. run_steps (out_of steps w) r (left - 1)) (query_steps_is w t q) ∙ sym (out-step steps w (query_of t q) left l)))

-- and waits for what comes next
pub opened_waits : (w : Place) (t u : ℕ → Tree) (q : Query ℕ) (next : Next ℕ (AnySheet ℕ)) (last : Option ℕ)
    → ((b : ℕ) → run_steps (out_of steps w) (next_of w u last next) b ≡ run_steps (out_of steps w) (query_steps w t None q) b)
    → WaitsFor (out_of steps w (query_of t q)) (run_steps (out_of steps w) (next_of w u last next))
opened_waits w t u q next last p =
    waits_same (waits_begins steps w (query_of t q)) (λ b. p b ∙ ap (λ r. run_steps (out_of steps w) r b) (query_steps_is w t q))

-- nothing is left for it
pub not_opened : (w : Place) (t : ℕ → Tree) (q : Query ℕ) (left : ℕ) → left < 1 → out_of steps w (query_of t q) left ≡ used_up
not_opened w t q left h = let e : left ≡ 0 = omega arith in rw e (out-zero steps w (query_of t q))

-- where the work stands: the first question is q under b, and the one that is worked on is `asked` under `budget`
pub record IsLinked (w : Place) (q : plain.Query) (b : ℕ) (c : Contents) (stack : List Frame) (asked : Query ℕ) (budget : ℕ) (next : Next ℕ (AnySheet ℕ)) (left : ℕ) (last : Option ℕ) : Type 0 where
  pub stacked : All (IsKnownFrame (length c.trees)) stack
  pub asked_known : IsKnownQuery (length c.trees) asked
  pub known : IsKnownNext IsKnownAny (length c.trees) next
  pub links : Linked w (tree_at c) q b stack (query_of (tree_at c) asked) budget
  pub runs : run_steps (out_of steps w) (next_of w (tree_at c) last next) left ≡ out_of steps w (query_of (tree_at c) asked) budget
  pub waits : WaitsFor (out_of steps w (query_of (tree_at c) asked)) (run_steps (out_of steps w) (next_of w (tree_at c) last next))

pub linked_begins : {c d : Contents} {next : Next ℕ (AnySheet ℕ)} {left : ℕ} {last : Option ℕ} (w : Place) (q : Query ℕ) (b : ℕ) → Extends c d → IsKnownQuery (length c.trees) q → IsKnownNext IsKnownAny (length d.trees) next
    → run_steps (out_of steps w) (next_of w (tree_at d) last next) left ≡ out_of steps w (query_of (tree_at c) q) b
    → WaitsFor (out_of steps w (query_of (tree_at c) q)) (run_steps (out_of steps w) (next_of w (tree_at d) last next)) → IsLinked w (query_of (tree_at c) q) b d [] q b next left last
linked_begins {c} {d} {next} {left} {last} w q b x h k e n =
    let same = query_steady x q h in
    record {
      stacked = λ i d h. absurd (omega arith);
      asked_known = query_known x q h;
      known = k;
      links = (same, refl);
      runs = e ∙ sym (ap (λ r. out_of steps w r b) same);
      waits = rw same n;
    }

module _ {w : Place} {q : plain.Query} {b : ℕ} {c : Contents} {stack : List Frame} {asked : Query ℕ} {budget : ℕ} {next : Next ℕ (AnySheet ℕ)} {left : ℕ} {last : Option ℕ} (l : IsLinked w q b c stack asked budget next left last) where
  -- another question is asked
  pub linked_asks : {d : Contents} {other : Query ℕ} {sheet : AnySheet ℕ} {stack' : List Frame} {next' : Next ℕ (AnySheet ℕ)} {left' : ℕ} {last' : Option ℕ} → next ≡ Ask other sheet
      → stack' ≡ stack ++ record { asker = asked; budget = budget; sheet = sheet; last = last } ∷ [] → Extends c d → IsKnownNext IsKnownAny (length d.trees) next'
      → run_steps (out_of steps w) (next_of w (tree_at d) last' next') left' ≡ out_of steps w (query_of (tree_at c) other) left
      → WaitsFor (out_of steps w (query_of (tree_at c) other)) (run_steps (out_of steps w) (next_of w (tree_at d) last' next')) → IsLinked w q b d stack' other left next' left' last'
  linked_asks {d} {other} {sheet} {stack'} {next'} {left'} {last'} is pushed x k e n =
      let frame : Frame = record { asker = asked; budget = budget; sheet = sheet; last = last } in
      let known = rw is at l.known in
      let runs = rw is at l.runs in
      let waits = rw is at l.waits in
      let all = All-push (IsKnownFrame (length c.trees)) stack frame l.stacked (record { asker = l.asked_known; sheet = known.1 }) in
      let linked : Linked w (tree_at c) q b (stack ++ frame ∷ []) (query_of (tree_at c) other) left = links_push w (tree_at c) q b stack frame (query_of (tree_at c) other) left l.links (sym runs) waits in
      let same = query_steady x other known.0 in
      rw pushed (record {
        stacked = stack_known x (stack ++ frame ∷ []) all;
        asked_known = query_known x other known.0;
        known = k;
        links = rw same (links_steady x w q b (stack ++ frame ∷ []) (query_of (tree_at c) other) left all linked);
        runs = rw same e;
        waits = rw same n;
      })

  -- what was asked is answered
  pub linked_answers : {answer : Answer ℕ} → next ≡ Done answer → IsKnownAnswer (length c.trees) answer × (out_of steps w (query_of (tree_at c) asked) budget ≡ finished (value_at (tree_at c) answer) left last)
  linked_answers {answer} is = (rw is at l.known, sym (rw is at l.runs))

  pub linked_left : {answer : Answer ℕ} → next ≡ Done answer → left ≤ budget
  linked_left {answer} is = let h = (out_exact steps w (query_of (tree_at c) asked) budget (value_at (tree_at c) answer) left last (linked_answers is).1).0 in omega arith

  pub linked_true : {answer : Answer ℕ} → next ≡ Done answer → IsTrueAt w c asked (record { answer = answer; cost = budget - left; top = last })
  linked_true {answer} is = record {
    query = l.asked_known;
    answer = (linked_answers is).0;
    is = (out_exact steps w (query_of (tree_at c) asked) budget (value_at (tree_at c) answer) left last (linked_answers is).1).1;
  }

  pub top_known : (stack' : List Frame) (frame : Frame) → stack ≡ stack' ++ frame ∷ [] → IsKnownFrame (length c.trees) frame
  top_known stack' frame popped = (All-pop (IsKnownFrame (length c.trees)) stack stack' (Some frame) popped l.stacked).1

  -- the answer goes to the question that asked
  pub linked_resumes : {d : Contents} {answer : Answer ℕ} {next' : Next ℕ (AnySheet ℕ)} {last2 last3 : Option ℕ} (stack' : List Frame) (frame : Frame) → next ≡ Done answer → stack ≡ stack' ++ frame ∷ [] → last2 ≡ later frame.last last → Extends c d
      → IsKnownNext IsKnownAny (length d.trees) next' → next_of w (tree_at d) last3 next' ≡ any_rest w last2 (map_any (tree_at c) frame.sheet) (value_at (tree_at c) answer)
      → IsLinked w q b d stack' frame.asker frame.budget next' left last3
  linked_resumes {d} {answer} {next'} {last2} {last3} stack' frame is popped e x k p =
      let all = All-pop (IsKnownFrame (length c.trees)) stack stack' (Some frame) popped l.stacked in
      let links = rw popped at l.links in
      let both = links_pop w (tree_at c) q b stack' frame (query_of (tree_at c) asked) budget links in
      let same = query_steady x frame.asker all.1.asker in
      let given = (linked_answers is).1 in
      let asker_is : out_of steps w (query_of (tree_at c) frame.asker) frame.budget ≡ run_steps (out_of steps w) (any_rest w last2 (map_any (tree_at c) frame.sheet) (value_at (tree_at c) answer)) left =
      both.1 ∙ ap (waiting w (tree_at c) frame) given ∙ waiting_goes w (tree_at c) frame (value_at (tree_at c) answer) left last last2 e in
      let rest = map_any (tree_at c) frame.sheet in
      let v = value_at (tree_at c) answer in
      let answered = (out_exact steps w (query_of (tree_at c) asked) budget v left last given).1 in
      let goes : WaitsFor (out_of steps w (query_of (tree_at c) frame.asker)) (run_steps (out_of steps w) (any_rest w last2 rest v)) =
      waits_unseen last2 (waits_goes steps w frame.last (query_of (tree_at c) asked) (any_rest w None rest) v (budget - left) last answered both.2) (λ n. any_from w last2 n rest v) in
      record {
        stacked = stack_known x stack' all.0;
        asked_known = query_known x frame.asker all.1.asker;
        known = k;
        links = rw same (links_steady x w q b stack' (query_of (tree_at c) frame.asker) frame.budget all.0 both.0);
        runs = rw (p, same) (sym asker_is);
        waits = rw (p, same) goes;
      }

  -- why the first question has no answer
  pub linked_stops : {other : Query ℕ} {sheet : AnySheet ℕ} (s : Stop) → next ≡ Ask other sheet → IsStop (out_of steps w (query_of (tree_at c) other) left) s → IsStop (out_of steps w q b) s
  linked_stops {other} {sheet} s is e = links_stop w (tree_at c) q b stack (query_of (tree_at c) asked) budget s l.links (go s e)
    where
      runs : waiting w (tree_at c) (record { asker = asked; budget = budget; sheet = sheet; last = last }) (out_of steps w (query_of (tree_at c) other) left) ≡ out_of steps w (query_of (tree_at c) asked) budget
      runs = rw is at l.runs

      go : (s : Stop) → IsStop (out_of steps w (query_of (tree_at c) other) left) s → IsStop (out_of steps w (query_of (tree_at c) asked) budget) s
      go (stop.No r) e = sym runs ∙ ap (waiting w (tree_at c) (record { asker = asked; budget = budget; sheet = sheet; last = last })) e
      go stop.Spent e = sym runs ∙ ap (waiting w (tree_at c) (record { asker = asked; budget = budget; sheet = sheet; last = last })) e
      go stop.NoMemory e = tt

  -- what is asked, or what waits in the middle, waits for itself
  pub linked_again : is_circle stack asked ≡ true → IsStop (out_of steps w q b) stop.Spent
  linked_again again = elim (first_or_later w (tree_at c) (is_waiting stack asked) (is_first_again (drop (length stack / 2) stack)) again) [
    | inl here ↦
        links_stop w (tree_at c) q b stack (query_of (tree_at c) asked) budget stop.Spent l.links
        (waits_for_itself (links_again w (tree_at c) q b stack asked budget l.links here) budget)
    | inr middle ↦ links_circle w (tree_at c) (length stack / 2) q b stack (query_of (tree_at c) asked) budget l.links middle
  ]

  pub linked_refused : {rule : Rule} → next ≡ No rule → out_of steps w q b ≡ stopped rule
  linked_refused {rule} is = links_stop w (tree_at c) q b stack (query_of (tree_at c) asked) budget (stop.No rule) l.links (sym (rw is at l.runs))

  pub linked_ends : {answer : Answer ℕ} → next ≡ Done answer → stack ≡ [] → IsKnownAnswer (length c.trees) answer × (out_of steps w q b ≡ finished (value_at (tree_at c) answer) left last)
  linked_ends {answer} is empty =
      let links = rw empty at l.links in
      let a = linked_answers is in
      (a.0, rw (sym links.0, sym links.1) a.1)
