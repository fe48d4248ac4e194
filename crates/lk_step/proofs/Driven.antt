-- The literal step by numbers gives what its program gives.
use Rattle.std.proofs.Common.{ℕ, zero, suc, ◌≡◌, ◌+◌, ◌<◌, ◌≤◌, Bool, true, false, ◌&&◌, nat_eq, List, [], ◌∷◌, length, Option, Some, None, refl, sym, ◌∙◌, subst, ap, arith, if◌then◌else◌}
use Rattle.std.proofs.lemmas.Bool.Decides.{nat_tests}
use Rattle.std.specs.Prelude.{option_map, IfOk, Result, Ok, Err}
use Rattle.lk_tree.specs.Tree.{Name, Level, Tree, const}
use Rattle.lk_tree.specs.Bind.{bound}
use Rattle.lk_tree.specs.Operations.{Op, succ, log2, arity}
use Rattle.lk_tree.specs.Spine.{head, args}
use Rattle.lk_tree.specs.declared.rule.Rule.{Rule}
use Rattle.lk_rulebook.specs.Place.{Place, Entry, Kind}
use Rattle.lk_questions.specs.Answer.{later}
use Rattle.lk_questions.specs.Query.{core, whnf, infer, same}
use Rattle.lk_questions.specs.Program.{Program, done, refuse, ask, look, ◌>>=◌}
use Rattle.lk_questions.specs.Erased.{Value, Steps, gives, looked, erased_then}
use Rattle.lk_rulebook.specs.Literals.{may_give}
use Rattle.lk_questions.specs.Literals.{numeral_of, with_first, numerals, computed, ops, op_named, op_step, literal_step}
use Rattle.lk_questions.specs.LiteralLines.{step_of}
use Rattle.lk_claims.proofs.Pieces.{Some_inj, halves}
use Rattle.lk_table_sound.proofs.Soundness.{IsQuiet}
use Rattle.lk_store.specs.declared.memory.NoMemory.{NoMemory}
use Rattle.lk_store.specs.Contents.{Contents, tree_at, Extends}
use Rattle.lk_ask.specs.Looks.{Sight}
use Rattle.lk_ask.specs.Questions.{query_of, value_at}
use Rattle.lk_ask.specs.declared.query.Query.{Query as StoredQuery}
use Rattle.lk_ask.specs.declared.query.Answer.{Answer as StoredAnswer}
use Rattle.lk_ask.specs.declared.query.Query.TheVariants.{Whnf}
use Rattle.lk_ask.specs.declared.next.Next.{Next}
use Rattle.lk_ask.specs.declared.next.Next.TheVariants.{Ask, Done, No}
use Rattle.lk_lit.specs.declared.step.LitPart.{LitPart}
use Rattle.lk_lit.specs.declared.step.LitPart.TheVariants.{Goes, Comes}
use Rattle.lk_lit.specs.declared.sheet.LitSheet.{LitSheet}
use Rattle.lk_lit.specs.declared.sheet.LitSheet.TheVariants.{First, Second}
use Rattle.lk_lit.specs.Sheets.{map_lit, IsKnownLit}
use Rattle.lk_lit.specs.Steps.{Then, lit_steps, lit_rest, term_of, program_of, IsKnownPart, StepsPart, ResumesPart}
use Rattle.lk_step.specs.Rows.{IsAnswered}
use Rattle.lk_step.specs.Runs.{Runs, AreOne}
use Rattle.lk_step.specs.Told.{IsAnsweredWithin, Leaves}
use Rattle.lk_step.specs.Tests.{IsRun}
use Rattle.lk_step.specs.Driving.{shows, shown, refusing, FormRun, IsDriven, IsGoing, IsOver}
use Rattle.lk_step.proofs.Computing.{quiet_computed}
use Rattle.lk_step.proofs.Runs.{one_answer}

-- the program asks for weak head forms alone, and for no more than so many
abbrev AsksForms : {A : Type 0} → ℕ → Program A → Type 0
AsksForms k (done v) = Unit {0}
AsksForms k (refuse r) = Unit {0}
AsksForms k (look r c f) = (g : Entry) → AsksForms k (f g)
AsksForms (suc k) (ask (whnf e) f) = (v : Tree) → AsksForms k (f v)
AsksForms k (ask q f) = ⊥

asks_quiet : {A : Type 0} (k : ℕ) (p : Program A) → IsQuiet p → AsksForms k p
asks_quiet k (done v) h = tt
asks_quiet k (refuse r) h = tt
asks_quiet k (ask q f) h = absurd h
asks_quiet k (look r c f) h = λ g. asks_quiet k (f g) (h g)

asks_bind : {A B : Type 0} (k : ℕ) (p : Program A) (f : A → Program B) → AsksForms k p → ((j : ℕ) (v : A) → AsksForms j (f v)) → AsksForms k (p >>= f)
asks_bind k (done v) f h i = i k v
asks_bind k (refuse r) f h i = tt
asks_bind k (look r c g) f h i = λ e. asks_bind k (g e) f (h e) i
asks_bind zero (ask q g) f h i = absurd h
asks_bind (suc k) (ask (whnf e) g) f h i = λ v. asks_bind k (g v) f (h v) i
asks_bind (suc k) (ask (core e) g) f h i = absurd h
asks_bind (suc k) (ask (infer e) g) f h i = absurd h
asks_bind (suc k) (ask (same a b) g) f h i = absurd h

asks_first : (k : ℕ) (o : Option ℕ) (p : Program (Option (List ℕ))) → AsksForms k p → AsksForms k (with_first o p)
asks_first k None p h = tt
asks_first k (Some n) p h = asks_bind k p (λ ns. done (option_map (λ rest. n ∷ rest) ns)) h (λ j v. tt)

asks_numerals : (es : List Tree) (k : ℕ) → length es ≤ k → AsksForms k (numerals es)
asks_numerals [] k h = tt
asks_numerals (e ∷ es) zero h = absurd (omega arith)
asks_numerals (e ∷ es) (suc k) h = λ v. asks_first k (numeral_of v) (numerals es) (asks_numerals es k (omega arith))

arity_low : (op : Op) → arity op ≤ 2
arity_low succ = omega arith
arity_low log2 = omega arith
arity_low _ = omega arith

asks_op : (o : Option Op) (k : Kind) (xs : List Tree) → AsksForms 2 (op_step o k xs)
asks_op None k xs = tt
asks_op (Some op) k xs = go (may_give op k && nat_eq (length xs) (arity op)) refl
  where
    go : (y : Bool) → (may_give op k && nat_eq (length xs) (arity op)) ≡ y → AsksForms 2 (if y then (numerals xs >>= λ ns. computed op ns) else done None)
    go false t = tt
    go true t =
        let count : nat_eq (length xs) (arity op) ≡ true = (halves (may_give op k) (nat_eq (length xs) (arity op)) t).1 in
        let low : arity op ≤ 2 = arity_low op in
        asks_bind 2 (numerals xs) (λ ns. computed op ns) (asks_numerals xs 2 (grind (arith, nat_tests, count, low))) (λ j ns. asks_quiet j (computed op ns) (quiet_computed op ns))

asks_literal : (e : Tree) (f : Name) (ls : List Level) (g : Entry) → AsksForms 2 (literal_step e f ls g)
asks_literal e f (l ∷ ls) g = tt
asks_literal e f [] g = go (nat_eq (bound e) 0)
  where
    go : (y : Bool) → AsksForms 2 (if y then op_step (op_named ops f) g.kind (args e) else done None)
    go true = asks_op (op_named ops f) g.kind (args e)
    go false = tt

-- a run of the program is one of its steps
looked_run : (w : Place) (x : Rule) (t : Option ℕ) (c : Name) (o : Option Entry) (g : Entry) (next : Option ℕ → Entry → Steps) (u : Value) (n k : ℕ) → o ≡ Some g → FormRun w (next (later t (Some (w.origin c))) g) u n k → FormRun w (looked x t o (w.origin c) (w.flaw c) next) u n k
looked_run w x t c o g next u n k e h = rw e h

form_run : (w : Place) (y : Tree) (k : ℕ) (t : Option ℕ) (p : Program (Option Tree)) (r : Option Tree) (n : ℕ) → AsksForms k p → Runs w p r n → FormRun w (erased_then w (shown y) t p) (shows r) n k
form_run w y k t (done v) r n a h = (ap shows h.0, h.1)
form_run w y k t (refuse x) r n a h = absurd h
form_run w y k t (look x c f) r n a h = looked_run w x t c (w.means c) h.0 (λ u g. erased_then w (shown y) u (f g)) (shows r) n k h.1 (form_run w y k (later t (Some (w.origin c))) (f h.0) r n (a h.0) h.2)
form_run w y zero t (ask q f) r n a h = absurd a
form_run w y (suc k) t (ask (whnf e) f) r n a h = (e, h.0, h.1, h.2, refl, h.3, form_run w y k None (f h.0) r h.2 (a h.0) h.4, h.5)
form_run w y (suc k) t (ask (core e) f) r n a h = absurd a
form_run w y (suc k) t (ask (infer e) f) r n a h = absurd a
form_run w y (suc k) t (ask (same d e) f) r n a h = absurd a

-- the last unit that was looked at does not matter
form_any : (w : Place) (y z : Tree) (t s : Option ℕ) (p : Program (Option Tree)) (u : Value) (n k : ℕ) → FormRun w (erased_then w (shown y) t p) u n k → FormRun w (erased_then w (shown z) s p) u n k
form_any w y z t s (done v) u n k h = h
form_any w y z t s (refuse x) u n k h = absurd h
form_any w y z t s (ask q f) u n zero h = absurd h
form_any w y z t s (ask q f) u n (suc k) h = h
form_any w y z t s (look x c f) u n k h = go (w.means c) (λ g a b i. form_any w y z a b (f g) u n k i) h
  where
    go : (o : Option Entry) → ((g : Entry) (a b : Option ℕ) → FormRun w (erased_then w (shown y) a (f g)) u n k → FormRun w (erased_then w (shown z) b (f g)) u n k) →
        FormRun w (looked x t o (w.origin c) (w.flaw c) (λ a g. erased_then w (shown y) a (f g))) u n k → FormRun w (looked x s o (w.origin c) (w.flaw c) (λ a g. erased_then w (shown z) a (f g))) u n k
    go None more i = absurd i
    go (Some g) more i = more g (later t (Some (w.origin c))) (later s (Some (w.origin c))) i

-- where whoever goes on refuses, nothing is given
no_gives : (w : Place) (y : Tree) (t : Option ℕ) (p : Program (Option Tree)) (u : Option ℕ) (v : Value) → erased_then w (refusing y) t p ≡ gives u v → ⊥
no_gives w y t (done x) u v e = absurd cc
no_gives w y t (refuse x) u v e = absurd cc
no_gives w y t (ask q f) u v e = absurd cc
no_gives w y t (look x c f) u v e = go (w.means c) (λ g a i. no_gives w y a (f g) u v i) e
  where
    go : (o : Option Entry) → ((g : Entry) (a : Option ℕ) → erased_then w (refusing y) a (f g) ≡ gives u v → ⊥) → looked x t o (w.origin c) (w.flaw c) (λ a g. erased_then w (refusing y) a (f g)) ≡ gives u v → ⊥
    go None more i = absurd cc
    go (Some g) more i = more g (later t (Some (w.origin c))) i

shows_one : (a b : Option Tree) → shows a ≡ shows b → a ≡ b
shows_one None None h = refl
shows_one None (Some v) h = absurd cc
shows_one (Some v) None h = absurd cc
shows_one (Some v) (Some u) h = let e : v ≡ u = cc in ap (λ z. Some z) e

-- the first part
pub driven_first : (w : Place) (c : Contents) (last before : Option ℕ) (part : LitPart) (x e : Tree) (f : Name) (ls : List Level) (g : Entry) (r : Option Tree) (n most : ℕ) → IsKnownPart (length c.trees) part →
    ((k : Then) → lit_steps k w (tree_at c) last part ≡ erased_then w (k x) before (literal_step e f ls g)) → Runs w (literal_step e f ls g) r n → n < most → IsDriven w c last part r 2 most
driven_first w c last before part x e f ls g r n most known h run lt = record {
  known = known;
  cost = n;
  run = subst (λ s. FormRun w s (shows r) n 2) (sym (h shown)) (form_run w x 2 before (literal_step e f ls g) r n (asks_literal e f ls g) run);
  within = lt;
  never = λ u v i. no_gives w x before (literal_step e f ls g) u v (sym (h refusing) ∙ i);
}

-- no operation is at the head
pub driven_none : (w : Place) (c : Contents) (last : Option ℕ) (e : ℕ) (r : Option Tree) (n most : ℕ) → e < length c.trees → Runs w (done None) r n → n < most → IsDriven w c last (Comes e None) r 2 most
driven_none w c last e r n most known h lt = record {
  known = (known, tt);
  cost = n;
  run = (ap shows h.0, h.1);
  within = lt;
  never = λ u v i. absurd cc;
}

-- a part that came to something stays
pub driven_stays : (w : Place) (c : Contents) (last : Option ℕ) (term : ℕ) (value : Option ℕ) (r : Option Tree) (k j most : ℕ) → IsDriven w c last (Comes term value) r k most → IsDriven w c last (Comes term value) r j most
driven_stays w c last term value r k j most d = record { known = d.known; cost = d.cost; run = d.run; within = d.within; never = d.never }

pub driven_value : (w : Place) (c : Contents) (last : Option ℕ) (term : ℕ) (value : Option ℕ) (r : Option Tree) (k most : ℕ) → IsDriven w c last (Comes term value) r k most → r ≡ option_map (tree_at c) value
driven_value w c last term value r k most d = sym (shows_one (option_map (tree_at c) value) r d.run.0)

-- what is asked for next, by its number, is the weak head form of this tree
record AsksNext (w : Place) (c : Contents) (x : ℕ) (sheet : LitSheet ℕ) (r : Option Tree) (left most : ℕ) : Type 0 where
  form : Tree
  first : ℕ
  second : ℕ
  answered : IsAnswered w (whnf (tree_at c x)) form first
  after : FormRun w (lit_rest shown w None (map_lit (tree_at c) sheet) form) (shows r) second left
  within : first + second < most

asks_next : (w : Place) (c : Contents) (last : Option ℕ) (x : ℕ) (sheet : LitSheet ℕ) (r : Option Tree) (left most : ℕ) → IsDriven w c last (Goes (Ask (Whnf x) sheet)) r (suc left) most → AsksNext w c x sheet r left most
asks_next w c last x sheet r left most d =
    let h = d.run in
    let e : whnf (tree_at c x) ≡ whnf h.0 = h.4 in
    let same : tree_at c x ≡ h.0 = cc in
    let paid : d.cost ≡ h.2 + h.3 = h.7 in
    let within : d.cost < most = d.within in
    record { form = h.1; first = h.2; second = h.3; answered = subst (λ z. IsAnswered w (whnf z) h.1 h.2) (sym same) h.5; after = h.6; within = omega (arith, paid, within) }

pub next_within : (w : Place) (c : Contents) (last : Option ℕ) (x : ℕ) (sheet : LitSheet ℕ) (most : ℕ) → IsGoing w c last (Goes (Ask (Whnf x) sheet)) most → IsAnsweredWithin w (whnf (tree_at c x)) most
next_within w c last x sheet most g = go g.left g.driven
  where
    go : (k : ℕ) → IsDriven w c last (Goes (Ask (Whnf x) sheet)) g.value k most → IsAnsweredWithin w (whnf (tree_at c x)) most
    go zero d = absurd d.run
    go (suc k) d =
        let n : AsksNext w c x sheet g.value k most = asks_next w c last x sheet g.value k most d in
        let within : n.first + n.second < most = n.within in
        (n.form, n.first, n.answered, omega (arith, within))

-- the next part
pub driven_next : (w : Place) (c m d : Contents) (last before now : Option ℕ) (x v : ℕ) (sheet : LitSheet ℕ) (part : LitPart) (r : Option Tree) (left most b : ℕ) → IsDriven w c last (Goes (Ask (Whnf x) sheet)) r (suc left) most →
    IsAnswered w (whnf (tree_at c x)) (tree_at m v) b → map_lit (tree_at m) sheet ≡ map_lit (tree_at c) sheet → IsKnownPart (length d.trees) part →
    ((k : Then) → lit_steps k w (tree_at d) now part ≡ lit_rest k w before (map_lit (tree_at m) sheet) (tree_at m v)) → IsDriven w d now part r left most
driven_next w c m d last before now x v sheet part r left most b h told stays known does =
    let n : AsksNext w c x sheet r left most = asks_next w c last x sheet r left most h in
    let one : AreOne n.form (tree_at m v) n.first b = one_answer w (whnf (tree_at c x)) n.form (tree_at m v) n.first b n.answered told in
    let s : LitSheet Tree = map_lit (tree_at m) sheet in
    let run : FormRun w (lit_rest shown w None s (tree_at m v)) (shows r) n.second left = subst (λ z. FormRun w (lit_rest shown w None s z) (shows r) n.second left) one.answer (subst (λ z. FormRun w (lit_rest shown w None z n.form) (shows r) n.second left) (sym stays) n.after) in
    let within : n.first + n.second < most = n.within in
    record {
      known = known;
      cost = n.second;
      run = subst (λ z. FormRun w z (shows r) n.second left) (sym (does shown)) (form_any w (term_of s) (term_of s) None before (program_of s (tree_at m v)) (shows r) n.second left run);
      within = omega (arith, within);
      never = λ u y i. no_gives w (term_of s) before (program_of s (tree_at m v)) u y (sym (does refusing) ∙ i);
    }

-- what never comes
pub never_other : (w : Place) (c : Contents) (last : Option ℕ) (q : StoredQuery ℕ) (sheet : LitSheet ℕ) (most : ℕ) → IsGoing w c last (Goes (Ask q sheet)) most → ((e : Tree) → query_of (tree_at c) q ≡ whnf e → ⊥) → ⊥
never_other w c last q sheet most g other = go g.left g.driven
  where
    go : (k : ℕ) → IsDriven w c last (Goes (Ask q sheet)) g.value k most → ⊥
    go zero d = absurd d.run
    go (suc k) d = other d.run.0 d.run.4

pub never_done : (w : Place) (c : Contents) (last : Option ℕ) (a : StoredAnswer ℕ) (most : ℕ) → IsGoing w c last (Goes (Done a)) most → ⊥
never_done w c last a most g = g.driven.never last (value_at (tree_at c) a) refl

pub never_no : (w : Place) (c : Contents) (last : Option ℕ) (x : Rule) (most : ℕ) → IsGoing w c last (Goes (No x)) most → ⊥
never_no w c last x most g = g.driven.run

pub never_more : (next : Next ℕ (LitSheet ℕ)) → IsOver (Goes next) → ⊥
never_more (Ask q s) g = g.driven.run
never_more (Done a) g = g.driven.never g.last (value_at (tree_at g.contents) a) refl
never_more (No x) g = g.driven.run

-- a program gives one value, for one cost
pub one_run : {A : Type 0} (w : Place) (p : Program A) (v u : A) (n m : ℕ) → Runs w p v n → Runs w p u m → AreOne v u n m
one_run w (done x) v u n m h k = record { answer = sym h.0 ∙ k.0; cost = h.1 ∙ sym k.1 }
one_run w (refuse r) v u n m h k = absurd h
one_run w (ask q f) v u n m h k =
    let first : AreOne h.0 k.0 h.1 k.1 = one_answer w q h.0 k.0 h.1 k.1 h.3 k.3 in
    let rest : AreOne v u h.2 k.2 = one_run w (f k.0) v u h.2 k.2 (subst (λ x. Runs w (f x) v h.2) first.answer h.4) k.4 in
    let a : n ≡ h.1 + h.2 = h.5 in
    let b : m ≡ k.1 + k.2 = k.5 in
    let one : h.1 ≡ k.1 = first.cost in
    let two : h.2 ≡ k.2 = rest.cost in
    record { answer = rest.answer; cost = omega (arith, a, b, one, two) }
one_run w (look r c f) v u n m h k =
    let same : h.0 ≡ k.0 = Some_inj (sym h.1 ∙ k.1) in
    one_run w (f k.0) v u n m (subst (λ g. Runs w (f g) v n) same h.2) k.2

-- the constant at the head, with what it means
pub record AtConstant (w : Place) (e : Tree) (f : Name) (ls : List Level) (r : Option Tree) (n : ℕ) : Type 0 where
  pub entry : Entry
  pub given : w.means f ≡ Some entry
  pub runs : Runs w (literal_step e f ls entry) r n

pub at_constant : (w : Place) (e : Tree) (f : Name) (ls : List Level) (r : Option Tree) (n : ℕ) → const f ls ≡ head e → Runs w (step_of e (head e)) r n → AtConstant w e f ls r n
at_constant w e f ls r n i h =
    let k : Runs w (step_of e (const f ls)) r n = subst (λ z. Runs w (step_of e z) r n) (sym i) h in
    record { entry = k.0; given = k.1; runs = k.2 }

pub map_lit_same : (c d : Contents) → Extends c d → (sheet : LitSheet ℕ) → IsKnownLit (length c.trees) sheet → map_lit (tree_at d) sheet ≡ map_lit (tree_at c) sheet
map_lit_same c d x (First e) h = ap (λ t. First t) (x.trees.same e h)
map_lit_same c d x (Second e n) h = ap (λ t. Second t n) (x.trees.same e h)

pub known_lit : (c d : Contents) → Extends c d → (sheet : LitSheet ℕ) → IsKnownLit (length c.trees) sheet → IsKnownLit (length d.trees) sheet
known_lit c d x (First e) h = let longer = x.trees.longer in omega arith
known_lit c d x (Second e n) h = let longer = x.trees.longer in omega arith

-- by what the steps of the literal step promise
module _ {S R B : Type 0} (contents : S → Contents) (rest : S → R) (sight : R → Sight B) where
  pub leaves_stays : (a b : S) → Extends (contents a) (contents b) → (sight (rest b)).basis ≡ (sight (rest a)).basis → Leaves contents rest sight a b
  leaves_stays a b x e = record { keeps = x; library = ap (λ z. z.library) e; place = ap (λ z. z.place) e; beside = ap (λ z. z.beside) e }

  pub begun_driven : (old new : S) (result : Result LitPart NoMemory) (e : Tree) (f : Name) (ls : List Level) (most : ℕ) → const f ls ≡ head e →
      ((g : Entry) → (sight (rest old)).basis.place.means f ≡ Some g → StepsPart contents rest sight old new result (λ k. erased_then (sight (rest old)).basis.place (k e) (sight (rest old)).last (literal_step e f ls g))) →
      IfOk result (λ part. (r : Option Tree) (n : ℕ) → Runs (sight (rest old)).basis.place (step_of e (head e)) r n → n < most → IsDriven (sight (rest old)).basis.place (contents new) (sight (rest new)).last part r 2 most)
  begun_driven old new (Err x) e f ls most i h = tt
  begun_driven old new (Ok part) e f ls most i h = λ r n run lt.
      let w : Place = (sight (rest old)).basis.place in
      let k : AtConstant w e f ls r n = at_constant w e f ls r n i run in
      let p = h k.entry k.given in
      driven_first w (contents new) (sight (rest new)).last (sight (rest old)).last part e e f ls k.entry r n most p.known p.steps k.runs lt

  pub resumed_driven : (old mid new : S) (result : Result LitPart NoMemory) (x v b : ℕ) (sheet : LitSheet ℕ) (most : ℕ) → (sight (rest mid)).basis.place ≡ (sight (rest old)).basis.place →
      IsAnswered (sight (rest old)).basis.place (whnf (tree_at (contents old) x)) (tree_at (contents mid) v) b → map_lit (tree_at (contents mid)) sheet ≡ map_lit (tree_at (contents old)) sheet → ResumesPart contents rest sight mid new result sheet v →
      IfOk result (λ part. (r : Option Tree) (left : ℕ) → IsDriven (sight (rest old)).basis.place (contents old) (sight (rest old)).last (Goes (Ask (Whnf x) sheet)) r (suc left) most
      → IsDriven (sight (rest old)).basis.place (contents new) (sight (rest new)).last part r left most)
  resumed_driven old mid new (Err y) x v b sheet most e told stays p = tt
  resumed_driven old mid new (Ok part) x v b sheet most e told stays p = λ r left d.
      let w : Place = (sight (rest old)).basis.place in
      let does : (k : Then) → lit_steps k w (tree_at (contents new)) (sight (rest new)).last part ≡ lit_rest k w (sight (rest mid)).last (map_lit (tree_at (contents mid)) sheet) (tree_at (contents mid) v) =
      λ k. subst (λ z. lit_steps k z (tree_at (contents new)) (sight (rest new)).last part ≡ lit_rest k z (sight (rest mid)).last (map_lit (tree_at (contents mid)) sheet) (tree_at (contents mid) v)) e (p.steps k) in
      driven_next w (contents old) (contents mid) (contents new) (sight (rest old)).last (sight (rest mid)).last (sight (rest new)).last x v sheet part r left most b d told stays p.known does

pub run_within : {A : Type 0} (w : Place) (p : Program A) (most : ℕ) → IsRun w p most → (v : A) (n : ℕ) → Runs w p v n → n < most
run_within w p most k v n h =
    let one : AreOne v k.value n k.cost = one_run w p v k.value n k.cost h k.runs in
    let cost : n ≡ k.cost = one.cost in
    let within : k.cost < most = k.within in
    omega (arith, cost, within)
