-- Places that give the same contents for each name that may be read give one outcome, but for the units looked at.
use Rattle.std.proofs.Common.{ℕ, zero, suc, ◌≡◌, ◌+◌, ◌-◌, Option, Some, None, refl, ap}
use Rattle.lk_tree.specs.Tree.{Name}
use Rattle.lk_tree.specs.declared.rule.Rule.{Rule}
use Rattle.lk_rulebook.specs.Place.{Place, Entry}
use Rattle.lk_questions.specs.Query.{Query, AnswerTo}
use Rattle.lk_questions.specs.Program.{Program, done, refuse, ask, look}
use Rattle.lk_questions.specs.Answer.{Outcome, answered, refused, spent, after, and_then, looked_up, outcome_of, answer_to_depth, plain_answer}
use Rattle.lk_questions.specs.Laws.{GivesTheSame, SameOutcome}

-- what may be asked, what answers then are, and which names may be read
pub record Renaming : Type 1 where
  pub may_ask : Query → Type 0
  pub may_get : (q : Query) → AnswerTo q → Type 0
  pub may_read : Name → Type 0

abbrev pub Reads : {A : Type 0} → Renaming → Place → Program A → (A → Type 0) → Type 0
Reads r w (done v) Q = Q v
Reads r w (refuse n) Q = Unit {0}
Reads r w (ask q k) Q = r.may_ask q × ((v : AnswerTo q) → r.may_get q v → Reads r w (k v) Q)
Reads r w (look n c k) Q = r.may_read c × ((e : Entry) → w.means c ≡ Some e → Reads r w (k e) Q)

-- one outcome but for the units looked at, and its value is as Q says
abbrev pub Alike : {A : Type 0} → (A → Type 0) → Outcome A → Outcome A → Type 0
Alike Q (answered v c t) (answered u d s) = (v ≡ u) × (c ≡ d) × Q v
Alike Q (refused m) (refused n) = m ≡ n
Alike Q spent spent = Unit {0}
Alike Q (answered v c t) (refused n) = ⊥
Alike Q (answered v c t) spent = ⊥
Alike Q (refused n) (answered v c t) = ⊥
Alike Q (refused n) spent = ⊥
Alike Q spent (answered v c t) = ⊥
Alike Q spent (refused n) = ⊥

abbrev pub SameContents : Renaming → Place → Place → Type 0
SameContents r w w' = (c : Name) → r.may_read c → (w.means c ≡ w'.means c) × (w.flaw c ≡ w'.flaw c)

alike_after : {A : Type 0} (Q : A → Type 0) (c : ℕ) (t t' : Option ℕ) (o o' : Outcome A) → Alike Q o o' → Alike Q (after c t o) (after c t' o')
alike_after Q c t t' (answered v d s) (answered u e x) h = (h.0, ap (λ n. c + n) h.1, h.2)
alike_after Q c t t' (refused m) (refused n) h = h
alike_after Q c t t' spent spent h = h
alike_after Q c t t' (answered v d s) (refused n) h = h
alike_after Q c t t' (answered v d s) spent h = h
alike_after Q c t t' (refused n) (answered v d s) h = h
alike_after Q c t t' (refused n) spent h = h
alike_after Q c t t' spent (answered v d s) h = h
alike_after Q c t t' spent (refused n) h = h

pub alike_then : {A B : Type 0} (R : A → Type 0) (Q : B → Type 0) (o o' : Outcome A) (f g : A → ℕ → Outcome B) → Alike R o o' →
    ((v : A) (c : ℕ) → R v → Alike Q (f v c) (g v c)) → Alike Q (and_then o f) (and_then o' g)
alike_then R Q (answered v c t) (answered u d s) f g h k =
    let e : Alike Q (after c t (f v c)) (after c s (g v c)) = alike_after Q c t s (f v c) (g v c) (k v c h.2) in
    rw (← h.0, ← h.1) e
alike_then R Q (refused m) (refused n) f g h k = h
alike_then R Q spent spent f g h k = h
alike_then R Q (answered v c t) (refused n) f g h k = absurd h
alike_then R Q (answered v c t) spent f g h k = absurd h
alike_then R Q (refused n) (answered v c t) f g h k = absurd h
alike_then R Q (refused n) spent f g h k = absurd h
alike_then R Q spent (answered v c t) f g h k = absurd h
alike_then R Q spent (refused n) f g h k = absurd h

pub alike_found : {A : Type 0} (Q : A → Type 0) (n : Rule) (m m' : Option Entry) (i j : ℕ) (f f' : Option Rule) (x y : Entry → Outcome A) → m ≡ m' → f ≡ f' →
    ((e : Entry) → m ≡ Some e → Alike Q (x e) (y e)) → Alike Q (looked_up n m i f x) (looked_up n m' j f' y)
alike_found Q n None m' i j f f' x y em ef h = rw (← em, ← ef) refl
alike_found Q n (Some e) m' i j f f' x y em ef h = rw (← em) (alike_after Q 0 (Some i) (Some j) (x e) (y e) (h e refl))

pub run_alike : {A : Type 0} (r : Renaming) (w w' : Place) → SameContents r w w' → (f g : (q : Query) → ℕ → Outcome (AnswerTo q)) →
    ((q : Query) (b : ℕ) → r.may_ask q → Alike (r.may_get q) (f q b) (g q b)) →
    (p : Program A) (Q : A → Type 0) (b : ℕ) → Reads r w p Q → Alike Q (outcome_of w f b p) (outcome_of w' g b p)
run_alike r w w' same f g h (done v) Q b s = (refl, refl, s)
run_alike r w w' same f g h (refuse n) Q b s = refl
run_alike r w w' same f g h (ask q k) Q b s =
    alike_then (r.may_get q) Q (f q b) (g q b) (λ v c. outcome_of w f (b - c) (k v)) (λ v c. outcome_of w' g (b - c) (k v)) (h q b s.0)
    (λ v c m. run_alike r w w' same f g h (k v) Q (b - c) (s.1 v m))
run_alike r w w' same f g h (look n c k) Q b s =
    alike_found Q n (w.means c) (w'.means c) (w.origin c) (w'.origin c) (w.flaw c) (w'.flaw c) (λ e. outcome_of w f b (k e)) (λ e. outcome_of w' g b (k e))
    (same c s.0).0 (same c s.0).1 (λ e m. run_alike r w w' same f g h (k e) Q b (s.1 e m))

pub answer_alike : (table : (q : Query) → Program (AnswerTo q)) (r : Renaming) (w w' : Place) → SameContents r w w' →
    ((q : Query) → r.may_ask q → Reads r w (table q) (r.may_get q)) →
    (depth : ℕ) (q : Query) (b : ℕ) → r.may_ask q → Alike (r.may_get q) (answer_to_depth table w depth q b) (answer_to_depth table w' depth q b)
unfolding answer_to_depth
answer_alike table r w w' same h zero q b m = tt
answer_alike table r w w' same h (suc depth) q zero m = tt
answer_alike table r w w' same h (suc depth) q (suc b) m =
    alike_after (r.may_get q) 1 None None (outcome_of w (answer_to_depth table w depth) b (table q)) (outcome_of w' (answer_to_depth table w' depth) b (table q))
    (run_alike r w w' same (answer_to_depth table w depth) (answer_to_depth table w' depth) (answer_alike table r w w' same h depth) (table q) (r.may_get q) b (h q m))

-- where all may be read
all_may : Renaming
all_may = record { may_ask = λ q. Unit {0}; may_get = λ q v. Unit {0}; may_read = λ c. Unit {0} }

reads_all : {A : Type 0} (w : Place) (p : Program A) → Reads all_may w p (λ v. Unit {0})
unfolding all_may
reads_all w (done v) = tt
reads_all w (refuse n) = tt
reads_all w (ask q k) = (tt, λ v m. reads_all w (k v))
reads_all w (look n c k) = (tt, λ e m. reads_all w (k e))

same_alike : {A : Type 0} (o o' : Outcome A) → Alike (λ v. Unit {0}) o o' → SameOutcome o o'
same_alike (answered v c t) (answered u d s) h = (h.0, h.1)
same_alike (refused m) (refused n) h = h
same_alike spent spent h = tt
same_alike (answered v c t) (refused n) h = h
same_alike (answered v c t) spent h = h
same_alike (refused n) (answered v c t) h = h
same_alike (refused n) spent h = h
same_alike spent (answered v c t) h = h
same_alike spent (refused n) h = h

pub ans_same : (table : (q : Query) → Program (AnswerTo q)) (w w' : Place) (q : Query) (b : ℕ) → GivesTheSame w w' → SameOutcome (plain_answer table w q b) (plain_answer table w' q b)
unfolding all_may
ans_same table w w' q b h =
    same_alike (plain_answer table w q b) (plain_answer table w' q b) (answer_alike table all_may w w' (λ c m. h c) (λ x m. reads_all w (table x)) b q b tt)
