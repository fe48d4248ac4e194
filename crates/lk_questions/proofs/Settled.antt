-- An outcome but spent is the same under each greater budget.
use Rattle.std.proofs.Common.{ℕ, zero, suc, ◌≡◌, ◌-◌, ◌⊎◌, inl, inr, Option, Some, None, refl, ap, ◌∙◌, arith}
use Rattle.lk_tree.specs.declared.rule.Rule.{Rule}
use Rattle.lk_rulebook.specs.Place.{Place, Entry}
use Rattle.lk_questions.specs.Query.{Query, AnswerTo}
use Rattle.lk_questions.specs.Program.{Program, done, refuse, ask, look}
use Rattle.lk_questions.specs.Answer.{Outcome, answered, refused, spent, after, and_then, looked_up, outcome_of, answer_to_depth, plain_answer}
use Rattle.lk_questions.specs.Laws.{IsSettled}
use Rattle.lk_questions.proofs.Budgets.{answer_depth}

-- o is spent, or o' is o
abbrev pub Settles : {A : Type 0} → Outcome A → Outcome A → Type 0
Settles o o' = (o ≡ spent) ⊎ (o' ≡ o)

pub settled_after : {A : Type 0} (c : ℕ) (t : Option ℕ) (o o' : Outcome A) → Settles o o' → Settles (after c t o) (after c t o')
settled_after c t o o' (inl e) = inl (ap (after c t) e)
settled_after c t o o' (inr e) = inr (ap (after c t) e)

pub settled_then : {A B : Type 0} (o o' : Outcome A) (f g : A → ℕ → Outcome B) → Settles o o' → ((v : A) (c : ℕ) → Settles (f v c) (g v c)) → Settles (and_then o f) (and_then o' g)
settled_then o o' f g (inl e) h = inl (ap (λ x. and_then x f) e)
settled_then {A} {B} o o' f g (inr e) h = moved (go o)
  where
    go : (x : Outcome A) → Settles (and_then x f) (and_then x g)
    go (answered v c t) = settled_after c t (f v c) (g v c) (h v c)
    go (refused r) = inr refl
    go spent = inl refl

    moved : Settles (and_then o f) (and_then o g) → Settles (and_then o f) (and_then o' g)
    moved (inl x) = inl x
    moved (inr x) = inr (ap (λ y. and_then y g) e ∙ x)

pub settled_found : {A : Type 0} (r : Rule) (m : Option Entry) (unit : ℕ) (flaw : Option Rule) (f g : Entry → Outcome A) → ((e : Entry) → Settles (f e) (g e)) → Settles (looked_up r m unit flaw f) (looked_up r m unit flaw g)
settled_found r None unit flaw f g h = inr refl
settled_found r (Some e) unit flaw f g h = settled_after 0 (Some unit) (f e) (g e) (h e)

pub run_settled : {A : Type 0} (w : Place) (f : (q : Query) → ℕ → Outcome (AnswerTo q)) → ((q : Query) → IsSettled (f q)) → (p : Program A) → IsSettled (λ b. outcome_of w f b p)
run_settled w f h (done v) b i l = inr refl
run_settled w f h (refuse r) b i l = inr refl
run_settled w f h (ask q k) b i l =
    settled_then (f q b) (f q i) (λ v c. outcome_of w f (b - c) (k v)) (λ v c. outcome_of w f (i - c) (k v)) (h q b i l) (λ v c. run_settled w f h (k v) (b - c) (i - c) (omega arith))
run_settled w f h (look r c k) b i l = settled_found r (w.means c) (w.origin c) (w.flaw c) (λ e. outcome_of w f b (k e)) (λ e. outcome_of w f i (k e)) (λ e. run_settled w f h (k e) b i l)

-- at a fixed depth
answer_settled : (table : (q : Query) → Program (AnswerTo q)) (w : Place) (depth : ℕ) (q : Query) → IsSettled (answer_to_depth table w depth q)
unfolding answer_to_depth
answer_settled table w zero q b i l = inl refl
answer_settled table w (suc depth) q zero i l = inl refl
answer_settled table w (suc depth) q (suc b) zero l = absurd (omega arith)
answer_settled table w (suc depth) q (suc b) (suc i) l =
    settled_after 1 None (outcome_of w (answer_to_depth table w depth) b (table q)) (outcome_of w (answer_to_depth table w depth) i (table q)) (run_settled w (answer_to_depth table w depth) (answer_settled table w depth) (table q) b i (omega arith))

moved_to : {A : Type 0} (o p o' : Outcome A) → o ≡ p → Settles p o' → Settles o o'
moved_to o p o' e (inl x) = inl (e ∙ x)
moved_to o p o' e (inr x) = inr (let y : o' ≡ o = cc in y)

pub ans_settled : (table : (q : Query) → Program (AnswerTo q)) (w : Place) (q : Query) → IsSettled (plain_answer table w q)
ans_settled table w q b i l =
    moved_to (plain_answer table w q b) (answer_to_depth table w i q b) (plain_answer table w q i) (answer_depth table w b i q b (omega arith) l) (answer_settled table w i q b i l)
