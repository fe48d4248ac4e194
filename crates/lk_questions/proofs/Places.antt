-- What is answered at the place after all units that were looked at is answered at each place above that.
use Rattle.std.proofs.Common.{ℕ, zero, suc, ◌≡◌, ◌<◌, ◌≤◌, List, [], ◌∷◌, take, Option, Some, None, refl, sym, ap, ◌∙◌, arith}
use Rattle.std.specs.Prelude.{option_and_then}
use Rattle.lk_tree.specs.Tree.{Name}
use Rattle.lk_rulebook.specs.Place.{Place, Entry}
use Rattle.lk_rulebook.specs.Units.{Members, LibraryUnit, Found, given_by, first_of_two, at_unit, first_giving, unit_or, flawless, place_of, at_partial, members_of}
use Rattle.lk_questions.specs.Query.{Query, AnswerTo}
use Rattle.lk_questions.specs.Program.{Program}
use Rattle.lk_questions.specs.Answer.{answered, spent, plain_answer}
use Rattle.lk_questions.specs.Laws.{IsSteady, IsBelow, Keeps}
use Rattle.lk_questions.proofs.Outcomes.{of_answered}
use Rattle.lk_questions.proofs.Budgets.{ans_steady}
use Rattle.lk_questions.proofs.Agreement.{ans_keeps}

-- more units behind change nothing that was given
pub prefix_gives : (i n m : ℕ) (us : List LibraryUnit) (c : Name) (e : Found) → n ≤ m → first_giving i (take n us) c ≡ Some e → first_giving i (take m us) c ≡ Some e
prefix_gives i zero m us c e l h = absurd cc
prefix_gives i (suc n) zero us c e l h = absurd (omega arith)
prefix_gives i (suc n) (suc m) [] c e l h = h
prefix_gives i (suc n) (suc m) (u ∷ us) c e l h = go (at_unit i u (given_by (members_of u) c)) (prefix_gives (suc i) n m us c e (omega arith)) h
  where
    go : (o : Option Found) → (first_giving (suc i) (take n us) c ≡ Some e → first_giving (suc i) (take m us) c ≡ Some e) →
        first_of_two o (first_giving (suc i) (take n us) c) ≡ Some e → first_of_two o (first_giving (suc i) (take m us) c) ≡ Some e
    go (Some x) f k = k
    go None f k = f k

-- what is found there
pub found_entry : (o : Option Found) (e : Entry) → option_and_then flawless o ≡ Some e → (f : Found) × (o ≡ Some f)
found_entry (Some f) e h = (f, refl)
found_entry None e h = absurd cc

pub place_keeps : (us : List LibraryUnit) (n m : ℕ) (partial : Members) → n ≤ m →
    ((c : Name) (f : Found) → first_giving 0 (take n us) c ≡ Some f → given_by partial c ≡ None) → Keeps n (place_of us n []) (place_of us m partial)
place_keeps us n m partial l fresh = λ c e h below.
    let o : Option Found = first_giving 0 (take n us) c in
    let there : (f : Found) × (o ≡ Some f) = found_entry o e h in
    let later : first_giving 0 (take m us) c ≡ Some there.0 = prefix_gives 0 n m us c there.0 l there.1 in
    let none : given_by partial c ≡ None = fresh c there.0 there.1 in
    let at : first_of_two (at_partial m (given_by partial c)) (first_giving 0 (take m us) c) ≡ o = ap (λ g. first_of_two (at_partial m g) (first_giving 0 (take m us) c)) none ∙ (later ∙ sym there.1) in (
      ap (option_and_then flawless) at ∙ h,
      ap (λ x. unit_or x m) at ∙ (ap (λ x. unit_or x m) there.1 ∙ sym (ap (λ x. unit_or x n) there.1)),
    )

-- a true entry at each place above the units that were looked at
pub true_entry : (table : (q : Query) → Program (AnswerTo q)) (n : ℕ) (w w' : Place) → Keeps n w w' → (q : Query) (v : AnswerTo q) (c : ℕ) (t : Option ℕ) →
    plain_answer table w q c ≡ answered v c t → IsBelow t n → (b : ℕ) → (c ≤ b → plain_answer table w' q b ≡ answered v c t) × (b < c → plain_answer table w' q b ≡ spent)
true_entry table n w w' k q v c t h l b =
    let there : plain_answer table w' q c ≡ answered v c t = of_answered (λ x d s. IsBelow s n → plain_answer table w' q c ≡ answered x d s) (plain_answer table w q c) v c t h (ans_keeps table n w w' k q c) l in
    let steady : IsSteady (plain_answer table w' q) c v c t = of_answered (IsSteady (plain_answer table w' q) c) (plain_answer table w' q c) v c t there (ans_steady table w' q c) in
    (λ x. steady.enough b x, λ x. steady.too_little b x)
