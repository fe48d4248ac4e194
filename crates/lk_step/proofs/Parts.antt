-- Rows under way: what may be added to them, and when they are whole.
use Rattle.std.proofs.Common.{ℕ, zero, suc, ◌≡◌, ◌<◌, ◌≤◌, ◌+◌, inl, inr, List, [], ◌∷◌, ◌++◌, length, refl, sym, subst, arith}
use Rattle.std.specs.Prelude.{All, Contains, slice_index_or}
use Rattle.std.proofs.lemmas.List.Elements.{All-weaker, All-nil, All-cons, Contains-append_left, Contains-push}
use Rattle.lk_rulebook.specs.Place.{Place}
use Rattle.lk_rulebook.specs.Claims.{Claim}
use Rattle.lk_questions.specs.Query.{Query, AnswerTo}
use Rattle.lk_questions.specs.Sound.{IsAskable}
use Rattle.lk_step.specs.Steps.{Step, claim_of, premises_of, StepHolds}
use Rattle.lk_step.specs.Rows.{IsAnswered, IsClaimed, claim_by, AreClaims, no_claim, a_claim, IsThere, AreSteps, claims_after, IsRow}
use Rattle.lk_step.specs.Parts.{AreThere, IsPart}

-- what the one has, the other has
abbrev Within : List Claim → List Claim → Type 0
Within cs ds = (x : Claim) → Contains cs x → Contains ds x

contains_more : (y : Claim) (cs : List Claim) (x : Claim) → Contains cs x → Contains (y ∷ cs) x
contains_more y cs x h = let lt : h.0 < length cs = h.1 in (suc h.0, omega arith, h.2)

within_cons : (y : Claim) (cs ds : List Claim) → Within cs ds → Within (y ∷ cs) (y ∷ ds)
within_cons y cs ds f x h = go h.0 h.1 h.2
  where
    go : (k : ℕ) → k < length (y ∷ cs) → slice_index_or (y ∷ cs) k x ≡ x → Contains (y ∷ ds) x
    go zero lt e = (0, omega arith, e)
    go (suc k) lt e = contains_more y ds x (f x (k, omega arith, e))

there_within : (cs ds : List Claim) → Within cs ds → (x : Claim) → IsThere cs x → IsThere ds x
there_within cs ds f x (inl e) = inl e
there_within cs ds f x (inr h) = inr (f x h)

steps_within : (w : Place) (cs ds : List Claim) (ss : List Step) → Within cs ds → AreSteps w cs ss → AreSteps w ds ss
steps_within w cs ds [] f h = tt
steps_within w cs ds (s ∷ ss) f h = (
  h.0,
  All-weaker (IsThere cs) (IsThere ds) (there_within cs ds f) (premises_of s) h.1,
  steps_within w (claim_of s ∷ cs) (claim_of s ∷ ds) ss (within_cons (claim_of s) cs ds f) h.2,
)

after_within : (cs ds : List Claim) (ss : List Step) → Within cs ds → Within (claims_after cs ss) (claims_after ds ss)
after_within cs ds [] f = f
after_within cs ds (s ∷ ss) f = after_within (claim_of s ∷ cs) (claim_of s ∷ ds) ss (within_cons (claim_of s) cs ds f)

within_after : (cs : List Claim) (ss : List Step) → Within cs (claims_after cs ss)
within_after cs [] = λ x h. h
within_after cs (s ∷ ss) = λ x h. within_after (claim_of s ∷ cs) ss x (contains_more (claim_of s) cs x h)

are_within : (cs ds xs : List Claim) → Within cs ds → AreThere cs xs → AreThere ds xs
are_within cs ds [] f h = tt
are_within cs ds (x ∷ xs) f h = (there_within cs ds f x h.0, are_within cs ds xs f h.1)

-- one of those that are there
one_of : (cs xs : List Claim) (x : Claim) → AreThere cs xs → (k : ℕ) → k < length xs → slice_index_or xs k x ≡ x → IsThere cs x
one_of cs [] x h k lt e = absurd (omega arith)
one_of cs (y ∷ ys) x h zero lt e = subst (IsThere cs) e h.0
one_of cs (y ∷ ys) x h (suc k) lt e = one_of cs ys x h.1 k (omega arith) e

pub there_of : (cs xs : List Claim) (x : Claim) → AreThere cs xs → IsThere xs x → IsThere cs x
there_of cs xs x h (inl e) = inl e
there_of cs xs x h (inr i) = one_of cs xs x h i.0 i.1 i.2

pub are_of : (cs xs ys : List Claim) → AreThere cs xs → AreThere xs ys → AreThere cs ys
are_of cs xs [] h i = tt
are_of cs xs (y ∷ ys) h i = (there_of cs xs y h i.0, are_of cs xs ys h i.1)

all_there : (cs xs : List Claim) → AreThere cs xs → All (IsThere cs) xs
all_there cs [] h = All-nil (IsThere cs)
all_there cs (x ∷ xs) h = All-cons (IsThere cs) x xs h.0 (all_there cs xs h.1)

-- the first, the second and the third of what is stated
pub first : (x : Claim) (xs : List Claim) → IsThere (x ∷ xs) x
first x xs = inr (0, omega arith, refl)

pub behind : (y : Claim) (xs : List Claim) (x : Claim) → IsThere xs x → IsThere (y ∷ xs) x
behind y xs x (inl e) = inl e
behind y xs x (inr h) = inr (contains_more y xs x h)

pub are_behind : (y : Claim) (xs ys : List Claim) → AreThere xs ys → AreThere (y ∷ xs) ys
are_behind y xs [] h = tt
are_behind y xs (x ∷ ys) h = (behind y xs x h.0, are_behind y xs ys h.1)

pub all_of : (xs : List Claim) → AreThere xs xs
all_of [] = tt
all_of (x ∷ xs) = (first x xs, are_behind x xs xs (all_of xs))

steps_on : (w : Place) (cs : List Claim) (ss : List Step) (s : Step) → AreSteps w cs ss → StepHolds w s → All (IsThere (claims_after cs ss)) (premises_of s) → AreSteps w cs (ss ++ s ∷ [])
steps_on w cs [] s h holds there = (holds, there, tt)
steps_on w cs (t ∷ ts) s h holds there = (h.0, h.1, steps_on w (claim_of t ∷ cs) ts s h.2 holds there)

after_on : (cs : List Claim) (ss : List Step) (s : Step) → claims_after cs (ss ++ s ∷ []) ≡ claim_of s ∷ claims_after cs ss
after_on cs [] s = refl
after_on cs (t ∷ ts) s = after_on (claim_of t ∷ cs) ts s

claims_on : (w : Place) {qs : List Query} {cs : List Claim} {n : ℕ} → AreClaims w qs cs n → (q : Query) (v : AnswerTo q) (c : ℕ) → IsAskable q → IsAnswered w q v c → IsClaimed q v →
    AreClaims w (qs ++ q ∷ []) (cs ++ claim_by q v ∷ []) (n + c)
claims_on w no_claim q v c f h i = subst (λ m. AreClaims w (q ∷ []) (claim_by q v ∷ []) m) (omega arith) (a_claim q v c f h i no_claim)
claims_on w (a_claim {qs = qs} {cs = cs} {n = n} p u b g j k more) q v c f h i =
    subst (λ m. AreClaims w (p ∷ (qs ++ q ∷ [])) (claim_by p u ∷ (cs ++ claim_by q v ∷ [])) m) (omega arith) (a_claim p u b g j k (claims_on w more q v c f h i))

-- nothing
pub none : (w : Place) → IsPart w [] [] [] 0
none w = record { claims = []; cost = 0; within = omega arith; asked = no_claim; steps_hold = tt; there = tt }

pub asks_more : (w : Place) (qs : List Query) (ss : List Step) (xs : List Claim) (n : ℕ) (q : Query) (v : AnswerTo q) (c : ℕ) → IsAskable q → IsAnswered w q v c → IsClaimed q v →
    IsPart w qs ss xs n → IsPart w (qs ++ q ∷ []) ss (claim_by q v ∷ xs) (n + c)
asks_more w qs ss xs n q v c f h i p =
    let all : List Claim = p.claims ++ claim_by q v ∷ [] in
    let within : p.cost ≤ n = p.within in
    let more : Within p.claims all = λ x k. Contains-append_left p.claims (claim_by q v ∷ []) x k in
    record {
      claims = all;
      cost = p.cost + c;
      asked = claims_on w p.asked q v c f h i;
      within = omega arith;
      steps_hold = steps_within w p.claims all ss more p.steps_hold;
      there = (inr (within_after all ss (claim_by q v) (Contains-push p.claims (claim_by q v))), are_within (claims_after p.claims ss) (claims_after all ss) xs (after_within p.claims all ss more) p.there);
    }

pub states_more : (w : Place) (qs : List Query) (ss : List Step) (xs : List Claim) (n : ℕ) (s : Step) → StepHolds w s → AreThere xs (premises_of s) →
    IsPart w qs ss xs n → IsPart w qs (ss ++ s ∷ []) (claim_of s ∷ xs) n
states_more w qs ss xs n s holds there p =
    let cs : List Claim = claims_after p.claims ss in
    record {
      claims = p.claims;
      cost = p.cost;
      asked = p.asked;
      within = p.within;
      steps_hold = steps_on w p.claims ss s p.steps_hold holds (all_there cs (premises_of s) (are_of cs xs (premises_of s) p.there there));
      there = subst (λ ds. AreThere ds (claim_of s ∷ xs)) (sym (after_on p.claims ss s)) (first (claim_of s) cs, are_behind (claim_of s) cs xs p.there);
    }

-- what is there, among others, is stated, for no less
pub states_these : (w : Place) (qs : List Query) (ss : List Step) (xs ys : List Claim) (n m : ℕ) → AreThere xs ys → n ≤ m → IsPart w qs ss xs n → IsPart w qs ss ys m
states_these w qs ss xs ys n m h lt p = let within : p.cost ≤ n = p.within in record { claims = p.claims; cost = p.cost; within = omega arith; asked = p.asked; steps_hold = p.steps_hold; there = are_of (claims_after p.claims ss) xs ys p.there h }

pub row_of_part : (w : Place) (qs : List Query) (ss : List Step) (xs : List Claim) (n : ℕ) (q : Query) (v : AnswerTo q) (c : ℕ) → n < c → IsPart w qs ss (claim_by q v ∷ xs) n → IsRow w q v c qs ss
row_of_part w qs ss xs n q v c lt p = let within : p.cost ≤ n = p.within in record { claims = p.claims; spent = p.cost; asked = p.asked; less = omega arith; steps_hold = p.steps_hold; stated = p.there.0 }
