-- A question has one answer, at one cost, and that is some.
use Rattle.std.proofs.Common.{◌≡◌, ℕ, zero, suc, ◌+◌, ◌<◌, ◌≤◌, List, [], ◌∷◌, sym, ap, subst, ◌∙◌, inl, inr, arith}
use Rattle.lk_rulebook.specs.Place.{Place}
use Rattle.lk_rulebook.specs.Claims.{Claim}
use Rattle.lk_questions.specs.Query.{Query, AnswerTo}
use Rattle.lk_questions.specs.Answer.{answered}
use Rattle.lk_questions.specs.Table as table
use Rattle.lk_questions.proofs.Budgets.{ans_zero}
use Rattle.lk_written.specs.Written.{Keeps}
use Rattle.lk_step.specs.Rows.{IsAnswered, claim_by, IsThere, AreClaims, no_claim, a_claim}
use Rattle.lk_derive.specs.Writing.{AreAmong}
use Rattle.lk_derive.specs.Derived.{IsDerived}
use Rattle.lk_derive.specs.Tasks.{cost_of, cost_under}
use Rattle.lk_derive.proofs.Lists.{contains_cases}
use Rattle.lk_derive.proofs.Among.{keeps_among}

pub same_answer : (w : Place) (q : Query) (v u : AnswerTo q) (c d : ℕ) → IsAnswered w q v c → IsAnswered w q u d → (v ≡ u) × (c ≡ d)
same_answer w q v u c d a b =
    let x = a (c + d) (omega arith) in
    let y = b (c + d) (omega arith) in
    let e : answered v c x.0 ≡ answered u d y.0 = sym x.1 ∙ y.1 in
    let same : v ≡ u = cc in
    let cost : c ≡ d = cc in
    (same, cost)

pub costs_some : (w : Place) (q : Query) (v : AnswerTo q) (c : ℕ) → IsAnswered w q v c → 0 < c
costs_some w q v zero a =
    let x = a 0 (omega arith) in
    let e = sym (ans_zero table.steps w q) ∙ x.1 in
    absurd (cc)
costs_some w q v (suc c) a = omega arith

pub cost_is : (w : Place) (most : ℕ) (q : Query) (v : AnswerTo q) (c : ℕ) → IsAnswered w q v c → c ≤ most → cost_under w most q ≡ c
cost_is w most q v c a l = let x = a most l in ap cost_of x.1

-- what the answer of a derived question claims is there
pub derived_there : (w : Place) (ps : List Claim) (q : Query) (v : AnswerTo q) (c : ℕ) → IsDerived w ps q → IsAnswered w q v c → IsThere ps (claim_by q v)
derived_there w ps q v c d a =
    let same = same_answer w q d.answer v d.cost c d.answered a in
    subst (λ (u : AnswerTo q). IsThere ps (claim_by q u)) same.0 d.there

pub derived_stays : (w : Place) (ps qs : List Claim) (q : Query) → Keeps ps qs → IsDerived w ps q → IsDerived w qs q
derived_stays w ps qs q keeps d = record {
  answer = d.answer;
  cost = d.cost;
  answered = d.answered;
  claimed = d.claimed;
  there = keeps_among ps qs keeps (claim_by q d.answer) d.there;
}

abbrev pub AllDerived : Place → List Claim → List Query → Type 0
AllDerived w ps [] = Unit {0}
AllDerived w ps (q ∷ qs) = IsDerived w ps q × AllDerived w ps qs

-- what derived questions claim is there
pub claims_there : (w : Place) (ps : List Claim) {qs : List Query} {cs : List Claim} {n : ℕ} → AreClaims w qs cs n → AllDerived w ps qs → AreAmong cs ps
claims_there w ps no_claim h p (inl e) = inl e
claims_there w ps no_claim h p (inr i) = let l = i.1 in absurd (omega arith)
claims_there w ps (a_claim q v c k a claimed more) h p (inl e) = inl e
claims_there w ps (a_claim {qs} {cs} {n} q v c k a claimed more) h p (inr i) = elim (contains_cases (claim_by q v) cs p i) [
  | inl e ↦ subst (IsThere ps) e (derived_there w ps q v c h.0 a)
  | inr j ↦ claims_there w ps more h.1 p (inr j)
]
