-- What waits on the stack.
use Rattle.std.proofs.Common.{◌≡◌, ℕ, ◌+◌, ◌*◌, ◌<◌, ◌≤◌, inl, inr, List, [], ◌∷◌, ◌++◌, map, refl, ap, sym, subst, ◌∙◌, arith}
use Rattle.std.specs.Prelude.{reverse}
use Rattle.std.proofs.lemmas.List.{append-nil, map_push, reverse-append}
use Rattle.lk_rulebook.specs.Place.{Place}
use Rattle.lk_rulebook.specs.Claims.{Claim}
use Rattle.lk_questions.specs.Query.{Query, AnswerTo}
use Rattle.lk_written.specs.Written.{Keeps}
use Rattle.lk_step.specs.Steps.{Step}
use Rattle.lk_step.specs.Rows.{IsAnswered, IsClaimed, IsClaim, claim_by, AreClaims, no_claim, a_claim, AreSteps, claims_after, IsRow}
use Rattle.lk_derive.specs.Writing.{AreAmong}
use Rattle.lk_derive.specs.Derived.{IsDerived}
use Rattle.lk_derive.specs.Tasks.{Task, opening, writing, asker, weight_of, weight, Waits, Comes, AllCome, IsRowAbove, IsTask, AreWaiting}
use Rattle.lk_derive.proofs.Among.{steps_on, after_on}
use Rattle.lk_derive.proofs.Determined.{same_answer, costs_some, cost_is, derived_stays, AllDerived, claims_there}

-- the row of a question that is answered
pub record IsRowFor (w : Place) (q : Query) (asks : List Query) (ss : List Step) : Type 0 where
  pub answer : AnswerTo q
  pub cost : ℕ
  pub answered : IsAnswered w q answer cost
  pub claimed : IsClaimed q answer
  pub row : IsRow w q answer cost asks ss

-- A task was done: what waits, whatever was derived or waited is derived or waits, and what waits weighs less.
pub record IsNext (w : Place) (most : ℕ) (ps qs : List Claim) (before after : List Task) : Type 0 where
  pub waiting : AreWaiting w most qs after
  pub comes : (q : Query) → Comes w ps before q → Comes w qs after q
  pub less : weight w most after < weight w most before

module _ (w : Place) (most : ℕ) where
  weight_append : (xs ys : List Task) → weight w most (xs ++ ys) ≡ weight w most xs + weight w most ys
  weight_append [] ys = omega arith
  weight_append (t ∷ xs) ys = let e = weight_append xs ys in omega arith

  -- the task on top
  pub on_top : (ps : List Claim) (xs : List Task) (t : Task) → AreWaiting w most ps (xs ++ t ∷ []) → IsTask w most ps t []
  on_top ps [] t h = h.0
  on_top ps (u ∷ xs) t h = on_top ps xs t h.1

  -- What stands above is replaced, and more is derived.
  module _ (ps qs : List Claim) (ys zs : List Task) (stays : (q : Query) → IsDerived w ps q → IsDerived w qs q)
      (come : (q : Query) → Waits ys q → Comes w qs zs q) (above : AreWaiting w most qs zs) where
    waits_on : (xs : List Task) (q : Query) → Waits (xs ++ ys) q → Comes w qs (xs ++ zs) q
    waits_on [] q h = come q h
    waits_on (t ∷ xs) q (inl e) = inr (inl e)
    waits_on (t ∷ xs) q (inr h) = elim (waits_on xs q h) [ inl d ↦ inl d | inr v ↦ inr (inr v) ]

    comes_on : (xs : List Task) (q : Query) → Comes w ps (xs ++ ys) q → Comes w qs (xs ++ zs) q
    comes_on xs q (inl d) = inl (stays q d)
    comes_on xs q (inr h) = waits_on xs q h

    all_come_on : (xs : List Task) (rs : List Query) → AllCome w ps (xs ++ ys) rs → AllCome w qs (xs ++ zs) rs
    all_come_on xs [] h = tt
    all_come_on xs (q ∷ rs) h = (comes_on xs q h.0, all_come_on xs rs h.1)

    task_on : (t : Task) (xs : List Task) → IsTask w most ps t (xs ++ ys) → IsTask w most qs t (xs ++ zs)
    task_on (opening q) xs h = h
    task_on (writing q ss) xs h = record {
      answer = h.answer;
      cost = h.cost;
      answered = h.answered;
      claimed = h.claimed;
      asks = h.asks;
      row = h.row;
      come = all_come_on xs h.asks h.come;
    }

    replaced : (xs : List Task) → AreWaiting w most ps (xs ++ ys) → AreWaiting w most qs (xs ++ zs)
    replaced [] h = above
    replaced (t ∷ xs) h = (task_on t xs h.0, replaced xs h.1)

    next : (xs : List Task) → AreWaiting w most ps (xs ++ ys) → weight w most zs < weight w most ys → IsNext w most ps qs (xs ++ ys) (xs ++ zs)
    next xs h less = record {
      waiting = replaced xs h;
      comes = comes_on xs;
      less = let a = weight_append xs ys in let b = weight_append xs zs in omega arith;
    }

  -- nothing is left of a task whose question is derived
  taken : (ps qs : List Claim) (xs : List Task) (t : Task) → ((q : Query) → IsDerived w ps q → IsDerived w qs q) → IsDerived w qs (asker t) → 0 < weight_of w most t
      → AreWaiting w most ps (xs ++ t ∷ []) → IsNext w most ps qs (xs ++ t ∷ []) xs
  taken ps qs xs t stays derived positive h =
      let come : (q : Query) → Waits (t ∷ []) q → Comes w qs [] q = λ q i. elim i [ inl e ↦ inl (subst (IsDerived w qs) e derived) | inr none ↦ absurd none ] in
      subst (IsNext w most ps qs (xs ++ t ∷ [])) (append-nil xs) (next ps qs (t ∷ []) [] stays come tt xs h (omega arith))

  -- an opened question was derived before
  pub passed : (ps : List Claim) (xs : List Task) (q : Query) → AreWaiting w most ps (xs ++ opening q ∷ []) → IsDerived w ps q → IsNext w most ps ps (xs ++ opening q ∷ []) xs
  passed ps xs q h derived =
      let claim : IsClaim w q most = on_top ps xs (opening q) h in
      let positive = costs_some w q claim.answer claim.cost claim.answered in
      let is = cost_is w most q claim.answer claim.cost claim.answered claim.within in
      taken ps ps xs (opening q) (λ p d. d) derived (omega arith) h

  -- the steps of a row were written
  pub written : (ps qs : List Claim) (xs : List Task) (q : Query) (ss : List Step) → AreWaiting w most ps (xs ++ writing q ss ∷ []) → Keeps ps qs → IsDerived w qs q
      → IsNext w most ps qs (xs ++ writing q ss ∷ []) xs
  written ps qs xs q ss h keeps derived = taken ps qs xs (writing q ss) (λ p d. derived_stays w ps qs p keeps d) derived (omega arith) h

  -- what a row asks, the first of it on top
  module _ (ps : List Claim) where
    turned : (q : Query) (rs : List Query) → map opening (reverse (q ∷ rs)) ≡ map opening (reverse rs) ++ opening q ∷ []
    turned q rs = let one : reverse (q ∷ rs) ≡ reverse rs ++ q ∷ [] = reverse-append (q ∷ []) rs in ap (map opening) one ∙ map_push opening (reverse rs) q

    wait_below : (rs : List Query) (q : Query) → IsClaim w q most → AreWaiting w most ps (map opening rs) → AreWaiting w most ps (map opening rs ++ opening q ∷ [])
    wait_below [] q claim h = (claim, tt)
    wait_below (p ∷ rs) q claim h = (h.0, wait_below rs q claim h.1)

    asks_wait : {rs : List Query} {cs : List Claim} {n : ℕ} → AreClaims w rs cs n → n ≤ most → AreWaiting w most ps (map opening (reverse rs))
    asks_wait no_claim l = tt
    asks_wait (a_claim {qs = rs} q v c k a claimed more) l =
        let claim : IsClaim w q most = record { askable = k; answer = v; cost = c; answered = a; claimed = claimed; within = omega arith } in
        subst (AreWaiting w most ps) (sym (turned q rs)) (wait_below (reverse rs) q claim (asks_wait more (omega arith)))

    asks_weigh : {rs : List Query} {cs : List Claim} {n : ℕ} → AreClaims w rs cs n → n ≤ most → weight w most (map opening (reverse rs)) ≡ 2 * n
    asks_weigh no_claim l = refl
    asks_weigh (a_claim {qs = rs} q v c k a claimed more) l =
        let is = cost_is w most q v c a (omega arith) in
        let e = asks_weigh more (omega arith) in
        let all = ap (weight w most) (turned q rs) ∙ weight_append (map opening (reverse rs)) (opening q ∷ []) in
        omega arith

    waits_below : (ts : List Task) (t : Task) (q : Query) → Waits ts q → Waits (ts ++ t ∷ []) q
    waits_below (u ∷ ts) t q (inl e) = inl e
    waits_below (u ∷ ts) t q (inr h) = inr (waits_below ts t q h)
    waits_below [] t q h = absurd h

    waits_last : (ts : List Task) (t : Task) → Waits (ts ++ t ∷ []) (asker t)
    waits_last [] t = inl refl
    waits_last (u ∷ ts) t = inr (waits_last ts t)

    come_below : (ts : List Task) (t : Task) (rs : List Query) → AllCome w ps ts rs → AllCome w ps (ts ++ t ∷ []) rs
    come_below ts t [] h = tt
    come_below ts t (q ∷ rs) h = (elim h.0 [ inl d ↦ inl d | inr i ↦ inr (waits_below ts t q i) ], come_below ts t rs h.1)

    asks_come : (rs : List Query) → AllCome w ps (map opening (reverse rs)) rs
    asks_come [] = tt
    asks_come (q ∷ rs) =
        let ts = map opening (reverse rs) in
        subst (λ us. AllCome w ps us (q ∷ rs)) (sym (turned q rs)) (inr (waits_last ts (opening q)), come_below ts (opening q) rs (asks_come rs))

    -- its row is put in the place of an opened question
    pub opened : (xs : List Task) (q : Query) (rs : List Query) (ss : List Step) → AreWaiting w most ps (xs ++ opening q ∷ []) → IsRowFor w q rs ss
        → IsNext w most ps ps (xs ++ opening q ∷ []) (xs ++ writing q ss ∷ map opening (reverse rs))
    opened xs q rs ss h r =
        let claim : IsClaim w q most = on_top ps xs (opening q) h in
        let same = (same_answer w q r.answer claim.answer r.cost claim.cost r.answered claim.answered).1 in
        let within = claim.within in
        let less = r.row.less in
        let is = cost_is w most q claim.answer claim.cost claim.answered claim.within in
        let weighs = asks_weigh r.row.asked (omega arith) in
        let above : AreWaiting w most ps (writing q ss ∷ map opening (reverse rs)) = (
          record { answer = r.answer; cost = r.cost; answered = r.answered; claimed = r.claimed; asks = rs; row = r.row; come = asks_come rs },
          asks_wait r.row.asked (omega arith),
        ) in
        let come : (p : Query) → Waits (opening q ∷ []) p → Comes w ps (writing q ss ∷ map opening (reverse rs)) p = λ p i. elim i [ inl e ↦ inr (inl e) | inr none ↦ absurd none ] in
        next ps ps (opening q ∷ []) (writing q ss ∷ map opening (reverse rs)) (λ p d. d) come above xs h (omega arith)

  -- All that a row asks is derived: its steps hold over what is there, and what they state derives its question.
  module _ (ps : List Claim) (q : Query) (ss : List Step) (r : IsRowAbove w ps q ss []) where
    all_derived : (rs : List Query) → AllCome w ps [] rs → AllDerived w ps rs
    all_derived [] h = tt
    all_derived (p ∷ rs) h = (elim h.0 [ inl d ↦ d | inr none ↦ absurd none ], all_derived rs h.1)

    claims_among : AreAmong r.row.claims ps
    claims_among = claims_there w ps r.row.asked (all_derived r.asks r.come)

    pub due_steps : AreSteps w ps ss
    due_steps = steps_on w r.row.claims ps ss claims_among r.row.steps_hold

    pub due_derived : (qs : List Claim) → AreAmong (claims_after ps ss) qs → IsDerived w qs q
    due_derived qs among = record {
      answer = r.answer;
      cost = r.cost;
      answered = r.answered;
      claimed = r.claimed;
      there = among (claim_by q r.answer) (after_on r.row.claims ps ss claims_among (claim_by q r.answer) r.row.stated);
    }
