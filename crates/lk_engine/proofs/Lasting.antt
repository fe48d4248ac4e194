-- Answers that are true above all units that were looked at for them, and at a unit's own place.
use Rattle.std.proofs.Common.{◌≡◌, ℕ, zero, suc, ◌+◌, ◌-◌, ◌<◌, ◌≤◌, List, [], ◌∷◌, ◌++◌, length, take, Option, Some, None, refl, ap, sym, subst, ◌∙◌, arith}
use Rattle.std.specs.Prelude.{option_and_then, slice_get}
use Rattle.lk_tree.specs.Tree.{Name}
use Rattle.lk_rulebook.specs.Place.{Place, Entry}
use Rattle.lk_rulebook.specs.Units.{LibraryUnit, Library, Found, given_by, first_of_two, at_unit, first_giving, unit_or, flawless, place_of, members_of}
use Rattle.lk_questions.specs.Query as plain
use Rattle.lk_questions.specs.Answer.{Outcome, answered, refused, spent, IfAnswered, plain_answer}
use Rattle.lk_questions.specs.Laws.{IsBelow, Keeps}
use Rattle.lk_questions.specs.Erased.{Value, finished, left_of, value_of, out_of, IsAnsweredAt}
use Rattle.lk_questions.proofs.Agreement.{ans_keeps}
use Rattle.lk_questions.proofs.Places.{found_entry, place_keeps}
use Rattle.lk_questions.proofs.Exact.{out_exact}
use Rattle.lk_questions.specs.Table.{steps}
use Rattle.lk_store.specs.Contents.{Contents, tree_at, Extends}
use Rattle.lk_env.specs.declared.entry.Partial.TheVariants.{Nothing}
use Rattle.lk_env.specs.Units.{library_of}
use Rattle.lk_env.specs.Places.{beside_at, partial_first, partial_last, new_among}
use Rattle.lk_env.specs.StoredLibrary.{StoredLibrary}
use Rattle.lk_ask.specs.declared.kept.Kept.{Kept}
use Rattle.lk_ask.specs.declared.query.Query.{Query}
use Rattle.lk_ask.specs.Questions.{query_of, value_at, IsKnownQuery, IsKnownAnswer}
use Rattle.lk_desk.specs.Truth.{above}
use Rattle.lk_engine.specs.Entries.{IsTrueAt, IsLasting}
use Rattle.lk_engine.proofs.Frames.{query_steady, answer_steady, true_steady}

-- units that are given stand at their numbers
unit_from : (i : ℕ) (us : List LibraryUnit) (c : Name) (f : Found) → first_giving i us c ≡ Some f → i ≤ f.unit
unit_from i [] c f h = absurd (cc)
unit_from i (u ∷ us) c f h = go (given_by (members_of u) c) (unit_from (suc i) us c f) h
  where
    go : (g : Option Entry) → (first_giving (suc i) us c ≡ Some f → suc i ≤ f.unit)
        → first_of_two (at_unit i u g) (first_giving (suc i) us c) ≡ Some f → i ≤ f.unit
    go None rec e = let l = rec e in omega arith
    go (Some x) rec e = let o = ap (λ (o : Option Found). unit_or o i) e in omega (arith, o)

-- fewer units give what one of them gave
prefix_back : (i n m : ℕ) (us : List LibraryUnit) (c : Name) (f : Found) → f.unit < i + m
    → first_giving i (take n us) c ≡ Some f → first_giving i (take m us) c ≡ Some f
prefix_back i zero m us c f lt h = absurd (cc)
prefix_back i (suc n) m [] c f lt h = absurd (cc)
prefix_back i (suc n) zero (u ∷ us) c f lt h =
    absurd (let l = unit_from i (take (suc n) (u ∷ us)) c f h in omega arith)
prefix_back i (suc n) (suc m) (u ∷ us) c f lt h =
    go (at_unit i u (given_by (members_of u) c)) (prefix_back (suc i) n m us c f (omega arith)) h
  where
    go : (o : Option Found)
        → (first_giving (suc i) (take n us) c ≡ Some f → first_giving (suc i) (take m us) c ≡ Some f)
        → first_of_two o (first_giving (suc i) (take n us) c) ≡ Some f
        → first_of_two o (first_giving (suc i) (take m us) c) ≡ Some f
    go (Some x) rec k = k
    go None rec k = rec k

keeps_back : (us : Library) (n m : ℕ) → Keeps m (place_of us n []) (place_of us m [])
keeps_back us n m = λ c e h below.
    let o : Option Found = first_giving 0 (take n us) c in
    let there : (f : Found) × (o ≡ Some f) = found_entry o e h in
    let unit : unit_or o n ≡ there.0.unit = ap (λ x. unit_or x n) there.1 in
    let fewer : first_giving 0 (take m us) c ≡ Some there.0 =
    prefix_back 0 n m us c there.0 (omega (arith, below, unit)) there.1 in
    (ap (option_and_then flawless) (fewer ∙ sym there.1) ∙ h, ap (λ x. unit_or x m) fewer ∙ sym unit)

keeps_on : (us : Library) (n m : ℕ) → n ≤ m → Keeps n (place_of us n []) (place_of us m [])
keeps_on us n m l = place_keeps us n m [] l (λ c f e. refl)

above_within : (top : Option ℕ) (n : ℕ) → IsBelow top n → above top ≤ n
above_within None n h = omega arith
above_within (Some t) n h = omega arith

below_above : (top : Option ℕ) → IsBelow top (above top)
below_above None = tt
below_above (Some t) = omega arith

-- an answer comes where all is given that was looked at
out_keeps : (n : ℕ) (w other : Place) → Keeps n w other → (q : plain.Query) (b : ℕ) (v : Value) (left : ℕ)
    (t : Option ℕ) → out_of steps w q b ≡ finished v left t → IsBelow t n
    → out_of steps other q b ≡ finished v left t
unfolding out_of
out_keeps n w other keeps q b v left t h below =
    go (plain_answer steps w q b) (ans_keeps steps n w other keeps q b) h
  where
    go : (o : Outcome (plain.AnswerTo q))
        → IfAnswered o (λ a c u. IsBelow u n → plain_answer steps other q b ≡ answered a c u)
        → left_of (value_of q) b o ≡ finished v left t
        → left_of (value_of q) b (plain_answer steps other q b) ≡ finished v left t
    go (answered a c u) k e =
        let last : u ≡ t = cc in
        ap (left_of (value_of q) b) (k (subst (λ s. IsBelow s n) (sym last) below)) ∙ e
    go (refused r) k e = absurd (cc)
    go spent k e = absurd (cc)

-- the same of its cost under every budget
answered_there : (n : ℕ) (w other : Place) → Keeps n w other → (q : plain.Query) (v : Value) (c : ℕ)
    (t : Option ℕ) → IsBelow t n → IsAnsweredAt (out_of steps w q) v c t
    → IsAnsweredAt (out_of steps other q) v c t
answered_there n w other keeps q v c t below h =
    let there = out_keeps n w other keeps q c v (c - c) t (h.enough c (omega arith)) below in
    let whole : c - (c - c) ≡ c = omega arith in
    subst (λ k. IsAnsweredAt (out_of steps other q) v k t) whole
    (out_exact steps other q c v (c - c) t there).1

module _ (l : StoredLibrary) (w : Place) (c first : Contents) (n : ℕ)
    (stand : Extends first c) (place : w ≡ place_of (library_of l) n [])
    (q : Query ℕ) (kept : Kept) where
  abbrev us : Library
  us = library_of l

  -- what lasts is true at the unit that looks
  pub lasting_here : IsBelow kept.top n → IsLasting l first q kept → IsTrueAt w c q kept
  lasting_here below h =
      let own : IsTrueAt (place_of us n []) first q kept = record {
        query = h.query;
        answer = h.answer;
        is = answered_there (above kept.top) (place_of us (above kept.top) []) (place_of us n [])
            (keeps_on us (above kept.top) n (above_within kept.top n below))
            (query_of (tree_at first) q) (value_at (tree_at first) kept.answer) kept.cost kept.top
            (below_above kept.top) h.is;
      } in
      subst (λ p. IsTrueAt p c q kept) (sym place)
      (true_steady stand (place_of us n []) q kept own)

  -- what was answered at a unit over the first terms lasts
  pub here_lasts : IsKnownQuery (length first.trees) q → IsKnownAnswer (length first.trees) kept.answer
      → IsTrueAt w c q kept → IsLasting l first q kept
  here_lasts asked told h =
      let own : IsTrueAt (place_of us n []) c q kept = subst (λ p. IsTrueAt p c q kept) place h in
      record {
        query = asked;
        answer = told;
        is = answered_there (above kept.top) (place_of us n []) (place_of us (above kept.top) [])
            (keeps_back us n (above kept.top))
            (query_of (tree_at first) q) (value_at (tree_at first) kept.answer) kept.cost kept.top
            (below_above kept.top)
            (rw (query_steady stand q asked, answer_steady stand kept.answer told) at own.is);
      }

-- beside a unit of which nothing is partial nothing stands
pub alone : (us : Library) (n : ℕ) → beside_at us (record { unit = n; partial = Nothing }) [] ≡ []
alone us n = go (slice_get us n)
  where
    go : (o : Option LibraryUnit)
        → (elim o [ None ↦ [] | Some u ↦ new_among us n (partial_first u Nothing) ] ++ [])
        ++ elim o [ None ↦ [] | Some u ↦ new_among us n (partial_last u Nothing) ] ≡ []
    go None = refl
    go (Some u) = refl
