-- Answers that workers share: what a desk has outlasts its unit, and what outlasts its unit may be
-- left.
use Rattle.std.proofs.Common.{◌≡◌, ℕ, ◌<◌, ◌+◌, ◌-◌, ◌^◌, ◌≤◌, length, Option, Some, None, Ok, Err, Result, refl, ap, sym, subst, ◌∙◌, arith}
use Rattle.std.specs.Prelude.{IfOk, IfSome}
use Rattle.lk_questions.specs.Laws.{IsBelow}
use Rattle.lk_questions.specs.Erased.{Out, out_of, IsAnsweredAt}
use Rattle.lk_questions.proofs.Exact.{out_exact}
use Rattle.lk_questions.specs.Table.{steps}
use Rattle.lk_store.specs.declared.tables.Tables.{Tables}
use Rattle.lk_store.specs.Contents.{Contents, tree_at, Extends}
use Rattle.lk_store.specs.Store.{over, contents_of, trees_by, parts_of}
use Rattle.lk_store.proofs.Columns.{length-values_of}
use Rattle.lk_store.proofs.Made.{Extends-self}
use Rattle.lk_store.specs.Layers.{layers_contents, Layers}
use Rattle.lk_ask.specs.declared.kept.Kept.{Kept}
use Rattle.lk_ask.specs.declared.query.Query.{Query}
use Rattle.lk_ask.specs.declared.query.Answer.{Answer}
use Rattle.lk_ask.specs.declared.query.Query.TheVariants as query
use Rattle.lk_ask.specs.declared.stop.Stop.{Stop}
use Rattle.lk_ask.specs.Questions.{query_of, value_at, IsKnownQuery, IsKnownAnswer}
use Rattle.lk_ask.specs.Outlook.{Outlook}
use Rattle.lk_memo.specs.declared.memo.PrivateMemo.{PrivateMemo}
use Rattle.lk_memo.specs.declared.key.Key.{Key}
use Rattle.lk_memo.specs.Keys.{key_of}
use Rattle.lk_desk.specs.declared.entry.Entry.{Entry}
use Rattle.lk_desk.specs.Job.{Job}
use Rattle.lk_desk.specs.Entries.{spelled_value, IsSpelledAnswer, IsMade}
use Rattle.lk_desk.specs.Truth.{question_of, place_above, IsTrueIn, IsTrueOf, IsFoundIn, IsFoundOf, IsTablesOf}
use Rattle.lk_engine.specs.Entries.{IsTrueAt, IsLasting, StillHas}
use Rattle.lk_engine.specs.Lookouts.{place_of, out_at, Stays, Shares, Stands, Answers, AnswersKept, Repeats, IsWorkedOut}
use Rattle.lk_engine.specs.Shares.{LastsAt, IsFor, IsShared}
use Rattle.lk_engine.proofs.Frames.{query_steady, query_known}
use Rattle.lk_engine.proofs.Lasting.{lasting_here, here_lasts}
use Rattle.lk_engine.proofs.Lookouts.{place_stays, stays_on, entries_back, still_stands, repeat_has_memory}
use Rattle.lk_engine.specs.Shared.{Shared}
use Rattle.lk_env.specs.StoredLibrary.{StoredLibrary}
use Rattle.lk_env.specs.StoredScope.{StoredScope}

question_back : (q : Query ℕ) → question_of (key_of q) ≡ q
question_back (query.Core e) = refl
question_back (query.Whnf e) = refl
question_back (query.Infer e) = refl
question_back (query.Same a b) = refl

-- how many trees the rows stand for
pub trees_stored : (t : Tables) → length t.trees ≡ length (contents_of t).trees
trees_stored t = sym (length-values_of (trees_by (parts_of t)) t.trees)

module _ (l : StoredLibrary) (c : Contents) (x : Extends (contents_of l.tables) c)
    (q : Query ℕ) (key : Key) (is : key ≡ key_of q) (kept : Kept) where
  abbrev b : Contents
  b = contents_of l.tables

  back : question_of key ≡ q
  back = ap question_of is ∙ question_back q

  -- the plain answer of the key's question above a unit
  abbrev asked_above : Option ℕ → ℕ → Out
  asked_above t = out_of steps (place_above l t) (query_of (tree_at b) (question_of key))

  -- what is found at a desk outlasts its unit
  found_lasts : IsFoundIn l c key kept → IsLasting l c q kept
  found_lasts h =
      let asked : IsKnownQuery (length b.trees) q =
      subst (IsKnownQuery (length b.trees)) back h.query in
      record {
        query = query_known x q asked;
        answer = h.answer;
        is = subst (λ r. IsAnsweredAt (out_of steps (place_above l kept.top) r)
            (value_at (tree_at c) kept.answer) kept.cost kept.top)
            (ap (query_of (tree_at b)) back ∙ sym (query_steady x q asked)) h.is;
      }

  -- what outlasts its unit is true where it is spelled
  lasts_true : (entry : Entry) → IsKnownQuery (length b.trees) q → IsSpelledAnswer b entry.answer
      → IsMade b c entry kept → IsLasting l c q kept → IsTrueIn l key entry
  lasts_true entry asked spelled made h = record {
    query = subst (IsKnownQuery (length b.trees)) (sym back) asked;
    answer = spelled;
    is = subst (λ t. IsAnsweredAt (asked_above t) (spelled_value b entry.answer) entry.cost t) made.top
        (subst (λ k. IsAnsweredAt (asked_above kept.top) (spelled_value b entry.answer) k kept.top)
        made.cost
        (subst (λ v. IsAnsweredAt (asked_above kept.top) v kept.cost kept.top) made.value
        (subst (λ r. IsAnsweredAt (out_of steps (place_above l kept.top) r)
        (value_at (tree_at c) kept.answer) kept.cost kept.top)
        (query_steady x q asked ∙ ap (query_of (tree_at b)) (sym back)) h.is)));
  }

-- the same of a desk's job, whose tables these are
module _ (t : Tables) (c : Contents) (x : Extends (contents_of t) c) (q : Query ℕ) (key : Key)
    (is : key ≡ key_of q) where
  there : (l : StoredLibrary) → l.tables ≡ t → Extends (contents_of l.tables) c
  there l same = subst (λ s. Extends (contents_of s) c) (sym same) x

  pub look_shared : (j : Job) → IsTablesOf j t → (looker : Option ℕ) (unit : ℕ)
      → looker ≡ Some unit → (o : Option Kept)
      → IfSome o (λ a. IsFoundOf j c key a × IsBelow a.top unit)
      → IfSome o (IsShared (record { job = j; unit = looker }) c q)
  unfolding IsFoundOf
  look_shared j same looker unit looks None h = tt
  look_shared None same looker unit looks (Some kept) h = absurd same
  look_shared (Some l) same looker unit looks (Some kept) h = record {
    unit = unit;
    looks = looks;
    below = h.1;
    lasts = found_lasts l c (there l same) q key is kept h.0;
  }

  pub leave_true : (j : Job) → IsTablesOf j t → (kept : Kept) (entry : Entry)
      → IsKnownQuery (length (contents_of t).trees) q → IsSpelledAnswer (contents_of t) entry.answer
      → IsMade (contents_of t) c entry kept → LastsAt j c q kept → IsTrueOf j key entry
  unfolding IsTrueOf
  leave_true None same kept entry asked spelled made h = absurd same
  leave_true (Some l) same kept entry asked spelled made h =
      let b : contents_of t ≡ contents_of l.tables = ap (λ s. contents_of s) (sym same) in
      lasts_true l c (there l same) q key is kept entry
      (subst (λ k. IsKnownQuery (length k.trees) q) b asked)
      (subst (λ k. IsSpelledAnswer k entry.answer) b spelled)
      (subst (λ k. IsMade k c entry kept) b made) h

pub lasts_known : (j : Job) (c : Contents) (q : Query ℕ) (kept : Kept) → LastsAt j c q kept
    → IsKnownAnswer (length c.trees) kept.answer
lasts_known None c q kept h = absurd h
lasts_known (Some l) c q kept h = h.answer

-- at a lookout whose desk it is
module _ {s : Outlook Layers} {share : Shared} (h : Shares s share) where
  -- its tables are those of the desk's job
  pub tables_shared : s.terms.base ≡ s.scope.library.tables → IsTablesOf share.job s.terms.base
  tables_shared base = subst (λ j. IsTablesOf j s.terms.base) (sym h.job) (sym base)

  -- what is found holds there
  pub shared_here : (c : Contents) (q : Query ℕ) (o : Option Kept) → IfSome o (IsShared share c q)
      → IfSome o (IsTrueAt (place_of s) c q)
  shared_here c q None is = tt
  shared_here c q (Some kept) is = lasting_here s.scope.library (place_of s) c c is.unit (Extends-self c)
      (h.looks is.unit is.looks) q kept is.below
      (subst (λ j. LastsAt j c q kept) h.job is.lasts)

  -- what was answered there outlasts its unit
  pub here_shared : (c : Contents) (q : Query ℕ) (kept : Kept) (n : ℕ) → IsFor share n q
      → IsTrueAt (place_of s) c q kept → LastsAt share.job c q kept
  here_shared c q kept n is true_here = subst (λ j. LastsAt j c q kept) (sym h.job)
      (here_lasts s.scope.library (place_of s) c c is.unit (Extends-self c) (h.looks is.unit is.looks) q kept
      true_here.query true_here.answer true_here)

-- a question is answered after terms were made
module _ {T R : Type 0} {contents : T → Contents} {rest : T → R} {old between new : Outlook T}
    (g : Stays contents rest old between) (meter : between.meter ≡ old.meter) where
  pub answers_after : {later : PrivateMemo} {result : Result (Answer ℕ) Stop} {q : Query ℕ}
      → IsKnownQuery (length (contents old.terms).trees) q
      → Answers contents rest between new later result q
      → Answers contents rest old new later result q
  answers_after {later} {result} {q} asked h =
      let same : out_at contents between q ≡ out_at contents old q =
      rw (place_stays g, query_steady g.keeps q asked, meter) refl in
      record {
        stays = stays_on g h.stays;
        entries_true = entries_back g h.entries_true;
        known = h.known;
        outcome = rw same at h.outcome;
        nothing_left = λ left. h.nothing_left (ap (λ m. m.left) meter ∙ left);
      }

-- an answer that was worked out is true, and costs what was taken for it
pub answered_true : {T R : Type 0} {contents : T → Contents} {rest : T → R} {old new : Outlook T}
    {later : PrivateMemo} {answer : Answer ℕ} {q : Query ℕ}
    → IsKnownQuery (length (contents old.terms).trees) q
    → Answers contents rest old new later (Ok answer) q
    → (new.meter.left ≤ old.meter.left) × IsTrueAt (place_of old) (contents new.terms) q
    (record { answer = answer; cost = old.meter.left - new.meter.left; top = new.meter.last })
answered_true {T} {R} {contents} {rest} {old} {new} {later} {answer} {q} asked h =
    let exact = out_exact steps (place_of old) (query_of (tree_at (contents old.terms)) q) old.meter.left
    (value_at (tree_at (contents new.terms)) answer) new.meter.left new.meter.last h.outcome in (
      omega (arith, exact.0),
      record {
        query = query_known h.stays.keeps q asked;
        answer = h.known;
        is = subst (λ r. IsAnsweredAt (out_of steps (place_of old) r)
            (value_at (tree_at (contents new.terms)) answer) (old.meter.left - new.meter.left) new.meter.last)
            (sym (query_steady h.stays.keeps q asked)) exact.1;
      },
    )

-- a question is answered at a lookout over the library's store
module _ {old new : Outlook Layers} {memo last : PrivateMemo}
    {share : Shared} {result : Result (Answer ℕ) Stop} {q : Query ℕ}
    (s : Stands old memo (Some share))
    (h : Answers layers_contents (λ l. l.base) old new last result q) where
  pub offered_base : new.terms.base ≡ new.scope.library.tables
  offered_base = (still_stands h.stays s h.entries_true).base

  pub offered_over : Extends (contents_of new.terms.base) (layers_contents new.terms)
  offered_over = subst (λ t. Extends (contents_of t) (layers_contents new.terms))
      (sym (offered_base ∙ ap (λ (l : StoredScope). l.library.tables) h.stays.library)) h.entries_true.lasting.stand

  pub offered_shares : Shares new share
  offered_shares = (still_stands h.stays s h.entries_true).shared

-- what was worked out is true
pub offered_true : {old new : Outlook Layers} {last : PrivateMemo} {q : Query ℕ}
    → IsKnownQuery (length (layers_contents old.terms).trees) q
    → (result : Result (Answer ℕ) Stop)
    → Answers layers_contents (λ l. l.base) old new last result q
    → IfOk result (IsWorkedOut new old.meter.left q)
offered_true asked (Err stop) h = tt
offered_true {old} {new} {last} {q} asked (Ok answer) h =
    let one = answered_true asked h in
    record { left = one.0; is = rw (place_stays h.stays) one.1 }

-- what is known or found takes one turn, and no memory
pub kept_after : {T : Type 0} {old between new : Outlook T} {memo later : PrivateMemo}
    {result : Result (Answer ℕ) Stop} {q : Query ℕ} (meter : between.meter ≡ old.meter)
    (found : Option Kept) → (found ≡ None → StillHas memo later q)
    → IfSome found (Repeats between new result)
    → (found ≡ None → AnswersKept between new later result q)
    → AnswersKept old new memo result q
kept_after {new = new} meter (Some kept) lacks repeats none = record {
  turns = λ k h. subst (λ m. m.turns < 2 ^ 64 - 1 → new.meter.turns ≡ m.turns + 1) meter repeats.turns;
  memory = λ k h. repeat_has_memory repeats;
}
kept_after {new = new} meter None lacks repeats none = record {
  turns = λ k h. subst (λ m. m.turns < 2 ^ 64 - 1 → new.meter.turns ≡ m.turns + 1) meter
      ((none refl).turns k (lacks refl k h));
  memory = λ k h. (none refl).memory k (lacks refl k h);
}
