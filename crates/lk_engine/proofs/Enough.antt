-- A question that is known to be answered within a budget, and is given that budget.
use Rattle.std.proofs.Common.{◌≡◌, ℕ, ◌-◌, Option, Result, Ok, Err, length, refl, ap, sym, subst, ◌∙◌}
use Rattle.std.specs.Prelude.{IfOk, IfErr}
use Rattle.lk_rulebook.specs.Place.{Place}
use Rattle.lk_questions.specs.Query as plain
use Rattle.lk_questions.specs.Erased.{finished, stopped, used_up, value_of, left_of, out_of}
use Rattle.lk_questions.specs.Table.{steps}
use Rattle.lk_store.specs.declared.memory.NoMemory.{NoMemory as Wanting}
use Rattle.lk_store.specs.Contents.{Contents, tree_at}
use Rattle.lk_store.specs.Layers.{layers_contents, Layers}
use Rattle.lk_env.specs.StoredScope.{lent_by}
use Rattle.lk_ask.specs.declared.query.Query.{Query}
use Rattle.lk_ask.specs.declared.query.Answer.{Answer}
use Rattle.lk_ask.specs.declared.stop.Stop.{Stop}
use Rattle.lk_ask.specs.declared.stop.Stop.TheVariants.{No, Spent, NoMemory}
use Rattle.lk_ask.specs.Questions.{query_of, value_at, IsKnownAnswer}
use Rattle.lk_ask.specs.Outcomes.{IsExactly}
use Rattle.lk_ask.specs.Outlook.{Outlook}
use Rattle.lk_memo.specs.declared.memo.PrivateMemo.{PrivateMemo}
use Rattle.lk_step.specs.Rows.{IsAnswered}
use Rattle.lk_step.specs.Told.{IsAnsweredWithin, IsTold, Leaves}
use Rattle.lk_engine.specs.Enough.{AnswersWithin}
use Rattle.lk_engine.specs.Lookouts.{place_of, Stays, Metered, Answers}
use Rattle.lk_engine.proofs.Lookouts.{sight_at, metered_stays, stays_on, entries_back, place_stays}

-- under a budget that is enough the outcome is the answer
module _ (w : Place) (q : plain.Query) (enough : ℕ) (h : IsAnsweredWithin w q enough) where
  out_is : out_of steps w q enough ≡ finished (value_of q h.0) (enough - h.1) (h.2 enough h.3).0
  unfolding out_of
  out_is = ap (left_of (value_of q) enough) (h.2 enough h.3).1

  -- all that can be wanting is memory
  pub memory_alone : (c : Contents) (left : ℕ) (last : Option ℕ) (r : Result (Answer ℕ) Stop)
      → IsExactly c (out_of steps w q enough) left last r → IfErr r (λ e. e ≡ NoMemory)
  memory_alone c left last (Ok a) x = tt
  memory_alone c left last (Err (No r)) x =
      let e : finished (value_of q h.0) (enough - h.1) (h.2 enough h.3).0 ≡ stopped r = sym out_is ∙ x in
      absurd cc
  memory_alone c left last (Err Spent) x =
      let e : finished (value_of q h.0) (enough - h.1) (h.2 enough h.3).0 ≡ used_up = sym out_is ∙ x in
      absurd cc
  memory_alone c left last (Err NoMemory) x = refl

  -- what is answered is told
  pub told_within : (c : Contents) (left : ℕ) (last : Option ℕ) (r : Result (Answer ℕ) Stop)
      (s : Result (Answer ℕ) Wanting) → IsExactly c (out_of steps w q enough) left last r
      → IfOk s (λ a. r ≡ Ok a) → IsTold w c q s
  told_within c left last r (Err e) x same = tt
  told_within c left last r (Ok a) x same =
      let y : out_of steps w q enough ≡ finished (value_at (tree_at c) a) left last =
      subst (IsExactly c (out_of steps w q enough) left last) same x in
      let e : finished (value_of q h.0) (enough - h.1) (h.2 enough h.3).0
      ≡ finished (value_at (tree_at c) a) left last = sym out_is ∙ y in
      (h.0, h.1, h.2, cc)

-- an answer that is told is known
known_within : (n : ℕ) (r : Result (Answer ℕ) Stop) (s : Result (Answer ℕ) Wanting)
    → IfOk r (IsKnownAnswer n) → IfOk s (λ a. r ≡ Ok a) → IfOk s (IsKnownAnswer n)
known_within n r (Ok a) k same = subst (λ x. IfOk x (IsKnownAnswer n)) same k
known_within n r (Err e) k same = tt

-- a question is answered under a budget that was given anew
module _ {old between new : Outlook Layers} {later : PrivateMemo} {outcome : Result (Answer ℕ) Stop}
    {query : Query ℕ} {enough : ℕ} (m : Metered old between) (left : between.meter.left ≡ enough)
    (a : Answers layers_contents (λ l. l.base) between new later outcome query)
    (h : IsAnsweredWithin (place_of old) (query_of (tree_at (layers_contents old.terms)) query) enough) where
  abbrev asked : plain.Query
  asked = query_of (tree_at (layers_contents old.terms)) query

  abbrev after : Contents
  after = layers_contents new.terms

  exactly : IsExactly after (out_of steps (place_of old) asked enough) new.meter.left new.meter.last outcome
  exactly =
      subst (λ n. IsExactly after (out_of steps (place_of old) asked n) new.meter.left new.meter.last outcome)
      left
      (subst (λ l. IsExactly after (out_of steps (place_of old)
      (query_of (tree_at (layers_contents l)) query) between.meter.left)
      new.meter.left new.meter.last outcome) m.terms
      (subst (λ w. IsExactly after (out_of steps w
      (query_of (tree_at (layers_contents between.terms)) query) between.meter.left)
      new.meter.left new.meter.last outcome)
      (place_stays {contents = layers_contents} {rest = λ l. l.base} (metered_stays m)) a.outcome))

  pub wants_memory : IfErr outcome (λ e. e ≡ NoMemory)
  wants_memory = memory_alone (place_of old) asked enough h after new.meter.left new.meter.last
      outcome exactly

  pub answers_within : (result : Result (Answer ℕ) Wanting) → IfOk result (λ a. outcome ≡ Ok a)
      → AnswersWithin old new later result query
  answers_within result same = record {
    stays = stays_on (metered_stays m) a.stays;
    entries_true = entries_back (metered_stays {contents = layers_contents} {rest = λ l. l.base} m)
        a.entries_true;
    known = known_within (length after.trees) outcome result a.known same;
    told = told_within (place_of old) asked enough h after new.meter.left new.meter.last outcome
        result exactly same;
  }

-- what stays of a lookout is left of what it sees
pub leaves_sight : {old new : Outlook Layers} → Stays layers_contents (λ l. l.base) old new
    → Leaves (λ s. layers_contents s.terms) (λ s. (s.scope, s.site, s.meter, s.terms.base)) sight_at
    old new
leaves_sight {old} {new} h = record {
  keeps = h.keeps;
  library = ap lent_by h.library;
  place = place_stays h;
  beside = rw (h.library, h.site, h.others) refl;
}
