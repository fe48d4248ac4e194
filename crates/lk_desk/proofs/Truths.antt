-- What makes a shard's answers true, and what is found there true.
use Rattle.std.proofs.Common.{◌≡◌, ℕ, Bool, true, false, List, [], Ok, Err, Result, Option, Some, None, refl, sym, subst, arith, inl, inr}
use Rattle.std.specs.Prelude.{IfSome, IfOk, OnErr}
use Rattle.std.proofs.lemmas.Map.Views.{Contains-from_lookup}
use Rattle.lk_questions.specs.Laws.{IsBelow}
use Rattle.lk_store.specs.declared.memory.NoMemory.{NoMemory}
use Rattle.lk_ask.specs.declared.kept.Kept.{Kept}
use Rattle.lk_desk.specs.declared.entry.Entry.{Entry}
use Rattle.lk_store.specs.Contents.{Contents}
use Rattle.lk_store.specs.Store.{contents_of}
use Rattle.lk_store.specs.declared.tables.Tables.{Tables}
use Rattle.lk_memo.specs.declared.key.Key.{Key}
use Rattle.lk_desk.specs.Job.{Job}
use Rattle.lk_desk.specs.Truth.{AreTrue, IsTrueIn, IsTrueOf, IsFoundIn, IsFoundOf, IsTablesOf}
use Rattle.lk_desk.specs.Shards.{Finds, IsMadeOf, AreSpelled, IsPut, IsFull}
use Rattle.lk_desk.specs.Entries.{IsSpelledAnswer, IsMade}
use Rattle.lk_desk.proofs.Keys.{key_exact}
use Rattle.lk_env.specs.StoredLibrary.{StoredLibrary}

-- no answer is false
pub none_false : (job : Job) (es : List (Key × Entry)) → es ≡ [] → AreTrue job es
none_false job es e = rw e (record { each = λ x h. absurd (let lt = h.1 in omega arith); few = omega arith })

-- a true entry, by a number of the contents c
found_in : (l : StoredLibrary) (c : Contents) (key : Key) (entry : Entry) (kept : Kept) → IsTrueIn l key entry → IsMade (contents_of l.tables) c entry kept → IsFoundIn l c key kept
found_in l c key entry kept h made = record { query = h.query; answer = made.known; is = rw (made.value, made.cost, made.top) h.is }

-- what is right by numbers is right where it is spelled
pub left_in : (l : StoredLibrary) (c : Contents) (key : Key) (entry : Entry) (kept : Kept) → IsFoundIn l c key kept → IsSpelledAnswer (contents_of l.tables) entry.answer
    → IsMade (contents_of l.tables) c entry kept → IsTrueIn l key entry
left_in l c key entry kept h spelled made = record { query = h.query; answer = spelled; is = rw (← made.value, ← made.cost, ← made.top) h.is }

pub all_spelled : (job : Job) (t : Tables) (es : List (Key × Entry)) → IsTablesOf job t → AreTrue job es → AreSpelled (contents_of t) es
unfolding IsTrueOf
all_spelled None t es is are e h = absurd is
all_spelled (Some l) t es is are e h = subst (λ x. IsSpelledAnswer (contents_of x) e.1.answer) is (are.each e h).answer

found_of : (job : Job) (t : Tables) (c : Contents) (key : Key) (entry : Entry) (kept : Kept) → IsTablesOf job t → IsTrueOf job key entry → IsMade (contents_of t) c entry kept → IsFoundOf job c key kept
unfolding IsTrueOf IsFoundOf
found_of None t c key entry kept is h made = absurd is
found_of (Some l) t c key entry kept is h made = found_in l c key entry kept h (subst (λ x. IsMade (contents_of x) c entry kept) (sym is) made)

-- an answer that is found is true
pub found_true : (job : Job) (t : Tables) (c : Contents) (es : List (Key × Entry)) (key : Key) (unit : ℕ) (r : Result (Option Kept) NoMemory) → IsTablesOf job t → AreTrue job es
    → IfOk r (λ o. IfSome o (IsMadeOf es key unit (contents_of t) c)) → IfOk r (λ o. IfSome o (λ a. IsFoundOf job c key a × IsBelow a.top unit))
found_true job t c es key unit (Err e) is are h = h
found_true job t c es key unit (Ok None) is are h = h
found_true job t c es key unit (Ok (Some a)) is are h =
    let entry = h.0 in
    let finds : Finds es key unit entry = h.1 in
    let made : IsMade (contents_of t) c entry a = h.2 in
    (found_of job t c key entry a is (are.each (key, entry) (Contains-from_lookup key_exact key entry es finds.0)) made, rw made.top finds.1)

-- where a true answer is put, all are true
put_true : (job : Job) (before after : List (Key × Entry)) (key : Key) (entry : Entry) → AreTrue job before → IsTrueOf job key entry → IsPut before after key entry → AreTrue job after
put_true job before after key entry are this put = record {
  each = λ e h. elim (put.entries e h) [
    | inl old ↦ are.each e old
    | inr new ↦ subst (λ (p : Key × Entry). IsTrueOf job p.0 p.1) (sym new) this
  ];
  few = put.few are.few;
}

-- whether there was room, or not, or memory was wanting
pub after_put : (job : Job) (before after : List (Key × Entry)) (key : Key) (entry : Entry) (r : Result Bool NoMemory) → AreTrue job before → IsTrueOf job key entry
    → IfOk r (λ b. b ≡ true → IsPut before after key entry) → IfOk r (λ b. b ≡ false → IsFull before key × (after ≡ before)) → OnErr r (after ≡ before) → AreTrue job after
after_put job before after key entry (Ok true) are this stored full refused = put_true job before after key entry are this (stored refl)
after_put job before after key entry (Ok false) are this stored full refused = rw (full refl).1 are
after_put job before after key entry (Err e) are this stored full refused = rw refused are
