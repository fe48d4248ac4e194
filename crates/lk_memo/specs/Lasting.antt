-- Answers that outlast a unit: over the first so many terms, for the unit that looks.
use Rattle.std.specs.Prelude.{◌≡◌, ◌⊎◌, ◌&&◌, ℕ, Bool, true, nat_lt, Option, Some, None, option_and_then, if◌then◌else◌}
use Rattle.lk_ask.specs.declared.kept.Kept.{Kept}
use Rattle.lk_ask.specs.declared.query.Query.{Query}
use Rattle.lk_ask.specs.declared.query.Query.TheVariants.{Core, Whnf, Infer, Same}
use Rattle.lk_ask.specs.Questions.{IsKnownQuery, IsKnownAnswer}
use Rattle.lk_questions.specs.Laws.{IsBelow}
use Rattle.lk_memo.specs.declared.key.Key.{Key}
use Rattle.lk_memo.specs.declared.lasting.Lasting.{Lasting}
use Rattle.lk_memo.specs.Keys.{key_of}
use Rattle.lk_memo.specs.Slots.{found_in}

-- whether the terms of a question are among the first n
abbrev pub is_query_below : ℕ → Query ℕ → Bool
is_query_below n (Core e) = nat_lt e n
is_query_below n (Whnf e) = nat_lt e n
is_query_below n (Infer e) = nat_lt e n
is_query_below n (Same a b) = nat_lt a n && nat_lt b n

-- whether all units that were looked at stand before unit n
abbrev pub is_below : Option ℕ → ℕ → Bool
is_below None n = true
is_below (Some t) n = nat_lt t n

-- the answer, where unit n stands behind all that were looked at
abbrev pub for_unit : ℕ → Kept → Option Kept
for_unit n kept = if is_below kept.top n then Some kept else None

-- what is kept under the key and holds for unit n
abbrev pub lasting_at : Lasting → Key → ℕ → Option Kept
lasting_at l key n = option_and_then (for_unit n) (found_in l.slots key)

-- what is found of a question by the unit that looks
abbrev pub lasting_of : Lasting → Query ℕ → Option Kept
lasting_of l q =
    if is_query_below l.terms q then option_and_then (lasting_at l (key_of q)) l.unit else None

-- what is kept under a key, whether or not a unit looks
abbrev pub Outlasts : Lasting → Key → Kept → Type 0
Outlasts l key kept = found_in l.slots key ≡ Some kept

-- an answer lasts that is one over the first terms, where a unit looks behind all looked at
pub record Lasts (l : Lasting) (q : Query ℕ) (kept : Kept) : Type 0 where
  pub query : IsKnownQuery l.terms q
  pub answer : IsKnownAnswer l.terms kept.answer
  pub unit : ℕ
  pub looks : l.unit ≡ Some unit
  pub below : IsBelow kept.top unit

-- no other answer came in than this one, and it lasts
pub record TakesIn (old new : Lasting) (q : Query ℕ) (kept : Kept) : Type 0 where
  pub terms : new.terms ≡ old.terms
  pub unit : new.unit ≡ old.unit
  pub each : (k : Key) (v : Kept) → Outlasts new k v
      → Outlasts old k v ⊎ ((k ≡ key_of q) × (v ≡ kept) × Lasts old q kept)

-- nothing is kept, and from here on it is over so many first terms, for the unit that looks, if any
pub record BeginsWith (new : Lasting) (count : ℕ) (looker : Option ℕ) : Type 0 where
  pub none : (k : Key) (v : Kept) → Outlasts new k v → ⊥
  pub terms : new.terms ≡ count
  pub unit : new.unit ≡ looker

-- what is kept stays, over so many first terms, for the unit that looks, if any
pub record GoesOn (old new : Lasting) (count : ℕ) (looker : Option ℕ) : Type 0 where
  pub slots : new.slots ≡ old.slots
  pub terms : new.terms ≡ count
  pub unit : new.unit ≡ looker

-- no answer came in
pub record Loses (old new : Lasting) : Type 0 where
  pub terms : new.terms ≡ old.terms
  pub unit : new.unit ≡ old.unit
  pub each : (k : Key) (v : Kept) → Outlasts new k v → Outlasts old k v
