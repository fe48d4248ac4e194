-- Rows in slots. A row stands in the first slot that was free from the bucket of its hash on, where
-- the first slot follows the last one.
use Rattle.std.specs.Prelude.{◌≡◌, ◌≢◌, ℕ, ◌+◌, ◌-◌, ◌/◌, ◌^◌, ◌<◌, ◌≤◌, ◌⊎◌, min, bit_and}
use Rattle.std.specs.Prelude.{List, [], ◌∷◌, ◌++◌, length, slice_index, slice_index_or, map, sum_by}
use Rattle.lk_rows.specs.Rows.{RowHas}
use Rattle.lk_rows.specs.declared.slots.Walk.{Walk}
use Rattle.lk_rows.specs.declared.slots.Walk.TheVariants.{Row, Free, End}

-- the bucket of a hash among n
abbrev pub bucket : ℕ → ℕ → ℕ
bucket hash n = bit_and hash (n - 1)

-- the tag of a hash, which is above 0
abbrev pub tag : ℕ → ℕ
tag hash = hash / 2 ^ 57 + 1

-- no slot is free from one on, below another one
abbrev pub AreTaken : List ℕ → ℕ → ℕ → Type 0
AreTaken tags from to = (s : ℕ) → from ≤ s → s < to → slice_index tags s ≢ 0

-- whoever walks from slot b on, past so many slots or fewer, comes to slot s before one that is
-- free
abbrev pub ComesTo : List ℕ → ℕ → ℕ → ℕ → Type 0
ComesTo tags most b s = ((b ≤ s) × (s ≤ b + most) × AreTaken tags b s)
    ⊎ ((s < b) × (s + length tags ≤ b + most) × AreTaken tags b (length tags) × AreTaken tags 0 s)

-- how many slots are taken
abbrev pub taken : List ℕ → ℕ
taken tags = sum_by (λ t. min t 1) tags

-- the row of this number and hash stands in slot s, past so many slots or fewer from its bucket on
pub record StandsIn (tags slots : List ℕ) (most hash i s : ℕ) : Type 0 where
  pub within : s < length tags
  pub row : slice_index slots s ≡ i
  pub tagged : slice_index tags s ≡ tag hash
  pub found : ComesTo tags most (bucket hash (length tags)) s

-- each slot that is taken has one of the first `end` rows
pub record AreRowsOf (tags slots : List ℕ) (end : ℕ) : Type 0 where
  pub a_slot_each : length tags ≤ length slots
  pub rows : (s : ℕ) → s < length tags → slice_index tags s ≢ 0 → slice_index slots s < end

-- the first `end` rows stand in slots, each past so many or fewer, and no others
pub record ArePlaced (hashes tags slots : List ℕ) (most end : ℕ) : Type 0 where
  pub slots_of : AreRowsOf tags slots end
  pub each : (i : ℕ) → i < end → (s : ℕ) × StandsIn tags slots most (slice_index hashes i) i s
  pub count : taken tags ≡ end

-- the hash of each row
abbrev pub hashes_of : {R K : Type 0} → (R → K) → (K → ℕ) → List R → List ℕ
hashes_of key hash rows = map (λ row. hash (key row)) rows

-- each row stands in a slot
pub record IsFilled {R K : Type 0} (key : R → K) (hash : K → ℕ)
    (rows : List R) (tags slots : List ℕ) (most : ℕ) : Type 0 where
  pub room : length rows ≤ length tags
  pub placed : ArePlaced (hashes_of key hash rows) tags slots most (length rows)

-- all rows but the last one stand in slots, and the hash of that one's key under seed 0 is this
pub record IsLast {R K : Type 0} (key : R → K) (hash : ℕ → K → ℕ)
    (rows : List R) (tags slots : List ℕ) (most seed last : ℕ) : Type 0 where
  pub before : List R
  pub row : R
  pub rows_are : rows ≡ before ++ row ∷ []
  pub filled : IsFilled key (hash seed) before tags slots most
  pub hash_is : last ≡ hash 0 (key row)

-- where there are no slots, the rows are looked through one after another
pub record IsTable {R K : Type 0} (key : R → K) (hash : K → ℕ)
    (rows : List R) (tags slots : List ℕ) (most : ℕ) : Type 0 where
  pub few : length rows < 2 ^ 32
  pub filled : length tags ≢ 0 → IsFilled key hash rows tags slots most

-- no row that such a walk from slot b on comes to, with this tag, has the key
abbrev pub Misses : {R K : Type 0} → (R → K) → List R → K → List ℕ → List ℕ → ℕ → ℕ → ℕ → Type 0
Misses {R = R} key rows wanted tags slots most t b = (s : ℕ) → s < length tags
    → ComesTo tags most b s → slice_index tags s ≡ t → (d : R) → key (slice_index_or rows (slice_index slots s) d) ≢ wanted

-- of the slots from one on, below another one, none is free, and none with this tag has a row that
-- has the key
abbrev pub HasPassed : {R K : Type 0} → (R → K) → List R → K → List ℕ → List ℕ → ℕ → ℕ → ℕ → Type 0
HasPassed {R = R} key rows wanted tags slots t from to = (s : ℕ) → from ≤ s → s < to
    → (slice_index tags s ≢ 0) × (slice_index tags s ≡ t
    → (d : R) → key (slice_index_or rows (slice_index slots s) d) ≢ wanted)

-- the same of those that a walk past so many slots comes to before it goes on at the first one
abbrev pub HasPassedAhead : {R K : Type 0} → (R → K) → List R → K → List ℕ → List ℕ → ℕ → ℕ → ℕ
    → Type 0
HasPassedAhead {R = R} key rows wanted tags slots most t b = (s : ℕ) → b ≤ s → s < length tags
    → s ≤ b + most → (slice_index tags s ≢ 0) × (slice_index tags s ≡ t
    → (d : R) → key (slice_index_or rows (slice_index slots s) d) ≢ wanted)

-- what a walk over the slots from one on, below another one, comes to
abbrev pub Walks : {R K : Type 0} → (R → K) → List R → K → List ℕ → List ℕ → ℕ → ℕ → ℕ → Walk
    → Type 0
Walks key rows wanted tags slots t from to (Row i) = (i < length rows) × RowHas key rows wanted i
Walks key rows wanted tags slots t from to Free = (s : ℕ) × (from ≤ s) × (s < to)
    × (slice_index tags s ≡ 0) × HasPassed key rows wanted tags slots t from s
Walks key rows wanted tags slots t from to End =
    HasPassed key rows wanted tags slots t from to
