-- Which row has a key.
use Rattle.std.specs.Prelude.{◌≡◌, ◌≢◌, ℕ, ◌<◌, List, length, slice_index_or}

-- the row of this number has it
abbrev pub RowHas : {R K : Type 0} → (R → K) → List R → K → ℕ → Type 0
RowHas {R = R} key rows wanted i = (d : R) → key (slice_index_or rows i d) ≡ wanted

-- no row has it
abbrev pub NoRowHas : {R K : Type 0} → (R → K) → List R → K → Type 0
NoRowHas {R = R} key rows wanted =
    (k : ℕ) (d : R) → k < length rows → key (slice_index_or rows k d) ≢ wanted
