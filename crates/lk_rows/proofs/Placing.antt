-- Facts on rows in slots.
use Rattle.std.proofs.Common.{◌≡◌, ◌≢◌, ℕ, zero, suc, ◌+◌, ◌-◌, ◌<◌, ◌≤◌, List, [], ◌∷◌, ◌++◌, length, get_or, set, min, max, refl, ap, sym, ◌∙◌, subst, arith, Bool, true, false, nat_eq, length-set, inl, inr}
use Rattle.std.specs.Prelude.{slice_index, nat_le}
use Rattle.std.proofs.lemmas.Grind.{common_steps}
use Rattle.std.proofs.lemmas.List.Sums.{sum_by-set, sum_by-cons}
use Rattle.std.proofs.lemmas.Bool.Decides.{nat_tests}
use Rattle.lk_rows.specs.Slots.{bucket, tag, taken, hashes_of, AreTaken, ComesTo, StandsIn, ArePlaced, IsFilled, IsLast, HasPassed, HasPassedAhead, Misses}

pub nat_cases : (m n : ℕ) (P : Type 0) → (m < n → P) → (m ≡ n → P) → (n < m → P) → P
nat_cases m n P below is above = go (nat_eq m n) refl
  where
    more : (t : Bool) → nat_le m n ≡ t → m ≢ n → P
    more true e differs = below (let l : m ≤ n = grind (arith, nat_tests) in omega (arith, differs))
    more false e differs = above (grind (arith, nat_tests))

    go : (t : Bool) → nat_eq m n ≡ t → P
    go true e = is (grind (arith, nat_tests))
    go false e = more (nat_le m n) refl (λ h. let f : nat_eq m n ≡ true = grind (arith, nat_tests) in cc)

-- where none is free, all are taken
pub taken_all : (tags : List ℕ) → ((s : ℕ) → s < length tags → slice_index tags s ≢ 0) → taken tags ≡ length tags
taken_all [] h = refl
taken_all (t ∷ tags) h =
    let here : t ≢ 0 = h 0 (omega arith) in
    let more = taken_all tags (λ s l. h (suc s) (omega arith)) in
    sum_by-cons (λ t. min t 1) t tags ∙ omega (arith, more, here)

module _ {R K : Type 0} (key : R → K) (rows : List R) (wanted : K) (tags slots : List ℕ) (most t : ℕ) where
  -- a walk that comes to a free slot before the end passes none with the key
  pub misses_free : (b s : ℕ) → 0 < t → b ≤ s → s < length tags → slice_index tags s ≡ 0
      → HasPassed key rows wanted tags slots t b s → Misses key rows wanted tags slots most t b
  misses_free b s above from within free passed r in_tags comes tagged d h = elim comes [
    | inl ahead ↦ nat_cases r s ⊥
        (λ l. (passed r ahead.0 l).1 tagged d h)
        (λ e. let zero_tag : slice_index tags r ≡ 0 = ap (slice_index tags) e ∙ free in absurd (omega (arith, zero_tag, tagged)))
        (λ g. ahead.2 s from g free)
    | inr around ↦ around.2 s from within free
  ]

  -- nor does one that goes on at the first slot and comes to a free one there
  pub misses_around : (b s : ℕ) → 0 < t → HasPassedAhead key rows wanted tags slots most t b
      → slice_index tags s ≡ 0 → HasPassed key rows wanted tags slots t 0 s → Misses key rows wanted tags slots most t b
  misses_around b s above passed free more r in_tags comes tagged d h = elim comes [
    | inl ahead ↦ (passed r ahead.0 in_tags ahead.1).1 tagged d h
    | inr around ↦ nat_cases r s ⊥
        (λ l. (more r (omega arith) l).1 tagged d h)
        (λ e. let zero_tag : slice_index tags r ≡ 0 = ap (slice_index tags) e ∙ free in absurd (omega (arith, zero_tag, tagged)))
        (λ g. around.3 s (omega arith) g free)
  ]

  -- nor one that comes to its end
  pub misses_end : (b end : ℕ) → HasPassedAhead key rows wanted tags slots most t b
      → ((s : ℕ) → s < b → s + length tags ≤ b + most → s < end) → HasPassed key rows wanted tags slots t 0 end
      → Misses key rows wanted tags slots most t b
  misses_end b end passed all more r in_tags comes tagged d h = elim comes [
    | inl ahead ↦ (passed r ahead.0 in_tags ahead.1).1 tagged d h
    | inr around ↦ (more r (omega arith) (all r around.0 around.1)).1 tagged d h
  ]

module _ {R K : Type 0} (key : R → K) (hash : K → ℕ) where
  pub hash_at : (rows : List R) (i : ℕ) (d : R) → i < length rows → slice_index (hashes_of key hash rows) i ≡ hash (key (get_or rows i d))
  hash_at [] i d l = absurd (omega arith)
  hash_at (row ∷ rows) zero d l = refl
  hash_at (row ∷ rows) (suc i) d l = hash_at rows i d (omega arith)

  -- whoever misses a key where its bucket is has seen that no row has it
  pub absent : (rows : List R) (tags slots : List ℕ) (most : ℕ) (wanted : K) → IsFilled key hash rows tags slots most
      → Misses key rows wanted tags slots most (tag (hash wanted)) (bucket (hash wanted) (length tags))
      → (k : ℕ) (d : R) → k < length rows → key (get_or rows k d) ≢ wanted
  absent rows tags slots most wanted filled misses k d l h =
      let found = filled.placed.each k l in
      let s = found.0 in
      let stands = found.1 in
      let is_hash : slice_index (hashes_of key hash rows) k ≡ hash wanted = hash_at rows k d l ∙ ap hash h in
      misses s stands.within
      (subst (λ n. ComesTo tags most (bucket n (length tags)) s) is_hash stands.found)
      (stands.tagged ∙ ap tag is_hash) d
      (ap (λ n. key (get_or rows n d)) stands.row ∙ h)

-- what is taken stays so where a slot gets a tag
taken_stays : (tags : List ℕ) (s t from to : ℕ) → s < length tags → 0 < t → AreTaken tags from to → AreTaken (set tags s t) from to
taken_stays tags s t from to within above all r l m e = nat_cases r s ⊥
    (λ b. let read : get_or (set tags s t) r 0 ≡ get_or tags r 0 = grind (arith, common_steps) in all r l m (sym read ∙ e))
    (λ i. let read : get_or (set tags s t) r 0 ≡ t = grind (arith, common_steps) in absurd (omega (arith, read, e)))
    (λ b. let read : get_or (set tags s t) r 0 ≡ get_or tags r 0 = grind (arith, common_steps) in all r l m (sym read ∙ e))

-- and whoever walks comes to the same slots, also past more
comes_stays : (tags : List ℕ) (s t most more b r : ℕ) → s < length tags → 0 < t → most ≤ more
    → ComesTo tags most b r → ComesTo (set tags s t) more b r
comes_stays tags s t most more b r within above le comes = elim comes [
  | inl ahead ↦ let near = ahead.1 in inl (ahead.0, omega (arith, near, le), taken_stays tags s t b r within above ahead.2)
  | inr around ↦ let near = around.1 in inr (
    around.0,
    rw length-set (omega (arith, near, le)),
    rw length-set (taken_stays tags s t b (length tags) within above around.2),
    taken_stays tags s t 0 r within above around.3,
  )
]

-- a slot that a walk comes to, past as many slots as lie between
pub comes_within : (tags : List ℕ) (most d b s : ℕ) → (b ≤ s → s ≤ b + d) → (s < b → s + length tags ≤ b + d)
    → ComesTo tags most b s → ComesTo tags d b s
comes_within tags most d b s ahead_is around_is comes = elim comes [
  | inl ahead ↦ inl (ahead.0, ahead_is ahead.0, ahead.2)
  | inr around ↦ inr (around.0, around_is around.0, around.2, around.3)
]

-- one more row is placed
pub place_next : (hashes tags slots : List ℕ) (hash i s most d : ℕ) → s < length tags → slice_index tags s ≡ 0
    → ComesTo tags d (bucket hash (length tags)) s → slice_index hashes i ≡ hash → ArePlaced hashes tags slots most i
    → ArePlaced hashes (set tags s (tag hash)) (set slots s i) (max most d) (i + 1)
place_next hashes tags slots hash i s most d within free comes is_hash placed =
    let tags' = set tags s (tag hash) in
    let slots' = set slots s i in
    let more = max most d in
    let above : 0 < tag hash = omega arith in
    let long = placed.slots_of.a_slot_each in
    let in_slots : s < length slots = omega arith in
    record {
      slots_of = record {
        a_slot_each = rw (length-set, length-set) long;
        rows = λ r l nz. let lr : r < length tags = rw length-set at l in nat_cases r s (get_or slots' r 0 < i + 1)
            (λ b. let read : get_or slots' r 0 ≡ get_or slots r 0 = grind (arith, common_steps) in
            let tag_read : get_or tags' r 0 ≡ get_or tags r 0 = grind (arith, common_steps) in
            let old = placed.slots_of.rows r lr (λ e. nz (tag_read ∙ e)) in omega arith)
            (λ e. let read : get_or slots' r 0 ≡ i = grind (arith, common_steps) in omega (arith, read))
            (λ b. let read : get_or slots' r 0 ≡ get_or slots r 0 = grind (arith, common_steps) in
            let tag_read : get_or tags' r 0 ≡ get_or tags r 0 = grind (arith, common_steps) in
            let old = placed.slots_of.rows r lr (λ e. nz (tag_read ∙ e)) in omega arith);
      };
      each = λ k l. nat_cases k i ((r : ℕ) × StandsIn tags' slots' more (slice_index hashes k) k r)
          (λ b. let old = placed.each k b in
          let r = old.0 in let stands = old.1 in
          let apart : r ≢ s = λ e. let z : slice_index tags r ≡ 0 = ap (slice_index tags) e ∙ free in let g = stands.tagged in absurd (omega (arith, z, g)) in (
            r,
            record {
              within = rw length-set (stands.within);
              row = let read : get_or slots' r 0 ≡ get_or slots r 0 = grind (arith, common_steps) in read ∙ stands.row;
              tagged = let read : get_or tags' r 0 ≡ get_or tags r 0 = grind (arith, common_steps) in read ∙ stands.tagged;
              found = subst (λ n. ComesTo tags' more (bucket (slice_index hashes k) n) r) (sym (length-set tags s (tag hash)))
                  (comes_stays tags s (tag hash) most more (bucket (slice_index hashes k) (length tags)) r within above (omega arith) stands.found);
            },
          ))
          (λ e. (
            s,
            record {
              within = rw length-set within;
              row = let read : get_or slots' s 0 ≡ i = grind (arith, common_steps) in read ∙ sym e;
              tagged = let read : get_or tags' s 0 ≡ tag hash = grind (arith, common_steps) in read ∙ ap tag (sym is_hash ∙ ap (slice_index hashes) (sym e));
              found = let same : slice_index hashes k ≡ hash = ap (slice_index hashes) e ∙ is_hash in
                  subst (λ n. ComesTo tags' more (bucket (slice_index hashes k) n) s) (sym (length-set tags s (tag hash)))
                  (subst (λ h. ComesTo tags' more (bucket h (length tags)) s) (sym same)
                  (comes_stays tags s (tag hash) d more (bucket hash (length tags)) s within above (omega arith) comes));
            },
          ))
          (λ g. absurd (omega arith));
      count = let more_taken = sum_by-set (λ t. min t 1) tags s (tag hash) 0 within in
          let none : min (get_or tags s 0) 1 ≡ 0 = ap (λ t. min t 1) free in
          let one : min (tag hash) 1 ≡ 1 = omega arith in
          let was = placed.count in omega (arith, more_taken, none, one, was);
    }

module _ {R K : Type 0} (key : R → K) (hash : K → ℕ) where
  -- the hash of each row that there was
  hash_before : (rows : List R) (row : R) (i : ℕ) → i < length rows → slice_index (hashes_of key hash (rows ++ row ∷ [])) i ≡ slice_index (hashes_of key hash rows) i
  hash_before rows row i l =
      let long : i < length (rows ++ row ∷ []) = grind (arith, common_steps) in
      let read : get_or (rows ++ row ∷ []) i row ≡ get_or rows i row = grind (arith, common_steps) in
      hash_at key hash (rows ++ row ∷ []) i row long ∙ ap (λ r. hash (key r)) read ∙ sym (hash_at key hash rows i row l)

  -- the hash of the last row
  hash_last : (rows : List R) (row : R) → slice_index (hashes_of key hash (rows ++ row ∷ [])) (length rows) ≡ hash (key row)
  hash_last rows row =
      let long : length rows < length (rows ++ row ∷ []) = grind (arith, common_steps) in
      let read : get_or (rows ++ row ∷ []) (length rows) row ≡ row = grind (arith, common_steps) in
      hash_at key hash (rows ++ row ∷ []) (length rows) row long ∙ ap (λ r. hash (key r)) read

  -- rows that stand in slots do so while one more is there, which stands in none
  before_last : (rows : List R) (row : R) (tags slots : List ℕ) (most : ℕ) → ArePlaced (hashes_of key hash rows) tags slots most (length rows)
      → ArePlaced (hashes_of key hash (rows ++ row ∷ [])) tags slots most (length rows)
  before_last rows row tags slots most placed = record {
    slots_of = placed.slots_of;
    each = λ i l. let old = placed.each i l in
        (old.0, subst (λ h. StandsIn tags slots most h i old.0) (sym (hash_before rows row i l)) old.1);
    count = placed.count;
  }

  -- one more row, which is placed next
  push_filled : (rows : List R) (row : R) (tags slots tags' slots' : List ℕ) (most more : ℕ) → IsFilled key hash rows tags slots most
      → length rows < length tags → length tags' ≡ length tags
      → ((hashes : List ℕ) → slice_index hashes (length rows) ≡ hash (key row) → ArePlaced hashes tags slots most (length rows)
      → ArePlaced hashes tags' slots' more (length rows + 1))
      → IsFilled key hash (rows ++ row ∷ []) tags' slots' more
  push_filled rows row tags slots tags' slots' most more filled roomy as_many place =
      let longer : length (rows ++ row ∷ []) ≡ length rows + 1 = grind (arith, common_steps) in
      record {
        room = rw (longer, as_many) (omega arith);
        placed = rw longer (place (hashes_of key hash (rows ++ row ∷ [])) (hash_last rows row)
            (before_last rows row tags slots most filled.placed));
      }

module _ {R K : Type 0} (key : R → K) (hash : ℕ → K → ℕ) where
  -- the last row, which is placed now
  pub last_filled : (rows : List R) (tags slots tags' slots' : List ℕ) (most more seed last hashed : ℕ) (row : R)
      → IsLast key hash rows tags slots most seed last → length rows ≤ length tags → length tags' ≡ length tags
      → row ≡ get_or rows (length rows - 1) row → hashed ≡ hash seed (key row)
      → ((hashes : List ℕ) → slice_index hashes (length rows - 1) ≡ hashed → ArePlaced hashes tags slots most (length rows - 1)
      → ArePlaced hashes tags' slots' more (length rows - 1 + 1))
      → IsFilled key (hash seed) rows tags' slots' more
  last_filled rows tags slots tags' slots' most more seed last hashed row l roomy as_many is_row is_hash place =
      let before = l.before in
      let all : length (before ++ l.row ∷ []) ≡ length before + 1 = grind (arith, common_steps) in
      let count : length rows ≡ length before + 1 = ap length l.rows_are ∙ all in
      let at : length rows - 1 ≡ length before = omega (arith, count) in
      let read : get_or (before ++ l.row ∷ []) (length before) row ≡ l.row = grind (arith, common_steps) in
      let same : row ≡ l.row = is_row ∙ ap (λ n. get_or rows n row) at ∙ ap (λ xs. get_or xs (length before) row) l.rows_are ∙ read in
      let hashed_is : hash seed (key l.row) ≡ hashed = ap (λ r. hash seed (key r)) (sym same) ∙ sym is_hash in
      subst (λ xs. IsFilled key (hash seed) xs tags' slots' more) (sym l.rows_are)
      (push_filled key (hash seed) before l.row tags slots tags' slots' most more l.filled (omega (arith, count)) as_many
      (λ hashes h p. subst (λ n. ArePlaced hashes tags' slots' more (n + 1)) at
      (place hashes (subst (λ n. slice_index hashes n ≡ hashed) (sym at) (h ∙ hashed_is))
      (subst (λ n. ArePlaced hashes tags slots most n) (sym at) p))))
