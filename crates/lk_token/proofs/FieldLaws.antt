-- The first field of a line, and the fields behind it.
use Rattle.std.proofs.Common.{◌≡◌, ℕ, zero, suc, ◌+◌, ◌<◌, ◌≤◌, ◌==◌, Bool, true, false, List, [], ◌∷◌, filter, length, get_or, take, drop, refl, sym, ◌∙◌, ap, subst, nat_lt, arith}
use Rattle.std.specs.List.{slice_split, position_or_len}
use Rattle.std.proofs.lemmas.Bool.Decides.{nat_tests}
use Rattle.lk_token.specs.Fields.{fields_of, BeginsWith, skip_spaces}

abbrev Pieces : List ℕ → Type 0
Pieces xs = (parts : List (List ℕ)) × (slice_split (λ b. b == 32) xs ≡ take (position_or_len (λ b. b == 32) xs) xs ∷ parts)
    × (fields_of (drop (position_or_len (λ b. b == 32) xs) xs) ≡ filter (λ field. nat_lt 0 (length field)) parts)

pieces_step : (x : ℕ) (xs : List ℕ) → Pieces xs → (b : Bool) → (x == 32) ≡ b → Pieces (x ∷ xs)
unfolding fields_of
pieces_step x xs ih true e = (slice_split (λ b. b == 32) xs, rw e refl, rw e (rw e refl))
pieces_step x xs ih false e =
    let one : 1 + position_or_len (λ b. b == 32) xs ≡ suc (position_or_len (λ b. b == 32) xs) = omega arith in
    (ih.0, rw (e, one, ih.1) refl, rw (e, one) ih.2)

-- the pieces from the first space on have no other fields than the pieces behind the first one
pieces_lem : (xs : List ℕ) → Pieces xs
unfolding fields_of
pieces_lem [] = ([], refl, refl)
pieces_lem (x ∷ xs) = pieces_step x xs (pieces_lem xs) (x == 32) refl

spaces_step : (x : ℕ) (xs : List ℕ) → fields_of (skip_spaces xs) ≡ fields_of xs → (b : Bool) → (x == 32) ≡ b → fields_of (skip_spaces (x ∷ xs)) ≡ fields_of (x ∷ xs)
unfolding fields_of
spaces_step x xs ih true e = rw e ih
spaces_step x xs ih false e = rw e (rw e refl)

-- spaces in front count for nothing
pub spaces_first : (xs : List ℕ) → fields_of (skip_spaces xs) ≡ fields_of xs
spaces_first [] = refl
spaces_first (x ∷ xs) = spaces_step x xs (spaces_first xs) (x == 32) refl

front_lem : (xs : List ℕ) (n : ℕ) → n ≡ position_or_len (λ b. b == 32) xs → 0 < n → fields_of xs ≡ take n xs ∷ fields_of (drop n xs)
unfolding fields_of
front_lem [] n e lt = absurd (omega arith)
front_lem (x ∷ xs) zero e lt = absurd (omega arith)
front_lem (x ∷ xs) (suc n) e lt =
    let p = pieces_lem (x ∷ xs) in
    let F : ℕ → Type 0 = λ k. fields_of (drop k (x ∷ xs)) ≡ filter (λ field. nat_lt 0 (length field)) p.0 in
    let G : ℕ → Type 0 = λ k. slice_split (λ b. b == 32) (x ∷ xs) ≡ take k (x ∷ xs) ∷ p.0 in
    let behind : fields_of (drop n xs) ≡ filter (λ field. nat_lt 0 (length field)) p.0 = subst F (sym e) p.2 in
    let pieces : slice_split (λ b. b == 32) (x ∷ xs) ≡ (x ∷ take n xs) ∷ p.0 = subst G (sym e) p.1 in
    let some : nat_lt 0 (length (x ∷ take n xs)) ≡ true = grind (arith, nat_tests) in
    let front : filter (λ field. nat_lt 0 (length field)) ((x ∷ take n xs) ∷ p.0) ≡ (x ∷ take n xs) ∷ filter (λ field. nat_lt 0 (length field)) p.0 = rw some refl in
    ap (λ parts. filter (λ field. nat_lt 0 (length field)) parts) pieces ∙ front ∙ ap (λ fields. (x ∷ take n xs) ∷ fields) (sym behind)

pub field_first : (bytes front : List ℕ) (n : ℕ) → front ≡ skip_spaces bytes → n ≡ position_or_len (λ b. b == 32) front → 0 < n → fields_of bytes ≡ take n front ∷ fields_of (drop n front)
field_first bytes front n q e lt = sym (spaces_first bytes) ∙ ap fields_of (sym q) ∙ front_lem front n e lt

none_step : (x : ℕ) (xs : List ℕ) → (position_or_len (λ b. b == 32) (skip_spaces xs) ≡ 0 → skip_spaces xs ≡ []) → (b : Bool) → (x == 32) ≡ b
    → position_or_len (λ b. b == 32) (skip_spaces (x ∷ xs)) ≡ 0 → skip_spaces (x ∷ xs) ≡ []
none_step x xs ih true e h = let h' : position_or_len (λ b. b == 32) (skip_spaces xs) ≡ 0 = rw e at h in rw e (ih h')
none_step x xs ih false e h =
    let kept : skip_spaces (x ∷ xs) ≡ x ∷ xs = rw e refl in
    let h1 : position_or_len (λ b. b == 32) (x ∷ xs) ≡ 0 = rw kept at h in
    let h2 : 1 + position_or_len (λ b. b == 32) xs ≡ 0 = rw e at h1 in
    absurd (omega arith)

none_lem : (xs : List ℕ) → position_or_len (λ b. b == 32) (skip_spaces xs) ≡ 0 → skip_spaces xs ≡ []
none_lem [] h = refl
none_lem (x ∷ xs) h = none_step x xs (none_lem xs) (x == 32) refl h

pub no_field : (bytes front : List ℕ) → front ≡ skip_spaces bytes → position_or_len (λ b. b == 32) front ≡ 0 → fields_of bytes ≡ []
unfolding fields_of
no_field bytes front q e = let P : List ℕ → Type 0 = λ xs. position_or_len (λ b. b == 32) xs ≡ 0 in
    sym (spaces_first bytes) ∙ ap fields_of (none_lem bytes (subst P q e))

nil_lem : (xs : List ℕ) → length xs < 1 → xs ≡ []
nil_lem [] lt = refl
nil_lem (x ∷ xs) lt = absurd (omega arith)

-- where only spaces are left, there is no field
pub all_spaces : (bytes front : List ℕ) → front ≡ skip_spaces bytes → length front < 1 → fields_of bytes ≡ []
unfolding fields_of
all_spaces bytes front e lt = sym (spaces_first bytes) ∙ ap fields_of (sym e ∙ nil_lem front lt)

-- what is left behind spaces begins with none
kept_step : (x : ℕ) (xs : List ℕ) (b : ℕ) (more : List ℕ) → (skip_spaces xs ≡ b ∷ more → (b == 32) ≡ false) → (t : Bool) → (x == 32) ≡ t → skip_spaces (x ∷ xs) ≡ b ∷ more → (b == 32) ≡ false
kept_step x xs b more ih true e h = let h' : skip_spaces xs ≡ b ∷ more = rw e at h in ih h'
kept_step x xs b more ih false e h =
    let h' : x ∷ xs ≡ b ∷ more = rw e at h in
    let same : b ≡ x = cc in
    rw same e

kept_lem : (xs : List ℕ) (b : ℕ) (more : List ℕ) → skip_spaces xs ≡ b ∷ more → (b == 32) ≡ false
kept_lem [] b more h = absurd cc
kept_lem (x ∷ xs) b more h = kept_step x xs b more (kept_lem xs b more) (x == 32) refl h

-- a field stands where bytes begin with no space
field_begins : (b : ℕ) (more : List ℕ) → (b == 32) ≡ false → BeginsWith b (fields_of (b ∷ more))
field_begins b more e =
    let n : ℕ = position_or_len (λ b. b == 32) more in
    let one : suc n ≡ position_or_len (λ b. b == 32) (b ∷ more) = rw e (omega arith) in
    (take n more, fields_of (drop n more), front_lem (b ∷ more) (suc n) one (omega arith))

first_lem : (bytes : List ℕ) (b : ℕ) (more : List ℕ) → b ∷ more ≡ skip_spaces bytes → BeginsWith b (fields_of bytes)
first_lem bytes b more e =
    let h = field_begins b more (kept_lem bytes b more (sym e)) in
    (h.0, h.1, sym (spaces_first bytes) ∙ ap fields_of (sym e) ∙ h.2)

pub first_begins : (bytes front : List ℕ) → front ≡ skip_spaces bytes → 1 ≤ length front → BeginsWith (get_or front 0 0) (fields_of bytes)
first_begins bytes [] e le = absurd (omega arith)
first_begins bytes (b ∷ more) e le = first_lem bytes b more e

short_step : (a b c : ℕ) (more : List ℕ) → (a == 32) ≡ false → (b == 32) ≡ false → (c == 32) ≡ false → fields_of (32 ∷ a ∷ b ∷ c ∷ 32 ∷ more) ≡ (a ∷ b ∷ c ∷ []) ∷ fields_of (32 ∷ more)
short_step a b c more p q r =
    let front : List ℕ = a ∷ b ∷ c ∷ 32 ∷ more in
    let kept : front ≡ skip_spaces (32 ∷ front) = rw p refl in
    let end : 3 ≡ position_or_len (λ b. b == 32) front = rw (p, q, r) refl in
    field_first (32 ∷ front) front 3 kept end (omega arith)

-- three bytes between spaces are a field
pub short_lem : (xs : List ℕ) → 5 ≤ length xs → get_or xs 0 0 ≡ 32 → get_or xs 4 0 ≡ 32 → (get_or xs 1 0 == 32) ≡ false → (get_or xs 2 0 == 32) ≡ false → (get_or xs 3 0 == 32) ≡ false
    → fields_of xs ≡ take 3 (drop 1 xs) ∷ fields_of (drop 3 (drop 1 xs))
short_lem [] le x y p q r = absurd (omega arith)
short_lem (s ∷ []) le x y p q r = absurd (omega arith)
short_lem (s ∷ a ∷ []) le x y p q r = absurd (omega arith)
short_lem (s ∷ a ∷ b ∷ []) le x y p q r = absurd (omega arith)
short_lem (s ∷ a ∷ b ∷ c ∷ []) le x y p q r = absurd (omega arith)
short_lem (s ∷ a ∷ b ∷ c ∷ t ∷ more) le x y p q r =
    let one : s ≡ 32 = x in
    let two : t ≡ 32 = y in
    rw (one, two) (short_step a b c more p q r)
