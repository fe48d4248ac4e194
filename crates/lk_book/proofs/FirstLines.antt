-- The lines of bytes, taken off from the front.
use Rattle.std.proofs.Common.{◌≡◌, ◌≢◌, ℕ, suc, ◌==◌, Bool, true, false, List, [], ◌∷◌, ◌++◌, length, take, drop, Some, None, refl, sym, ap, subst, arith, cond}
use Rattle.std.specs.List.{slice_split, onto_first, All}
use Rattle.std.proofs.Math.Seq.{split_at}
use Rattle.std.proofs.lemmas.Bool.Decides.{nat_tests}
use Rattle.std.proofs.lemmas.List.Elements.{All-weaker, All-head, All-tail}
use Rattle.std.proofs.lemmas.List.Quantifiers.{position-Some}
use Rattle.std.proofs.lemmas.List.Splits.{slice_split_none, slice_split_at, slice_split-cons_no}
use Rattle.bstr.specs.Find.{IsFirstByte}
use Rattle.lk_token.specs.Lines.{HasNoLineFeed}
use Rattle.lk_token.proofs.FirstByte.{first_byte_is_position}
use Rattle.lk_token.proofs.LineLaws.{feed_some, feed_none}
use Rattle.lk_book.specs.File.{lines_of, has_more}

other_byte : (b : ℕ) → b ≢ 10 → (b == 10) ≡ false
other_byte b h = grind (arith, nat_tests)

that_byte : (b : ℕ) → (b == 10) ≡ true → b ≡ 10
that_byte b h = grind (arith, nat_tests)

no_feeds : (xs : List ℕ) → HasNoLineFeed xs → All (λ b. (b == 10) ≡ false) xs
no_feeds xs h = All-weaker (λ b. b ≢ 10) (λ b. (b == 10) ≡ false) other_byte xs h

-- a line and its line feed in front
pub lines_of-line : (line more : List ℕ) → HasNoLineFeed line → lines_of (line ++ 10 ∷ more) ≡ line ∷ lines_of more
unfolding lines_of
lines_of-line line more h = slice_split_at (λ b. b == 10) line 10 more (no_feeds line h) refl

-- no line feed
pub lines_of-last : (line : List ℕ) → HasNoLineFeed line → lines_of line ≡ line ∷ []
unfolding lines_of
lines_of-last line h = slice_split_none (λ b. b == 10) line (no_feeds line h)

abbrev pub Begins : List ℕ → List (List ℕ) → Type 0
Begins front lines = (more : List ℕ) × (others : List (List ℕ)) × (lines ≡ (front ++ more) ∷ others)

first_step : (b : ℕ) (lines : List (List ℕ)) (front : List ℕ) → Begins front lines → Begins (b ∷ front) (onto_first b lines)
first_step b lines front h = (h.0, h.1, rw h.2 refl)

some_line : (x : ℕ) (lines : List (List ℕ)) → (b : Bool) → Begins [] lines → Begins [] (cond b ([] ∷ lines) (onto_first x lines))
some_line x lines true h = ([], lines, refl)
some_line x lines false h = (x ∷ h.0, h.1, rw h.2 refl)

-- there is a line
pub lines_of-some : (bytes : List ℕ) → Begins [] (lines_of bytes)
unfolding lines_of
lines_of-some [] = ([], [], refl)
lines_of-some (x ∷ xs) = some_line x (slice_split (λ b. b == 10) xs) (x == 10) (lines_of-some xs)

-- the first line begins with what is before all line feeds
pub lines_of-front : (front rest : List ℕ) → HasNoLineFeed front → Begins front (lines_of (front ++ rest))
unfolding lines_of
lines_of-front [] rest h = lines_of-some rest
lines_of-front (x ∷ xs) rest h =
    let no : (x == 10) ≡ false = other_byte x (All-head (λ b. b ≢ 10) x xs h) in
    let P : List (List ℕ) → Type 0 = Begins (x ∷ xs) in
    subst P (sym (slice_split-cons_no (λ b. b == 10) x (xs ++ rest) no)) (first_step x (lines_of (xs ++ rest)) xs (lines_of-front xs rest (All-tail (λ b. b ≢ 10) x xs h)))

pub has_more-lines_of : (bytes : List ℕ) → has_more (lines_of bytes) ≡ true
has_more-lines_of bytes = rw (lines_of-some bytes).2 refl

-- the first line feed cuts bytes
pub cut_lem : (bytes : List ℕ) (n : ℕ) → IsFirstByte (λ b. b == 10) bytes (Some n) → HasNoLineFeed (take n bytes) × (bytes ≡ take n bytes ++ 10 ∷ drop (suc n) bytes)
cut_lem bytes n h =
    let is = first_byte_is_position (λ b. b == 10) bytes (Some n) h in
    let found = position-Some (λ b. b == 10) bytes n 0 (sym is) in
    let P : ℕ → Type 0 = λ x. bytes ≡ take n bytes ++ x ∷ drop (suc n) bytes in
    ((feed_some bytes n (sym is)).1, subst P (that_byte _ found.1) (split_at bytes n 0 found.0))

take_all : (xs : List ℕ) → take (length xs) xs ≡ xs
take_all [] = refl
take_all (x ∷ xs) = ap (λ l. x ∷ l) (take_all xs)

pub none_lem : (bytes : List ℕ) → IsFirstByte (λ b. b == 10) bytes None → HasNoLineFeed bytes
none_lem bytes h =
    let is = first_byte_is_position (λ b. b == 10) bytes None h in
    let P : List ℕ → Type 0 = HasNoLineFeed in
    subst P (take_all bytes) (feed_none bytes (sym is)).1
