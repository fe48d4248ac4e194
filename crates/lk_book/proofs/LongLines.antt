-- Lines that are too long, by their length alone.
use Rattle.std.proofs.Common.{◌≡◌, ◌≢◌, ℕ, ◌+◌, ◌<◌, Bool, true, false, List, [], ◌∷◌, ◌++◌, length, Some, None, refl, ◌∙◌, append_assoc, arith, subst, nat_lt}
use Rattle.std.specs.Prelude.{◌^◌}
use Rattle.std.specs.declared.option.Option.{Option}
use Rattle.std.specs.Io.KnownBytes.{Consumes, IsAtEnd}
use Rattle.std.proofs.lemmas.Bool.Decides.{nat_tests}
use Rattle.std.proofs.lemmas.List.{length-append, append-nil}
use Rattle.std.proofs.lemmas.List.Elements.{All-append, All-nil}
use Rattle.lk_token.specs.Lines.{HasNoLineFeed}
use Rattle.lk_lines.specs.Limits.{limits}
use Rattle.lk_lines.specs.declared.words.Word.{Word}
use Rattle.lk_lines.specs.declared.words.Word.TheVariants.{InputTooLong}
use Rattle.lk_book.specs.File.{lines_of, has_more}
use Rattle.lk_book.specs.Reading.{first_limits, ConsumesSome, Skips}
use Rattle.lk_port.proofs.BytesLemmas.{Consumes-none, Consumes-append}
use Rattle.lk_book.proofs.FirstLines.{lines_of-line, lines_of-last, lines_of-front, has_more-lines_of}

joined : (begun line : List ℕ) → HasNoLineFeed begun → HasNoLineFeed line → HasNoLineFeed (begun ++ line)
joined begun line h i = All-append (λ b. b ≢ 10) begun line h i

-- the line ends in the piece
ends_lem : (before n : ℕ) (line more rest : List ℕ) (w : Word) → HasNoLineFeed line → n ≡ length line → limits before n true ≡ Some w → first_limits before (lines_of (line ++ 10 ∷ (more ++ rest))) ≡ Some w
ends_lem before n line more rest w h e is = let P : ℕ → Type 0 = λ k. limits before k true ≡ Some w in
    rw (lines_of-line line (more ++ rest) h, has_more-lines_of (more ++ rest)) (subst P e is)

ends_at : (begun piece line more rest : List ℕ) → piece ≡ line ++ 10 ∷ more → begun ++ (piece ++ rest) ≡ (begun ++ line) ++ 10 ∷ (more ++ rest)
ends_at begun piece line more rest e = rw (e, append_assoc line (10 ∷ more) rest, ← append_assoc begun line (10 ∷ (more ++ rest))) refl

pub ends : (before count n : ℕ) (piece line more begun rest : List ℕ) (w : Word) → limits before n true ≡ Some w → n ≡ count + length line → piece ≡ line ++ 10 ∷ more → HasNoLineFeed line → HasNoLineFeed begun → length begun ≡ count
    → first_limits before (lines_of (begun ++ (piece ++ rest))) ≡ Some w
ends before count n piece line more begun rest w is e q h i l =
    let lens : n ≡ length (begun ++ line) = omega (arith, length-append begun line) in
    rw (ends_at begun piece line more rest q) (ends_lem before n (begun ++ line) more rest w (joined begun line i h) lens is)

over : (before n : ℕ) (feed : Bool) → 2 ^ 40 < before + n → limits before n feed ≡ Some InputTooLong
over before n true h = let t : nat_lt (2 ^ 40) (before + n + 1) ≡ true = grind (arith, nat_tests) in rw t refl
over before n false h = let t : nat_lt (2 ^ 40) (before + n + 0) ≡ true = grind (arith, nat_tests) in rw t refl

front_over : (before : ℕ) (front : List ℕ) (lines : List (List ℕ)) (more : List ℕ) (others : List (List ℕ)) → lines ≡ (front ++ more) ∷ others → 2 ^ 40 < before + length front → first_limits before lines ≡ Some InputTooLong
front_over before front lines more others e h =
    let lens = length-append front more in
    let lt : 2 ^ 40 < before + length (front ++ more) = omega arith in
    rw e (over before (length (front ++ more)) (has_more others) lt)

-- the input's limit is passed, wherever the line ends
pub beyond : (before count n : ℕ) (piece begun rest : List ℕ) → 2 ^ 40 < before + n → n ≡ count + length piece → HasNoLineFeed piece → HasNoLineFeed begun → length begun ≡ count
    → first_limits before (lines_of (begun ++ (piece ++ rest))) ≡ Some InputTooLong
beyond before count n piece begun rest h e i j l =
    let b = lines_of-front (begun ++ piece) rest (joined begun piece j i) in
    let lens = length-append begun piece in
    let lt : 2 ^ 40 < before + length (begun ++ piece) = omega arith in
    rw (← append_assoc begun piece rest) (front_over before (begun ++ piece) (lines_of ((begun ++ piece) ++ rest)) b.0 b.1 b.2 lt)

pub skips_none : (old : Option (List ℕ)) (n : ℕ) → Skips old old n n
skips_none old n = record { bytes = []; consumed = Consumes-none old; unfinished = All-nil (λ b. b ≢ 10); counted = omega arith }

pub skips_more : (old now new : Option (List ℕ)) (n k m : ℕ) (piece : List ℕ) → Skips old now n k → Consumes now new piece → HasNoLineFeed piece → m ≡ k + length piece → Skips old new n m
skips_more old now new n k m piece s read none e =
    let counted = s.counted in
    let lens = length-append s.bytes piece in
    record { bytes = s.bytes ++ piece; consumed = Consumes-append old now new s.bytes piece s.consumed read; unfinished = joined s.bytes piece s.unfinished none; counted = omega arith }

-- what a source had is what was taken and what it has
pub known_left : (old now : Option (List ℕ)) (taken bytes : List ℕ) → Consumes old now taken → old ≡ Some bytes → (rest : List ℕ) × (now ≡ Some rest) × (bytes ≡ taken ++ rest)
known_left None now taken bytes h e = absurd (cc)
known_left (Some xs) None taken bytes h e = absurd h
known_left (Some xs) (Some ys) taken bytes h e = (ys, refl, (let is : xs ≡ taken ++ ys = h in cc))

at_end : (xs : List ℕ) (rest taken piece : List ℕ) (new : Option (List ℕ)) → xs ≡ (taken ++ piece) ++ rest → new ≡ Some rest → IsAtEnd new → length piece ≡ 0 → xs ≡ taken
at_end xs rest taken (x ∷ piece) new e is end none = absurd (omega arith)
at_end xs rest taken [] new e is end none =
    let P : Option (List ℕ) → Type 0 = λ o. IsAtEnd o in
    let empty : rest ≡ [] = subst P is end in
    e ∙ rw (empty, append-nil, append-nil) refl

-- the bytes that a source had were all read
pub all_read : (old now new : Option (List ℕ)) (taken piece bytes : List ℕ) → Consumes old now taken → Consumes now new piece → length piece ≡ 0 → IsAtEnd new → old ≡ Some bytes → bytes ≡ taken
all_read old now new taken piece bytes h read none end e =
    let k = known_left old new (taken ++ piece) bytes (Consumes-append old now new taken piece h read) e in
    at_end bytes k.0 taken piece new k.2 k.1 end none

pub skips_end : (old now new : Option (List ℕ)) (before n k : ℕ) (piece begun bytes : List ℕ) (w : Word) → Skips old now n k → Consumes now new piece → length piece ≡ 0 → IsAtEnd new → limits before k false ≡ Some w
    → HasNoLineFeed begun → length begun ≡ n → old ≡ Some bytes → first_limits before (lines_of (begun ++ bytes)) ≡ Some w
skips_end old now new before n k piece begun bytes w s read none end is h l e =
    let counted = s.counted in
    let lens = length-append begun s.bytes in
    let same : k ≡ length (begun ++ s.bytes) = omega arith in
    let P : ℕ → Type 0 = λ j. limits before j false ≡ Some w in
    rw (all_read old now new s.bytes piece bytes s.consumed read none end e, lines_of-last (begun ++ s.bytes) (joined begun s.bytes h s.unfinished)) (subst P same is)

pub skips_word : (old now new : Option (List ℕ)) (before n k : ℕ) (piece begun bytes : List ℕ) (w : Word) → Skips old now n k → Consumes now new piece
    → ((begun rest : List ℕ) → HasNoLineFeed begun → length begun ≡ k → first_limits before (lines_of (begun ++ (piece ++ rest))) ≡ Some w)
    → HasNoLineFeed begun → length begun ≡ n → old ≡ Some bytes → first_limits before (lines_of (begun ++ bytes)) ≡ Some w
skips_word old now new before n k piece begun bytes w s read f h l e =
    let t = known_left old new (s.bytes ++ piece) bytes (Consumes-append old now new s.bytes piece s.consumed read) e in
    let counted = s.counted in
    let lens = length-append begun s.bytes in
    let same : length (begun ++ s.bytes) ≡ k = omega arith in
    rw (t.2, append_assoc s.bytes piece t.0, ← append_assoc begun s.bytes (piece ++ t.0)) (f (begun ++ s.bytes) t.0 (joined begun s.bytes h s.unfinished) same)

pub skips_front : (old now new : Option (List ℕ)) (n k : ℕ) (piece : List ℕ) → Skips old now n k → Consumes now new piece → ConsumesSome old new
skips_front old now new n k piece s read = (s.bytes ++ piece, Consumes-append old now new s.bytes piece s.consumed read)
