-- Where the texts of an input are cut, line by line.
use Rattle.std.proofs.Common.{◌≡◌, ℕ, suc, ◌+◌, ◌^◌, ◌<◌, ◌≤◌, ◌&&◌, nat_le, Bool, true, false, List, [], ◌∷◌, ◌++◌, length, take, drop, refl, sym, ap, ◌∙◌, append_assoc, arith, cond}
use Rattle.std.proofs.lemmas.List.{append-nil, length-append}
use Rattle.std.proofs.lemmas.Bool.Decides.{nat_tests}
use Rattle.std.proofs.Math.Seq.{take-append_seam, drop-append_seam, take-length}
use Rattle.lk_token.specs.Lines.{HasNoLineFeed}
use Rattle.lk_token.specs.Fields.{fields_of}
use Rattle.lk_book.specs.File.{lines_of, has_more}
use Rattle.lk_book.specs.Texts.{begins_go, has_extra, parts_texts, Cut, last_cut, onto, with_feed, cut_at, cut_lines}
use Rattle.lk_book.specs.ReadingTexts.{IsFirstText}
use Rattle.lk_book.proofs.FirstLines.{lines_of-line, lines_of-last, has_more-lines_of}

-- a line that is too long parts nothing
pub long_parts : (line : List ℕ) → 2 ^ 24 < length line → parts_texts line ≡ false
unfolding parts_texts
long_parts line h = let no : nat_le (length line) (2 ^ 24) ≡ false = grind (arith, nat_tests) in ap (λ b. b && begins_go (fields_of line)) no

-- any other parts by its first field
pub short_parts : (line : List ℕ) → length line ≤ 2 ^ 24 → parts_texts line ≡ begins_go (fields_of line)
unfolding parts_texts
short_parts line h = let yes : nat_le (length line) (2 ^ 24) ≡ true = grind (arith, nat_tests) in ap (λ b. b && begins_go (fields_of line)) yes

-- an empty line parts nothing
empty_line : parts_texts [] ≡ false
unfolding parts_texts fields_of
empty_line = refl

nothing_left : lines_of [] ≡ [] ∷ []
unfolding lines_of
nothing_left = refl

parting_some : (line : List ℕ) → parts_texts line ≡ true → 1 ≤ length line
parting_some [] p = let no : parts_texts [] ≡ false = empty_line in absurd cc
parting_some (b ∷ line) p = omega arith

onto_nil : (cs : List Cut) → onto [] cs ≡ cs
onto_nil [] = refl
onto_nil (c ∷ cs) = refl

onto_onto : (front more : List ℕ) (cs : List Cut) → onto front (onto more cs) ≡ onto (front ++ more) cs
onto_onto front more [] = refl
onto_onto front more (c ∷ cs) = ap (λ bytes. record c { bytes = bytes } ∷ cs) (sym (append_assoc front more c.bytes))

cut_parting : (line : List ℕ) (more : List (List ℕ)) → parts_texts line ≡ true → cut_lines (line ∷ more) ≡ cut_at line (has_more more) ∷ cut_lines more
cut_parting line more p = ap (λ b. cond b (cut_at line (has_more more) ∷ cut_lines more) (onto (with_feed line (has_more more)) (cut_lines more))) p

cut_other : (line : List ℕ) (more : List (List ℕ)) → parts_texts line ≡ false → cut_lines (line ∷ more) ≡ onto (with_feed line (has_more more)) (cut_lines more)
cut_other line more p = ap (λ b. cond b (cut_at line (has_more more) ∷ cut_lines more) (onto (with_feed line (has_more more)) (cut_lines more))) p

-- a text that a line ends, and what stands behind that line
abbrev first_cut : List ℕ → ℕ → Bool → List ℕ → List Cut
first_cut bytes ending extra rest = record { bytes = bytes; ending = ending; extra = extra } ∷ cut_lines (lines_of rest)

same_cut : (bytes bytes2 : List ℕ) (ending ending2 : ℕ) (extra extra2 : Bool) (rest rest2 : List ℕ) → bytes ≡ bytes2 → ending ≡ ending2 → extra ≡ extra2 → rest ≡ rest2
    → first_cut bytes ending extra rest ≡ first_cut bytes2 ending2 extra2 rest2
same_cut bytes bytes2 ending ending2 extra extra2 rest rest2 h i j k =
    ap (λ b. first_cut b ending extra rest) h ∙ ap (λ n. first_cut bytes2 n extra rest) i ∙ ap (λ e. first_cut bytes2 ending2 e rest) j ∙ ap (λ r. first_cut bytes2 ending2 extra2 r) k

drop_front : (bytes front rest : List ℕ) (n : ℕ) → bytes ≡ front ++ rest → n ≡ length front → drop n bytes ≡ rest
drop_front bytes front rest n e l = rw (e, l) (drop-append_seam front rest)

-- the lines that were passed are those of the first text: the bytes in front
pub record ArePassed (bytes rest : List ℕ) (at lines : ℕ) : Type 0 where
  pub front : List ℕ
  pub whole : bytes ≡ front ++ rest
  pub length_is : at ≡ length front
  pub cuts : cut_lines (lines_of bytes) ≡ onto front (cut_lines (lines_of rest))
  pub counted : (q : List ℕ) → length (lines_of (front ++ q)) + 1 ≡ lines + length (lines_of q)
  pub few : lines ≤ at + 1
  pub some : 1 ≤ lines

pub none_passed : (bytes : List ℕ) → ArePassed bytes bytes 0 1
none_passed bytes = record {
  front = [];
  whole = refl;
  length_is = refl;
  cuts = sym (onto_nil (cut_lines (lines_of bytes)));
  counted = λ q. omega arith;
  few = omega arith;
  some = omega arith;
}

module _ (bytes rest : List ℕ) (at lines : ℕ) (p : ArePassed bytes rest at lines) where
  front_taken : (r : List ℕ) → bytes ≡ p.front ++ r → take at bytes ≡ p.front
  front_taken r e = rw (e, p.length_is) (take-append_seam p.front r)

  whole_length : at + length rest ≡ length bytes
  whole_length = let e : length bytes ≡ length p.front + length rest = ap length p.whole ∙ length-append p.front rest in let l = p.length_is in omega arith

  at_within : at ≤ length bytes
  at_within = let e = whole_length in omega arith

  text_counted : lines ≡ length (lines_of (take at bytes))
  text_counted =
      let some : length (lines_of (p.front ++ [])) + 1 ≡ lines + length (lines_of []) = p.counted [] in
      let one : length (lines_of []) ≡ 1 = ap length nothing_left in
      let none : length (lines_of (p.front ++ [])) ≡ length (lines_of p.front) = ap (λ xs. length (lines_of xs)) (append-nil p.front) in
      let e : lines ≡ length (lines_of p.front) = omega arith in
      rw (front_taken rest p.whole) e

  -- A line feed ends the next line.
  module _ (line more : List ℕ) (none : HasNoLineFeed line) (is : rest ≡ line ++ 10 ∷ more) where
    here : cut_lines (lines_of rest) ≡ cut_lines (line ∷ lines_of more)
    here = ap cut_lines (ap lines_of is ∙ lines_of-line line more none)

    rest_length : length rest ≡ length line + suc (length more)
    rest_length = ap length is ∙ length-append line (10 ∷ more)

    feed_length : length (line ++ 10 ∷ []) ≡ length line + 1
    feed_length = length-append line (10 ∷ [])

    whole_behind : bytes ≡ (p.front ++ (line ++ 10 ∷ [])) ++ more
    whole_behind = p.whole ∙ ap (λ xs. p.front ++ xs) (is ∙ sym (append_assoc line (10 ∷ []) more)) ∙ sym (append_assoc p.front (line ++ 10 ∷ []) more)

    front_behind : at + (length line + 1) ≡ length (p.front ++ (line ++ 10 ∷ []))
    front_behind =
        let e : length (p.front ++ (line ++ 10 ∷ [])) ≡ length p.front + length (line ++ 10 ∷ []) = length-append p.front (line ++ 10 ∷ []) in
        let k = feed_length in
        let l = p.length_is in
        omega arith

    pub line_passed : parts_texts line ≡ false → ArePassed bytes more (at + (length line + 1)) (lines + 1)
    line_passed other = record {
      front = p.front ++ (line ++ 10 ∷ []);
      whole = whole_behind;
      length_is = front_behind;
      cuts =
          p.cuts ∙ ap (onto p.front) (here ∙ cut_other line (lines_of more) other ∙ ap (λ b. onto (with_feed line b) (cut_lines (lines_of more))) (has_more-lines_of more))
          ∙ onto_onto p.front (line ++ 10 ∷ []) (cut_lines (lines_of more));
      counted = λ q.
          let e : (p.front ++ (line ++ 10 ∷ [])) ++ q ≡ p.front ++ (line ++ 10 ∷ q) = append_assoc p.front (line ++ 10 ∷ []) q ∙ ap (λ xs. p.front ++ xs) (append_assoc line (10 ∷ []) q) in
          let f : length (lines_of ((p.front ++ (line ++ 10 ∷ [])) ++ q)) ≡ length (lines_of (p.front ++ (line ++ 10 ∷ q))) = ap (λ xs. length (lines_of xs)) e in
          let g : length (lines_of (line ++ 10 ∷ q)) ≡ suc (length (lines_of q)) = ap length (lines_of-line line q none) in
          let k = p.counted (line ++ 10 ∷ q) in
          omega arith;
      few = let k = p.few in omega arith;
      some = omega arith;
    }

    pub ends_here : parts_texts line ≡ true → (extra : Bool) → extra ≡ has_extra (fields_of line) → IsFirstText bytes (record { bytes = at; lines = lines; ending = length line + 1; extra = extra; last = false })
    ends_here parts extra known = record {
      within = let w = whole_length in let r = rest_length in omega arith;
      counted = text_counted;
      cuts =
          p.cuts ∙ ap (onto p.front) (here ∙ cut_parting line (lines_of more) parts ∙ ap (λ b. cut_at line b ∷ cut_lines (lines_of more)) (has_more-lines_of more))
          ∙ same_cut _ _ _ _ _ _ _ _ (append-nil p.front ∙ sym (front_taken rest p.whole)) feed_length (sym known) (sym (drop_front bytes (p.front ++ (line ++ 10 ∷ [])) more (at + (length line + 1)) whole_behind front_behind));
      some = p.some;
      few = p.few;
      ends = λ on. omega arith;
    }

  -- The next line is the last.
  module _ (none : HasNoLineFeed rest) where
    last_here : cut_lines (lines_of rest) ≡ cut_lines (rest ∷ [])
    last_here = ap cut_lines (lines_of-last rest none)

    -- nothing stands behind the last line
    none_behind : cut_lines [] ≡ cut_lines (lines_of [])
    none_behind = sym (ap cut_lines nothing_left ∙ cut_other [] [] empty_line)

    all_dropped : drop (at + length rest) bytes ≡ []
    all_dropped =
        drop_front bytes (p.front ++ rest) [] (at + length rest) (p.whole ∙ sym (append-nil (p.front ++ rest))) (let l = p.length_is in let e : length (p.front ++ rest) ≡ length p.front + length rest = length-append p.front rest in omega arith)

    pub ends_last : parts_texts rest ≡ true → (extra : Bool) → extra ≡ has_extra (fields_of rest) → IsFirstText bytes (record { bytes = at; lines = lines; ending = length rest; extra = extra; last = false })
    ends_last parts extra known = record {
      within = let w = whole_length in omega arith;
      counted = text_counted;
      cuts =
          p.cuts ∙ ap (onto p.front) (last_here ∙ cut_parting rest [] parts ∙ ap (λ cs. cut_at rest false ∷ cs) none_behind)
          ∙ same_cut _ _ _ _ _ _ _ _ (append-nil p.front ∙ sym (front_taken rest p.whole)) refl (sym known) (sym all_dropped);
      some = p.some;
      few = p.few;
      ends = λ on. parting_some rest parts;
    }

    pub ends_whole : parts_texts rest ≡ false → IsFirstText bytes (record { bytes = length bytes; lines = lines; ending = 0; extra = false; last = true })
    ends_whole other = record {
      within = omega arith;
      counted =
          let k : length (lines_of (p.front ++ rest)) + 1 ≡ lines + length (lines_of rest) = p.counted rest in
          let one : length (lines_of rest) ≡ 1 = ap length (lines_of-last rest none) in
          let e : lines ≡ length (lines_of (p.front ++ rest)) = omega arith in
          let all : p.front ++ rest ≡ take (length bytes) bytes = sym p.whole ∙ sym (take-length bytes) in
          e ∙ ap (λ xs. length (lines_of xs)) all;
      cuts =
          let all : p.front ++ (rest ++ []) ≡ take (length bytes) bytes = ap (λ xs. p.front ++ xs) (append-nil rest) ∙ sym p.whole ∙ sym (take-length bytes) in
          p.cuts ∙ ap (onto p.front) (last_here ∙ cut_other rest [] other) ∙ ap (λ xs. record last_cut { bytes = xs } ∷ []) all;
      some = p.some;
      few = let k = p.few in let w = at_within in omega arith;
      ends = λ no. absurd cc;
    }
