-- A number that is read in one pass is the number of the first field.
use Rattle.std.proofs.Common.{◌≡◌, ℕ, ◌+◌, ◌-◌, ◌*◌, ◌<◌, ◌≤◌, ◌^◌, ◌==◌, false, List, [], ◌∷◌, ◌++◌, length, drop, take, get_or, Ok, refl, sym, ◌∙◌, ap, subst, arith, inl, inr}
use Rattle.std.specs.List.{position_or_len}
use Rattle.std.specs.Int.{IsInRange}
use Rattle.std.specs.Char.{digit_value}
use Rattle.std.specs.Str.Parse.{AllDigits, digits_value}
use Rattle.std.proofs.Math.Seq.{drop-append_seam, take-length}
use Rattle.std.proofs.lemmas.List.{length-append}
use Rattle.std.proofs.lemmas.Bool.Decides.{nat_tests}
use Rattle.std.proofs.lemmas.Str.{digit_value_digit}
use Rattle.std.proofs.lemmas.Str.Parse.{digit_from_value}
use Rattle.std.proofs.lemmas.Int.Digits.{digits_push, digits_value_push}
use Rattle.lk_token.specs.Fields.{fields_of, skip_spaces}
use Rattle.lk_token.proofs.FieldLaws.{field_first, spaces_first}
use Rattle.lk_lines.specs.declared.words.Word.{Word}
use Rattle.lk_lines.specs.Digits.{LeadingDigits, EndsField}
use Rattle.lk_lines.specs.Reading.{number_of, number_at}
use Rattle.lk_lines.proofs.Numerals.{number_of-is}

pub leading_none : (bytes : List ℕ) → LeadingDigits bytes bytes 0
leading_none bytes = record { digits = []; parts = refl; all = tt; «value» = refl }

assoc_lem : (xs : List ℕ) (b : ℕ) (more : List ℕ) → xs ++ b ∷ more ≡ (xs ++ b ∷ []) ++ more
assoc_lem [] b more = refl
assoc_lem (x ∷ xs) b more = ap (λ ys. x ∷ ys) (assoc_lem xs b more)

digit_lem : (bytes : List ℕ) (b : ℕ) (more : List ℕ) (n : ℕ) → LeadingDigits bytes (b ∷ more) n → IsInRange 48 57 b → LeadingDigits bytes more (n * 10 + (b - 48))
digit_lem bytes b more n h r =
    let d : digit_value b + 48 ≡ b = digit_value_digit b r in
    let small : digit_value b < 10 = (let high : b ≤ 57 = r.1 in omega arith) in
    let e : digit_value b ≡ b - 48 = omega arith in
    record {
      digits = h.digits ++ b ∷ [];
      parts = h.parts ∙ assoc_lem h.digits b more;
      all = digits_push 10 h.digits b h.all small;
      «value» = digits_value_push 10 h.digits b ∙ rw (h.«value», e) refl;
    }

rest_lem : (b : ℕ) (more : List ℕ) → more ≡ take (length (b ∷ more) - 1) more
rest_lem b more = let e : length (b ∷ more) - 1 ≡ length more = omega arith in rw (e, take-length more) refl

-- one more digit
pub leading_more : (bytes rest : List ℕ) (n d : ℕ) → 1 ≤ length rest → LeadingDigits bytes rest n → IsInRange 48 57 (get_or rest 0 0) → d ≡ get_or rest 0 0 - 48 → LeadingDigits bytes (take (length rest - 1) (drop 1 rest)) (n * 10 + d)
leading_more bytes [] n d le h r e = absurd (omega arith)
leading_more bytes (b ∷ more) n d le h r e =
    let P : List ℕ → Type 0 = λ xs. LeadingDigits bytes xs (n * 10 + d) in
    subst P (rest_lem b more) (rw e (digit_lem bytes b more n h r))

-- a space in front counts for nothing
pub space_lem : (xs : List ℕ) → 1 ≤ length xs → get_or xs 0 0 ≡ 32 → fields_of (take (length xs - 1) (drop 1 xs)) ≡ fields_of xs
space_lem [] le e = absurd (omega arith)
space_lem (b ∷ more) le e =
    let spaces : skip_spaces (b ∷ more) ≡ skip_spaces more = (let is : b ≡ 32 = e in rw is refl) in
    ap fields_of (sym (rest_lem b more)) ∙ sym (spaces_first more) ∙ ap fields_of (sym spaces) ∙ spaces_first (b ∷ more)

no_space : (d : ℕ) → digit_value d < 10 → (d == 32) ≡ false
no_space d lt = let low : 48 ≤ d = (digit_from_value d lt).0 in grind (arith, nat_tests)

end_lem : (rest : List ℕ) → EndsField rest → position_or_len (λ b. b == 32) rest ≡ 0
end_lem [] ends = refl
end_lem (b ∷ more) (inl lt) = absurd (omega arith)
end_lem (b ∷ more) (inr h) = let e : b ≡ 32 = h.1 in rw e refl

digits_end : (ds rest : List ℕ) → AllDigits 10 ds → EndsField rest → position_or_len (λ b. b == 32) (ds ++ rest) ≡ length ds
digits_end [] rest all ends = end_lem rest ends
digits_end (d ∷ ds) rest all ends = let ih = digits_end ds rest all.1 ends in rw (no_space d all.0) (omega arith)

take_lem : (xs ys : List ℕ) → take (length xs) (xs ++ ys) ≡ xs
take_lem [] ys = refl
take_lem (x ∷ xs) ys = ap (λ zs. x ∷ zs) (take_lem xs ys)

digits_field : (ds rest : List ℕ) → AllDigits 10 ds → 0 < length ds → EndsField rest → fields_of (ds ++ rest) ≡ ds ∷ fields_of rest
digits_field [] rest all lt ends = absurd (omega arith)
digits_field (d ∷ ds) rest all lt ends =
    let kept : d ∷ ds ++ rest ≡ skip_spaces (d ∷ ds ++ rest) = rw (no_space d all.0) refl in
    field_first (d ∷ ds ++ rest) (d ∷ ds ++ rest) (length (d ∷ ds)) kept (sym (digits_end (d ∷ ds) rest all ends)) lt
    ∙ rw (take_lem (d ∷ ds) rest, drop-append_seam (d ∷ ds) rest) refl

pub plain_lem : (line front rest : List ℕ) (n : ℕ) (missing : Word) (limit : ℕ) → fields_of front ≡ fields_of line → LeadingDigits front rest n → length rest < length front → EndsField rest → n < 2 ^ 32 → 2 ^ 32 ≤ limit
    → number_at missing limit (fields_of line) ≡ Ok (n, fields_of rest)
unfolding number_at
plain_lem line front rest n missing limit same h shorter ends lt room =
    let whole : length front ≡ length h.digits + length rest = ap length h.parts ∙ length-append h.digits rest in
    let some : 0 < length h.digits = omega arith in
    let fields : fields_of line ≡ h.digits ∷ fields_of rest = sym same ∙ ap fields_of h.parts ∙ digits_field h.digits rest h.all some ends in
    let is : digits_value 10 h.digits ≡ n = h.«value» in
    let number : number_of limit h.digits ≡ Ok n = number_of-is limit h.digits n (some, h.all) (omega arith) (sym is) in
    rw (fields, number) refl
