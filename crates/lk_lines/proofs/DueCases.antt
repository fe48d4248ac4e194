-- Each due: its fields spell a value that is read, or have a fault that is told.
use Rattle.std.proofs.Common.{◌≡◌, ℕ, zero, suc, ◌<◌, ◌^◌, Bool, true, false, List, [], ◌∷◌, ◌++◌, Ok, Err, length, refl, sym, ◌∙◌, ap, subst, arith, inl, inr, codes, IsUtf8}
use Rattle.std.specs.Prelude.{◌≢◌, ◌⊎◌}
use Rattle.std.specs.Str.{bytes_eq, is_utf8}
use Rattle.std.proofs.lemmas.Slice.Eq.{bytes_eq-Decides}
use Rattle.std.proofs.lemmas.Str.{is_utf8-from_IsUtf8, IsUtf8-from_is_utf8}
use Rattle.lk_token.proofs.PairLaws.{pairs_cases}
use Rattle.lk_lines.specs.declared.words.Word.{Word}
use Rattle.lk_lines.specs.declared.words.Word.TheVariants.{BadNumber, MissingField, ExtraField, BadWord, BadCount, BadHex, BadUtf8}
use Rattle.lk_lines.specs.declared.dues.Due.{Due}
use Rattle.lk_lines.specs.declared.dues.Due.TheVariants as due
use Rattle.lk_lines.specs.declared.dues.Numbering.{Numbering}
use Rattle.lk_lines.specs.declared.line.BinderInfo.{BinderInfo}
use Rattle.lk_lines.specs.declared.line.BinderInfo.TheVariants.{Default, Implicit, StrictImplicit, InstImplicit}
use Rattle.lk_lines.specs.declared.line.ReducibilityHint.TheVariants as hints
use Rattle.lk_lines.specs.Values.{Value}
use Rattle.lk_lines.specs.Values as value
use Rattle.lk_lines.specs.Reading.{number_at, literal_at, info_at, hint_at, flag_at, numbers_at, counted_at, rest_at, due_at, read_dues}
use Rattle.lk_lines.specs.Spelling.{Numbers, NumberFault, AreNumbers, info_word, flag_word, NoFirstNumber, Takes, Fails, SpellsDues, FirstFault}
use Rattle.lk_lines.proofs.Numerals.{number_of-cases, nat_of-cases, bool_cases, absurd_lem}
use Rattle.lk_lines.proofs.Counting.{numbers_at-zero, numbers_at-none, numbers_at-suc}

-- a word, or not
tag_lem : (b : Bool) (field tag : List ℕ) → (b ≡ true → field ≡ tag) × (field ≡ tag → b ≡ true) → ((b ≡ true) × (field ≡ tag)) ⊎ ((b ≡ false) × (field ≡ tag → ⊥))
tag_lem true field tag d = inl (refl, d.0 refl)
tag_lem false field tag d = inr (refl, λ e. absurd (let bad = d.1 e in cc))

pub tag_cases : (field tag : List ℕ) → ((bytes_eq field tag ≡ true) × (field ≡ tag)) ⊎ ((bytes_eq field tag ≡ false) × (field ≡ tag → ⊥))
tag_cases field tag = tag_lem (bytes_eq field tag) field tag (bytes_eq-Decides field tag)

abbrev pub DueOutcome : ℕ → Due → List ℕ → List (List ℕ) → Type 0
DueOutcome limit d text fields = ((v : Value) × (rest : List (List ℕ)) × (due_at limit d text fields ≡ Ok (v, rest)) × Takes limit d text fields v rest)
    ⊎ ((w : Word) × (due_at limit d text fields ≡ Err w) × Fails limit d text fields w)

number_cases : (limit : ℕ) (text : List ℕ) (fields : List (List ℕ)) → DueOutcome limit due.Number text fields
unfolding number_at
number_cases limit text [] = inr (MissingField, refl, refl)
number_cases limit text (field ∷ fields) = elim (number_of-cases limit field) [
  | inl (n, e, h) ↦ inl (value.Number n, fields, rw e refl, (n, refl, (field, refl, h)))
  | inr (w, e, h) ↦ inr (w, rw e refl, h)
]

long_cases : (limit : ℕ) (text : List ℕ) (fields : List (List ℕ)) → DueOutcome limit due.Long text fields
unfolding number_at
long_cases limit text [] = inr (MissingField, refl, refl)
long_cases limit text (field ∷ fields) = elim (number_of-cases (2 ^ 64) field) [
  | inl (n, e, h) ↦ inl (value.Number n, fields, rw e refl, (n, refl, (field, refl, h)))
  | inr (w, e, h) ↦ inr (w, rw e refl, h)
]

literal_cases : (limit : ℕ) (text : List ℕ) (fields : List (List ℕ)) → DueOutcome limit due.Literal text fields
unfolding literal_at
literal_cases limit text [] = inr (MissingField, refl, refl)
literal_cases limit text (field ∷ fields) = elim (nat_of-cases field) [
  | inl (n, e, h) ↦ inl (value.Literal n, fields, rw e refl, (field, n, refl, refl, h))
  | inr (e, h) ↦ inr (BadNumber, rw e refl, (refl, h))
]

no_info : (field : List ℕ) → (field ≡ codes "#BD" → ⊥) → (field ≡ codes "#BI" → ⊥) → (field ≡ codes "#BS" → ⊥) → (field ≡ codes "#BC" → ⊥) → (i : BinderInfo) → field ≢ info_word i
no_info field a b c d Default = a
no_info field a b c d Implicit = b
no_info field a b c d StrictImplicit = c
no_info field a b c d InstImplicit = d

info_cases : (limit : ℕ) (text : List ℕ) (fields : List (List ℕ)) → DueOutcome limit due.Info text fields
unfolding info_at
info_cases limit text [] = inr (MissingField, refl, refl)
info_cases limit text (field ∷ fields) = elim (tag_cases field (codes "#BD")) [
  | inl (e, q) ↦ inl (value.OfInfo Default, fields, rw e refl, (Default, refl, ap (λ x. x ∷ fields) q))
  | inr (e1, n1) ↦ elim (tag_cases field (codes "#BI")) [
    | inl (e, q) ↦ inl (value.OfInfo Implicit, fields, rw (e1, e) refl, (Implicit, refl, ap (λ x. x ∷ fields) q))
    | inr (e2, n2) ↦ elim (tag_cases field (codes "#BS")) [
      | inl (e, q) ↦ inl (value.OfInfo StrictImplicit, fields, rw (e1, e2, e) refl, (StrictImplicit, refl, ap (λ x. x ∷ fields) q))
      | inr (e3, n3) ↦ elim (tag_cases field (codes "#BC")) [
        | inl (e, q) ↦ inl (value.OfInfo InstImplicit, fields, rw (e1, e2, e3, e) refl, (InstImplicit, refl, ap (λ x. x ∷ fields) q))
        | inr (e4, n4) ↦ inr (BadWord, rw (e1, e2, e3, e4) refl, (refl, no_info field n1 n2 n3 n4))
      ]
    ]
  ]
]

no_flag : (field : List ℕ) → (field ≡ codes "0" → ⊥) → (field ≡ codes "1" → ⊥) → (b : Bool) → field ≢ flag_word b
no_flag field a b false = a
no_flag field a b true = b

flag_cases : (limit : ℕ) (text : List ℕ) (fields : List (List ℕ)) → DueOutcome limit due.Flag text fields
unfolding flag_at
flag_cases limit text [] = inr (MissingField, refl, refl)
flag_cases limit text (field ∷ fields) = elim (tag_cases field (codes "0")) [
  | inl (e, q) ↦ inl (value.Flag false, fields, rw e refl, (false, refl, ap (λ x. x ∷ fields) q))
  | inr (e1, n1) ↦ elim (tag_cases field (codes "1")) [
    | inl (e, q) ↦ inl (value.Flag true, fields, rw (e1, e) refl, (true, refl, ap (λ x. x ∷ fields) q))
    | inr (e2, n2) ↦ inr (BadWord, rw (e1, e2) refl, (refl, no_flag field n1 n2))
  ]
]

height_cases : (limit : ℕ) (text field : List ℕ) (fields : List (List ℕ)) → bytes_eq field (codes "O") ≡ false → bytes_eq field (codes "A") ≡ false → bytes_eq field (codes "R") ≡ true → field ≡ codes "R" → DueOutcome limit due.Hint text (field ∷ fields)
unfolding hint_at number_at
height_cases limit text field [] e1 e2 e3 q = inr (MissingField, rw (e1, e2, e3) refl, inr (q, refl))
height_cases limit text field (more ∷ fields) e1 e2 e3 q = elim (number_of-cases limit more) [
  | inl (n, e, h) ↦ inl (value.OfHint (hints.Regular n), fields, rw (e1, e2, e3, e) refl, inr (inr (n, refl, more ∷ fields, ap (λ x. x ∷ more ∷ fields) q, (more, refl, h))))
  | inr (w, e, h) ↦ inr (w, rw (e1, e2, e3, e) refl, inr (q, h))
]

hint_cases : (limit : ℕ) (text : List ℕ) (fields : List (List ℕ)) → DueOutcome limit due.Hint text fields
unfolding hint_at
hint_cases limit text [] = inr (MissingField, refl, refl)
hint_cases limit text (field ∷ fields) = elim (tag_cases field (codes "O")) [
  | inl (e, q) ↦ inl (value.OfHint hints.Opaque, fields, rw e refl, inl (refl, ap (λ x. x ∷ fields) q))
  | inr (e1, n1) ↦ elim (tag_cases field (codes "A")) [
    | inl (e, q) ↦ inl (value.OfHint hints.Abbreviation, fields, rw (e1, e) refl, inr (inl (refl, ap (λ x. x ∷ fields) q)))
    | inr (e2, n2) ↦ elim (tag_cases field (codes "R")) [
      | inl (e, q) ↦ height_cases limit text field fields e1 e2 e q
      | inr (e3, n3) ↦ inr (BadWord, rw (e1, e2, e3) refl, inl (refl, n1, n2, n3))
    ]
  ]
]

-- numbers to the end
abbrev RestFault : ℕ → List (List ℕ) → Word → Type 0
RestFault limit fields w = (front : List (List ℕ)) × (ns : List ℕ) × (field : List ℕ) × (more : List (List ℕ)) × (fields ≡ front ++ field ∷ more) × AreNumbers limit front ns × NumberFault limit field w

rest_cases : (limit : ℕ) (fields : List (List ℕ)) → ((ns : List ℕ) × (rest_at limit fields ≡ Ok ns) × AreNumbers limit fields ns) ⊎ ((w : Word) × (rest_at limit fields ≡ Err w) × RestFault limit fields w)
rest_cases limit [] = inl ([], refl, tt)
rest_cases limit (field ∷ fields) = elim (number_of-cases limit field) [
  | inl (n, e, h) ↦ elim (rest_cases limit fields) [
    | inl (ns, is, all) ↦ inl (n ∷ ns, rw (e, is) refl, (h, all))
    | inr (w, is, (front, ns, f, more, q, all, bad)) ↦ inr (w, rw (e, is) refl, (field ∷ front, n ∷ ns, f, more, ap (λ x. field ∷ x) q, (h, all), bad))
  ]
  | inr (w, e, h) ↦ inr (w, rw e refl, ([], [], field, fields, refl, tt, h))
]

pub numbers_length : (limit : ℕ) (fields : List (List ℕ)) (ns : List ℕ) → AreNumbers limit fields ns → length ns ≡ length fields
numbers_length limit [] [] h = refl
numbers_length limit [] (n ∷ ns) h = absurd h
numbers_length limit (field ∷ fields) [] h = absurd h
numbers_length limit (field ∷ fields) (n ∷ ns) h = let e = numbers_length limit fields ns h.1 in omega arith

abbrev ShortFault : ℕ → ℕ → List (List ℕ) → Word → Type 0
ShortFault limit count fields w = (front : List (List ℕ)) × (ns : List ℕ) × (rest : List (List ℕ)) × (fields ≡ front ++ rest) × AreNumbers limit front ns × (length ns < count) × NoFirstNumber BadCount limit rest w

numbers_cases : (limit : ℕ) (count : ℕ) (fields : List (List ℕ))
    → ((ns : List ℕ) × (rest : List (List ℕ)) × (front : List (List ℕ)) × (numbers_at limit count fields ≡ Ok (ns, rest)) × (length ns ≡ count) × (fields ≡ front ++ rest) × AreNumbers limit front ns)
    ⊎ ((w : Word) × (numbers_at limit count fields ≡ Err w) × ShortFault limit count fields w)
numbers_cases limit zero fields = inl ([], fields, [], numbers_at-zero limit fields, refl, refl, tt)
numbers_cases limit (suc n) [] = inr (BadCount, numbers_at-none limit n, ([], [], [], refl, tt, omega arith, refl))
numbers_cases limit (suc n) (field ∷ fields) = elim (number_of-cases limit field) [
  | inl (x, e, h) ↦ elim (numbers_cases limit n fields) [
    | inl (ns, rest, front, is, len, q, all) ↦ inl (x ∷ ns, rest, field ∷ front, numbers_at-suc limit n field fields ∙ rw (e, is) refl, omega arith, ap (λ y. field ∷ y) q, (h, all))
    | inr (w, is, (front, ns, rest, q, all, small, bad)) ↦ inr (w, numbers_at-suc limit n field fields ∙ rw (e, is) refl, (field ∷ front, x ∷ ns, rest, ap (λ y. field ∷ y) q, (h, all), omega arith, bad))
  ]
  | inr (w, e, h) ↦ inr (w, numbers_at-suc limit n field fields ∙ rw e refl, ([], [], field ∷ fields, refl, tt, omega arith, h))
]

counted_cases : (limit : ℕ) (k : Numbering) (text : List ℕ) (fields : List (List ℕ)) → DueOutcome limit (due.Counted k) text fields
unfolding counted_at number_at
counted_cases limit k text [] = inr (MissingField, refl, inl refl)
counted_cases limit k text (field ∷ fields) = elim (number_of-cases limit field) [
  | inl (count, e, h) ↦ elim (numbers_cases limit count fields) [
    | inl (ns, rest, front, is, len, q, all) ↦ inl (value.Numbers ns, rest, rw (e, is) refl, (ns, refl, fields, front, (field, refl, subst (λ n. Numbers limit field n) (sym len) h), q, all))
    | inr (w, is, (front, ns, rest, q, all, small, bad)) ↦ inr (w, rw (e, is) refl, inr (count, fields, front, ns, rest, (field, refl, h), q, all, small, bad))
  ]
  | inr (w, e, h) ↦ inr (w, rw e refl, inl h)
]

to_end_cases : (limit : ℕ) (k : Numbering) (text : List ℕ) (fields : List (List ℕ)) → DueOutcome limit (due.Rest k) text fields
to_end_cases limit k text fields = elim (rest_cases limit fields) [
  | inl (ns, is, all) ↦ inl (value.Numbers ns, [], rw is refl, (ns, refl, all, refl))
  | inr (w, is, h) ↦ inr (w, rw is refl, h)
]

-- text, or not
utf8_cases : (bytes : List ℕ) → ((is_utf8 bytes ≡ true) × IsUtf8 bytes) ⊎ ((is_utf8 bytes ≡ false) × (IsUtf8 bytes → ⊥))
utf8_cases bytes = elim (bool_cases (is_utf8 bytes)) [
  | inl e ↦ inl (e, IsUtf8-from_is_utf8 bytes e)
  | inr e ↦ inr (e, λ h. absurd_lem (is_utf8 bytes) (is_utf8-from_IsUtf8 bytes h) e)
]

text_cases : (limit : ℕ) (text : List ℕ) (fields : List (List ℕ)) → DueOutcome limit due.Text text fields
text_cases limit text fields = elim (utf8_cases text) [
  | inl (e, h) ↦ inl (value.Bytes text, [], rw e refl, (refl, h, refl))
  | inr (e, h) ↦ inr (BadUtf8, rw e refl, (refl, h))
]

hex_cases : (limit : ℕ) (text : List ℕ) (fields : List (List ℕ)) → DueOutcome limit due.Hex text fields
hex_cases limit text fields = elim (pairs_cases fields) [
  | inl (bytes, e, all) ↦ elim (utf8_cases bytes) [
    | inl (f, h) ↦ inl (value.Bytes bytes, [], rw (e, f) refl, (bytes, refl, all, h, refl))
    | inr (f, h) ↦ inr (BadUtf8, rw (e, f) refl, inr (refl, bytes, all, h))
  ]
  | inr (e, (front, bytes, field, more, q, all, bad)) ↦ inr (BadHex, rw e refl, inl (refl, front, bytes, field, more, q, all, bad))
]

due_cases : (limit : ℕ) (d : Due) (text : List ℕ) (fields : List (List ℕ)) → DueOutcome limit d text fields
due_cases limit (due.Known k) text fields = number_cases limit text fields
due_cases limit due.Number text fields = number_cases limit text fields
due_cases limit due.Long text fields = long_cases limit text fields
due_cases limit due.Literal text fields = literal_cases limit text fields
due_cases limit due.Info text fields = info_cases limit text fields
due_cases limit due.Hint text fields = hint_cases limit text fields
due_cases limit due.Flag text fields = flag_cases limit text fields
due_cases limit (due.Counted k) text fields = counted_cases limit k text fields
due_cases limit (due.Rest k) text fields = to_end_cases limit k text fields
due_cases limit due.Text text fields = text_cases limit text fields
due_cases limit due.Hex text fields = hex_cases limit text fields

abbrev pub Outcome : ℕ → List Due → List ℕ → List (List ℕ) → Type 0
Outcome limit dues text fields = ((values : List Value) × (read_dues limit dues text fields ≡ Ok values) × SpellsDues limit dues text fields values)
    ⊎ ((w : Word) × (read_dues limit dues text fields ≡ Err w) × FirstFault limit dues text fields w)

pub outcome : (limit : ℕ) (dues : List Due) (text : List ℕ) (fields : List (List ℕ)) → Outcome limit dues text fields
outcome limit [] text [] = inl ([], refl, (refl, refl))
outcome limit [] text (field ∷ fields) = inr (ExtraField, refl, (field, fields, refl, refl))
outcome limit (d ∷ dues) text fields = elim (due_cases limit d text fields) [
  | inl (v, rest, e, h) ↦ elim (outcome limit dues text rest) [
    | inl (values, is, s) ↦ inl (v ∷ values, rw (e, is) refl, (v, rest, values, refl, h, s))
    | inr (w, is, f) ↦ inr (w, rw (e, is) refl, inr (v, rest, h, f))
  ]
  | inr (w, e, h) ↦ inr (w, rw e refl, inl h)
]
