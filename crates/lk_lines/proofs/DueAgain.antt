-- What the fields spell is what is read.
use Rattle.std.proofs.Common.{◌≡◌, ℕ, ◌^◌, Bool, true, false, List, [], ◌∷◌, ◌++◌, Ok, length, refl, ◌∙◌, inl, inr}
use Rattle.std.proofs.lemmas.Str.{is_utf8-from_IsUtf8}
use Rattle.lk_token.proofs.PairLaws.{pairs_again}
use Rattle.lk_lines.specs.declared.dues.Numbering.{Numbering}
use Rattle.lk_lines.specs.declared.dues.Due.{Due}
use Rattle.lk_lines.specs.declared.dues.Due.TheVariants as due
use Rattle.lk_lines.specs.declared.line.BinderInfo.{BinderInfo}
use Rattle.lk_lines.specs.declared.line.BinderInfo.TheVariants.{Default, Implicit, StrictImplicit, InstImplicit}
use Rattle.lk_lines.specs.Values.{Value}
use Rattle.lk_lines.specs.Values as value
use Rattle.lk_lines.specs.Reading.{number_at, literal_at, info_at, hint_at, flag_at, numbers_at, counted_at, rest_at, due_at, read_dues}
use Rattle.lk_lines.specs.Spelling.{AreNumbers, info_word, flag_word, Takes, SpellsDues}
use Rattle.lk_lines.proofs.Numerals.{number_of-again, nat_of-literal}
use Rattle.lk_lines.proofs.Counting.{numbers_at-zero, numbers_at-suc}

number_again : (limit : ℕ) (text : List ℕ) (fields : List (List ℕ)) (v : Value) (rest : List (List ℕ)) → Takes limit due.Number text fields v rest → due_at limit due.Number text fields ≡ Ok (v, rest)
unfolding number_at
number_again limit text fields v rest (n, is, (field, q, h)) = rw (q, is, number_of-again limit field n h) refl

long_again : (limit : ℕ) (text : List ℕ) (fields : List (List ℕ)) (v : Value) (rest : List (List ℕ)) → Takes limit due.Long text fields v rest → due_at limit due.Long text fields ≡ Ok (v, rest)
unfolding number_at
long_again limit text fields v rest (n, is, (field, q, h)) = rw (q, is, number_of-again (2 ^ 64) field n h) refl

literal_again : (limit : ℕ) (text : List ℕ) (fields : List (List ℕ)) (v : Value) (rest : List (List ℕ)) → Takes limit due.Literal text fields v rest → due_at limit due.Literal text fields ≡ Ok (v, rest)
unfolding literal_at
literal_again limit text fields v rest (field, n, is, q, h) = rw (q, is, nat_of-literal field n h) refl

info_lem : (i : BinderInfo) (rest : List (List ℕ)) → info_at (info_word i ∷ rest) ≡ Ok (value.OfInfo i, rest)
unfolding info_at
info_lem Default rest = refl
info_lem Implicit rest = refl
info_lem StrictImplicit rest = refl
info_lem InstImplicit rest = refl

info_again : (limit : ℕ) (text : List ℕ) (fields : List (List ℕ)) (v : Value) (rest : List (List ℕ)) → Takes limit due.Info text fields v rest → due_at limit due.Info text fields ≡ Ok (v, rest)
info_again limit text fields v rest (i, is, q) = rw (q, is) (info_lem i rest)

flag_lem : (b : Bool) (rest : List (List ℕ)) → flag_at (flag_word b ∷ rest) ≡ Ok (value.Flag b, rest)
unfolding flag_at
flag_lem false rest = refl
flag_lem true rest = refl

flag_again : (limit : ℕ) (text : List ℕ) (fields : List (List ℕ)) (v : Value) (rest : List (List ℕ)) → Takes limit due.Flag text fields v rest → due_at limit due.Flag text fields ≡ Ok (v, rest)
flag_again limit text fields v rest (b, is, q) = rw (q, is) (flag_lem b rest)

hint_again : (limit : ℕ) (text : List ℕ) (fields : List (List ℕ)) (v : Value) (rest : List (List ℕ)) → Takes limit due.Hint text fields v rest → due_at limit due.Hint text fields ≡ Ok (v, rest)
unfolding hint_at number_at
hint_again limit text fields v rest (inl (is, q)) = rw (q, is) refl
hint_again limit text fields v rest (inr (inl (is, q))) = rw (q, is) refl
hint_again limit text fields v rest (inr (inr (n, is, more, q, (field, p, h)))) = rw (q, p, is, number_of-again limit field n h) refl

pub rest_again : (limit : ℕ) (fields : List (List ℕ)) (ns : List ℕ) → AreNumbers limit fields ns → rest_at limit fields ≡ Ok ns
rest_again limit [] [] h = refl
rest_again limit [] (n ∷ ns) h = absurd h
rest_again limit (field ∷ fields) [] h = absurd h
rest_again limit (field ∷ fields) (n ∷ ns) h = rw (number_of-again limit field n h.0, rest_again limit fields ns h.1) refl

numbers_again : (limit : ℕ) (front rest : List (List ℕ)) (ns : List ℕ) → AreNumbers limit front ns → numbers_at limit (length ns) (front ++ rest) ≡ Ok (ns, rest)
numbers_again limit [] rest [] h = numbers_at-zero limit rest
numbers_again limit [] rest (n ∷ ns) h = absurd h
numbers_again limit (field ∷ front) rest [] h = absurd h
numbers_again limit (field ∷ front) rest (n ∷ ns) h = numbers_at-suc limit (length ns) field (front ++ rest) ∙ rw (number_of-again limit field n h.0, numbers_again limit front rest ns h.1) refl

counted_again : (limit : ℕ) (k : Numbering) (text : List ℕ) (fields : List (List ℕ)) (v : Value) (rest : List (List ℕ)) → Takes limit (due.Counted k) text fields v rest → due_at limit (due.Counted k) text fields ≡ Ok (v, rest)
unfolding counted_at number_at
counted_again limit k text fields v rest (ns, is, more, front, (field, q, h), p, all) = rw (q, number_of-again limit field (length ns) h, p, numbers_again limit front rest ns all, is) refl

to_end_again : (limit : ℕ) (k : Numbering) (text : List ℕ) (fields : List (List ℕ)) (v : Value) (rest : List (List ℕ)) → Takes limit (due.Rest k) text fields v rest → due_at limit (due.Rest k) text fields ≡ Ok (v, rest)
to_end_again limit k text fields v rest (ns, is, all, e) = rw (rest_again limit fields ns all, is, e) refl

text_again : (limit : ℕ) (text : List ℕ) (fields : List (List ℕ)) (v : Value) (rest : List (List ℕ)) → Takes limit due.Text text fields v rest → due_at limit due.Text text fields ≡ Ok (v, rest)
text_again limit text fields v rest (is, h, e) = rw (is_utf8-from_IsUtf8 text h, is, e) refl

hex_again : (limit : ℕ) (text : List ℕ) (fields : List (List ℕ)) (v : Value) (rest : List (List ℕ)) → Takes limit due.Hex text fields v rest → due_at limit due.Hex text fields ≡ Ok (v, rest)
hex_again limit text fields v rest (bytes, is, all, h, e) = rw (pairs_again fields bytes all, is_utf8-from_IsUtf8 bytes h, is, e) refl

pub due_again : (limit : ℕ) (d : Due) (text : List ℕ) (fields : List (List ℕ)) (v : Value) (rest : List (List ℕ)) → Takes limit d text fields v rest → due_at limit d text fields ≡ Ok (v, rest)
due_again limit (due.Known k) text fields v rest h = number_again limit text fields v rest h
due_again limit due.Number text fields v rest h = number_again limit text fields v rest h
due_again limit due.Long text fields v rest h = long_again limit text fields v rest h
due_again limit due.Literal text fields v rest h = literal_again limit text fields v rest h
due_again limit due.Info text fields v rest h = info_again limit text fields v rest h
due_again limit due.Hint text fields v rest h = hint_again limit text fields v rest h
due_again limit due.Flag text fields v rest h = flag_again limit text fields v rest h
due_again limit (due.Counted k) text fields v rest h = counted_again limit k text fields v rest h
due_again limit (due.Rest k) text fields v rest h = to_end_again limit k text fields v rest h
due_again limit due.Text text fields v rest h = text_again limit text fields v rest h
due_again limit due.Hex text fields v rest h = hex_again limit text fields v rest h

pub again : (limit : ℕ) (dues : List Due) (text : List ℕ) (fields : List (List ℕ)) (values : List Value) → SpellsDues limit dues text fields values → read_dues limit dues text fields ≡ Ok values
again limit [] text fields values (q, is) = rw (q, is) refl
again limit (d ∷ dues) text fields values (v, rest, more, is, h, s) = rw (due_again limit d text fields v rest h, again limit dues text rest more s, is) refl
