-- The first fault of the fields is what is told.
use Rattle.std.proofs.Common.{◌≡◌, ℕ, zero, suc, ◌<◌, ◌^◌, true, false, List, [], ◌∷◌, ◌++◌, Err, length, refl, ◌∙◌, arith, inl, inr, codes, IsUtf8}
use Rattle.std.proofs.lemmas.Str.{IsUtf8-from_is_utf8}
use Rattle.std.specs.Str.{bytes_eq, is_utf8}
use Rattle.lk_num.proofs.Numerals.{false_of, nat_of-none}
use Rattle.lk_token.proofs.PairLaws.{pairs_again, pairs_stop}
use Rattle.lk_lines.specs.declared.words.Word.{Word}
use Rattle.lk_lines.specs.declared.words.Word.TheVariants.{MissingField, BadCount}
use Rattle.lk_lines.specs.declared.dues.Numbering.{Numbering}
use Rattle.lk_lines.specs.declared.dues.Due.{Due}
use Rattle.lk_lines.specs.declared.dues.Due.TheVariants as due
use Rattle.lk_lines.specs.declared.line.BinderInfo.TheVariants.{Default, Implicit, StrictImplicit, InstImplicit}
use Rattle.lk_lines.specs.Reading.{number_at, number_value, literal_at, info_at, hint_at, flag_at, numbers_at, counted_at, rest_at, due_at, read_dues}
use Rattle.lk_lines.specs.Spelling.{NumberFault, AreNumbers, NoFirstNumber, Fails, FirstFault}
use Rattle.lk_lines.proofs.Numerals.{number_of-again, number_of-fault}
use Rattle.lk_lines.proofs.DueCases.{tag_cases}
use Rattle.lk_lines.proofs.DueAgain.{due_again}
use Rattle.lk_lines.proofs.Counting.{numbers_at-none, numbers_at-suc}

word_false : (field tag : List ℕ) → (field ≡ tag → ⊥) → bytes_eq field tag ≡ false
word_false field tag h = elim (tag_cases field tag) [
  | inl (e, q) ↦ absurd (h q)
  | inr (e, n) ↦ e
]

first_stop : (missing : Word) (limit : ℕ) (fields : List (List ℕ)) (w : Word) → NoFirstNumber missing limit fields w → number_at missing limit fields ≡ Err w
unfolding number_at
first_stop missing limit [] w h = rw h refl
first_stop missing limit (field ∷ fields) w h = rw (number_of-fault limit field w h) refl

value_stop : (limit : ℕ) (fields : List (List ℕ)) (w : Word) → NoFirstNumber MissingField limit fields w → number_value limit fields ≡ Err w
value_stop limit fields w h = rw (first_stop MissingField limit fields w h) refl

literal_stop : (limit : ℕ) (text : List ℕ) (fields : List (List ℕ)) (w : Word) → Fails limit due.Literal text fields w → due_at limit due.Literal text fields ≡ Err w
unfolding literal_at
literal_stop limit text [] w h = rw h refl
literal_stop limit text (field ∷ fields) w h = rw (h.0, nat_of-none field h.1) refl

info_stop : (limit : ℕ) (text : List ℕ) (fields : List (List ℕ)) (w : Word) → Fails limit due.Info text fields w → due_at limit due.Info text fields ≡ Err w
unfolding info_at
info_stop limit text [] w h = rw h refl
info_stop limit text (field ∷ fields) w h = rw (h.0, word_false field (codes "#BD") (h.1 Default), word_false field (codes "#BI") (h.1 Implicit), word_false field (codes "#BS") (h.1 StrictImplicit), word_false field (codes "#BC") (h.1 InstImplicit)) refl

flag_stop : (limit : ℕ) (text : List ℕ) (fields : List (List ℕ)) (w : Word) → Fails limit due.Flag text fields w → due_at limit due.Flag text fields ≡ Err w
unfolding flag_at
flag_stop limit text [] w h = rw h refl
flag_stop limit text (field ∷ fields) w h = rw (h.0, word_false field (codes "0") (h.1 false), word_false field (codes "1") (h.1 true)) refl

hint_stop : (limit : ℕ) (text : List ℕ) (fields : List (List ℕ)) (w : Word) → Fails limit due.Hint text fields w → due_at limit due.Hint text fields ≡ Err w
unfolding hint_at
hint_stop limit text [] w h = rw h refl
hint_stop limit text (field ∷ fields) w (inl h) = rw (h.0, word_false field (codes "O") h.1, word_false field (codes "A") h.2, word_false field (codes "R") h.3) refl
hint_stop limit text (field ∷ fields) w (inr h) = rw (h.0, first_stop MissingField limit fields w h.1) refl

rest_stop : (limit : ℕ) (front : List (List ℕ)) (ns : List ℕ) (field : List ℕ) (more : List (List ℕ)) (w : Word) → AreNumbers limit front ns → NumberFault limit field w → rest_at limit (front ++ field ∷ more) ≡ Err w
rest_stop limit [] ns field more w all bad = rw (number_of-fault limit field w bad) refl
rest_stop limit (f ∷ front) [] field more w all bad = absurd all
rest_stop limit (f ∷ front) (n ∷ ns) field more w all bad = rw (number_of-again limit f n all.0, rest_stop limit front ns field more w all.1 bad) refl

to_end_stop : (limit : ℕ) (k : Numbering) (text : List ℕ) (fields : List (List ℕ)) (w : Word) → Fails limit (due.Rest k) text fields w → due_at limit (due.Rest k) text fields ≡ Err w
to_end_stop limit k text fields w (front, ns, field, more, q, all, bad) = rw (q, rest_stop limit front ns field more w all bad) refl

no_text : (bytes : List ℕ) → (IsUtf8 bytes → ⊥) → is_utf8 bytes ≡ false
no_text bytes h = false_of (is_utf8 bytes) (λ e. h (IsUtf8-from_is_utf8 bytes e))

text_stop : (limit : ℕ) (text : List ℕ) (fields : List (List ℕ)) (w : Word) → Fails limit due.Text text fields w → due_at limit due.Text text fields ≡ Err w
text_stop limit text fields w h = rw (h.0, no_text text h.1) refl

hex_stop : (limit : ℕ) (text : List ℕ) (fields : List (List ℕ)) (w : Word) → Fails limit due.Hex text fields w → due_at limit due.Hex text fields ≡ Err w
hex_stop limit text fields w (inl (is, front, bytes, field, more, q, all, bad)) = rw (q, is, pairs_stop front bytes field more all bad) refl
hex_stop limit text fields w (inr (is, bytes, all, isnt)) = rw (is, pairs_again fields bytes all, no_text bytes isnt) refl

numbers_stop : (limit : ℕ) (count : ℕ) (front : List (List ℕ)) (ns : List ℕ) (rest : List (List ℕ)) (w : Word) → AreNumbers limit front ns → length ns < count → NoFirstNumber BadCount limit rest w → numbers_at limit count (front ++ rest) ≡ Err w
numbers_stop limit zero front ns rest w all small bad = absurd (omega arith)
numbers_stop limit (suc n) [] [] [] w all small bad = rw bad (numbers_at-none limit n)
numbers_stop limit (suc n) [] [] (field ∷ more) w all small bad = numbers_at-suc limit n field more ∙ rw (number_of-fault limit field w bad) refl
numbers_stop limit (suc n) [] (x ∷ ns) rest w all small bad = absurd all
numbers_stop limit (suc n) (field ∷ front) [] rest w all small bad = absurd all
numbers_stop limit (suc n) (field ∷ front) (x ∷ ns) rest w all small bad =
    numbers_at-suc limit n field (front ++ rest) ∙ rw (number_of-again limit field x all.0, numbers_stop limit n front ns rest w all.1 (omega arith) bad) refl

counted_stop : (limit : ℕ) (k : Numbering) (text : List ℕ) (fields : List (List ℕ)) (w : Word) → Fails limit (due.Counted k) text fields w → due_at limit (due.Counted k) text fields ≡ Err w
unfolding counted_at number_at
counted_stop limit k text [] w (inl h) = rw h refl
counted_stop limit k text (field ∷ fields) w (inl h) = rw (number_of-fault limit field w h) refl
counted_stop limit k text fields w (inr (count, more, front, ns, rest, (field, q, h), p, all, small, bad)) = rw (q, number_of-again limit field count h, p, numbers_stop limit count front ns rest w all small bad) refl

due_stop : (limit : ℕ) (d : Due) (text : List ℕ) (fields : List (List ℕ)) (w : Word) → Fails limit d text fields w → due_at limit d text fields ≡ Err w
due_stop limit (due.Known k) text fields w h = value_stop limit fields w h
due_stop limit due.Number text fields w h = value_stop limit fields w h
due_stop limit due.Long text fields w h = value_stop (2 ^ 64) fields w h
due_stop limit due.Literal text fields w h = literal_stop limit text fields w h
due_stop limit due.Info text fields w h = info_stop limit text fields w h
due_stop limit due.Hint text fields w h = hint_stop limit text fields w h
due_stop limit due.Flag text fields w h = flag_stop limit text fields w h
due_stop limit (due.Counted k) text fields w h = counted_stop limit k text fields w h
due_stop limit (due.Rest k) text fields w h = to_end_stop limit k text fields w h
due_stop limit due.Text text fields w h = text_stop limit text fields w h
due_stop limit due.Hex text fields w h = hex_stop limit text fields w h

pub stops : (limit : ℕ) (dues : List Due) (text : List ℕ) (fields : List (List ℕ)) (w : Word) → FirstFault limit dues text fields w → read_dues limit dues text fields ≡ Err w
stops limit [] text fields w (field, more, q, is) = rw (q, is) refl
stops limit (d ∷ dues) text fields w (inl h) = rw (due_stop limit d text fields w h) refl
stops limit (d ∷ dues) text fields w (inr (v, rest, h, f)) = rw (due_again limit d text fields v rest h, stops limit dues text rest w f) refl
