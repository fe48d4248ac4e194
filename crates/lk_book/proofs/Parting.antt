-- The texts of an input, taken one after another.
use Rattle.std.proofs.Common.{◌≡◌, ℕ, List, [], ◌++◌, Ok, Err, None, Vec, refl, ap, sym, ◌∙◌, arith}
use Rattle.std.specs.Prelude.{map, Result}
use Rattle.std.specs.declared.alloc.Global.{Global}
use Rattle.lk_store.specs.Contents.{Contents}
use Rattle.lk_env.specs.Units.{library_at}
use Rattle.lk_env.specs.declared.unit.Unit.{Unit as StoredUnit}
use Rattle.lk_members.specs.Plain.{lines_at}
use Rattle.lk_lines.specs.declared.line.Fault.{Fault}
use Rattle.lk_units.specs.declared.assembler.Assembler.{Assembler}
use Rattle.lk_book.specs.Courses.{IsCounted}
use Rattle.lk_book.specs.File.{lines_of, after, units_stated}
use Rattle.lk_book.specs.Reading.{HoldsLines}
use Rattle.lk_book.specs.Texts.{text_course, cut_lines, ending_fault, ended, texts_from, texts_of}
use Rattle.lk_book.specs.ReadingTexts.{cut_of, States}
use Rattle.lk_book.specs.declared.first_text.FirstText.{FirstText}

-- these texts stand in front of those
abbrev behind : List (List ℕ) → Result (List (List ℕ)) Fault → Result (List (List ℕ)) Fault
behind done r = after r (λ ts. Ok (done ++ ts))

-- the first texts of an input were taken, and this is left of it
pub record AreTaken (bytes : List ℕ) (texts : List (Vec ℕ Global)) (lines before : ℕ) (rest : List ℕ) : Type 0 where
  pub counted : IsCounted lines before
  pub all : texts_of bytes ≡ behind (map (λ (t : Vec ℕ Global). t.items) texts) (texts_from lines before (cut_lines (lines_of rest)))

behind_none : (r : Result (List (List ℕ)) Fault) → r ≡ behind [] r
behind_none (Ok ts) = refl
behind_none (Err f) = refl

pub none_taken : (bytes : List ℕ) (texts : List (Vec ℕ Global)) → texts ≡ [] → AreTaken bytes texts 0 0 bytes
unfolding texts_of
none_taken bytes texts none = record {
  counted = record { within = omega arith; lines = omega arith };
  all = rw none (behind_none (texts_from 0 0 (cut_lines (lines_of bytes))));
}

-- a text that was cut off states units, where neither a line of it nor that which ends it has a fault
pub cut_states : (before : ℕ) (text : List ℕ) (f : FirstText) (store : Contents) (a : Assembler) → HoldsLines store (text_course before text) (Ok a) → None ≡ ending_fault before (cut_of text f) → (us : List StoredUnit)
    → units_stated (lines_at store a.members.lines.items) ≡ Ok (library_at store us) → States before (cut_of text f)
cut_states before text f store a h none us is =
    (library_at store us, ap (λ r. after r (ended (ending_fault before (cut_of text f)) text)) h.1 ∙ ap (λ o. ended o text h.0) (sym none) ∙ ap units_stated (sym h.2.lines) ∙ is)
