-- What a text states that a caller gives, and the texts of an input, which lines `#GO` part.
use Rattle.std.specs.Prelude.{◌≡◌, ℕ, ◌+◌, ◌^◌, Bool, false, ◌&&◌, nat_le, nat_lt, List, [], ◌∷◌, ◌++◌, length, Result, Ok, Err, Some, None, if◌then◌else◌}
use Rattle.std.specs.declared.option.Option.{Option}
use Rattle.std.specs.Str.{bytes_eq}
use Rattle.lk_rulebook.specs.Units.{Library}
use Rattle.lk_env.specs.Units.{library_of}
use Rattle.lk_env.specs.StoredLibrary.{StoredLibrary}
use Rattle.lk_token.specs.Fields.{fields_of}
use Rattle.lk_lines.specs.declared.words.Word.{Word}
use Rattle.lk_lines.specs.declared.words.Word.TheVariants.{ExtraField, InputTooLong}
use Rattle.lk_lines.specs.declared.line.Fault.{Fault}
use Rattle.lk_lines.specs.declared.tags.Tag.TheVariants.{Go}
use Rattle.lk_lines.specs.declared.tags.Dialect.TheVariants as dialects
use Rattle.lk_lines.specs.Tags.{tag_word}
use Rattle.lk_book.specs.Course.{Course, begin_in}
use Rattle.lk_book.specs.File.{lines_of, has_more, after, course_over, units_stated}

-- what the lines of a text come to, where so many bytes of the input stand before it
abbrev pub begin_behind : ℕ → Course
begin_behind before = record (begin_in dialects.Text) { before = before }

unfoldable pub text_course : ℕ → List ℕ → Result Course Fault
text_course before bytes = course_over (begin_behind before) (lines_of bytes)

-- the units that the lines of a text state, or its first fault: that of a line, else that of the
-- first line that is open
abbrev pub text_of : List ℕ → Result Library Fault
text_of bytes = after (text_course 0 bytes) (λ c. units_stated c.state.lines)

-- the units of a text stand behind those of a library
pub record AddsText (old new : StoredLibrary) (text : List ℕ) : Type 0 where
  pub units : Library
  pub stated : text_of text ≡ Ok units
  pub library : library_of new ≡ library_of old ++ units

-- the first of these fields is `#GO`
abbrev pub begins_go : List (List ℕ) → Bool
begins_go [] = false
begins_go (field ∷ fields) = bytes_eq field (tag_word Go)

-- there is another field behind the first
abbrev pub has_extra : List (List ℕ) → Bool
has_extra [] = false
has_extra (field ∷ fields) = has_more fields

-- The line parts texts: its first field is `#GO`. A line that is too long says nothing.
unfoldable pub parts_texts : List ℕ → Bool
parts_texts line = nat_le (length line) (2 ^ 24) && begins_go (fields_of line)

-- A text that was cut off an input: its bytes, up to the line `#GO` that ends it; how many bytes
-- that line has, with its line feed; and whether it has another field.
pub record Cut : Type 0 where
  pub bytes : List ℕ
  pub ending : ℕ
  pub extra : Bool

-- the last text, which the end of the input ends
abbrev pub last_cut : Cut
last_cut = record { bytes = []; ending = 0; extra = false }

-- bytes in front of the first text
abbrev pub onto : List ℕ → List Cut → List Cut
onto front [] = []
onto front (c ∷ cs) = record c { bytes = front ++ c.bytes } ∷ cs

-- the bytes of a line with its line feed, where it has one
abbrev pub with_feed : List ℕ → Bool → List ℕ
with_feed line feed = if feed then line ++ 10 ∷ [] else line

-- an empty text that this line ends
abbrev pub cut_at : List ℕ → Bool → Cut
cut_at line feed = record {
  bytes = [];
  ending = length (with_feed line feed);
  extra = has_extra (fields_of line);
}

-- the texts of lines, of which each but the last has a line feed
abbrev pub cut_lines : List (List ℕ) → List Cut
cut_lines [] = last_cut ∷ []
cut_lines (line ∷ more) =
    if parts_texts line then cut_at line (has_more more) ∷ cut_lines more
    else onto (with_feed line (has_more more)) (cut_lines more)

-- The fault of the line that ends a text, where so many bytes stand before the text: the input's
-- limit comes first, then a field too many.
abbrev pub ending_fault : ℕ → Cut → Option Word
ending_fault before c =
    if nat_lt (2 ^ 40) (before + length c.bytes + c.ending) then Some InputTooLong
    else if c.extra then Some ExtraField else None

-- What the lines of a text state, unless the line that ends it has a fault. That line stands where
-- the text's own last line is, which is empty.
abbrev pub ended : Option Word → List ℕ → Course → Result Library Fault
ended (Some w) bytes d = Err (record { line = length (lines_of bytes); word = w })
ended None bytes d = units_stated d.state.lines

-- what a text that was cut off states, or its fault
abbrev pub cut_stated : ℕ → Cut → Result Library Fault
cut_stated before c = after (text_course before c.bytes) (ended (ending_fault before c) c.bytes)

-- the same behind so many lines
abbrev pub moved : {A : Type 0} → ℕ → Result A Fault → Result A Fault
moved n (Ok x) = Ok x
moved n (Err f) = Err (record f { line = n + f.line })

-- the texts, where so many lines and bytes stand before them, or the fault of the first that has
-- one
abbrev pub texts_from : ℕ → ℕ → List Cut → Result (List (List ℕ)) Fault
texts_from n before [] = Ok []
texts_from n before (c ∷ cs) =
    after (moved n (cut_stated before c)) (λ us.
    after (texts_from (n + length (lines_of c.bytes)) (before + length c.bytes + c.ending) cs)
    (λ ts. Ok (c.bytes ∷ ts)))

-- The texts of an input, each without a fault of its own, or the fault of the first that has one.
-- Each text has numbers of its own; lines and bytes are counted over the whole input.
unfoldable pub texts_of : List ℕ → Result (List (List ℕ)) Fault
texts_of bytes = texts_from 0 0 (cut_lines (lines_of bytes))

-- the text has no fault
abbrev pub IsFaultless : List ℕ → Type 0
IsFaultless text = (us : Library) × (text_of text ≡ Ok us)
