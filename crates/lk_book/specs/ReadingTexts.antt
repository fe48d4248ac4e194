-- The first text of an input, and the texts that were read of a source.
use Rattle.std.specs.Prelude.{◌≡◌, ℕ, ◌+◌, ◌≤◌, false, List, [], ◌∷◌, length, take, drop, map, Vec, Result, Ok, Err, if◌then◌else◌}
use Rattle.std.specs.declared.alloc.Global.{Global}
use Rattle.lk_port.specs.declared.source.ReadError.{ReadError as SourceError}
use Rattle.lk_port.specs.declared.source.ReadError.TheVariants as source_errors
use Rattle.lk_lines.specs.declared.line.Fault.{Fault}
use Rattle.lk_lines.specs.declared.line.LineError.{LineError}
use Rattle.lk_lines.specs.declared.line.LineError.TheVariants as line_errors
use Rattle.lk_rulebook.specs.Units.{Library}
use Rattle.lk_book.specs.File.{lines_of}
use Rattle.lk_book.specs.Texts.{Cut, cut_lines, cut_stated, texts_of}
use Rattle.lk_book.specs.declared.first_text.FirstText.{FirstText}
use Rattle.lk_book.specs.declared.error.ReadError.{ReadError}
use Rattle.lk_book.specs.declared.error.ReadError.TheVariants as errors

-- these bytes, cut off an input as its first text
abbrev pub cut_of : List ℕ → FirstText → Cut
cut_of text f = record { bytes = text; ending = f.ending; extra = f.extra }

-- what stands behind the line that ends the first text
abbrev pub bytes_behind : List ℕ → FirstText → List ℕ
bytes_behind bytes f = drop (f.bytes + f.ending) bytes

-- the texts behind the first one
abbrev pub cuts_behind : List ℕ → FirstText → List Cut
cuts_behind bytes f = if f.last then [] else cut_lines (lines_of (bytes_behind bytes f))

-- It is the first text of these bytes. Of its lines each but the last has a byte, and so has the
-- line that ends it.
pub record IsFirstText (bytes : List ℕ) (f : FirstText) : Type 0 where
  pub within : f.bytes + f.ending ≤ length bytes
  pub counted : f.lines ≡ length (lines_of (take f.bytes bytes))
  pub cuts : cut_lines (lines_of bytes) ≡ cut_of (take f.bytes bytes) f ∷ cuts_behind bytes f
  pub some : 1 ≤ f.lines
  pub few : f.lines ≤ f.bytes + 1
  pub ends : f.last ≡ false → 1 ≤ f.ending

-- a text that was cut off has no fault, where so many bytes stand before it
abbrev pub States : ℕ → Cut → Type 0
States before c = (us : Library) × (cut_stated before c ≡ Ok us)

-- which line a fault names
abbrev pub line_named : LineError → ℕ
line_named line_errors.NoMemory = 0
line_named (line_errors.Fault f) = f.line

-- an error of a text behind so many lines
abbrev pub moved_error : ℕ → LineError → LineError
moved_error n line_errors.NoMemory = line_errors.NoMemory
moved_error n (line_errors.Fault f) = line_errors.Fault (record f { line = n + f.line })

-- why the bytes of a source are not had
abbrev pub source_error : SourceError → ReadError
source_error source_errors.NoMemory = errors.NoMemory
source_error source_errors.Fault = errors.ReadFault

-- the bytes of each text
abbrev pub bytes_of_each : Vec (Vec ℕ Global) Global → List (List ℕ)
bytes_of_each texts = map (λ (t : Vec ℕ Global). t.items) texts.items

-- the texts are those of the input, or the input's fault is told; a failed read and want of memory
-- tell nothing of it
abbrev pub ReadsTexts : Result (List (List ℕ)) Fault → Result (Vec (Vec ℕ Global) Global) ReadError
    → Type 0
ReadsTexts said (Ok ts) = said ≡ Ok (bytes_of_each ts)
ReadsTexts said (Err errors.NoMemory) = Unit {0}
ReadsTexts said (Err errors.ReadFault) = Unit {0}
ReadsTexts said (Err (errors.Fault f)) = said ≡ Err f

-- the texts are those of some input
abbrev pub AreOfSome : Vec (Vec ℕ Global) Global → Type 0
AreOfSome ts = (bytes : List ℕ) × (texts_of bytes ≡ Ok (bytes_of_each ts))
