-- The course over the lines of a library, as what a reader's lines come to.
use Rattle.std.proofs.Common.{◌≡◌, ℕ, List, [], ◌∷◌, Ok, Err, refl, sym, ◌∙◌}
use Rattle.std.specs.Prelude.{Result, true}
use Rattle.lk_store.specs.Contents.{Contents}
use Rattle.lk_lines.specs.declared.line.Fault.{Fault}
use Rattle.lk_lines.specs.declared.tags.Dialect.{Dialect}
use Rattle.lk_units.specs.State.{begin}
use Rattle.lk_units.specs.Held.{Holds}
use Rattle.lk_units.specs.declared.assembler.Assembler.{Assembler}
use Rattle.lk_book.specs.Course.{Course, begin_in, step}
use Rattle.lk_book.specs.Courses.{over, ReadsLines}
use Rattle.lk_book.specs.File.{lines_of, has_more, after, course_over, course_in}
use Rattle.lk_book.specs.Passing.{Stands}
use Rattle.lk_book.specs.Reading.{Reads}
use Rattle.lk_book.specs.declared.reader.Reader.{Reader}
use Rattle.lk_book.specs.declared.error.ReadError.{ReadError}
use Rattle.lk_book.specs.declared.error.ReadError.TheVariants as reads

after_same : (said : Result Course Fault) (f g : Course → Result Course Fault) → ((d : Course) → f d ≡ g d) → after said f ≡ after said g
after_same (Ok d) f g e = e d
after_same (Err x) f g e = refl

pub over_is : (c : Course) (lines : List (List ℕ)) → over step c lines ≡ course_over c lines
over_is c [] = refl
over_is c (line ∷ more) = after_same (step c (has_more more) line) (λ d. over step d more) (λ d. course_over d more) (λ d. over_is d more)

pub course_is : (dialect : Dialect) (bytes : List ℕ) → over step (begin_in dialect) (lines_of bytes) ≡ course_in dialect bytes
unfolding course_in
course_is dialect bytes = over_is (begin_in dialect) (lines_of bytes)

-- a reader that took no line
pub begins : (dialect : Dialect) (a : Assembler) (store : Contents) → Holds a store begin
    → Stands (record { assembler = a; dialect = dialect; first = true; number = 0; before = 0 }) store (begin_in dialect)
begins dialect a store h = record { dialect = refl; first = refl; number = refl; before = refl; holds = h }

-- what a reader stands for is what its assembler holds
pub lines_read : (dialect : Dialect) (r : Reader) (store : Contents) (bytes : List ℕ) → ReadsLines (Stands r store) (over step (begin_in dialect) (lines_of bytes)) (Ok tt)
    → Reads store (course_in dialect bytes) (Ok r.assembler)
lines_read dialect r store bytes h = (h.0, sym (course_is dialect bytes) ∙ h.1, h.2.holds)

pub lines_told : (dialect : Dialect) (r : Reader) (store : Contents) (bytes : List ℕ) (e : ReadError) → ReadsLines (Stands r store) (over step (begin_in dialect) (lines_of bytes)) (Err e)
    → Reads store (course_in dialect bytes) (Err e)
lines_told dialect r store bytes reads.NoMemory h = tt
lines_told dialect r store bytes reads.ReadFault h = tt
lines_told dialect r store bytes (reads.Fault f) h = sym (course_is dialect bytes) ∙ h
