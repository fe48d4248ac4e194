-- A file that was read: what is told of its library holds of its bytes.
use Rattle.std.proofs.Common.{◌≡◌, ℕ, List, Ok, Some, None, refl}
use Rattle.std.specs.Prelude.{IfSome, Vec}
use Rattle.std.specs.declared.alloc.Global.{Global}
use Rattle.std.specs.declared.option.Option.{Option}
use Rattle.lk_env.specs.StoredLibrary.{StoredLibrary}
use Rattle.lk_book.specs.File.{export_at, export_of, rounds_of}
use Rattle.lk_book.specs.Reading.{ReadsLibrary, ReadsRounds, parts_at}
use Rattle.lk_book.specs.Texts.{texts_of}
use Rattle.lk_book.specs.ReadingTexts.{ReadsTexts, bytes_of_each}
use Rattle.lk_book.specs.declared.rounds.Rounds.{Rounds}
use Rattle.lk_trace.specs.declared.traced.Traced.{Traced}
use Rattle.lk_traced.specs.Held.{ReadsTrace, trace_at}
use Rattle.lk_traced.specs.Trace.{trace_of}

pub of_bytes : (P : List ℕ → Type 0) (left : Option (List ℕ)) (l : StoredLibrary) → ((bytes : List ℕ) → left ≡ Some bytes → ReadsLibrary (export_of bytes) (Ok l))
    → ((bytes : List ℕ) → export_of bytes ≡ Ok (export_at l) → P bytes) → IfSome left P
of_bytes P None l reads told = tt
of_bytes P (Some bytes) l reads told = told bytes (reads bytes refl)

-- the same of parts that were read
pub of_rounds : (P : List ℕ → Type 0) (left : Option (List ℕ)) (r : Rounds) → ((bytes : List ℕ) → left ≡ Some bytes → ReadsRounds (rounds_of bytes) (Ok r))
    → ((bytes : List ℕ) → rounds_of bytes ≡ Ok (parts_at r) → P bytes) → IfSome left P
of_rounds P None r reads told = tt
of_rounds P (Some bytes) r reads told = told bytes (reads bytes refl)

-- the same of a file with derivations
pub of_trace : (P : List ℕ → Type 0) (left : Option (List ℕ)) (t : Traced) → ((bytes : List ℕ) → left ≡ Some bytes → ReadsTrace (trace_of bytes) (Ok t))
    → ((bytes : List ℕ) → trace_of bytes ≡ Ok (trace_at t) → P bytes) → IfSome left P
of_trace P None t reads told = tt
of_trace P (Some bytes) t reads told = told bytes (reads bytes refl)

-- the same of texts
pub of_texts : (P : List ℕ → Type 0) (left : Option (List ℕ)) (ts : Vec (Vec ℕ Global) Global) → ((bytes : List ℕ) → left ≡ Some bytes → ReadsTexts (texts_of bytes) (Ok ts))
    → ((bytes : List ℕ) → texts_of bytes ≡ Ok (bytes_of_each ts) → P bytes) → IfSome left P
of_texts P None ts reads told = tt
of_texts P (Some bytes) ts reads told = told bytes (reads bytes refl)
