-- What a file with derivations that was read stands for.
use Rattle.std.specs.Prelude.{◌≡◌, ℕ, All, slice_get, Some, Result, Ok, Err}
use Rattle.lk_rulebook.specs.Units.{Decl, of_decl, Library}
use Rattle.lk_env.specs.Units.{library_of}
use Rattle.lk_trace.specs.Files.{sections_of}
use Rattle.lk_trace.specs.declared.traced.FileSection.{FileSection}
use Rattle.lk_lines.specs.declared.line.Fault.{Fault}
use Rattle.lk_book.specs.File.{export_at}
use Rattle.lk_book.specs.declared.error.ReadError.{ReadError}
use Rattle.lk_book.specs.declared.error.ReadError.TheVariants as errors
use Rattle.lk_trace.specs.declared.traced.Traced.{Traced}
use Rattle.lk_traced.specs.Trace.{Trace}

abbrev pub trace_at : Traced → Trace
trace_at t = record { export = export_at t.library; sections = sections_of t }

-- unit n of the library is a declaration alone
abbrev pub IsDeclared : Library → ℕ → Type 0
IsDeclared us n = (d : Decl) × (slice_get us n ≡ Some (of_decl d))

-- Each section is of such a unit. So it is of one of the library's units, and of no block.
abbrev pub AreOfDeclarations : Traced → Type 0
AreOfDeclarations t =
    All (λ (s : FileSection). IsDeclared (library_of t.library) s.section.unit) t.sections.items

-- what was read is what the file states, or the file's fault is told; a failed read and want of
-- memory tell nothing of the file
abbrev pub ReadsTrace : Result Trace Fault → Result Traced ReadError → Type 0
ReadsTrace said (Ok t) = said ≡ Ok (trace_at t)
ReadsTrace said (Err errors.NoMemory) = Unit {0}
ReadsTrace said (Err errors.ReadFault) = Unit {0}
ReadsTrace said (Err (errors.Fault f)) = said ≡ Err f
