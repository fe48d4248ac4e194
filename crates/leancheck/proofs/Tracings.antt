-- What is told of a library with its sections.
use Rattle.std.proofs.Common.{◌≡◌, ℕ, List, Ok, length}
use Rattle.lk_store.specs.Contents.{Contents}
use Rattle.lk_env.specs.StoredLibrary.{StoredLibrary}
use Rattle.lk_env.specs.Units.{library_of}
use Rattle.lk_book.specs.File.{export_at, export_of}
use Rattle.lk_trim.specs.Whole.{Kept}
use Rattle.lk_sections.specs.declared.trace.TraceWriter.{TraceWriter}
use Rattle.lk_sections.specs.Sections.{UnitSection, trace_text}
use Rattle.lk_sections.specs.Stored.{HasWritten}
use Rattle.leancheck.specs.declared.status.Status.{Status}
use Rattle.leancheck.specs.Drawn.{unit_budget}
use Rattle.leancheck.specs.Traces.{all_kept, trace_status, IsTracing}
use Rattle.leancheck.specs.Derived.{IsAllTraced}
use Rattle.leancheck.proofs.Replayed.{all_hold}

pub tracing_made : (bytes : List ℕ) (l : StoredLibrary) (steps : ℕ) (t : TraceWriter) (text : List ℕ) (status : Status) → export_of bytes ≡ Ok (export_at l)
    → IsAllTraced (export_at l) steps t → ((c : Contents) (ks : List Kept) (ss : List UnitSection) → HasWritten c ks ss t → text ≡ trace_text ks ss)
    → status ≡ trace_status (export_at l) steps → IsTracing steps bytes status text
tracing_made bytes l steps t text status reads h told is = record {
  export = export_at l;
  sections = h.traced.sections;
  spelled = reads;
  are = h.traced.are;
  hold = all_hold (library_of l) (unit_budget l steps) (length (library_of l)) h.traced.sections h.traced.are;
  status_is = is;
  text_is = told h.contents (all_kept (export_at l)) h.traced.sections h.traced.written;
}
