-- What is written, from the library and the verdicts.
use Rattle.std.proofs.Common.{◌≡◌, ℕ, List, map, ap, ◌∙◌, Ok}
use Rattle.lk_env.specs.StoredLibrary.{StoredLibrary}
use Rattle.lk_env.specs.Units.{library_of}
use Rattle.lk_verdict.specs.GoodUnit.{IsClearLibrary}
use Rattle.lk_verdict.specs.Told.{AreVerdicts}
use Rattle.lk_verdict.proofs.Spelled.{spelled_clear}
use Rattle.lk_book.specs.File.{export_at, export_of}
use Rattle.lk_book.proofs.Spelled.{read_spelled}
use Rattle.lk_command.specs.declared.words.Options.{Options}
use Rattle.lk_verdict.specs.declared.verdict.Verdict.{Verdict as HeldVerdict}
use Rattle.lk_verdict.specs.Held.{verdict}
use Rattle.lk_text.specs.Policy.{all_under}
use Rattle.leancheck.specs.declared.status.Status.{Status}
use Rattle.leancheck.specs.declared.extent.Extent.{Extent}
use Rattle.leancheck.specs.Drawn.{unit_budget}
use Rattle.leancheck.specs.Extents.{text_of}
use Rattle.leancheck.specs.Ends.{policy_in, status_of, IsReport}

-- what is made of the library that bytes state belongs to the bytes
pub joined : (extent : Extent) (o : Options) (bytes : List ℕ) (l : StoredLibrary) (plain judged told : List HeldVerdict) (text : List ℕ) (status : Status) → export_of bytes ≡ Ok (export_at l)
    → (IsClearLibrary (library_of l) → AreVerdicts (library_of l) (unit_budget l o.steps) (map verdict plain))
    → map verdict judged ≡ all_under (policy_in o) (library_of l) 0 (map verdict plain)
    → text ≡ text_of extent (library_of l) (map verdict judged) → told ≡ judged → status ≡ status_of (map verdict told) → IsReport extent o bytes status text
joined extent o bytes l plain judged told text status reads are under written same ends = record {
  export = export_at l;
  plain = map verdict plain;
  verdicts = map verdict judged;
  spelled = reads;
  are = are (spelled_clear (library_of l) (read_spelled bytes (export_at l) reads));
  judged = under;
  status_is = ends ∙ ap (λ vs. status_of (map verdict vs)) same;
  text_is = written;
}
