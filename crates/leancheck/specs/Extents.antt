-- How much is told of a library.
use Rattle.std.specs.Prelude.{ℕ, List}
use Rattle.lk_rulebook.specs.Units.{Library}
use Rattle.lk_verdict.specs.Told.{Verdict}
use Rattle.lk_text.specs.Text.{report_text, summary_text}
use Rattle.leancheck.specs.declared.extent.Extent.{Extent}
use Rattle.leancheck.specs.declared.extent.Extent.TheVariants.{Report, Summary}

-- the lines of its units with their axioms and the last line, or the last line alone
abbrev pub text_of : Extent → Library → List Verdict → List ℕ
text_of Report us vs = report_text us vs
text_of Summary us vs = summary_text vs
