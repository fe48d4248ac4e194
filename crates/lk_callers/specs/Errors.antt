-- Why a text is not read, in the words of a session.
use Rattle.lk_lines.specs.declared.line.LineError.{LineError}
use Rattle.lk_lines.specs.declared.line.LineError.TheVariants as line_errors
use Rattle.lk_session.specs.declared.error.TextError.{TextError}
use Rattle.lk_session.specs.declared.error.TextError.TheVariants as text_errors

abbrev pub text_error : LineError → TextError
text_error (line_errors.Fault f) = text_errors.Fault f
text_error line_errors.NoMemory = text_errors.NoMemory
