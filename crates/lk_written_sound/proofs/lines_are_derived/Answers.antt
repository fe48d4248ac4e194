use Rattle.lk_written_sound.proofs.Sections.{line_right, lines_right}
use Rattle.lk_written_sound.proofs.lines_are_derived.Goals as goal

pub returns : goal.returns
returns c = record { line = λ w ok ps d l h. line_right w ok ps d l h; lines = λ w ok ls qs h. lines_right w ok ls qs h }
