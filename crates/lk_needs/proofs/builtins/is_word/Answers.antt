use Rattle.std.proofs.Common.{[]}
use Rattle.lk_needs.proofs.Spelled.{no_front}
use Rattle.lk_needs.proofs.builtins.is_word.Goals as goal

pub returns-in-None : goal.returns-in-None
returns-in-None c = no_front _ [] c.args.word.now c.in-None.ensures
