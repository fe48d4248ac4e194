use Rattle.std.proofs.Common.{[]}
use Rattle.lk_lit.proofs.Naming.{no_parent}
use Rattle.lk_lit.proofs.builtin.is_word.Goals as goal

pub returns-in-None : goal.returns-in-None
returns-in-None g c = no_parent _ [] c.args.word.now c.in-None.ensures
