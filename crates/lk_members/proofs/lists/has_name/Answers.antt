use Rattle.std.proofs.Common.{◌∙◌}
use Rattle.lk_members.proofs.Looking.{has_any}
use Rattle.lk_members.proofs.lists.has_name.Goals as goal

pub returns : goal.returns
returns c = c.contains.ensures.value ∙ has_any c.args.names.now c.args.name
