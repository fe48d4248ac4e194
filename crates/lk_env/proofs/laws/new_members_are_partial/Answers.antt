use Rattle.lk_env.proofs.Partial.{all_partial}
use Rattle.lk_env.proofs.laws.new_members_are_partial.Goals as goal

pub returns-clause-new : goal.returns-clause-new
returns-clause-new c = all_partial
