use Rattle.lk_tree.proofs.Zero.{zero_level_same, zero_level_found}
use Rattle.lk_tree.proofs.zero_test_decides.Goals as goal

pub returns : goal.returns
returns c = record { holds = λ l h. zero_level_same l h; complete = λ l h. zero_level_found l h }
