-- The level 1.
use Rattle.std.proofs.Common.{◌≡◌, Some, true, refl}
use Rattle.lk_tree.specs.Tree.{zero_level, succ_level}
use Rattle.lk_tree.specs.LevelTest.{level_le, level_test}

pub one_is_one : level_test (succ_level zero_level) (succ_level zero_level) ≡ Some true
unfolding level_le
one_is_one = refl
