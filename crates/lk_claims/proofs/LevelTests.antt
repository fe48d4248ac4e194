-- The complete test of levels meets what a test of levels owes.
use Rattle.std.proofs.Common.{refl}
use Rattle.lk_tree.specs.LevelTest.{level_test}
use Rattle.lk_questions.specs.Levels.{IsLevelTest, complete_test}
use Rattle.lk_claims.proofs.Pieces.{sound_tested}

pub complete_is_a_test : IsLevelTest complete_test
complete_is_a_test w l m = sound_tested w l m (level_test l m) refl
