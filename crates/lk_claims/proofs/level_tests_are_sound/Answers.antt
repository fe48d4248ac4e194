use Rattle.lk_claims.proofs.LevelTests.{complete_is_a_test}
use Rattle.lk_claims.proofs.level_tests_are_sound.Goals as goal

pub returns : goal.returns
returns c = complete_is_a_test
