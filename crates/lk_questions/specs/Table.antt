-- What each question does.
use Rattle.lk_questions.specs.Query.{core, whnf, infer, same}
use Rattle.lk_questions.specs.Program.{Table}
use Rattle.lk_questions.specs.Core.{core_steps, whnf_steps}
use Rattle.lk_questions.specs.Infer.{infer_steps}
use Rattle.lk_questions.specs.Same.{same_steps}

abbrev pub steps : Table
steps (core e) = core_steps e
steps (whnf e) = whnf_steps e
steps (infer e) = infer_steps e
steps (same a b) = same_steps a b
