-- Lines that always answer.
use Rattle.std.proofs.Common.{◌≡◌, Bool, refl, ap}
use Rattle.std.proofs.Math.Path.{fun_ext}
use Rattle.lk_questions.specs.Program.{Program, done, refuse, ask, look}
use Rattle.lk_questions.specs.Pairs.{answers, ◌or_else◌}

-- what comes behind a line that always answers is never asked
pub answers_alone : (p r : Program Bool) → (answers p or_else r) ≡ p
answers_alone (done v) r = refl
answers_alone (refuse n) r = refl
answers_alone (ask q g) r = ap (ask q) (fun_ext (λ v. answers_alone (g v) r))
answers_alone (look n c g) r = ap (look n c) (fun_ext (λ e. answers_alone (g e) r))
