use Rattle.lk_rulebook.proofs.Inversion.{lam_typed, pi_typed}
use Rattle.lk_rulebook.proofs.binders_are_fresh.Goals as goal

pub returns : goal.returns
returns c = record { lambdas = λ w A b X h. lam_typed h; pis = λ w A B X h. pi_typed h }
