use Rattle.std.proofs.Common.{◌≡◌, None, sym, ap}
use Rattle.lk_questions.specs.Shapes.{nat_shape}
use Rattle.lk_questions.specs.Tests.{passes, found}
use Rattle.lk_premises.proofs.Settled.{failed_found}
use Rattle.lk_replay_reduce.proofs.numbers.has_nat_shape.Goals as goal

pub returns-in-Err : goal.returns-in-Err
returns-in-Err g c =
    let w = (g.L.Looks.sight (g.L.Terms.rest c.args.looks.now)).basis.place in
    let failed = rw c.in-Err.is at c.in_ok-nat_shape.ensures.comes_to in
    let none : found w nat_shape ≡ None = failed_found w nat_shape _ _ failed in
    record { keeps = c.in_ok-nat_shape.ensures.keeps; stays = c.in_ok-nat_shape.ensures.stays; ok = sym (ap passes none) }
