use Rattle.std.proofs.Common.{rules, ap, sym}
use Rattle.lk_questions.specs.Shapes.{nat_shape}
use Rattle.lk_questions.specs.Tests.{passes}
use Rattle.lk_premises.proofs.Settled.{failed_found}
use Rattle.lk_replay_types.proofs.shapes.has_nat_shape.Goals as goal

pub returns-in-Err : goal.returns-in-Err
returns-in-Err g c =
    let sight = g.L.Looks.sight (g.L.Terms.rest c.args.looks.now) in
    let fails = rw c.in-Err.is at c.in_ok-nat_shape.ensures.comes_to in
    record {
      keeps = search rules;
      stays = search rules;
      ok = sym (ap passes (failed_found sight.basis.place nat_shape sight.last c.in-Err.field-0 fails));
    }
