use Rattle.std.proofs.Common.{rules, ap, sym}
use Rattle.lk_laws.specs.Needs.{needed_steps}
use Rattle.lk_questions.specs.Tests.{passes}
use Rattle.lk_premises.proofs.Settled.{failed_found}
use Rattle.lk_replay.proofs.laws.has.Goals as goal

pub returns-in-Err : goal.returns-in-Err
returns-in-Err g c =
    let sight = g.L.Looks.sight (g.L.Terms.rest c.args.looks.now) in
    let fails = rw c.in-Err.is at c.in_ok-look_needed.ensures.comes_to in
    record {
      keeps = search rules;
      stays = search rules;
      ok = sym (ap passes (failed_found sight.basis.place (needed_steps c.args.needed) sight.last c.in-Err.field-0 fails));
    }
