use Rattle.std.proofs.Common.{ℕ, ◌≤◌, ◌++◌, List, ap, sym, ◌∙◌, subst}
use Rattle.lk_desk.specs.Job.{Job, units_of}
use Rattle.lk_desk.specs.Seats.{view}
use Rattle.leancheck.proofs.worker.draw_all.Goals as goal

pub loop-alloc-preserved : goal.loop-alloc-preserved
loop-alloc-preserved g c =
    let i = c.loop-alloc.invariant in
    let on = c.draw-passed.ensures in
    let d = on.draws c.args.library.now c.args.settings.steps c.args.seat.now c.requires.job i.draws in
    record {
      library = c.check_from.ensures.library;
      draws = record {
        sits = d.sits;
        seats = d.seats;
        drawn = d.drawn ∙ ap (λ (ns : List ℕ). (view c.args.seat.now).drawn ++ ns)
            (sym c.check_from.ensures.numbers);
        right = c.check_from.ensures.right;
      };
      passed = on.reached;
      most = subst (λ (j : Job). c.loop-alloc.passed ≤ units_of j → c.draw-passed.result ≤ units_of j)
          c.requires.job on.most i.most;
    }

pub check_from-requires-clause-right : goal.check_from-requires-clause-right
check_from-requires-clause-right g c = λ κs here.
    (c.draw-passed.ensures.draws c.args.library.now c.args.settings.steps c.args.seat.now
    c.requires.job c.loop-alloc.invariant.draws).right

pub returns-then-len-place : goal.returns-then-len-place
returns-then-len-place g c =
    c.draw-passed.ensures.draws c.args.library.now c.args.settings.steps c.args.seat.now
    c.requires.job c.loop-alloc.invariant.draws
