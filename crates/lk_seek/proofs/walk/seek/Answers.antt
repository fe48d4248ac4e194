use Rattle.std.proofs.Common.{rules}
use Rattle.lk_seek.proofs.Visits.{leaves_clear, leaves, leaves_stopped, leaves_less, enters_known, looked, looked_less, holds, stopped}
use Rattle.lk_seek.proofs.walk.seek.Goals as goal

pub look-requires-in-Enter-clause-part_in : goal.look-requires-in-Enter-clause-part_in
look-requires-in-Enter-clause-part_in g c =
    let s = g.S.Seek.sought c.args.seeker.now in
    enters_known s (g.met.S.Seek.laws c.args.seeker.now) (s.found_in c.args.part) c.walk.stack.items c.pop.new.self.items c.in-Enter.part (search rules) c.walk.invariant.under_way

pub returns-in_err-look-in-Enter-clause-found : goal.returns-in_err-look-in-Enter-clause-found
returns-in_err-look-in-Enter-clause-found g c =
    let s = g.S.Seek.sought c.args.seeker.now in
    let ends = stopped s (g.met.S.Seek.laws c.args.seeker.now) (s.found_in c.args.part) c.walk.stack.items c.pop.new.self.items c.in-Enter.part (search rules) c.walk.invariant.under_way in
    search (rules, ends)

pub returns-then-branch-2-clause-found : goal.returns-then-branch-2-clause-found
returns-then-branch-2-clause-found g c =
    let s = g.S.Seek.sought c.args.seeker.now in
    holds s (g.met.S.Seek.laws c.args.seeker.now) (s.found_in c.args.part) c.walk.stack.items c.pop.new.self.items c.in-Enter.part (search rules) c.walk.invariant.under_way (search rules)

pub walk-smaller-else-branch-2 : goal.walk-smaller-else-branch-2
walk-smaller-else-branch-2 g c =
    let s = g.S.Seek.sought c.args.seeker.now in
    looked_less s (g.met.S.Seek.laws c.args.seeker.now) (s.found_in c.args.part) c.walk.stack.items c.pop.new.self.items c.in-Enter.part (search rules) c.look-in-Enter.new.stack.items (search rules)

pub walk-preserved-else-branch-2 : goal.walk-preserved-else-branch-2
walk-preserved-else-branch-2 g c =
    let s = g.S.Seek.sought c.args.seeker.now in
    record {
      kept = c.in_ok-look-in-Enter.ensures.kept;
      under_way = looked s (g.met.S.Seek.laws c.args.seeker.now) (s.found_in c.args.part) c.walk.stack.items c.pop.new.self.items c.in-Enter.part (search rules) c.walk.invariant.under_way c.look-in-Enter.new.stack.items (search rules);
    }

pub keep-requires-clause-clear : goal.keep-requires-clause-clear
keep-requires-clause-clear g c =
    let s = g.S.Seek.sought c.args.seeker.now in
    leaves_clear s (g.met.S.Seek.laws c.args.seeker.now) (s.found_in c.args.part) c.walk.stack.items c.pop.new.self.items c.in-Leave.part (search rules) c.walk.invariant.under_way

pub returns-in_err-keep-in-Leave-clause-found : goal.returns-in_err-keep-in-Leave-clause-found
returns-in_err-keep-in-Leave-clause-found g c =
    let s = g.S.Seek.sought c.args.seeker.now in
    let ends = leaves_stopped s (g.met.S.Seek.laws c.args.seeker.now) (s.found_in c.args.part) c.walk.stack.items c.pop.new.self.items c.in-Leave.part (search rules) c.walk.invariant.under_way in
    search (rules, ends)

pub walk-smaller : goal.walk-smaller
walk-smaller g c =
    let s = g.S.Seek.sought c.args.seeker.now in
    leaves_less s (g.met.S.Seek.laws c.args.seeker.now) (s.found_in c.args.part) c.walk.stack.items c.pop.new.self.items c.in-Leave.part (search rules)

pub walk-preserved : goal.walk-preserved
walk-preserved g c =
    let s = g.S.Seek.sought c.args.seeker.now in
    record {
      kept = c.in_ok-keep-in-Leave.ensures.kept;
      under_way = leaves s (g.met.S.Seek.laws c.args.seeker.now) (s.found_in c.args.part) c.walk.stack.items c.pop.new.self.items c.in-Leave.part (search rules) c.walk.invariant.under_way;
    }
