use Rattle.std.proofs.Common.{◌∙◌, refl, rules, subst, ap}
use Rattle.lk_book.specs.Reading.{parts_at}
use Rattle.leancheck.specs.Ends.{status_of}
use Rattle.leancheck.specs.Telling.{stand_of, IsTelling}
use Rattle.leancheck.proofs.Changes.{nowhere, told_nothing, telling_begins, part_in, part_spelled, telling_on, telling_ends}
use Rattle.leancheck.proofs.rounds.told.Goals as goal

pub loop-part-init : goal.loop-part-init
loop-part-init g c =
    let steps = g.C.Checks.budget_of c.args.checks.now in
    let all = parts_at c.args.rounds in
    let t = c.in_ok-telling.telling in
    let made = c.in_ok-recheck.ensures in
    let e = c.in_ok-telling.ensures in
    let is : IsTelling steps t = subst (λ b. IsTelling b t) (made.0 ∙ c.budget.ensures) e.axioms in
    let nothing = told_nothing steps all t is (nowhere t c.in_ok-recheck.recheck c.args.rounds.base e.recheck made.1 made.2 made.3) e.text in
    telling_begins steps c.args.rounds c.reverse.new.self.items t c.reverse.ensures.items c.requires.known c.requires.stated (rw (e.recheck, made.2) refl) nothing

pub tell_part-requires-clause-part_in : goal.tell_part-requires-clause-part_in
tell_part-requires-clause-part_in g c =
    part_in (g.C.Checks.budget_of c.args.checks.now) c.args.rounds.base (parts_at c.args.rounds) c.loop-part.parts.items c.pop.new.self.items c.in-Some.part c.loop-part.telling (search rules) c.loop-part.invariant

pub tell_part-requires-clause-spelled : goal.tell_part-requires-clause-spelled
tell_part-requires-clause-spelled g c =
    part_spelled (g.C.Checks.budget_of c.args.checks.now) c.args.rounds.base (parts_at c.args.rounds) c.loop-part.parts.items c.pop.new.self.items c.in-Some.part c.loop-part.telling (search rules)
    c.loop-part.invariant

pub loop-part-preserved : goal.loop-part-preserved
loop-part-preserved g c =
    telling_on (g.C.Checks.budget_of c.args.checks.now) c.args.rounds.base (parts_at c.args.rounds) c.loop-part.parts.items c.pop.new.self.items c.in-Some.part c.loop-part.telling (search rules)
    c.loop-part.invariant c.tell_part.new.self c.in_ok-tell_part.ensures

pub returns-clause-gives : goal.returns-clause-gives
returns-clause-gives g c = λ bytes reads. record {
  parts = parts_at c.args.rounds;
  spelled = reads;
  last = stand_of c.loop-part.telling;
  told = telling_ends (g.C.Checks.budget_of c.args.checks.now) c.args.rounds.base (parts_at c.args.rounds) c.loop-part.parts.items c.loop-part.telling (search rules) c.loop-part.invariant;
  status_is = c.status_of-status.ensures.is ∙ ap status_of c.verdicts.ensures.value;
}
