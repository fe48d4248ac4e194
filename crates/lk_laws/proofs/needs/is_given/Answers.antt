use Rattle.lk_quot.proofs.Lasts.{met, unmet}
use Rattle.lk_laws.specs.Needs.{needed_steps}
use Rattle.lk_laws.proofs.needs.is_given.Goals as goal

pub returns-in-Ok-clause-outcome : goal.returns-in-Ok-clause-outcome
returns-in-Ok-clause-outcome g c =
    let before = g.L.Looks.sight (g.L.Terms.rest c.args.looks.now) in
    let last = (g.L.Looks.sight (g.L.Terms.rest c.look_needed.new.looks)).last in
    met before.basis.place before.last last (needed_steps c.args.needed) c.in_ok-look_needed.field-0
    c.in_ok-look_needed.ensures.comes_to tt c.in-Ok.is

pub returns-in-Err-clause-outcome : goal.returns-in-Err-clause-outcome
returns-in-Err-clause-outcome g c =
    let before = g.L.Looks.sight (g.L.Terms.rest c.args.looks.now) in
    let last = (g.L.Looks.sight (g.L.Terms.rest c.look_needed.new.looks)).last in
    unmet before.basis.place before.last last (needed_steps c.args.needed) c.in_ok-look_needed.field-0
    c.in_ok-look_needed.ensures.comes_to c.in-Err.rule c.in-Err.is
