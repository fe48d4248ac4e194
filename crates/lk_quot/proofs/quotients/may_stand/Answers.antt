use Rattle.std.proofs.Common.{map}
use Rattle.lk_questions.specs.QuotientUnits.{quot_steps}
use Rattle.lk_store.specs.Contents.{name_at, tree_at}
use Rattle.lk_quot.proofs.Lasts.{met, unmet}
use Rattle.lk_quot.proofs.quotients.may_stand.Goals as goal

pub returns-in-Ok-clause-outcome : goal.returns-in-Ok-clause-outcome
returns-in-Ok-clause-outcome g c =
    let before = g.L.Looks.sight (g.L.Terms.rest c.args.looks.now) in
    let last = (g.L.Looks.sight (g.L.Terms.rest c.check.new.looks)).last in
    let k = g.L.Terms.contents c.args.looks.now in
    let p = quot_steps (name_at k c.args.name) (map (name_at k) c.args.levels.now)
    (tree_at k c.args.ty) in
    met before.basis.place before.last last p c.in_ok-check.field-0 c.in_ok-check.ensures.comes_to
    tt c.in-Ok.is

pub returns-in-Err-clause-outcome : goal.returns-in-Err-clause-outcome
returns-in-Err-clause-outcome g c =
    let before = g.L.Looks.sight (g.L.Terms.rest c.args.looks.now) in
    let last = (g.L.Looks.sight (g.L.Terms.rest c.check.new.looks)).last in
    let k = g.L.Terms.contents c.args.looks.now in
    let p = quot_steps (name_at k c.args.name) (map (name_at k) c.args.levels.now)
    (tree_at k c.args.ty) in
    unmet before.basis.place before.last last p c.in_ok-check.field-0
    c.in_ok-check.ensures.comes_to c.in-Err.rule c.in-Err.is
