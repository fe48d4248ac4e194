use Rattle.std.proofs.Common.{refl, ap}
use Rattle.lk_rulebook.specs.Place.{Place}
use Rattle.lk_store.specs.Contents.{Contents, tree_at}
use Rattle.lk_trace.specs.Meaning.{reduction_rule_of}
use Rattle.lk_premises.specs.Claims.{claims_at}
use Rattle.lk_step.proofs.PartsIn.{step_goes}
use Rattle.lk_step.proofs.under_way.step_then_core.Goals as goal

pub returns-clause-goes : goal.returns-clause-goes
returns-clause-goes g c =
    let w : Place = (g.D.Looks.sight (g.D.Terms.rest c.args.derives.now)).basis.place in
    let old : Contents = g.D.Terms.contents c.args.derives.now in
    let new : Contents = g.D.Terms.contents c.then_core.new.derives in
    step_goes w old new c.args.row.now c.add_step.new.row c.then_core.new.row (reduction_rule_of c.args.rule) (tree_at old c.args.e) (tree_at old c.args.r)
    (λ holds. c.in_ok-add_step.ensures w _ _ _ refl refl (ap (claims_at old) c.no_premise.ensures) holds) c.in_ok-then_core.ensures.follows
