use Rattle.std.proofs.Common.{sym, ◌∙◌}
use Rattle.lk_rulebook.specs.Place.{Place}
use Rattle.lk_store.specs.Contents.{Contents, name_at, list_at, tree_at}
use Rattle.lk_step.proofs.Driven.{at_constant, leaves_stays, begun_driven}
use Rattle.lk_step.proofs.operations.begin_constant.Goals as goal

pub returns-clause-leaves : goal.returns-clause-leaves
returns-clause-leaves g c =
    let old : Contents = g.D.Terms.contents c.args.derives.now in
    let w : Place = (g.D.Looks.sight (g.D.Terms.rest c.args.derives.now)).basis.place in
    let k = at_constant w (tree_at old c.args.e) (name_at old c.args.constant.name) (list_at old c.args.constant.levels) c.requires.run.value c.requires.run.cost c.requires.head_is c.requires.run.runs in
    let p = c.begin.ensures k.entry (sym c.in-Ok.ensures.answer.means ∙ k.given) c.requires.head_is in
    leaves_stays g.D.Terms.contents g.D.Terms.rest g.D.Looks.sight c.args.derives.now c.begin.new.looks p.keeps p.stays

pub returns-clause-driven : goal.returns-clause-driven
returns-clause-driven g c =
    let old : Contents = g.D.Terms.contents c.args.derives.now in
    begun_driven g.D.Terms.contents g.D.Terms.rest g.D.Looks.sight c.args.derives.now c.begin.new.looks c.begin.result (tree_at old c.args.e) (name_at old c.args.constant.name) (list_at old c.args.constant.levels) c.args.enough c.requires.head_is
    (λ y m. c.begin.ensures y (sym c.in-Ok.ensures.answer.means ∙ m) c.requires.head_is)
