use Rattle.std.proofs.Common.{◌∙◌}
use Rattle.lk_store.specs.Contents.{name_at, list_at, tree_at}
use Rattle.lk_premises.proofs.AtHead.{head_given, head_lost}
use Rattle.lk_premises.proofs.heads.head_meaning.Goals as goal

pub returns-in-Some-clause-headed : goal.returns-in-Some-clause-headed
returns-in-Some-clause-headed g c =
    let d = g.L.Terms.contents c.args.looks.now in
    let w = (g.L.Looks.sight (g.L.Terms.rest c.args.looks.now)).basis.place in
    let h = c.in-Some.ensures.given in
    let front = c.in-Const.ensures.tree ∙ c.head-front.ensures.is in
    record {
      entry = h.entry;
      is = h.is;
      means = head_given w (tree_at d c.args.e) (name_at d c.in-Const.name) (list_at d c.in-Const.levels) front h.entry h.means;
    }

pub returns-in-None-clause-headless : goal.returns-in-None-clause-headless
returns-in-None-clause-headless g c =
    let d = g.L.Terms.contents c.args.looks.now in
    let w = (g.L.Looks.sight (g.L.Terms.rest c.args.looks.now)).basis.place in
    let front = c.in-Const.ensures.tree ∙ c.head-front.ensures.is in
    head_lost w (tree_at d c.args.e) (name_at d c.in-Const.name) (list_at d c.in-Const.levels) front c.in-None.ensures.missing
