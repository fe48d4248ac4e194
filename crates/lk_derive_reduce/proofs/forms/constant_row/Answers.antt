use Rattle.lk_rulebook.specs.Place.{Place}
use Rattle.lk_store.specs.Contents.{Contents, tree_at, name_at, list_at}
use Rattle.lk_derive_reduce.proofs.FormRuns.{is_given, unfolds_by}
use Rattle.lk_derive_reduce.proofs.forms.constant_row.Goals as goal

pub unreachable-requires : goal.unreachable-requires
unreachable-requires g c =
    let old : Contents = g.D.Terms.contents c.args.derives.now in
    let w : Place = (g.D.Looks.sight (g.D.Terms.rest c.args.derives.now)).basis.place in
    is_given w old c.args.row.now c.args.enough (tree_at old c.args.e) (tree_at old c.args.core) (name_at old c.args.constant.name) (list_at old c.args.constant.levels) c.requires.at c.requires.head_is c.in-Err.ensures.refused

pub by_entry-requires-clause-unfolds : goal.by_entry-requires-clause-unfolds
by_entry-requires-clause-unfolds g c =
    let old : Contents = g.D.Terms.contents c.args.derives.now in
    let b = (g.D.Looks.sight (g.D.Terms.rest c.args.derives.now)).basis in
    unfolds_by b c.in-Ok.entry old c.args.row.now c.args.enough (tree_at old c.args.e) (tree_at old c.args.core) (name_at old c.args.constant.name) (list_at old c.args.constant.levels) c.requires.at c.requires.head_is c.in-Ok.ensures.answer.means c.requires.nothing
