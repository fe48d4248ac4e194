use Rattle.std.proofs.Common.{sym, subst}
use Rattle.lk_rulebook.specs.Place.{Place}
use Rattle.lk_rulebook.specs.WellStated.{WellStated}
use Rattle.lk_store.specs.Contents.{Contents, tree_at}
use Rattle.lk_derive_reduce.proofs.FormRuns.{core_at}
use Rattle.lk_derive_reduce.proofs.forms.fill_form.Goals as goal

pub from_core-requires-clause-stated : goal.from_core-requires-clause-stated
from_core-requires-clause-stated g c = subst WellStated (sym c.core_first.ensures.leaves.place) c.requires.stated

pub from_core-requires-clause-at : goal.from_core-requires-clause-at
from_core-requires-clause-at g c =
    let old : Contents = g.D.Terms.contents c.args.derives.now in
    let d : Contents = g.D.Terms.contents c.core_first.new.derives in
    let w : Place = (g.D.Looks.sight (g.D.Terms.rest c.args.derives.now)).basis.place in
    let w' : Place = (g.D.Looks.sight (g.D.Terms.rest c.core_first.new.derives)).basis.place in
    core_at w w' d c.core_first.new.row c.args.enough (tree_at old c.args.e) (tree_at d c.args.e) (tree_at d c.in_ok-core.core) c.core_first.ensures.leaves.place (c.core_first.ensures.leaves.keeps.trees.same c.args.e c.requires.e_in) c.in_ok-core.ensures.at
