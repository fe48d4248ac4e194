use Rattle.std.proofs.Common.{subst}
use Rattle.lk_rulebook.specs.Place.{Place}
use Rattle.lk_store.specs.Contents.{Contents, tree_at}
use Rattle.lk_derive_reduce.specs.Forms.{IsCoreForm}
use Rattle.lk_derive_reduce.proofs.CoreRows.{stays_whole}
use Rattle.lk_derive_reduce.proofs.rows.fill_core.Goals as goal

pub returns-in-Itself-clause-filled : goal.returns-in-Itself-clause-filled
returns-in-Itself-clause-filled g c =
    let old : Contents = g.D.Terms.contents c.args.derives.now in
    let w : Place = (g.D.Looks.sight (g.D.Terms.rest c.args.derives.now)).basis.place in
    stays_whole w c.args.enough old c.args.row.now (tree_at old c.args.e) (subst (IsCoreForm old (tree_at old c.args.e)) c.in-Itself.is c.core_form.ensures) c.requires.empty c.requires.claimed
