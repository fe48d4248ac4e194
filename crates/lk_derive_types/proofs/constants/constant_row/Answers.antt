use Rattle.std.proofs.Common.{subst}
use Rattle.lk_store.specs.Contents.{name_at, list_at}
use Rattle.lk_derive_types.specs.TypeRows.{HasType}
use Rattle.lk_derive_types.proofs.Constant.{const_means}
use Rattle.lk_derive_types.proofs.constants.constant_row.Goals as goal

pub unreachable-requires : goal.unreachable-requires
unreachable-requires g c =
    let old = g.D.Terms.contents c.args.derives.now in
    let w = (g.D.Looks.sight (g.D.Terms.rest c.args.derives.now)).basis.place in
    const_means w (name_at old c.args.name) (list_at old c.args.levels) (subst (HasType w) c.requires.e_is c.requires.answered) c.in-None.ensures.missing
