use Rattle.lk_store.specs.Contents.{name_at, list_at, tree_at}
use Rattle.lk_derive_types.proofs.StructureTypes.{levels_told, levels_same}
use Rattle.lk_derive_types.proofs.structures.levels_of.Goals as goal

pub unreachable-requires : goal.unreachable-requires
unreachable-requires g c =
    let d = g.L.Terms.contents c.args.looks.now in
    levels_told (g.L.Looks.sight (g.L.Terms.rest c.args.looks.now)).basis.place (name_at d c.args.name) (tree_at d c.args.form) c.requires.structure c.in-None.ensures.is

pub returns : goal.returns
returns g c =
    let d = g.L.Terms.contents c.args.looks.now in
    record {
      known = c.in-Some.ensures.known;
      is = λ s. levels_same (g.L.Looks.sight (g.L.Terms.rest c.args.looks.now)).basis.place (name_at d c.args.name) (tree_at d c.args.form) s (list_at d c.in-Some.levels) c.in-Some.ensures.is;
    }
