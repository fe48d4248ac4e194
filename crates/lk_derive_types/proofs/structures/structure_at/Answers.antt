use Rattle.lk_store.specs.Contents.{name_at}
use Rattle.lk_derive_types.proofs.StructureTypes.{structure_there}
use Rattle.lk_derive_types.proofs.structures.structure_at.Goals as goal

pub unreachable-requires : goal.unreachable-requires
unreachable-requires g c =
    structure_there (g.L.Looks.sight (g.L.Terms.rest c.args.looks.now)).basis.place (name_at (g.L.Terms.contents c.args.looks.now) c.args.name) c.requires.structure.type c.requires.structure.structure c.in-None.ensures.missing
