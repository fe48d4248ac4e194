use Rattle.lk_store.specs.Contents.{name_at}
use Rattle.lk_constructor.proofs.Giving.{entry_there}
use Rattle.lk_structure.proofs.Structured.{stated_known}
use Rattle.lk_derive_types.proofs.StructureTypes.{structure_read, structure_found}
use Rattle.lk_derive_types.proofs.structures.structure_by.Goals as goal

pub unreachable-requires : goal.unreachable-requires
unreachable-requires g c =
    let basis = (g.L.Looks.sight (g.L.Terms.rest c.args.looks.now)).basis in
    let l = g.L.Scope.Lends.lent c.scope.result.now in
    let S = name_at (g.L.Terms.contents c.args.looks.now) c.args.name in
    let given = c.requires.given in
    let at = entry_there basis l c.args.entry given.entry c.scope.ensures.is given.is in
    structure_found l basis.place S c.requires.structure.type c.requires.structure.structure given.entry given.means (c.in-None.ensures.is given.entry at)

pub returns : goal.returns
returns g c =
    let basis = (g.L.Looks.sight (g.L.Terms.rest c.args.looks.now)).basis in
    let d = g.L.Terms.contents c.args.looks.now in
    let l = g.L.Scope.Lends.lent c.scope.result.now in
    let S = name_at d c.args.name in
    let given = c.requires.given in
    let at = entry_there basis l c.args.entry given.entry c.scope.ensures.is given.is in
    record {
      known = stated_known l basis.library d c.in-Some.structure c.scope.ensures.is c.scope.ensures.over c.in-Some.ensures.known;
      is = λ T s. structure_read l basis.library d c.in-Some.structure c.scope.ensures.is c.scope.ensures.over c.in-Some.ensures.known basis.place S T s given.entry given.means (c.in-Some.ensures.is given.entry at);
    }
