use Rattle.std.proofs.Common.{subst}
use Rattle.lk_store.specs.Contents.{name_at, list_at, tree_at}
use Rattle.lk_ask.specs.Constants.{IsAtLevels}
use Rattle.lk_derive_types.proofs.StructureTypes.{levels_there, constructor_there}
use Rattle.lk_derive_types.proofs.structures.constructor_of.Goals as goal

pub structure_at-structure-requires-clause-structure : goal.structure_at-structure-requires-clause-structure
structure_at-structure-requires-clause-structure g c = record { type = tree_at (g.L.Terms.contents c.args.looks.now) c.args.form; structure = c.requires.structure }

pub unreachable-requires : goal.unreachable-requires
unreachable-requires g c =
    let old = g.L.Terms.contents c.args.looks.now in
    let new = g.L.Terms.contents c.at_levels.new.self in
    let w = (g.L.Looks.sight (g.L.Terms.rest c.args.looks.now)).basis.place in
    let S = name_at old c.args.name in
    let T = tree_at old c.args.form in
    let s = c.requires.structure in
    let read = c.structure_at-structure.ensures.is T s in
    let r = c.structure_at-structure.result in
    let ls = list_at old c.levels_of-levels.result in
    let t = tree_at old r.constructor.stated in
    levels_there w S T s new read.structure.entry.levels ls t read.structure.levels_are (c.levels_of-levels.ensures.is s)
    (subst (IsAtLevels new read.structure.entry.levels ls t) c.in-None.is (c.in_ok-ty.ensures.ok read.structure.entry read.structure.entry_is))

pub returns : goal.returns
returns g c =
    let old = g.L.Terms.contents c.args.looks.now in
    let new = g.L.Terms.contents c.at_levels.new.self in
    let w = (g.L.Looks.sight (g.L.Terms.rest c.args.looks.now)).basis.place in
    let S = name_at old c.args.name in
    let T = tree_at old c.args.form in
    let r = c.structure_at-structure.result in
    let ls = list_at old c.levels_of-levels.result in
    let t = tree_at old r.constructor.stated in
    record {
      keeps = c.at_levels.ensures.keeps;
      stays = c.at_levels.ensures.rest;
      ok = λ s.
          let read = c.structure_at-structure.ensures.is T s in
          record {
            ty_is = constructor_there w S T s new read.structure.entry.levels ls t c.in-Some.ty read.structure.levels_are (c.levels_of-levels.ensures.is s) read.type_is
                (subst (IsAtLevels new read.structure.entry.levels ls t) c.in-Some.is (c.in_ok-ty.ensures.ok read.structure.entry read.structure.entry_is));
            parameters_are = read.structure.parameters_are;
          };
    }
