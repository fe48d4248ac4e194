use Rattle.std.proofs.Common.{◌≡◌, length, map, All}
use Rattle.lk_env.specs.Units.{type_at, IsTypeIn}
use Rattle.lk_store.specs.Contents.{name_at, Extends}
use Rattle.lk_auxiliary.specs.Auxiliaries.{auxs_at, IsAuxiliaryIn}
use Rattle.lk_auxiliary.specs.Parts.{more_others}
use Rattle.lk_auxiliary.specs.Places.{levels_of, arguments_of}
use Rattle.lk_auxiliary.proofs.family.add_others.Given as goal

abbrev pub invariant-types : goal.invariant-types
invariant-types g l =
    let before = g.T.Terms.contents l.fn.terms in
    let now = g.T.Terms.contents l.terms in
    let ls = levels_of before l.fn.at in
    let bs = arguments_of before l.fn.at in
    let J = name_at before l.fn.name in
    record {
      keeps : Extends before now;
      same_rest : g.T.Terms.rest l.terms ≡ g.T.Terms.rest l.fn.terms;
      found_in : All (IsAuxiliaryIn now) l.found.items;
      rest_in : All (IsTypeIn before) l.rest;
      leads : more_others l.fn.at.first ls bs J (auxs_at before l.fn.found.items) (map (type_at before) l.fn.types) ≡ more_others l.fn.at.first ls bs J (auxs_at now l.found.items) (map (type_at before) l.rest);
    }

abbrev pub decreases-types : goal.decreases-types
decreases-types g l = length l.rest
