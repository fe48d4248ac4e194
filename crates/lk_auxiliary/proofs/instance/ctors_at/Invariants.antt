use Rattle.std.proofs.Common.{◌≡◌, ◌<◌, length, map, All}
use Rattle.lk_env.specs.Units.{constructor_at, IsConstructorIn}
use Rattle.lk_store.specs.Contents.{tree_at, Extends}
use Rattle.lk_auxiliary.specs.Places.{levels_of, arguments_of}
use Rattle.lk_auxiliary.proofs.Instances.{LeadsAt}
use Rattle.lk_auxiliary.proofs.instance.ctors_at.Given as goal

abbrev pub invariant-constructors : goal.invariant-constructors
invariant-constructors g l =
    let before = g.T.Terms.contents l.fn.terms in
    let now = g.T.Terms.contents l.terms in
    record {
      keeps : Extends before now;
      same_rest : g.T.Terms.rest l.terms ≡ g.T.Terms.rest l.fn.terms;
      found_in : All (λ x. x < length now.trees) l.found.items;
      rest_in : All (IsConstructorIn before) l.rest;
      leads : LeadsAt (levels_of before l.fn.at) (arguments_of before l.fn.at) (map (constructor_at before) l.fn.constructors) (map (tree_at now) l.found.items) (map (constructor_at before) l.rest);
    }

abbrev pub decreases-constructors : goal.decreases-constructors
decreases-constructors g l = length l.rest
