use Rattle.std.proofs.Common.{◌≡◌, ◌<◌, ◌++◌, length, All}
use Rattle.lk_store.specs.Contents.{name_at}
use Rattle.lk_enlarge.specs.Components.{behind, IsPartIn}
use Rattle.lk_enlarge.proofs.components.components.Given as goal

-- the components that were met are those behind the name at which the walk is
abbrev pub invariant-up : goal.invariant-up
invariant-up g l =
    let c = g.T.Terms.contents l.terms in
    record {
      at_in : l.at < length c.names;
      known : All (IsPartIn c) l.parts.items;
      name : name_at c l.at ++ behind c l.parts.items ≡ name_at c l.name;
    }

abbrev pub decreases-up : goal.decreases-up
decreases-up g l = length (name_at (g.T.Terms.contents l.terms) l.at)
