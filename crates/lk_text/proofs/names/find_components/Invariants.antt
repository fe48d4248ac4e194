use Rattle.std.proofs.Common.{◌≡◌, ◌<◌, ◌++◌, length}
use Rattle.std.specs.Prelude.{All}
use Rattle.lk_store.specs.Contents.{name_at}
use Rattle.lk_text.specs.Names.{IsPartIn}
use Rattle.lk_text.proofs.Components.{behind}
use Rattle.lk_text.proofs.names.find_components.Given as goal

-- the components that were met are those behind the name at which the walk is
abbrev pub invariant-up : goal.invariant-up
invariant-up g l =
    let c = g.T.Terms.contents l.store in
    record {
      at_in : l.at < length c.names;
      known : All (IsPartIn c) l.parts.items;
      name : name_at c l.at ++ behind c l.parts.items ≡ name_at c l.name;
    }

abbrev pub decreases-up : goal.decreases-up
decreases-up g l = length (name_at (g.T.Terms.contents l.store) l.at)
