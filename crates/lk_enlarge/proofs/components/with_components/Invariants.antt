use Rattle.std.proofs.Common.{◌≡◌, ◌<◌, ◌++◌, length, All}
use Rattle.lk_store.specs.Contents.{name_at, Extends}
use Rattle.lk_enlarge.specs.Components.{behind, IsPartIn}
use Rattle.lk_enlarge.proofs.components.with_components.Given as goal

abbrev pub invariant-parts : goal.invariant-parts
invariant-parts g l =
    let before = g.T.Terms.contents l.fn.terms in
    let now = g.T.Terms.contents l.terms in
    record {
      keeps : Extends before now;
      same_rest : g.T.Terms.rest l.terms ≡ g.T.Terms.rest l.fn.terms;
      left_in : All (IsPartIn before) l.left;
      made_in : l.made < length now.names;
      leads : name_at now l.made ++ behind before l.left ≡ name_at before l.fn.front ++ behind before l.fn.parts;
    }

abbrev pub decreases-parts : goal.decreases-parts
decreases-parts g l = length l.left
