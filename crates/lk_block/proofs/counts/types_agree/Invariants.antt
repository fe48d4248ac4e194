use Rattle.std.proofs.Common.{◌≡◌, length, map, All}
use Rattle.lk_store.specs.Contents.{name_at}
use Rattle.lk_env.specs.Units.{type_at, IsTypeIn}
use Rattle.lk_inductive.specs.BlockSteps.{types_agree}
use Rattle.lk_block.proofs.counts.types_agree.Given as goal

abbrev pub invariant-types : goal.invariant-types
invariant-types g l =
    let c = g.T.Terms.contents l.terms in
    let us = map (name_at c) l.levels in
    record {
      rest_in : All (IsTypeIn c) l.rest;
      same : types_agree l.parameters us (map (type_at c) l.types) ≡ types_agree l.parameters us (map (type_at c) l.rest);
    }

abbrev pub decreases-types : goal.decreases-types
decreases-types g l = length l.rest
