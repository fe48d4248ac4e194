use Rattle.std.proofs.Common.{◌≡◌, length, All}
use Rattle.lk_store.specs.Contents.{name_at}
use Rattle.lk_env.specs.Units.{IsTypeIn}
use Rattle.lk_inductive.specs.BlockSteps.{is_listed}
use Rattle.lk_block.specs.Frames.{listed_at}
use Rattle.lk_block.proofs.members.is_listed.Given as goal

abbrev pub invariant-types : goal.invariant-types
invariant-types g l =
    let c = g.T.Terms.contents l.terms in
    record {
      rest_in : All (IsTypeIn c) l.rest;
      same : is_listed (listed_at c l.types) (name_at c l.name) l.count ≡ is_listed (listed_at c l.rest) (name_at c l.name) l.count;
    }

abbrev pub decreases-types : goal.decreases-types
decreases-types g l = length l.rest
