use Rattle.std.proofs.Common.{◌≡◌, ◌+◌, length, map, All}
use Rattle.lk_env.specs.Units.{type_at, IsTypeIn}
use Rattle.lk_inductive.specs.Nested.{other_count}
use Rattle.lk_store.specs.Contents.{name_at}
use Rattle.lk_auxiliary.proofs.among.count_others.Given as goal

abbrev pub invariant-types : goal.invariant-types
invariant-types g l =
    let c = g.T.Terms.contents l.terms in
    record {
      rest_in : All (IsTypeIn c) l.rest;
      same : other_count (name_at c l.fn.name) (map (type_at c) l.fn.types) ≡ l.count + other_count (name_at c l.fn.name) (map (type_at c) l.rest);
    }

abbrev pub decreases-types : goal.decreases-types
decreases-types g l = length l.rest
