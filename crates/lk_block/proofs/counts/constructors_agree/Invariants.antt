use Rattle.std.proofs.Common.{◌≡◌, ◌+◌, length, map, All}
use Rattle.lk_store.specs.Contents.{name_at}
use Rattle.lk_env.specs.Units.{constructor_at, IsConstructorIn}
use Rattle.lk_inductive.specs.BlockSteps.{ctors_agree}
use Rattle.lk_block.proofs.counts.constructors_agree.Given as goal

abbrev pub invariant-constructors : goal.invariant-constructors
invariant-constructors g l =
    let c = g.T.Terms.contents l.terms in
    let us = map (name_at c) l.levels in
    let parent = name_at c l.parent in
    record {
      rest_in : All (IsConstructorIn c) l.rest;
      so_far : l.place + length l.rest ≡ length l.constructors;
      same : ctors_agree l.parameters us parent 0 (map (constructor_at c) l.constructors) ≡ ctors_agree l.parameters us parent l.place (map (constructor_at c) l.rest);
    }

abbrev pub decreases-constructors : goal.decreases-constructors
decreases-constructors g l = length l.rest
