use Rattle.std.proofs.Common.{◌≡◌, List, length, All}
use Rattle.lk_tree.specs.Tree.{Name, Level, Tree, const}
use Rattle.lk_tree.specs.Spine.{apply}
use Rattle.lk_inductive.specs.Nested.{aux_at as numbered}
use Rattle.lk_store.specs.Contents.{tree_at}
use Rattle.lk_auxiliary.specs.Auxiliaries.{auxs_at, IsAuxiliaryIn}
use Rattle.lk_auxiliary.proofs.among.number_of.Given as goal

abbrev pub invariant-auxs : goal.invariant-auxs
invariant-auxs g l =
    let c = g.T.Terms.contents l.terms in
    record {
      rest_in : All (IsAuxiliaryIn c) l.rest;
      same : (J : Name) (ls : List Level) (bs : List Tree) → tree_at c l.fn.e ≡ apply (const J ls) bs → numbered 0 (auxs_at c l.fn.auxs) J ls bs ≡ numbered l.number (auxs_at c l.rest) J ls bs;
    }

abbrev pub decreases-auxs : goal.decreases-auxs
decreases-auxs g l = length l.rest
