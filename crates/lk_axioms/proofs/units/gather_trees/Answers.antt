use Rattle.std.proofs.Common.{ℕ, ◌≡◌, ◌<◌, length, get_or, subst, refl, arith}
use Rattle.std.proofs.lemmas.List.{get_or_read}
use Rattle.lk_store.specs.Store.{contents_of}
use Rattle.lk_env.specs.Units.{library_of}
use Rattle.lk_axioms.specs.declared.finding.Finding.{Finding}
use Rattle.lk_axioms.specs.Lists.{IsUnited}
use Rattle.lk_axioms.specs.Gives.{nowhere, cell_at}
use Rattle.lk_axioms.proofs.Together.{gathered_more}
use Rattle.lk_axioms.proofs.units.gather_trees.Goals as goal

pub loop-tree-preserved : goal.loop-tree-preserved
loop-tree-preserved c =
    let tree : ℕ = get_or c.args.trees.now c.loop-tree.tree-index 0 in
    let inside : tree < length (contents_of c.args.library.now.tables).trees = c.requires.trees_in c.loop-tree.tree-index 0 c.loop-tree-test.true in
    let left = c.in_ok-gather.ensures in
    let cell : c.index-found.result.now ≡ cell_at c.gather.new.gathering.cells.items tree =
    get_or_read c.gather.new.gathering.cells.items tree c.index-found.result.now (omega (arith, inside, left.right.one_each)) c.index-found.ensures nowhere in
    let united : IsUnited c.gather.new.gathering.sets c.union.new.self c.loop-tree.used (cell_at c.gather.new.gathering.cells.items tree).set c.in_ok-used.used =
    subst (λ (f : Finding). IsUnited c.gather.new.gathering.sets c.union.new.self c.loop-tree.used f.set c.in_ok-used.used) cell c.in_ok-used.ensures in
    gathered_more (contents_of c.args.library.now.tables) (library_of c.args.library.now) c.args.unit c.args.trees.now c.loop-tree.tree-index c.args.gathering.now c.loop-tree.gathering c.gather.new.gathering _ c.loop-tree.used c.in_ok-used.used
    c.loop-tree-test.true c.loop-tree.invariant inside left united refl refl
