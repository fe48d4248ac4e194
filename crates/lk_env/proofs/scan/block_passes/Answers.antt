use Rattle.std.proofs.Common.{rules}
use Rattle.lk_store.specs.Store.{contents_of}
use Rattle.lk_env.proofs.Trees.{no_types, no_constructors, recursors_alone, without_levels}
use Rattle.lk_env.proofs.scan.block_passes.Goals as goal

pub returns-then-not-types_pass : goal.returns-then-not-types_pass
returns-then-not-types_pass c =
    no_types (contents_of c.args.base.now) (without_levels c.args.test) c.args.block.now c.types_pass.result (rw c.deref.ensures.value at c.types_pass.ensures) (search rules)

pub returns-then-not-all_constructors_pass : goal.returns-then-not-all_constructors_pass
returns-then-not-all_constructors_pass c =
    no_constructors (contents_of c.args.base.now) (without_levels c.args.test) c.args.block.now c.types_pass.result c.all_constructors_pass.result
    (rw c.deref.ensures.value at c.types_pass.ensures) (rw c.deref-2.ensures.value at c.all_constructors_pass.ensures) (search rules) (search rules)

pub returns : goal.returns
returns c =
    recursors_alone (contents_of c.args.base.now) (without_levels c.args.test) c.args.block.now c.types_pass.result c.all_constructors_pass.result c.recursors_pass.result
    (rw c.deref.ensures.value at c.types_pass.ensures) (rw c.deref-2.ensures.value at c.all_constructors_pass.ensures) (rw c.deref-3.ensures at (rw c.deref-4.ensures.value at c.recursors_pass.ensures)) (search rules) (search rules)
