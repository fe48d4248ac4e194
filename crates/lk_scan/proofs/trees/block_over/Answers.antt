use Rattle.std.proofs.Common.{rules}
use Rattle.std.specs.List.{list_all}
use Rattle.lk_rulebook.specs.Units.{trees_of}
use Rattle.lk_rulebook.specs.Scan.{all_over}
use Rattle.lk_store.specs.Store.{contents_of}
use Rattle.lk_env.specs.Units.{unit_at}
use Rattle.lk_env.specs.declared.unit.Unit.TheVariants as unit
use Rattle.lk_scan.specs.Members.{type_over, constructors_over, recursor_over}
use Rattle.lk_scan.proofs.Blocks.{first_fails, second_fails, third_is, declared_is}
use Rattle.lk_scan.proofs.trees.block_over.Goals as goal

pub returns-then-not-branch : goal.returns-then-not-branch
returns-then-not-branch c =
    let d = contents_of c.args.base.now in
    let b = c.args.block.now in
    first_fails (all_over (trees_of (unit_at d (unit.Block b)))) (list_all (type_over d) b.types.items) (list_all (constructors_over d) b.types.items) (list_all (recursor_over d) b.recursors.value.items) c.in_ok-types_over.field-0 c.in_ok-types_over.field-0 c.in_ok-types_over.field-0
    (declared_is d b) (rw c.deref.ensures.value at c.in_ok-types_over.ensures.over) (search rules)

pub returns-then-not-branch-2 : goal.returns-then-not-branch-2
returns-then-not-branch-2 c =
    let d = contents_of c.args.base.now in
    let b = c.args.block.now in
    second_fails (all_over (trees_of (unit_at d (unit.Block b)))) (list_all (type_over d) b.types.items) (list_all (constructors_over d) b.types.items) (list_all (recursor_over d) b.recursors.value.items) c.in_ok-types_over.field-0 c.in_ok-all_constructors_over.field-0 c.in_ok-all_constructors_over.field-0
    (declared_is d b) (rw c.deref.ensures.value at c.in_ok-types_over.ensures.over) (search rules) (rw c.deref-2.ensures.value at c.in_ok-all_constructors_over.ensures.over) (search rules)

pub returns : goal.returns
returns c =
    let d = contents_of c.args.base.now in
    let b = c.args.block.now in
    third_is (all_over (trees_of (unit_at d (unit.Block b)))) (list_all (type_over d) b.types.items) (list_all (constructors_over d) b.types.items) (list_all (recursor_over d) b.recursors.value.items) c.in_ok-types_over.field-0 c.in_ok-all_constructors_over.field-0 c.in_ok-over.over
    (declared_is d b) (rw c.deref.ensures.value at c.in_ok-types_over.ensures.over) (search rules) (rw c.deref-2.ensures.value at c.in_ok-all_constructors_over.ensures.over) (search rules) (rw c.deref-3.ensures at (rw c.deref-4.ensures.value at c.in_ok-over.ensures))
