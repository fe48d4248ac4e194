use Rattle.std.proofs.Common.{rules}
use Rattle.std.specs.List.{list_all}
use Rattle.lk_rulebook.specs.Units.{members_of}
use Rattle.lk_rulebook.specs.Scan.{are_distinct}
use Rattle.lk_store.specs.Store.{contents_of}
use Rattle.lk_env.specs.Units.{unit_at}
use Rattle.lk_env.specs.declared.unit.Unit.TheVariants as unit
use Rattle.lk_scan.specs.Members.{type_different, constructors_different, recursor_different}
use Rattle.lk_scan.proofs.Blocks.{first_fails, second_fails, third_is, distinct_is}
use Rattle.lk_scan.proofs.distinct.block_distinct.Goals as goal

pub returns-then-not-branch : goal.returns-then-not-branch
returns-then-not-branch c =
    let d = contents_of c.args.base.now in
    let b = c.args.block.now in
    first_fails (are_distinct (members_of (unit_at d (unit.Block b)))) (list_all (type_different d) b.types.items) (list_all (constructors_different d) b.types.items) (list_all (recursor_different d) b.recursors.value.items) c.in_ok-types_distinct.field-0 c.in_ok-types_distinct.field-0 c.in_ok-types_distinct.field-0
    (distinct_is d b) (rw c.deref.ensures.value at c.in_ok-types_distinct.ensures) (search rules)

pub returns-then-not-branch-2 : goal.returns-then-not-branch-2
returns-then-not-branch-2 c =
    let d = contents_of c.args.base.now in
    let b = c.args.block.now in
    second_fails (are_distinct (members_of (unit_at d (unit.Block b)))) (list_all (type_different d) b.types.items) (list_all (constructors_different d) b.types.items) (list_all (recursor_different d) b.recursors.value.items) c.in_ok-types_distinct.field-0 c.in_ok-all_constructors_distinct.field-0 c.in_ok-all_constructors_distinct.field-0
    (distinct_is d b) (rw c.deref.ensures.value at c.in_ok-types_distinct.ensures) (search rules) (rw c.deref-2.ensures.value at c.in_ok-all_constructors_distinct.ensures) (search rules)

pub returns : goal.returns
returns c =
    let d = contents_of c.args.base.now in
    let b = c.args.block.now in
    third_is (are_distinct (members_of (unit_at d (unit.Block b)))) (list_all (type_different d) b.types.items) (list_all (constructors_different d) b.types.items) (list_all (recursor_different d) b.recursors.value.items) c.in_ok-types_distinct.field-0 c.in_ok-all_constructors_distinct.field-0 c.in_ok-recursors.recursors
    (distinct_is d b) (rw c.deref.ensures.value at c.in_ok-types_distinct.ensures) (search rules) (rw c.deref-2.ensures.value at c.in_ok-all_constructors_distinct.ensures) (search rules) (rw c.deref-3.ensures at (rw c.deref-4.ensures.value at c.in_ok-recursors.ensures))
