use Rattle.std.proofs.Common.{rules, length, refl, ap, ◌∙◌}
use Rattle.std.specs.Prelude.{nat_lt}
use Rattle.std.proofs.lemmas.List.Sorted.{IsPartitionPoint-from_clause, IsPartitionedBy-ltb}
use Rattle.std.proofs.lemmas.Option.{slice_get_read, slice_get_past}
use Rattle.lk_replay.proofs.Sections.{unit_of, units_rise, in_rising, if_own, found_own, found_other}
use Rattle.lk_replay.proofs.unit.section_for.Goals as goal

pub returns-in_err-found-clause-is : goal.returns-in_err-found-clause-is
returns-in_err-found-clause-is c x =
    let xs = c.args.sections.now in
    let parted = IsPartitionedBy-ltb unit_of xs c.args.unit (units_rise xs c.requires) in
    let point = IsPartitionPoint-from_clause (λ s. nat_lt (unit_of s) c.args.unit) xs c.partition_point-place.result c.partition_point-place.ensures.partitioned parted (λ a r q k. search rules) in
    rw c.from_residual.ensures
    (in_rising x c.args.unit xs c.partition_point-place.result c.requires c.partition_point-place.ensures.bound point
    ∙ ap (if_own x c.args.unit) (slice_get_past xs c.partition_point-place.result c.in_err-found.ensures.lookup.3))

pub returns-then-found-unit-clause-is : goal.returns-then-found-unit-clause-is
returns-then-found-unit-clause-is c x =
    let xs = c.args.sections.now in
    let parted = IsPartitionedBy-ltb unit_of xs c.args.unit (units_rise xs c.requires) in
    let point = IsPartitionPoint-from_clause (λ s. nat_lt (unit_of s) c.args.unit) xs c.partition_point-place.result c.partition_point-place.ensures.partitioned parted (λ a r q k. search rules) in
    let there = slice_get_read xs (length xs) c.partition_point-place.result c.in_ok-found.found.now refl c.in_ok-found.ensures.lookup.3.0 c.in_ok-found.ensures.lookup.1 in
    in_rising x c.args.unit xs c.partition_point-place.result c.requires c.partition_point-place.ensures.bound point
    ∙ ap (if_own x c.args.unit) there ∙ found_own x c.args.unit c.in_ok-found.found.now c.if-found-unit.true

pub returns-else-found-unit-clause-is : goal.returns-else-found-unit-clause-is
returns-else-found-unit-clause-is c x =
    let xs = c.args.sections.now in
    let parted = IsPartitionedBy-ltb unit_of xs c.args.unit (units_rise xs c.requires) in
    let point = IsPartitionPoint-from_clause (λ s. nat_lt (unit_of s) c.args.unit) xs c.partition_point-place.result c.partition_point-place.ensures.partitioned parted (λ a r q k. search rules) in
    let there = slice_get_read xs (length xs) c.partition_point-place.result c.in_ok-found.found.now refl c.in_ok-found.ensures.lookup.3.0 c.in_ok-found.ensures.lookup.1 in
    in_rising x c.args.unit xs c.partition_point-place.result c.requires c.partition_point-place.ensures.bound point
    ∙ ap (if_own x c.args.unit) there ∙ found_other x c.args.unit c.in_ok-found.found.now c.if-found-unit.false
