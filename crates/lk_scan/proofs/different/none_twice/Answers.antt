use Rattle.std.proofs.Common.{rules, sym}
use Rattle.lk_store.specs.Store.{contents_of}
use Rattle.lk_scan.proofs.Numbers.{few_different, looked_twice, looked_more}
use Rattle.lk_scan.proofs.different.none_twice.Goals as goal

pub returns-then-has : goal.returns-then-has
returns-then-has c = sym (looked_twice (contents_of c.args.base.now) c.loop-name.seen c.loop-name.rest.now c.in-Some.more.now c.args.names.now c.in-Some.name.now c.count_names-names.ensures.apart c.requires c.in-Some.ensures.cases.0
    c.loop-name.invariant (search rules))

pub loop-name-preserved : goal.loop-name-preserved
loop-name-preserved c = looked_more (contents_of c.args.base.now) c.loop-name.seen c.add.new.self c.loop-name.rest.now c.in-Some.more.now c.args.names.now c.in-Some.name.now c.count_names-names.ensures.apart c.requires c.in-Some.ensures.cases.0
    c.loop-name.invariant (search rules) c.in_ok-add.ensures

pub returns-then-names-lt2 : goal.returns-then-names-lt2
returns-then-names-lt2 c = sym (few_different (contents_of c.args.base.now) c.args.names.now c.if-names-lt2.true)
