use Rattle.std.proofs.Common.{◌∙◌}
use Rattle.lk_store.specs.Store.{contents_of}
use Rattle.lk_env.proofs.Noted.{names_known, next_unit}
use Rattle.lk_env.proofs.index.index_of.Goals as goal

pub note_members-requires-clause-known : goal.note_members-requires-clause-known
note_members-requires-clause-known c =
    names_known (contents_of c.args.base.now) c.args.units.now c.loop-i.i c.index-units-i.result c.deref.result.now c.loop-i.cells.items
    c.requires c.loop-i-test.true c.index-units-i.is (c.deref.ensures.value ∙ c.in_ok-names.ensures.names) c.loop-i.invariant.one_each

pub loop-i-preserved : goal.loop-i-preserved
loop-i-preserved c =
    next_unit (contents_of c.args.base.now) c.args.units.now c.loop-i.i c.index-units-i.result c.deref.result.now c.loop-i.cells.items c.note_members.new.cells.items
    c.count_names.ensures.apart c.requires c.loop-i-test.true c.index-units-i.is (c.deref.ensures.value ∙ c.in_ok-names.ensures.names)
    c.note_members.ensures.one_each c.note_members.ensures.noted c.loop-i.invariant
