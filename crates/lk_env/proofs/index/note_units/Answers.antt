use Rattle.std.proofs.Common.{◌≡◌, ◌+◌, length, subst, arith}
use Rattle.lk_store.specs.Store.{contents_of}
use Rattle.lk_env.specs.Index.{IsIndexUpTo}
use Rattle.lk_env.proofs.Noted.{every_unit}
use Rattle.lk_env.proofs.Grown.{names_count, next_known, next_noted}
use Rattle.lk_env.proofs.index.note_units.Goals as goal

pub note_members-requires-clause-known : goal.note_members-requires-clause-known
note_members-requires-clause-known c =
    rw c.deref.ensures.value
    (next_known c.args.units.now c.args.first c.args.names.now c.requires.names c.requires.first (contents_of c.args.base.now) c.count_names-names.ensures.apart c.requires.units
    c.loop-j.j c.index-names-j.result c.loop-j-test.true c.index-names-j.is c.loop-j.cells.items c.loop-j.invariant)

pub loop-j-preserved : goal.loop-j-preserved
loop-j-preserved c =
    next_noted c.args.units.now c.args.first c.args.names.now c.requires.names c.requires.first (contents_of c.args.base.now) c.count_names-names.ensures.apart c.requires.units
    c.loop-j.j c.index-names-j.result c.loop-j-test.true c.index-names-j.is c.loop-j.cells.items c.loop-j.invariant
    c.note_members.new.cells.items c.note_members.ensures.one_each (rw c.deref.ensures.value at c.note_members.ensures.noted)

pub returns : goal.returns
returns c =
    let count = names_count c.args.units.now c.args.first c.args.names.now c.requires.names c.requires.first in
    let all : c.args.first + c.loop-j.j ≡ length c.args.units.now = omega arith in
    every_unit (contents_of c.args.base.now) c.args.units.now c.loop-j.cells.items
    (subst (λ i. IsIndexUpTo (contents_of c.args.base.now) c.args.units.now i c.loop-j.cells.items) all c.loop-j.invariant)
