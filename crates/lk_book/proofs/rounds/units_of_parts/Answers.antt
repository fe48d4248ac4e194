use Rattle.std.proofs.Common.{rules}
use Rattle.std.proofs.lemmas.Result.{err_from_is_err_and}
use Rattle.lk_store.specs.Store.{contents_of}
use Rattle.lk_book.proofs.Parted.{parts_begin, next_in, parts_more, parts_told}
use Rattle.lk_book.proofs.rounds.units_of_parts.Goals as goal

pub loop-members-init : goal.loop-members-init
loop-members-init c = parts_begin (contents_of c.args.store.now) c.args.parts.items c.reverse.new.self.items c.new-units.result.items c.reverse.ensures.items c.new-units.ensures.items c.requires

pub units_of-requires-clause-lines : goal.units_of-requires-clause-lines
units_of-requires-clause-lines c =
    (next_in (contents_of c.args.store.now) c.args.parts.items c.loop-members.parts.items c.pop.new.self.items c.in-Some.members c.loop-members.units.items (search rules) c.loop-members.invariant).lines_in

pub units_of-requires-clause-indexed : goal.units_of-requires-clause-indexed
units_of-requires-clause-indexed c =
    (next_in (contents_of c.args.store.now) c.args.parts.items c.loop-members.parts.items c.pop.new.self.items c.in-Some.members c.loop-members.units.items (search rules) c.loop-members.invariant).indexed

pub units_of-requires-clause-faultless : goal.units_of-requires-clause-faultless
units_of-requires-clause-faultless c =
    (next_in (contents_of c.args.store.now) c.args.parts.items c.loop-members.parts.items c.pop.new.self.items c.in-Some.members c.loop-members.units.items (search rules) c.loop-members.invariant).faultless

pub returns-in_err-part-clause-fault : goal.returns-in_err-part-clause-fault
returns-in_err-part-clause-fault c =
    let p = err_from_is_err_and c.from_residual.result c.from_residual.ensures.1 in
    rw (p.1, p.2)
    (parts_told (contents_of c.args.store.now) c.args.parts.items c.loop-members.parts.items c.pop.new.self.items c.in-Some.members c.loop-members.units.items (search rules) c.loop-members.invariant c.in_err-part.field-0.0
    c.in_err-part.ensures.fault)

pub loop-members-preserved : goal.loop-members-preserved
loop-members-preserved c =
    parts_more (contents_of c.args.store.now) c.args.parts.items c.loop-members.parts.items c.pop.new.self.items c.in-Some.members c.loop-members.units.items (search rules) c.loop-members.invariant c.in_ok-part.part
    c.push.new.self.items (search rules) c.in_ok-part.ensures.known c.in_ok-part.ensures.units
