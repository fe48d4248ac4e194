use Rattle.lk_store.specs.Store.{contents_of}
use Rattle.lk_units.proofs.Parting.{all_in}
use Rattle.lk_book.proofs.Parted.{rounds_made, rounds_told}
use Rattle.lk_book.proofs.rounds.rounds_in.Goals as goal

pub returns-in-Err-units_of_parts-clause-rounds : goal.returns-in-Err-units_of_parts-clause-rounds
returns-in-Err-units_of_parts-clause-rounds c s h =
    rounds_told c.args.assembler (contents_of c.args.store) c.in-Ok.parts.items c.in-Ok.ensures.parts c.in-Err-units_of_parts.error s (rw c.freeze.ensures at c.in-Err-units_of_parts.ensures.fault) h

pub returns-in-Ok-units_of_parts-clause-rounds : goal.returns-in-Ok-units_of_parts-clause-rounds
returns-in-Ok-units_of_parts-clause-rounds c s h =
    rw c.freeze.ensures (rounds_made c.args.assembler (contents_of c.args.store) c.in-Ok.parts.items c.in-Ok.ensures.parts c.in-Ok-units_of_parts.parts.items s (rw c.freeze.ensures at c.in-Ok-units_of_parts.ensures.units) h)

pub units_of_parts-requires : goal.units_of_parts-requires
units_of_parts-requires c = rw c.freeze.ensures (all_in c.args.assembler (contents_of c.args.store) c.in-Ok.parts.items c.in-Ok.ensures.parts c.requires)
