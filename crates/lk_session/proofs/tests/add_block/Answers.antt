use Rattle.std.proofs.Common.{rules}
use Rattle.lk_store.specs.Store.{contents_of}
use Rattle.lk_session.proofs.SampleLemmas.{known_one}
use Rattle.lk_session.proofs.tests.add_block.Goals as goal

pub add_units-requires-clause-units : goal.add_units-requires-clause-units
add_units-requires-clause-units c =
    let known = c.in_ok-block.ensures (contents_of c.args.library.now.tables) in
    known_one (contents_of c.args.library.now.tables) c.in_ok-block.block c.push.new.self.items (search rules) known.0
