use Rattle.lk_store.specs.Store.{over}
use Rattle.lk_store.proofs.Read.{name_fits}
use Rattle.lk_store.proofs.Above.{name_above}
use Rattle.lk_store.proofs.Made.{name_absent, name_present}
use Rattle.lk_store.proofs.making.find_name_in.Goals as goal

pub name_key-key-requires : goal.name_key-key-requires
name_key-key-requires c = name_fits (over c.args.base.now c.args.own.now) c.requires.store c.args.node c.requires.known

pub returns-clause-absent : goal.returns-clause-absent
returns-clause-absent c = name_absent (over c.args.base.now c.args.own.now) c.requires.store c.name_key-key.result c.args.node c.name_key-key.ensures c.requires.known c.find.result c.find.ensures.absent

pub returns-clause-present : goal.returns-clause-present
returns-clause-present c = name_present (over c.args.base.now c.args.own.now) c.requires.store c.name_key-key.result c.args.node c.name_key-key.ensures c.find.result c.find.ensures.known c.find.ensures.present

pub find-requires-clause-base : goal.find-requires-clause-base
find-requires-clause-base c =
    name_above c.args.base.now c.requires.base c.name_key-key.result c.has_name_parts-in_base.result c.has_name_parts-in_base.ensures.1
