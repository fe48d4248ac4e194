use Rattle.lk_store.specs.Store.{over}
use Rattle.lk_store.proofs.Growing.{length-names_of}
use Rattle.lk_store.proofs.Read.{name_known, name_reads, name_in_of_key}
use Rattle.lk_store.proofs.reading.name_row.Goals as goal

pub row_at-requires : goal.row_at-requires
row_at-requires c = let r = over c.args.base.now c.args.own.now in rw (length-names_of r c.requires.store) at c.requires.known

pub returns-clause-known : goal.returns-clause-known
returns-clause-known c =
    let r = over c.args.base.now c.args.own.now in
    let d = c.row_at.result.now in
    rw (c.row_at.ensures d) (name_in_of_key r _ (name_known r c.requires.store c.args.n d c.requires.known))

pub returns-clause-name : goal.returns-clause-name
returns-clause-name c =
    let r = over c.args.base.now c.args.own.now in
    let d = c.row_at.result.now in
    rw (c.row_at.ensures d) (name_reads r c.requires.store c.args.n d c.requires.known)
