use Rattle.lk_store.specs.Store.{over}
use Rattle.lk_store.proofs.Read.{same_name_number}
use Rattle.lk_store.proofs.reading.same_name_in.Goals as goal

pub returns : goal.returns
returns c = same_name_number (over c.args.base.now c.args.own.now) c.requires.store c.args.m c.args.n c.requires.m_in c.requires.n_in
