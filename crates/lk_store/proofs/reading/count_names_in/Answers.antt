use Rattle.std.proofs.Common.{◌∙◌, sym}
use Rattle.lk_store.specs.Store.{over}
use Rattle.lk_store.proofs.Growing.{length-names_of}
use Rattle.lk_store.proofs.reading.count_names_in.Goals as goal

pub returns-clause-count : goal.returns-clause-count
returns-clause-count c = c.count.ensures.count ∙ sym (length-names_of (over c.args.base.now c.args.own.now) c.requires)

pub returns-clause-apart : goal.returns-clause-apart
returns-clause-apart c = c.requires.names.apart
