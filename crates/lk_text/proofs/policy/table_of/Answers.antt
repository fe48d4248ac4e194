use Rattle.std.proofs.lemmas.Iterator.{YieldsList-from_slice}
use Rattle.std.proofs.lemmas.Iterator.Adapters.{fact_from_collect}
use Rattle.std.proofs.lemmas.Iterator.Consumers.{YieldsList-from_copied}
use Rattle.std.specs.HashSet.{IsFromIterResult}
use Rattle.std.specs.Str.{bytes_eq}
use Rattle.lk_text.proofs.policy.table_of.Goals as goal

pub returns : goal.returns
returns c = fact_from_collect (IsFromIterResult (λ x y. bytes_eq x.now y.now)) c.collect.result c.collect.ensures.ran (YieldsList-from_copied (YieldsList-from_slice c.args.texts.now cc))
