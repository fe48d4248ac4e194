use Rattle.std.proofs.Common.{rules, ◌==◌, length, nat_lt}
use Rattle.std.proofs.lemmas.Iterator.Consumers.{YieldsList-from_filter, map_from_collect}
use Rattle.std.proofs.lemmas.Iterator.Splits.{YieldsList-from_slice_split}
use Rattle.lk_token.specs.Fields.{fields_of}
use Rattle.lk_token.proofs.split.fields.Goals as goal

pub returns : goal.returns
unfolding fields_of
returns c = map_from_collect _ c.collect.ensures.ran
    (YieldsList-from_filter _ (λ xs. nat_lt 0 (length xs))
    (YieldsList-from_slice_split _ (λ b. b == 32) c.args.line.now (search rules) (search rules) (search rules) (search rules))
    (search rules) (search rules))
