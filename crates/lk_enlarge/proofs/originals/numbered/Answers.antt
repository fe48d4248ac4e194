use Rattle.std.proofs.Common.{◌++◌, codes, sym, ap, ◌∙◌}
use Rattle.lk_enlarge.proofs.Decimals.{digits_written}
use Rattle.lk_enlarge.proofs.originals.numbered.Goals as goal

pub returns : goal.returns
returns c = ap (λ v. v.items) c.into_bytes.ensures.value ∙ c.in_ok-written.ensures.ok ∙ ap (λ ds. codes "rec_" ++ ds) (sym (digits_written c.args.number c.ranges.number.fits))
