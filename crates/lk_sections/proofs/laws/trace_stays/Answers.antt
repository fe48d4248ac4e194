use Rattle.lk_sections.proofs.Larger.{trace_larger}
use Rattle.lk_sections.proofs.laws.trace_stays.Goals as goal

pub returns : goal.returns
returns c b d ks ss t e i a h = trace_larger b d e ks ss t i a h
