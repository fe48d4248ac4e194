use Rattle.std.proofs.Common.{◌∙◌}
use Rattle.lk_store.proofs.Extending.{Extends-trans}
use Rattle.lk_chain.proofs.Arguments.{pis_end}
use Rattle.lk_chain.proofs.spines.end_pis.Goals as goal

pub returns : goal.returns
returns g c = record {
  keeps = Extends-trans _ _ _ c.put.ensures.keeps c.pis.ensures.keeps;
  stays = c.pis.ensures.stays ∙ c.put.ensures.rest;
  ok = pis_end (g.L.Terms.contents c.pis.new.looks) c.args.inside c.in_ok-end.end c.args.domains.now
      c.args.values.now c.pis.result c.put.ensures.keeps
      c.requires.domains_in c.in_ok-end.ensures.ok c.pis.ensures.ok;
}
