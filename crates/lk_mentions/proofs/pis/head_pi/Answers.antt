use Rattle.lk_mentions.proofs.Heads.{node_pi}
use Rattle.lk_mentions.proofs.pis.head_pi.Goals as goal

pub returns : goal.returns
returns g c = node_pi (g.T.Terms.contents c.args.terms.now) c.args.e c.view.result c.pi_of.result c.view.ensures.known c.view.ensures.tree c.pi_of.ensures
