use Rattle.lk_store.specs.Contents.{level_at}
use Rattle.lk_level_order.proofs.Gathered.{has_parameters}
use Rattle.lk_level_order.proofs.compared.gather_some.Goals as goal

pub returns : goal.returns
returns g c =
    let t = g.T.Terms.contents c.args.terms.now in
    let rights = c.len-rights.ensures.len in
    rw rights (has_parameters t (level_at t c.args.a) (level_at t c.args.b) c.args.names.now c.gather.new.names c.gather-2.new.names c.gather-3.new.names c.gather-4.new.names c.requires.none
    c.in_ok-gather.ensures.gathers c.in_ok-gather.ensures.complete c.in_ok-gather-2.ensures.gathers c.in_ok-gather-2.ensures.complete
    c.in_ok-gather-3.ensures.gathers c.in_ok-gather-3.ensures.complete c.in_ok-gather-4.ensures.gathers c.in_ok-gather-4.ensures.complete)
