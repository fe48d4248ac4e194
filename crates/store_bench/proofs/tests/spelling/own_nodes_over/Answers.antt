use Rattle.store_bench.proofs.Fresh.{fresh}
use Rattle.store_bench.proofs.tests.spelling.own_nodes_over.Goals as goal

pub own_nodes-requires : goal.own_nodes-requires
own_nodes-requires c = fresh c.args.base.now c.new-terms.result c.new-terms.ensures.value c.new-terms.ensures.contents
