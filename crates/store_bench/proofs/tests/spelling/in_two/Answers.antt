use Rattle.store_bench.proofs.Fresh.{fresh}
use Rattle.store_bench.proofs.tests.spelling.in_two.Goals as goal

pub constant_in-requires-clause-first_over : goal.constant_in-requires-clause-first_over
constant_in-requires-clause-first_over c = fresh c.args.base.now c.new-first.result c.new-first.ensures.value c.new-first.ensures.contents
