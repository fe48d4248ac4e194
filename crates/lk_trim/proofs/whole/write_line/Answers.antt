use Rattle.std.proofs.Common.{refl}
use Rattle.lk_store.specs.Contents.{name_at}
use Rattle.lk_store.specs.Store.{contents_of}
use Rattle.lk_trim.specs.Whole.{budget_line}
use Rattle.lk_trim.proofs.Chains.{then_writes, line_writes}
use Rattle.lk_trim.proofs.whole.write_line.Goals as goal

pub returns : goal.returns
returns c =
    let s = contents_of c.args.store.now in
    then_writes c.in_ok-write_name.ensures
    (line_writes c.in_ok-write_name.ensures.numbers (budget_line (record { name = name_at s c.args.name; steps = c.args.steps })) c.add_budget.new.out.items c.in_ok-add_budget.ensures c.in_ok-push.ensures.items refl)
