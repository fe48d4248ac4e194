use Rattle.lk_ask.specs.declared.instances.Instance.{Instance}
use Rattle.lk_ask.specs.Instances.{IsInstance}
use Rattle.lk_ask.proofs.MadeBefore.{added}
use Rattle.lk_ask.proofs.instances.Instances.add.Goals as goal

pub returns : goal.returns
returns c = λ k one all.
    added (λ (i : Instance). IsInstance k i.params.items i.tree i.made) c.args.self.now.table
    c.push.new.self c.args.row c.push.result c.push.ensures.ok c.push.ensures.err one all
