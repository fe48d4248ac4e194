use Rattle.std.proofs.Common.{refl}
use Rattle.lk_trace.specs.declared.rules.Rule.TheVariants.{Reduction}
use Rattle.lk_step.proofs.PartsIn.{part_adds}
use Rattle.lk_step.proofs.under_way.add_step.Goals as goal

pub returns : goal.returns
returns g c = λ w a b cs ea eb ecs holds.
    part_adds w (g.T.Terms.contents c.args.terms.now) c.args.row.now c.push_step.new.row (record { rule = Reduction c.args.rule; left = c.args.left; right = c.args.right; premises = c.args.premises }) c.args.rule a b cs
    refl c.requires.left_in c.requires.right_in c.requires.premises_in ea eb ecs holds c.in_ok-push_step.ensures.asks c.in_ok-push_step.ensures.steps
