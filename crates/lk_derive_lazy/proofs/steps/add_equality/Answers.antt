use Rattle.std.proofs.Common.{refl}
use Rattle.lk_trace.specs.declared.rules.Rule.TheVariants.{Conversion}
use Rattle.lk_derive_lazy.proofs.Stating.{equality_added}
use Rattle.lk_derive_lazy.proofs.steps.add_equality.Goals as goal

pub returns : goal.returns
returns g c = λ w a b cs ea eb ecs holds.
    equality_added w (g.T.Terms.contents c.args.terms.now) c.args.row.now c.push_step.new.row (record { rule = Conversion c.args.rule; left = c.args.left; right = c.args.right; premises = c.args.premises }) c.args.rule a b cs
    refl c.requires.rule_in c.requires.left_in c.requires.right_in c.requires.premises_in ea eb ecs holds c.in_ok-push_step.ensures.asks c.in_ok-push_step.ensures.steps
