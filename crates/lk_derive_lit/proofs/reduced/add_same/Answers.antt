use Rattle.std.proofs.Common.{rules, refl}
use Rattle.lk_trace.specs.declared.rules.Rule.TheVariants.{Conversion}
use Rattle.lk_trace.specs.declared.rules.ConversionRule.TheVariants.{Reduce}
use Rattle.lk_derive_lit.proofs.reduced.add_same.Goals as goal

pub returns : goal.returns
returns c = record {
  step = record { rule = Conversion Reduce; left = c.args.a; right = c.args.b; premises = c.in_ok-premises.premises };
  rule_is = refl;
  left_is = refl;
  right_is = refl;
  premises_are = search rules;
  asks_are = search rules;
  steps_are = search rules;
}
