use Rattle.std.proofs.Common.{◌≡◌, ℕ, Ok}
use Rattle.lk_store.specs.Contents.{tree_at}
use Rattle.lk_trace.specs.declared.rules.ReductionRule.TheVariants.{Chain}
use Rattle.lk_trace.specs.declared.rules.Rule.TheVariants.{Reduction}
use Rattle.lk_trace.specs.declared.sections.Line.{Line}
use Rattle.lk_trace.specs.Meaning.{line_of}
use Rattle.lk_units.specs.Numbering.{entry}
use Rattle.lk_traced.specs.Derived.{plain_line}
use Rattle.lk_traced.proofs.Derive.{found_line, found_fails, lost_fails}
use Rattle.lk_traced.proofs.derived.plain_derived.Goals as goal

pub returns-in-Err-clause-made : goal.returns-in-Err-clause-made
returns-in-Err-clause-made g c k s mean same =
    lost_fails (entry c.args.places.now) mean (g.N.FileNumber.view.values c.args.premises.now) same (plain_line c.args.tag (tree_at k c.args.left) (tree_at k c.args.right)) c.in-Err.error c.in-Err.ensures

pub returns-in-Ok-plain_rule-clause-made : goal.returns-in-Ok-plain_rule-clause-made
returns-in-Ok-plain_rule-clause-made g c k s mean same =
    let line : Line = record { rule = c.in-Ok-plain_rule.rule; left = c.args.left; right = c.args.right; premises = c.in-Ok.premises } in
    found_line (entry c.args.places.now) mean (g.N.FileNumber.view.values c.args.premises.now) same (plain_line c.args.tag (tree_at k c.args.left) (tree_at k c.args.right)) c.in-Ok.premises.items (Ok (line_of k line)) c.in-Ok.ensures
    (c.in-Ok-plain_rule.ensures.made k line)

pub returns-in-Err-plain_rule-clause-made : goal.returns-in-Err-plain_rule-clause-made
returns-in-Err-plain_rule-clause-made g c k s mean same =
    let line : Line = record { rule = Reduction Chain; left = c.args.left; right = c.args.right; premises = c.in-Ok.premises } in
    found_fails (entry c.args.places.now) mean (g.N.FileNumber.view.values c.args.premises.now) same (plain_line c.args.tag (tree_at k c.args.left) (tree_at k c.args.right)) c.in-Ok.premises.items c.in-Err-plain_rule.error c.in-Ok.ensures
    (c.in-Err-plain_rule.ensures.made k line)

pub returns-in-Ok-plain_rule-clause-known : goal.returns-in-Ok-plain_rule-clause-known
returns-in-Ok-plain_rule-clause-known g c = λ k l r. record { rule_in = c.in-Ok-plain_rule.ensures.known k; left_in = l; right_in = r }
