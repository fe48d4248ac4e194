use Rattle.std.proofs.Common.{◌≡◌, Ok}
use Rattle.lk_store.specs.Contents.{tree_at}
use Rattle.lk_trace.specs.declared.rules.ReductionRule.TheVariants.{Chain}
use Rattle.lk_trace.specs.declared.rules.Rule.TheVariants.{Reduction}
use Rattle.lk_trace.specs.declared.sections.Line.{Line}
use Rattle.lk_trace.specs.Meaning.{line_of}
use Rattle.lk_units.specs.Numbering.{entry}
use Rattle.lk_units.proofs.Holding.{found, failing}
use Rattle.lk_units.proofs.Lines.{fails_then}
use Rattle.lk_traced.specs.Derived.{local_line}
use Rattle.lk_traced.proofs.Derive.{found_line, found_fails, lost_fails}
use Rattle.lk_traced.proofs.derived.local_derived.Goals as goal

pub returns-in-Err-clause-made : goal.returns-in-Err-clause-made
returns-in-Err-clause-made g c k s mean n same =
    fails_then c.in-Err.error _ _ (failing c.args.trees.now (tree_at k) s.trees (g.N.FileNumber.view.value c.args.local) c.in-Err.error n c.in-Err.ensures.err c.in-Err.ensures.absent)

pub returns-in-Err-find_places-clause-made : goal.returns-in-Err-find_places-clause-made
returns-in-Err-find_places-clause-made g c k s mean n same =
    rw (found c.args.trees.now (tree_at k) s.trees (g.N.FileNumber.view.value c.args.local) c.in-Ok.tree n c.in-Ok.ensures.ok)
    (lost_fails (entry c.args.places.now) mean (g.N.FileNumber.view.values c.args.premises.now) same (local_line c.args.tag (tree_at k c.args.left) (tree_at k c.args.right) (tree_at k c.in-Ok.tree)) c.in-Err-find_places.error c.in-Err-find_places.ensures)

pub returns-in-Ok-local_rule-clause-made : goal.returns-in-Ok-local_rule-clause-made
returns-in-Ok-local_rule-clause-made g c k s mean n same =
    let line : Line = record { rule = c.in-Ok-local_rule.rule; left = c.args.left; right = c.args.right; premises = c.in-Ok-find_places.premises } in
    rw (found c.args.trees.now (tree_at k) s.trees (g.N.FileNumber.view.value c.args.local) c.in-Ok.tree n c.in-Ok.ensures.ok)
    (found_line (entry c.args.places.now) mean (g.N.FileNumber.view.values c.args.premises.now) same (local_line c.args.tag (tree_at k c.args.left) (tree_at k c.args.right) (tree_at k c.in-Ok.tree)) c.in-Ok-find_places.premises.items (Ok (line_of k line)) c.in-Ok-find_places.ensures
    (c.in-Ok-local_rule.ensures.made k line))

pub returns-in-Err-local_rule-clause-made : goal.returns-in-Err-local_rule-clause-made
returns-in-Err-local_rule-clause-made g c k s mean n same =
    let line : Line = record { rule = Reduction Chain; left = c.args.left; right = c.args.right; premises = c.in-Ok-find_places.premises } in
    rw (found c.args.trees.now (tree_at k) s.trees (g.N.FileNumber.view.value c.args.local) c.in-Ok.tree n c.in-Ok.ensures.ok)
    (found_fails (entry c.args.places.now) mean (g.N.FileNumber.view.values c.args.premises.now) same (local_line c.args.tag (tree_at k c.args.left) (tree_at k c.args.right) (tree_at k c.in-Ok.tree)) c.in-Ok-find_places.premises.items c.in-Err-local_rule.error c.in-Ok-find_places.ensures
    (c.in-Err-local_rule.ensures.made k line))
