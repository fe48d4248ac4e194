use Rattle.std.proofs.Common.{rules}
use Rattle.std.proofs.lemmas.List.Elements.{All-rest}
use Rattle.lk_store.specs.Store.{contents_of}
use Rattle.lk_env.specs.Units.{IsUnitIn}
use Rattle.lk_text.proofs.Shown.{outcomes_more}
use Rattle.lk_text.proofs.outcomes.add_outcome_lines.Goals as goal

pub loop-unit-preserved : goal.loop-unit-preserved
loop-unit-preserved c =
    let at = contents_of c.args.library.now.tables in
    record {
      text = outcomes_more at _ _ _ c.loop-unit.number c.loop-unit.left.now c.in-Some.more.now c.in-Some.unit.now c.loop-unit.rest.now c.in-Some-split_first.others.now c.in-Some-split_first.outcome.now
          c.in-Some.ensures.cases.0 c.in-Some-split_first.ensures.cases.0 c.in_ok-add_line.ensures c.loop-unit.invariant.text;
      known = All-rest (IsUnitIn at) c.in-Some.unit.now c.in-Some.more.now c.loop-unit.left.now c.in-Some.ensures.cases.0 c.loop-unit.invariant.known;
      few = search rules;
    }
