use Rattle.std.proofs.lemmas.List.Elements.{All-rest}
use Rattle.lk_store.specs.Store.{contents_of}
use Rattle.lk_env.specs.Units.{IsUnitIn}
use Rattle.lk_text.proofs.Marked.{marks_more}
use Rattle.lk_text.proofs.under.marks_of.Goals as goal

pub loop-unit-preserved : goal.loop-unit-preserved
loop-unit-preserved c =
    let at = contents_of c.args.library.now.tables in
    record {
      made = marks_more c.args.policy.now at _ _ _ c.loop-unit.left.now c.in-Some.more.now c.in-Some.unit.now _ c.in-Some.ensures.cases.0 c.in_ok-push.ensures.items c.in_ok-mark_of.ensures c.loop-unit.invariant.made;
      known = All-rest (IsUnitIn at) c.in-Some.unit.now c.in-Some.more.now c.loop-unit.left.now c.in-Some.ensures.cases.0 c.loop-unit.invariant.known;
    }
