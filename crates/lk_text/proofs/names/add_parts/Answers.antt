use Rattle.std.proofs.lemmas.List.Elements.{All-rest}
use Rattle.lk_text.specs.Names.{IsPartIn}
use Rattle.lk_text.proofs.Components.{dotted_more}
use Rattle.lk_text.proofs.names.add_parts.Goals as goal

pub loop-part-preserved : goal.loop-part-preserved
loop-part-preserved g c =
    let s = g.T.Terms.contents c.args.store.now in
    record {
      text = dotted_more s _ _ _ _ c.loop-part.rest.now c.in-Some.more.now c.in-Some.part.now c.in-Some.ensures.cases.0 c.in_ok-push.ensures.items c.in_ok-add_part.ensures c.loop-part.invariant.text;
      known = All-rest (IsPartIn s) c.in-Some.part.now c.in-Some.more.now c.loop-part.rest.now c.in-Some.ensures.cases.0 c.loop-part.invariant.known;
    }
