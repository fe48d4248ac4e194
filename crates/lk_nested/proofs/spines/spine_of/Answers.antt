use Rattle.std.proofs.Common.{refl, sym}
use Rattle.lk_nested.specs.declared.spines.Spine.{Spine}
use Rattle.lk_nested.proofs.Applied.{same_down, counted_down, spine_ends}
use Rattle.lk_nested.proofs.spines.spine_of.Goals as goal

pub down-preserved : goal.down-preserved
down-preserved g c =
    let s = g.T.Terms.contents c.args.terms.now in
    let applied = sym c.in-Some.ensures.function in
    record {
      at_in = c.in-Some.ensures.known;
      same_head = same_down s c.args.e c.down.at c.in-Some.f c.down.count c.in_ok-count.count applied c.down.invariant.same_head;
      counted = counted_down s c.args.e c.down.at c.in-Some.f c.down.count c.in_ok-count.count applied c.down.invariant.counted c.in_ok-count.ensures;
    }

pub returns : goal.returns
returns g c =
    let s = g.T.Terms.contents c.args.terms.now in
    let made : Spine = record { tree = c.args.e; head = c.down.at; count = c.down.count } in
    record {
      tree = refl;
      spine = spine_ends s c.args.e c.down.at c.down.count made c.down.invariant.at_in c.down.invariant.same_head c.down.invariant.counted (sym c.in_default.ensures.function) refl refl;
    }
