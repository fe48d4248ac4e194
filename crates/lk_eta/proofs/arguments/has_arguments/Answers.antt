use Rattle.lk_eta.proofs.Counting.{too_many, one_passed, all_passed}
use Rattle.lk_eta.proofs.arguments.has_arguments.Goals as goal

pub returns-then-left-eq0 : goal.returns-then-left-eq0
returns-then-left-eq0 g c =
    too_many (g.T.Terms.contents c.args.terms.now) c.down.at c.down.left _ c.down.invariant.same c.in-App.f c.in-App.field-1 c.in-App.ensures.tree c.if-left-eq0.true

pub down-preserved : goal.down-preserved
down-preserved g c = record {
  known = c.in-App.ensures.known.0;
  same =
      one_passed (g.T.Terms.contents c.args.terms.now) c.down.at c.down.left _ c.down.invariant.same c.in-App.f c.in-App.field-1 c.in-App.ensures.tree c.if-left-eq0.false;
}

pub returns : goal.returns
returns g c =
    all_passed (g.T.Terms.contents c.args.terms.now) c.down.at c.down.left _ c.down.invariant.same c.view.result c.in_default.not-App c.view.ensures.tree
