use Rattle.std.proofs.Common.{ap, ◌∙◌}
use Rattle.lk_lists.proofs.Lists.{rest_have}
use Rattle.lk_store.specs.Contents.{level_at}
use Rattle.lk_questions.specs.Program.{done}
use Rattle.lk_auxiliary.specs.Auxiliaries.{aux_at, auxs_at, IsAuxiliaryIn}
use Rattle.lk_enlarge.proofs.SortTests.{sorts_next}
use Rattle.lk_enlarge.proofs.sorts.check_sorts.Goals as goal

pub auxs-preserved : goal.auxs-preserved
auxs-preserved g c =
    let s = g.T.Terms.contents c.args.terms.now in
    record {
      left_in = rest_have (IsAuxiliaryIn s) c.auxs.left.now c.in-Some.aux.now c.in-Some.more.now c.in-Some.ensures.cases.0 c.auxs.invariant.left_in;
      leads = c.auxs.invariant.leads
          ∙ sorts_next (level_at s c.args.level) (auxs_at s c.auxs.left.now) (aux_at s c.in-Some.aux.now) (auxs_at s c.in-Some.more.now) (ap (auxs_at s) c.in-Some.ensures.cases.0)
          (c.in_ok-levels_equal.ensures ∙ ap done c.if-not-branch.false);
    }
