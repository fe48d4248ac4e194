use Rattle.std.proofs.Common.{◌≡◌, ◌+◌, ◌<◌, length, map, arith}
use Rattle.lk_store.specs.Contents.{tree_at}
use Rattle.lk_inductive.specs.Recursors.{number}
use Rattle.lk_recursor.proofs.Lists.{all_others}
use Rattle.lk_recursor.proofs.RunLists.{runs_first, runs_next, runs_end}
use Rattle.lk_recursor.proofs.binders.is_run.Goals as goal

pub locals-init : goal.locals-init
locals-init g c = record { left_in = c.requires; runs = runs_first c.args.first (map (tree_at (g.T.Terms.contents c.args.terms.now)) c.args.locals.now) }

pub locals-preserved : goal.locals-preserved
locals-preserved g c =
    let d = g.T.Terms.contents c.args.terms.now in
    let x = c.in-Some.local.now in
    let others = c.in-Some.others.now in
    let split = c.in-Some.ensures.cases.0 in
    let is : c.parts_of-number.result.0 ≡ number (tree_at d x) = c.parts_of-number.ensures.number in
    let place = c.if-number-first-2.false in
    let above = c.if-number-first.false in
    let here : number (tree_at d x) ≡ c.args.first + length others = omega arith in
    record {
      left_in = all_others (λ e. e < length d.trees) c.locals.left.now others x split c.locals.invariant.left_in;
      runs = runs_next c.args.first (tree_at d) c.locals.left.now others x (map (tree_at d) c.args.locals.now) split here c.locals.invariant.runs;
    }

pub returns : goal.returns
returns g c = λ yes. let d = g.T.Terms.contents c.args.terms.now in runs_end c.args.first (tree_at d) c.locals.left.now (map (tree_at d) c.args.locals.now) c.in_default.ensures.cases c.locals.invariant.runs
