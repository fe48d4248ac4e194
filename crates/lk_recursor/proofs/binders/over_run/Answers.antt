use Rattle.std.proofs.Common.{◌<◌, length, map, refl, ap, ◌∙◌, arith}
use Rattle.lk_tree.specs.Tree.{Tree}
use Rattle.lk_store.specs.Contents.{tree_at}
use Rattle.lk_store.proofs.Extending.{Extends-trans}
use Rattle.lk_inductive.specs.Block.{domain}
use Rattle.lk_recursor.specs.Binders.{bind}
use Rattle.lk_subst.specs.Runs.{close_run_at}
use Rattle.lk_recursor.proofs.Lists.{all_last, all_others}
use Rattle.lk_recursor.proofs.RunLists.{bound_first, bound_next_in_run, bound_end_of_run}
use Rattle.lk_recursor.proofs.binders.over_run.Goals as goal

pub locals-init : goal.locals-init
locals-init g c =
    let before = g.T.Terms.contents c.args.terms.now in
    let now = g.T.Terms.contents c.close_run.new.terms in
    let made = c.in_ok-made.ensures in
    record {
      keeps = made.keeps;
      same_rest = made.rest;
      left_in = c.requires.locals_in;
      made_in = made.ok.known;
      bound = bound_first c.args.binder c.args.first (tree_at before) c.args.locals.now (tree_at before c.args.e) (tree_at now c.in_ok-made.made) (length c.args.locals.now) refl c.requires.run made.ok.is;
    }

pub over_last-requires-clause-local_in : goal.over_last-requires-clause-local_in
over_last-requires-clause-local_in g c =
    let before = g.T.Terms.contents c.args.terms.now in
    let known = all_last (λ x. x < length before.trees) c.locals.left.now c.in-Some.others.now c.in-Some.local.now c.in-Some.ensures.cases.0 c.locals.invariant.left_in in
    let longer = c.locals.invariant.keeps.trees.longer in
    omega arith

pub locals-preserved : goal.locals-preserved
locals-preserved g c =
    let before = g.T.Terms.contents c.args.terms.now in
    let now = g.T.Terms.contents c.locals.terms in
    let after = g.T.Terms.contents c.over_last.new.terms in
    let was = c.locals.invariant in
    let x = c.in-Some.local.now in
    let others = c.in-Some.others.now in
    let split = c.in-Some.ensures.cases.0 in
    let known = all_last (λ e. e < length before.trees) c.locals.left.now others x split was.left_in in
    let made = c.in_ok-made-2.ensures in
    record {
      keeps = Extends-trans before now after was.keeps made.keeps;
      same_rest = made.rest ∙ was.same_rest;
      left_in = all_others (λ e. e < length before.trees) c.locals.left.now others x split was.left_in;
      made_in = made.ok.known;
      bound =
          bound_next_in_run c.args.binder c.args.first (tree_at before) c.locals.left.now others x (map (tree_at before) c.args.locals.now) (tree_at before c.args.e) (tree_at now c.locals.made) (tree_at after c.in_ok-made-2.made) (length others) split refl
          (made.ok.is ∙ ap (λ (t : Tree). bind c.args.binder (close_run_at 0 c.args.first (length others) (domain t)) (tree_at now c.locals.made)) (was.keeps.trees.same x known)) was.bound;
    }

pub returns-clause-ok : goal.returns-clause-ok
returns-clause-ok g c =
    let before = g.T.Terms.contents c.args.terms.now in
    let was = c.locals.invariant in
    record {
      known = was.made_in;
      is = bound_end_of_run c.args.binder c.args.first (tree_at before) c.locals.left.now (map (tree_at before) c.args.locals.now) (tree_at before c.args.e) (tree_at (g.T.Terms.contents c.locals.terms) c.locals.made) c.in_default.ensures.cases was.bound;
    }
