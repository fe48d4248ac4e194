use Rattle.std.proofs.Common.{◌<◌, length, map, ap, ◌∙◌, arith}
use Rattle.lk_tree.specs.Tree.{Tree, pi}
use Rattle.lk_tree.specs.Bind.{close}
use Rattle.lk_store.specs.Contents.{tree_at}
use Rattle.lk_store.proofs.Extending.{Extends-trans}
use Rattle.lk_inductive.specs.Block.{domain}
use Rattle.lk_inductive.specs.Recursors.{number, pis}
use Rattle.lk_lists.proofs.Lists.{all_last, all_others}
use Rattle.lk_enlarge.proofs.Opening.{pis_next, pis_end}
use Rattle.lk_enlarge.proofs.past.over_locals.Goals as goal

pub over_local-requires-clause-local_in : goal.over_local-requires-clause-local_in
over_local-requires-clause-local_in g c =
    let before = g.T.Terms.contents c.args.terms.now in
    let known = all_last (λ x. x < length before.trees) c.locals.left.now c.in-Some.others.now c.in-Some.local.now c.in-Some.ensures.cases.0 c.locals.invariant.left_in in
    let longer = c.locals.invariant.keeps.trees.longer in
    omega arith

pub locals-preserved : goal.locals-preserved
locals-preserved g c =
    let before = g.T.Terms.contents c.args.terms.now in
    let now = g.T.Terms.contents c.locals.terms in
    let after = g.T.Terms.contents c.over_local.new.terms in
    let was = c.locals.invariant in
    let x = c.in-Some.local.now in
    let split = c.in-Some.ensures.cases.0 in
    let known = all_last (λ e. e < length before.trees) c.locals.left.now c.in-Some.others.now x split was.left_in in
    let made = c.in_ok-made.ensures.ok in
    record {
      keeps = Extends-trans before now after was.keeps c.in_ok-made.ensures.keeps;
      same_rest = c.in_ok-made.ensures.rest ∙ was.same_rest;
      left_in = all_others (λ e. e < length before.trees) c.locals.left.now c.in-Some.others.now x split was.left_in;
      made_in = made.known;
      leads =
          pis_next (tree_at before) c.locals.left.now c.in-Some.others.now x (tree_at now c.locals.made) (tree_at after c.in_ok-made.made) (pis (map (tree_at before) c.args.locals.now) (tree_at before c.args.e))
          split (made.is ∙ ap (λ (t : Tree). pi (domain t) (close (number t) (tree_at now c.locals.made))) (was.keeps.trees.same x known)) was.leads;
    }

pub returns-clause-ok : goal.returns-clause-ok
returns-clause-ok g c =
    let before = g.T.Terms.contents c.args.terms.now in
    let was = c.locals.invariant in
    record {
      known = was.made_in;
      is = pis_end (tree_at before) c.locals.left.now (tree_at (g.T.Terms.contents c.locals.terms) c.locals.made) (pis (map (tree_at before) c.args.locals.now) (tree_at before c.args.e)) c.in_default.ensures.cases was.leads;
    }
