use Rattle.std.proofs.Common.{◌++◌, List, [], map, ap, subst, ◌∙◌, append_assoc}
use Rattle.lk_tree.specs.Tree.{Tree}
use Rattle.lk_store.specs.Contents.{tree_at}
use Rattle.lk_store.proofs.Extending.{Extends-trans}
use Rattle.lk_subst.specs.Numbers.{trees-steady}
use Rattle.lk_recursor.specs.Telescopes.{IsTelescope}
use Rattle.lk_recursor.proofs.telescope.add_runs.Goals as goal

pub returns-clause-ok : goal.returns-clause-ok
returns-clause-ok g c = λ yes.
    let before = g.T.Terms.contents c.args.terms.now in
    let one = g.T.Terms.contents c.add_locals.new.terms in
    let two = g.T.Terms.contents c.add_locals-2.new.terms in
    let three = g.T.Terms.contents c.add_locals-3.new.terms in
    let xs = map (tree_at before) c.args.outer.now in
    let first = c.in_ok-add_locals.ensures in
    let second = c.in_ok-add_locals-2.ensures in
    let outer_is = c.begin_inner.ensures one xs (first.ok c.if-not-branch.false [] c.requires.empty) in
    let inner_is = second.ok c.if-not-branch-2.false xs outer_is in
    let all_is = c.in_ok-added.ensures.ok yes (xs ++ map (tree_at one) c.args.inner.now) inner_is in
    let grown = Extends-trans before one two first.keeps second.keeps in
    subst (λ (ys : List Tree). IsTelescope three ys c.add_locals-3.new.telescope)
    (append_assoc xs (map (tree_at one) c.args.inner.now) (map (tree_at two) c.args.innermost.now)
    ∙ ap (λ ys. xs ++ (ys ++ map (tree_at two) c.args.innermost.now)) (trees-steady before one c.args.inner.now first.keeps c.requires.inner_in)
    ∙ ap (λ ys. xs ++ (map (tree_at before) c.args.inner.now ++ ys)) (trees-steady before two c.args.innermost.now grown c.requires.innermost_in)) all_is
