use Rattle.std.proofs.Common.{◌<◌, length, map, ap, ◌∙◌}
use Rattle.lk_tree.specs.Tree.{Tree}
use Rattle.lk_store.specs.Contents.{tree_at}
use Rattle.lk_store.proofs.Extending.{Extends-trans}
use Rattle.lk_recursor.specs.Binders.{bind, over_domains}
use Rattle.lk_recursor.proofs.Lists.{all_last, all_others, domains_next}
use Rattle.lk_recursor.proofs.binders.over_domains.Goals as goal

pub domains-preserved : goal.domains-preserved
domains-preserved g c =
    let before = g.T.Terms.contents c.args.terms.now in
    let now = g.T.Terms.contents c.domains.terms in
    let after = g.T.Terms.contents c.make.new.self in
    let was = c.domains.invariant in
    let x = c.in-Some.domain.now in
    let split = c.in-Some.ensures.cases.0 in
    let b = c.args.binder in
    let known = all_last (λ e. e < length before.trees) c.domains.left.now c.in-Some.others.now x split was.left_in in
    let longer = was.keeps.trees.longer in
    let made = c.in_ok-made.ensures.ok in
    record {
      keeps = Extends-trans before now after was.keeps c.in_ok-made.ensures.keeps;
      same_rest = c.in_ok-made.ensures.rest ∙ was.same_rest;
      left_in = all_others (λ e. e < length before.trees) c.domains.left.now c.in-Some.others.now x split was.left_in;
      made_in = made.known;
      leads =
          domains_next b (tree_at before) c.domains.left.now c.in-Some.others.now x (tree_at now c.domains.made) (tree_at after c.in_ok-made.made) (over_domains b (map (tree_at before) c.args.domains.now) (tree_at before c.args.e))
          split (made.is ∙ c.node_of.ensures.tree now ∙ ap (λ (t : Tree). bind b t (tree_at now c.domains.made)) (was.keeps.trees.same x known)) was.leads;
    }
