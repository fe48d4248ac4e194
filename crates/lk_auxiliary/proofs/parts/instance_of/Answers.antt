use Rattle.std.proofs.Common.{map, ap, ◌∙◌}
use Rattle.lk_tree.specs.Spine.{apply}
use Rattle.lk_store.specs.Contents.{tree_at}
use Rattle.lk_subst.specs.Numbers.{trees-steady}
use Rattle.lk_auxiliary.proofs.Steady.{same_tree}
use Rattle.lk_auxiliary.proofs.parts.instance_of.Goals as goal

pub returns-clause-ok : goal.returns-clause-ok
returns-clause-ok g c =
    let before = g.T.Terms.contents c.args.terms.now in
    let mid = g.T.Terms.contents c.make.new.self in
    let after = g.T.Terms.contents c.apply.new.terms in
    same_tree after c.apply.result _ _ (ap (λ xs. apply (tree_at mid c.in_ok-front.front) xs) (trees-steady before mid c.args.arguments.now c.in_ok-front.ensures.keeps c.requires.arguments_in) ∙ ap (λ f. apply f (map (tree_at before) c.args.arguments.now)) c.in_ok-front.ensures.ok.is) c.apply.ensures.ok
