use Rattle.std.proofs.Common.{map, ap, ◌∙◌}
use Rattle.lk_tree.specs.Spine.{apply}
use Rattle.lk_tree.specs.Tree.{const}
use Rattle.lk_inductive.specs.Enlarged.{aux_name}
use Rattle.lk_store.specs.Contents.{list_at, tree_at}
use Rattle.lk_subst.specs.Numbers.{trees-steady}
use Rattle.lk_auxiliary.proofs.Steady.{same_tree}
use Rattle.lk_auxiliary.proofs.among.auxiliary_applied.Goals as goal

pub returns-clause-ok : goal.returns-clause-ok
returns-clause-ok g c =
    let before = g.T.Terms.contents c.args.terms.now in
    let mid = g.T.Terms.contents c.name_of_type.new.terms in
    let after = g.T.Terms.contents c.instance_of.new.terms in
    let grown = c.in_ok-name.ensures.keeps in
    same_tree after c.instance_of.result _ _
    (ap (λ n. apply (const n (list_at mid c.args.levels)) (map (tree_at mid) c.args.parameters.now)) c.in_ok-name.ensures.ok.is
    ∙ ap (λ ls. apply (const (aux_name c.args.number) ls) (map (tree_at mid) c.args.parameters.now)) (grown.lists.same c.args.levels c.requires.levels_in)
    ∙ ap (apply (const (aux_name c.args.number) (list_at before c.args.levels))) (trees-steady before mid c.args.parameters.now grown c.requires.parameters_in))
    c.instance_of.ensures.ok
