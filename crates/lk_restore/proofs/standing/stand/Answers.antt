use Rattle.std.proofs.Common.{◌≡◌, map, sym, ap, ◌∙◌}
use Rattle.lk_tree.specs.Tree.{const, param}
use Rattle.lk_tree.specs.Spine.{apply}
use Rattle.lk_store.specs.Contents.{name_at, list_at, tree_at}
use Rattle.lk_store.proofs.Extending.{Extends-trans}
use Rattle.lk_subst.specs.Numbers.{trees-steady}
use Rattle.lk_restore.proofs.Applied.{original_is, applied_is}
use Rattle.lk_restore.proofs.standing.stand.Goals as goal

pub returns-clause-is : goal.returns-clause-is
returns-clause-is g c =
    let before = g.T.Terms.contents c.args.terms.now in
    let first = g.T.Terms.contents c.constant_applied.new.terms in
    let after = g.T.Terms.contents c.constant_applied-2.new.terms in
    let one = c.in_ok-from.ensures in
    let two = c.in_ok-to.ensures in
    let x = Extends-trans before first after one.keeps two.keeps in
    let es = c.args.arguments.now in
    let whole : tree_at after c.in_ok-to.to ≡ apply (const (name_at before c.args.original) (list_at before c.args.levels)) (map (tree_at before) es) =
    two.ok.is
    ∙ ap (λ n. apply (const n (list_at first c.args.levels)) (map (tree_at first) es)) (one.keeps.names.same c.args.original c.requires.original_in)
    ∙ ap (λ ls. apply (const (name_at before c.args.original) ls) (map (tree_at first) es)) (one.keeps.lists.same c.args.levels c.requires.levels_in)
    ∙ ap (apply (const (name_at before c.args.original) (list_at before c.args.levels))) (trees-steady before first es one.keeps c.requires.arguments_in) in
    original_is (name_at after c.args.original) (name_at before c.args.original) (list_at before c.args.levels) (map (tree_at before) es) (tree_at after c.in_ok-to.to) (x.names.same c.args.original c.requires.original_in) whole
    (name_at after c.args.name) (name_at before c.args.name) (x.names.same c.args.name c.requires.name_in)

pub returns-clause-standing : goal.returns-clause-standing
returns-clause-standing g c = λ s levels_are params_are.
    let before = g.T.Terms.contents c.args.terms.now in
    let first = g.T.Terms.contents c.constant_applied.new.terms in
    let after = g.T.Terms.contents c.constant_applied-2.new.terms in
    let one = c.in_ok-from.ensures in
    let two = c.in_ok-to.ensures in
    let x = Extends-trans before first after one.keeps two.keeps in
    let name = name_at before c.args.name in
    let from_is : tree_at after c.in_ok-from.from ≡ apply (const (name_at after c.args.name) (map param s.levels)) s.params =
    two.keeps.trees.same c.in_ok-from.from one.ok.known
    ∙ one.ok.is
    ∙ ap (λ ls. apply (const name ls) (map (tree_at before) c.args.parameters.now)) levels_are
    ∙ ap (apply (const name (map param s.levels))) params_are
    ∙ ap (λ n. apply (const n (map param s.levels)) s.params) (sym (x.names.same c.args.name c.requires.name_in)) in (
      from_is,
      applied_is (name_at after c.args.original) (name_at first c.args.original) (list_at first c.args.levels) (map (tree_at first) c.args.arguments.now) (tree_at after c.in_ok-to.to)
          (x.names.same c.args.original c.requires.original_in ∙ sym (one.keeps.names.same c.args.original c.requires.original_in)) two.ok.is,
    )
