use Rattle.std.proofs.Common.{◌≡◌, map, ap, ◌∙◌}
use Rattle.lk_tree.specs.Tree.{Tree, sort, pi}
use Rattle.lk_tree.specs.Spine.{apply}
use Rattle.lk_store.specs.Contents.{name_at, tree_at}
use Rattle.lk_store.proofs.Extending.{Extends-trans}
use Rattle.lk_subst.specs.Numbers.{trees-steady}
use Rattle.lk_inductive.specs.Recursors.{at_params, elim_level, pis}
use Rattle.lk_block.specs.Shapes.{shape_at}
use Rattle.lk_recursor.proofs.heads.type_of_motive.Goals as goal

pub returns-clause-ok : goal.returns-clause-ok
returns-clause-ok g c =
    let before = g.T.Terms.contents c.args.terms.now in
    let first = g.T.Terms.contents c.at_parameters.new.terms in
    let second = g.T.Terms.contents c.make.new.self in
    let third = g.T.Terms.contents c.make-2.new.self in
    let after = g.T.Terms.contents c.over_locals.new.terms in
    let p = shape_at before c.args.shape.now in
    let indices = c.args.of.now.indices.items in
    let domain = c.in_ok-domain.ensures in
    let level = c.in_ok-sort.ensures in
    let body = c.in_ok-body.ensures in
    let made = c.in_ok-made.ensures.ok in
    let grown = Extends-trans before second third (Extends-trans before first second domain.keeps level.keeps) body.keeps in
    let front = at_params p (name_at before c.args.of.now.name) in
    let A = apply front (map (tree_at before) indices) in
    let A_is : tree_at second c.in_ok-domain.domain ≡ A = level.keeps.trees.same c.in_ok-domain.domain domain.ok.known ∙ domain.ok.is ∙ ap (λ ys. apply front (map (tree_at before) ys)) c.deref.ensures.value in
    let level_is : tree_at second c.in_ok-sort.sort ≡ sort (elim_level p) = level.ok.is ∙ ap sort (domain.keeps.levels.same c.args.level c.requires.level_in ∙ c.requires.level_is) in
    let body_is : tree_at third c.in_ok-body.body ≡ pi A (sort (elim_level p)) = body.ok.is ∙ ap (λ (t : Tree). pi t (tree_at second c.in_ok-sort.sort)) A_is ∙ ap (pi A) level_is in
    record {
      known = made.known;
      is =
          made.is
          ∙ ap (λ ys. pis (map (tree_at third) ys) (tree_at third c.in_ok-body.body)) c.deref-2.ensures.value
          ∙ ap (λ ys. pis ys (tree_at third c.in_ok-body.body)) (trees-steady before third indices grown c.requires.type_in.indices_in)
          ∙ ap (pis (map (tree_at before) indices)) body_is;
    }
