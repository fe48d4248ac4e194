use Rattle.std.proofs.Common.{◌≡◌, ◌<◌, ◌∷◌, ◌++◌, [], List, length, map, ap, subst, ◌∙◌}
use Rattle.std.proofs.lemmas.List.Elements.{All-rest}
use Rattle.lk_tree.specs.Tree.{Tree}
use Rattle.lk_store.specs.Contents.{tree_at}
use Rattle.lk_store.proofs.Extending.{Extends-trans}
use Rattle.lk_lists.proofs.Lists.{first_has}
use Rattle.lk_recursor.specs.Telescopes.{IsTelescope}
use Rattle.lk_recursor.proofs.Telescopes.{growing_next}
use Rattle.lk_recursor.proofs.telescope.add_locals.Goals as goal

pub locals-preserved : goal.locals-preserved
locals-preserved g c =
    let before = g.T.Terms.contents c.args.terms.now in
    let now = g.T.Terms.contents c.locals.terms in
    let after = g.T.Terms.contents c.add_local.new.terms in
    let was = c.locals.invariant in
    let x = c.in-Some.local.now in
    let others = c.in-Some.others.now in
    let split = c.in-Some.ensures.cases.0 in
    let known = first_has (λ e. e < length before.trees) c.locals.left.now x others split was.left_in in
    let added = c.in_ok-add_local.ensures in
    let same : tree_at now x ≡ tree_at before x = was.keeps.trees.same x known in
    let add = subst (λ t. (ys : List Tree) → IsTelescope now ys c.locals.telescope → IsTelescope after (ys ++ t ∷ []) c.add_local.new.telescope) same (added.ok c.if-not-branch.false) in
    record {
      keeps = Extends-trans before now after was.keeps added.keeps;
      same_rest = added.rest ∙ was.same_rest;
      left_in = All-rest (λ e. e < length before.trees) x others c.locals.left.now split was.left_in;
      same_outer = added.outer ∙ was.same_outer;
      grows = λ xs is.
          growing_next now after (tree_at before x) (map (tree_at before) c.locals.left.now) (map (tree_at before) others) (xs ++ map (tree_at before) c.args.locals.now) c.locals.telescope c.add_local.new.telescope (ap (map (tree_at before)) split) add (was.grows xs is);
    }
