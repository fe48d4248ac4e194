use Rattle.std.proofs.Common.{map, ap, ◌∙◌}
use Rattle.lk_tree.specs.Tree.{const}
use Rattle.lk_tree.specs.Spine.{apply}
use Rattle.lk_store.specs.Contents.{name_at, list_at, tree_at}
use Rattle.lk_subst.specs.Numbers.{trees-steady}
use Rattle.lk_restore.proofs.standing.constant_applied.Goals as goal

pub returns-clause-ok : goal.returns-clause-ok
returns-clause-ok g c =
    let before = g.T.Terms.contents c.args.terms.now in
    let first = g.T.Terms.contents c.make.new.self in
    let head = c.in_ok-head.ensures in
    let made = c.in_ok-made.ensures.ok in
    let es = c.args.arguments.now in
    record {
      known = made.known;
      is = made.is ∙ ap (λ h. apply h (map (tree_at first) es)) head.ok.is ∙ ap (apply (const (name_at before c.args.name) (list_at before c.args.levels))) (trees-steady before first es head.keeps c.requires.arguments_in);
    }
