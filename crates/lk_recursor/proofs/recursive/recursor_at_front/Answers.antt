use Rattle.std.proofs.Common.{◌≡◌, map, ap, ◌∙◌}
use Rattle.lk_tree.specs.Tree.{Name, Tree, const, param}
use Rattle.lk_tree.specs.Spine.{apply}
use Rattle.lk_store.specs.Contents.{name_at, list_at, tree_at}
use Rattle.lk_store.proofs.Extending.{Extends-trans}
use Rattle.lk_inductive.specs.Block as plain
use Rattle.lk_inductive.specs.Recursors.{front, rec_name, rec_params}
use Rattle.lk_block.specs.Shapes.{shape_at}
use Rattle.lk_block.proofs.Shaping.{shape-steady}
use Rattle.lk_recursor.proofs.Steady.{front-steady}
use Rattle.lk_recursor.proofs.recursive.recursor_at_front.Goals as goal

pub at_front-requires-clause-front_is : goal.at_front-requires-clause-front_is
at_front-requires-clause-front_is g c =
    let before = g.T.Terms.contents c.args.terms.now in
    let first = g.T.Terms.contents c.recursor_name.new.terms in
    let second = g.T.Terms.contents c.make.new.self in
    front-steady before second (Extends-trans before first second c.in_ok-recursor.ensures.keeps c.in_ok-head.ensures.keeps) c.args.shape.now c.args.front.now c.requires.shape_in c.requires.front_is

pub returns-clause-ok : goal.returns-clause-ok
returns-clause-ok g c =
    let before = g.T.Terms.contents c.args.terms.now in
    let first = g.T.Terms.contents c.recursor_name.new.terms in
    let second = g.T.Terms.contents c.make.new.self in
    let s = c.args.shape.now in
    let p = shape_at before s in
    let T = name_at before c.args.name in
    let named = c.in_ok-recursor.ensures in
    let head = c.in_ok-head.ensures in
    let made = c.in_ok-made.ensures.ok in
    let levels = c.requires.front_is.levels_are in
    let H = const (rec_name T) (map param (rec_params p)) in
    let levels_is = named.keeps.lists.same c.args.front.now.levels levels.known ∙ levels.is in
    let head_is : tree_at second c.in_ok-head.head ≡ H =
    head.ok.is ∙ ap (λ (n : Name). const n (list_at first c.args.front.now.levels)) named.ok.is ∙ ap (const (rec_name T)) levels_is in
    record {
      known = made.known;
      is =
          made.is
          ∙ ap (λ (q : plain.Shape). apply (tree_at second c.in_ok-head.head) (front q)) (shape-steady before second (Extends-trans before first second named.keeps head.keeps) s c.requires.shape_in)
          ∙ ap (λ (t : Tree). apply t (front p)) head_is;
    }
