use Rattle.std.proofs.Common.{rules, ◌≡◌, ◌++◌, ◌∷◌, [], List, map, ap, sym, ◌∙◌}
use Rattle.std.proofs.lemmas.List.Elements.{All-rest}
use Rattle.lk_tree.specs.Tree.{Tree}
use Rattle.lk_store.specs.Contents.{tree_at}
use Rattle.lk_store.proofs.Extending.{Extends-trans}
use Rattle.lk_inductive.specs.Block as plain
use Rattle.lk_inductive.specs.Recursors.{minor_type}
use Rattle.lk_block.specs.Shapes.{constructor_shape_at, type_shape_at, shape_at, IsConstructorShapeIn}
use Rattle.lk_lists.proofs.Lists.{first_has}
use Rattle.lk_recursor.proofs.Lists.{pushed_more, pushed_known}
use Rattle.lk_block.proofs.Shaping.{shape-steady, type-steady, type-known, constructor-steady, constructor-known}
use Rattle.lk_recursor.proofs.Steady.{heads-steady}
use Rattle.lk_recursor.proofs.minors.add_minors.Goals as goal

pub type_of_minor-requires-clause-heads_are : goal.type_of_minor-requires-clause-heads_are
type_of_minor-requires-clause-heads_are g c =
    heads-steady (g.T.Terms.contents c.args.terms.now) (g.T.Terms.contents c.constructors.terms) c.constructors.invariant.keeps c.args.shape.now c.args.heads.now c.requires.shape_in c.requires.heads_are

pub type_of_minor-requires-clause-type_in : goal.type_of_minor-requires-clause-type_in
type_of_minor-requires-clause-type_in g c = type-known (g.T.Terms.contents c.args.terms.now) (g.T.Terms.contents c.constructors.terms) c.constructors.invariant.keeps c.args.of.now c.requires.type_in

pub type_of_minor-requires-clause-constructor_in : goal.type_of_minor-requires-clause-constructor_in
type_of_minor-requires-clause-constructor_in g c =
    let before = g.T.Terms.contents c.args.terms.now in
    let was = c.constructors.invariant in
    constructor-known before (g.T.Terms.contents c.constructors.terms) was.keeps c.in-Some.constructor.now
    (first_has (IsConstructorShapeIn before) c.constructors.left.now c.in-Some.constructor.now c.in-Some.others.now c.in-Some.ensures.cases.0 was.left_in)

pub constructors-preserved : goal.constructors-preserved
constructors-preserved g c =
    let before = g.T.Terms.contents c.args.terms.now in
    let now = g.T.Terms.contents c.constructors.terms in
    let after = g.T.Terms.contents c.type_of_minor.new.terms in
    let was = c.constructors.invariant in
    let s = c.args.shape.now in
    let x = c.in-Some.constructor.now in
    let p = shape_at before s in
    let t = type_shape_at before c.args.of.now in
    let split = c.in-Some.ensures.cases.0 in
    let known = first_has (IsConstructorShapeIn before) c.constructors.left.now x c.in-Some.others.now split was.left_in in
    let made = c.in_ok-made.ensures in
    let F : List plain.CtorShape → List Tree = map (minor_type p t) in
    let others = F (map (constructor_shape_at before) c.in-Some.others.now) in
    let pushed : c.push.new.self.items ≡ c.constructors.found.items ++ c.in_ok-made.made ∷ [] = search rules in
    let is : tree_at after c.in_ok-made.made ≡ minor_type p t (constructor_shape_at before x) =
    made.ok.is
    ∙ ap (λ (q : plain.Shape). minor_type q (type_shape_at now c.args.of.now) (constructor_shape_at now x)) (shape-steady before now was.keeps s c.requires.shape_in)
    ∙ ap (λ (u : plain.TypeShape). minor_type p u (constructor_shape_at now x)) (type-steady before now was.keeps c.args.of.now c.requires.type_in)
    ∙ ap (minor_type p t) (constructor-steady before now was.keeps x known) in
    record {
      keeps = Extends-trans before now after was.keeps made.keeps;
      same_rest = made.rest ∙ was.same_rest;
      left_in = All-rest (IsConstructorShapeIn before) x c.in-Some.others.now c.constructors.left.now split was.left_in;
      found_in = pushed_known now after c.constructors.found.items c.push.new.self.items c.in_ok-made.made made.keeps was.found_in pushed made.ok.known;
      leads =
          pushed_more now after c.constructors.found.items c.push.new.self.items c.in_ok-made.made (F (map (constructor_shape_at before) c.constructors.left.now)) others (map (tree_at before) c.args.found.now.items ++ F t.ctors)
          made.keeps was.found_in pushed was.leads (ap (λ ys. F (map (constructor_shape_at before) ys)) split ∙ ap (λ (u : Tree). u ∷ others) (sym is));
    }
