use Rattle.std.proofs.Common.{◌≡◌, ℕ, ◌<◌, ◌≤◌, length, map, take, ap, sym, subst, ◌∙◌, arith}
use Rattle.std.specs.Prelude.{All}
use Rattle.std.proofs.lemmas.List.Elements.{All-take}
use Rattle.std.proofs.lemmas.List.{length-map, take-map}
use Rattle.lk_tree.specs.Tree.{const}
use Rattle.lk_tree.specs.Spine.{apply, args}
use Rattle.lk_store.specs.Contents.{name_at, list_at, tree_at}
use Rattle.lk_subst.specs.Numbers.{trees-known, trees-steady}
use Rattle.lk_derive_iota.proofs.candidates.at_parameters.Goals as goal

pub returns-then-from-len-clause-is : goal.returns-then-from-len-clause-is
returns-then-from-len-clause-is g c =
    let d = g.L.Terms.contents c.args.looks.now in
    let ty = tree_at d c.args.ty in
    let items = c.in_ok-arguments.arguments.items in
    let many : length (args ty) ≡ length items = sym (ap length c.in_ok-arguments.ensures.are) ∙ length-map items (tree_at d) in
    let more = c.if-from-len.true in
    let few : length (args ty) < c.args.constructor.parameters = omega arith in
    few

pub apply-requires-clause-args_in : goal.apply-requires-clause-args_in
apply-requires-clause-args_in g c =
    let d = g.L.Terms.contents c.args.looks.now in
    let f = g.L.Terms.contents c.make.new.self in
    let items = c.in_ok-arguments.arguments.items in
    let P : ℕ → Type 0 = λ e. e < length f.trees in
    All-take P c.args.constructor.parameters c.deref.result.now (subst (All P) (sym c.deref.ensures.value) (trees-known d f items c.make.ensures.keeps c.in_ok-arguments.ensures.known))

pub returns-clause-is : goal.returns-clause-is
returns-clause-is g c =
    let d = g.L.Terms.contents c.args.looks.now in
    let f = g.L.Terms.contents c.make.new.self in
    let ty = tree_at d c.args.ty in
    let p = c.args.constructor.parameters in
    let items = c.in_ok-arguments.arguments.items in
    let many : length (args ty) ≡ length items = sym (ap length c.in_ok-arguments.ensures.are) ∙ length-map items (tree_at d) in
    let less = c.if-from-len.false in
    let enough : p ≤ length (args ty) = omega arith in
    let front = const (name_at d c.args.constructor.name) (list_at d c.args.levels) in
    let values : map (tree_at f) (take p c.deref.result.now) ≡ take p (args ty) =
    ap (λ ys. map (tree_at f) (take p ys)) c.deref.ensures.value ∙ sym (take-map (tree_at f) p items) ∙ ap (take p) (trees-steady d f items c.make.ensures.keeps c.in_ok-arguments.ensures.known ∙ c.in_ok-arguments.ensures.are) in (
      record {
        known = c.in_ok-candidate.ensures.ok.known;
        is = c.in_ok-candidate.ensures.ok.is ∙ ap (λ t. apply t (map (tree_at f) (take p c.deref.result.now))) c.in_ok-front.ensures.ok.is ∙ ap (apply front) values;
      },
      enough,
    )
