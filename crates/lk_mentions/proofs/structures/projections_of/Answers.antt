use Rattle.std.proofs.Common.{rules, ◌≡◌, ◌<◌, ◌++◌, ◌∷◌, [], length, refl, ap, ◌∙◌}
use Rattle.std.proofs.lemmas.List.Elements.{All-push}
use Rattle.lk_tree.specs.Tree.{proj}
use Rattle.lk_store.specs.Contents.{name_at, tree_at}
use Rattle.lk_store.proofs.Extending.{Extends-trans}
use Rattle.lk_subst.specs.Numbers.{trees-known}
use Rattle.lk_mentions.proofs.Projecting.{projected}
use Rattle.lk_mentions.proofs.structures.projections_of.Goals as goal

pub loop-j-preserved : goal.loop-j-preserved
loop-j-preserved g c =
    let before = g.T.Terms.contents c.args.terms.now in
    let now = g.T.Terms.contents c.loop-j.terms in
    let after = g.T.Terms.contents c.make.new.self in
    let was = c.loop-j.invariant in
    let x = c.in_ok-projection.ensures.keeps in
    let made = c.in_ok-projection.ensures.ok in
    let items = c.loop-j.found.items in
    let e = c.in_ok-projection.projection in
    let pushed : c.push.new.self.items ≡ items ++ e ∷ [] = search rules in
    let J = name_at before c.args.inductive in
    let m = tree_at before c.args.m in
    let is : tree_at after e ≡ proj J c.loop-j.j m =
    made.is ∙ ap (λ n. proj n c.loop-j.j (tree_at now c.args.m)) (was.keeps.names.same c.args.inductive c.requires.inductive_in) ∙ ap (proj J c.loop-j.j) (was.keeps.trees.same c.args.m c.requires.m_in) in
    rw pushed (record {
      keeps = Extends-trans before now after was.keeps x;
      same_rest = c.in_ok-projection.ensures.rest ∙ was.same_rest;
      known = All-push (λ k. k < length after.trees) items e (trees-known now after items x was.known) made.known;
      are = projected x J m items e c.loop-j.j _ refl was.known was.are is;
    })
