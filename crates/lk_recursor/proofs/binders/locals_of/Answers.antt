use Rattle.std.proofs.Common.{rules, ◌≡◌, ◌<◌, ◌++◌, ◌∷◌, [], length, map, refl, ap, ◌∙◌}
use Rattle.std.proofs.lemmas.List.Elements.{All-rest}
use Rattle.lk_tree.specs.Tree.{local}
use Rattle.lk_store.specs.Contents.{tree_at}
use Rattle.lk_store.proofs.Extending.{Extends-trans}
use Rattle.lk_inductive.specs.Recursors.{locals_from}
use Rattle.lk_lists.proofs.Lists.{first_has}
use Rattle.lk_recursor.proofs.Lists.{pushed_more, pushed_known}
use Rattle.lk_recursor.proofs.binders.locals_of.Goals as goal

pub domains-preserved : goal.domains-preserved
domains-preserved g c =
    let before = g.T.Terms.contents c.args.terms.now in
    let now = g.T.Terms.contents c.domains.terms in
    let after = g.T.Terms.contents c.make.new.self in
    let was = c.domains.invariant in
    let x = c.in-Some.domain.now in
    let others = map (tree_at before) c.in-Some.others.now in
    let split = c.in-Some.ensures.cases.0 in
    let known = first_has (λ e. e < length before.trees) c.domains.left.now x c.in-Some.others.now split was.left_in in
    let made = c.in_ok-local.ensures.ok in
    let grown = c.in_ok-local.ensures.keeps in
    let next = c.in_ok-number.ensures in
    let pushed : c.push.new.self.items ≡ c.domains.locals.items ++ c.in_ok-local.local ∷ [] = search rules in
    let is : tree_at after c.in_ok-local.local ≡ local c.domains.number (tree_at before x) = made.is ∙ ap (local c.domains.number) (was.keeps.trees.same x known) in
    record {
      keeps = Extends-trans before now after was.keeps grown;
      same_rest = c.in_ok-local.ensures.rest ∙ was.same_rest;
      left_in = All-rest (λ e. e < length before.trees) x c.in-Some.others.now c.domains.left.now split was.left_in;
      locals_in = pushed_known now after c.domains.locals.items c.push.new.self.items c.in_ok-local.local grown was.locals_in pushed made.known;
      leads =
          pushed_more now after c.domains.locals.items c.push.new.self.items c.in_ok-local.local (locals_from c.domains.number (map (tree_at before) c.domains.left.now)) (locals_from c.in_ok-number.number others)
          (locals_from c.args.first (map (tree_at before) c.args.domains.now)) grown was.locals_in pushed was.leads
          (ap (λ ys. locals_from c.domains.number (map (tree_at before) ys)) split ∙ rw (next, is) refl);
    }
