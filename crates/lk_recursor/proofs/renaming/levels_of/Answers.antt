use Rattle.std.proofs.Common.{◌<◌, ◌∷◌, ◌++◌, [], length, ap, ◌∙◌}
use Rattle.std.proofs.lemmas.List.Elements.{All-same, All-push}
use Rattle.lk_tree.specs.Tree.{param, zero_level}
use Rattle.lk_store.proofs.Extending.{Extends-trans}
use Rattle.lk_subst.specs.Numbers.{values-known}
use Rattle.lk_lists.proofs.Lists.{rest_have, first_has}
use Rattle.lk_recursor.proofs.Compared.{levels_more}
use Rattle.lk_recursor.proofs.renaming.levels_of.Goals as goal

pub names-preserved : goal.names-preserved
names-preserved g c =
    let before = g.T.Terms.contents c.args.terms.now in
    let now = g.T.Terms.contents c.names.terms in
    let after = g.T.Terms.contents c.make_level.new.self in
    let inv = c.names.invariant in
    let split = c.in-Some.ensures.cases.0 in
    let made = c.in_ok-level.ensures in
    let pushed = c.in_ok-push.ensures.items in
    let named = first_has (λ n. n < length before.names) c.names.rest.now c.in-Some.name.now c.in-Some.more.now split inv.rest_in in
    record {
      keeps = Extends-trans before now after inv.keeps made.keeps;
      same_rest = made.rest ∙ inv.same_rest;
      rest_in = rest_have (λ n. n < length before.names) c.names.rest.now c.in-Some.name.now c.in-Some.more.now split inv.rest_in;
      levels_in = All-same (λ l. l < length after.levels) c.push.new.self.items (c.names.levels.items ++ c.in_ok-level.level ∷ []) pushed
          (All-push (λ l. l < length after.levels) c.names.levels.items c.in_ok-level.level (values-known zero_level now.levels after.levels c.names.levels.items made.keeps.levels inv.levels_in) made.ok.known);
      so_far = levels_more before now after c.names.levels.items c.push.new.self.items c.in_ok-level.level c.in-Some.name.now c.names.rest.now c.in-Some.more.now made.keeps inv.levels_in pushed split
          (made.ok.is ∙ ap param (inv.keeps.names.same c.in-Some.name.now named)) ∙ inv.so_far;
    }
