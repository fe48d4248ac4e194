use Rattle.std.proofs.Common.{rules, ◌≡◌, ◌+◌, None, suc, take, drop, ap, ◌∙◌, arith}
use Rattle.lk_questions.specs.Query.{core}
use Rattle.lk_questions.specs.Erased.{a_tree, asks, gives, with_tree}
use Rattle.lk_store.specs.Contents.{list_at, tree_at}
use Rattle.lk_iota.proofs.RightSides.{rule_applied}
use Rattle.lk_iota.proofs.rule.by_rule.Goals as goal

pub returns : goal.returns
returns g c p h =
    let sight = g.L.Looks.sight (g.L.Terms.rest c.args.looks.now) in
    let before = g.L.Terms.contents c.args.looks.now in
    let after = g.L.Terms.contents c.at_levels.new.self in
    let last = g.L.Terms.contents c.apply_thrice.new.terms in
    let u = c.args.redex.now in
    let next : u.before + 1 ≡ suc u.before = omega arith in
    record {
      keeps = search rules;
      stays = search rules;
      known = search rules;
      steps = ap (λ r. asks (g.L.Looks.sight r).last (core (tree_at last c.in_ok-next.next))
          (with_tree (λ v. gives None (a_tree v))))
          (c.apply_thrice.ensures.stays ∙ c.at_levels.ensures.rest)
          ∙ rule_applied before after c.at_levels.ensures.keeps u.arguments.items
          c.requires.redex_in.arguments_in last sight.basis.place sight.last p
          (list_at before u.levels) (tree_at before c.args.value) c.in-Some.front c.in_ok-next.next
          u.shared u.before c.args.fields.now _ c.split_at.result.1.now c.requires.fields_in
          (ap (take u.shared) c.deref.ensures.value)
          (c.split_at.ensures.back ∙ ap (drop (u.before + 1)) c.deref-2.ensures.value
          ∙ ap (λ n. drop n u.arguments.items) next)
          (rw c.in-Some.is at c.in_ok-front.ensures.ok p h) c.in_ok-next.ensures.ok.is;
    }
