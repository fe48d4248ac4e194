use Rattle.std.proofs.Common.{◌+◌, None, drop, ap, ◌∙◌, rules}
use Rattle.lk_questions.specs.Query.{core}
use Rattle.lk_questions.specs.Erased.{a_tree, asks, gives, with_tree}
use Rattle.lk_store.specs.Contents.{tree_at}
use Rattle.lk_quot.proofs.Elements.{applied}
use Rattle.lk_quot.proofs.core_form.at_element.Goals as goal

pub returns : goal.returns
returns g c =
    let sight = g.L.Looks.sight in
    let before = g.L.Terms.contents c.args.looks.now in
    let middle = g.L.Terms.contents c.make.new.self in
    let after = g.L.Terms.contents c.apply.new.terms in
    let u = c.args.redex.now in
    record {
      keeps = search rules;
      stays = search rules;
      known = search rules;
      steps = ap (λ r. asks (sight r).last (core (tree_at after c.in_ok-next.next))
          (with_tree (λ v. gives None (a_tree v)))) (c.apply.ensures.rest ∙ c.make.ensures.rest)
          ∙ applied before middle after u c.in_ok-front.front c.args.element c.in_ok-next.next
          c.split_at.result.1.now c.make.ensures.keeps c.requires.redex_in
          (c.split_at.ensures.back ∙ ap (drop (u.before + 1)) c.deref.ensures.value)
          c.in_ok-front.ensures.ok.is c.in_ok-next.ensures.ok.is
          (sight (g.L.Terms.rest c.args.looks.now)).last;
    }
