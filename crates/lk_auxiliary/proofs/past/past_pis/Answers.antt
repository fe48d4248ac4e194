use Rattle.std.proofs.Common.{◌<◌, length, map, sym, ap, ◌∙◌}
use Rattle.lk_inductive.specs.Nested.{past_pis}
use Rattle.lk_store.specs.Contents.{tree_at}
use Rattle.lk_store.proofs.Extending.{Extends-trans}
use Rattle.lk_lists.proofs.Lists.{rest_have, first_has}
use Rattle.lk_auxiliary.specs.Past.{past_pi}
use Rattle.lk_auxiliary.proofs.Pasts.{past_next}
use Rattle.lk_auxiliary.proofs.past.past_pis.Goals as goal

pub values-preserved : goal.values-preserved
values-preserved g c =
    let before = g.T.Terms.contents c.args.terms.now in
    let now = g.T.Terms.contents c.values.terms in
    let after = g.T.Terms.contents c.past_pi.new.terms in
    let was = c.values.invariant in
    let value = c.in-Some.value.now in
    let more = c.in-Some.more.now in
    let split = c.in-Some.ensures.cases.0 in
    let known = first_has (λ x. x < length before.trees) c.values.rest.now value more split was.rest_in in
    record {
      keeps = Extends-trans before now after was.keeps c.in_ok-at.ensures.keeps;
      same_rest = c.in_ok-at.ensures.rest ∙ was.same_rest;
      rest_in = rest_have (λ x. x < length before.trees) c.values.rest.now value more split was.rest_in;
      at_in = c.in_ok-at.ensures.known;
      leads = was.leads
          ∙ ap (λ x. past_pis (map (tree_at before) x) (tree_at now c.values.at)) split
          ∙ past_next (tree_at before value) (map (tree_at before) more) (tree_at now c.values.at) (tree_at after c.in_ok-at.at)
          (ap (λ x. past_pi x (tree_at now c.values.at)) (sym (was.keeps.trees.same value known)) ∙ c.in_ok-at.ensures.past);
    }
