use Rattle.std.proofs.Common.{rules, ◌∙◌}
use Rattle.lk_store.proofs.Extending.{Extends-trans}
use Rattle.lk_chain.proofs.Pushing.{IsMet, pushing_start, pushing_on, pushing_ends, met_grows}
use Rattle.lk_chain.proofs.lets.pushed_lets.Goals as goal

pub lets-init : goal.lets-init
lets-init g c = record {
  keeps = search rules;
  stays = search rules;
  pushing = pushing_start (search rules) (search rules) c.requires.e_in;
}

pub lets-preserved : goal.lets-preserved
lets-preserved g c =
    let inv = c.lets.invariant in
    let contents = g.L.Terms.contents in
    let met : IsMet (contents c.lets.looks) (contents c.put.new.terms) (contents c.put-in-Some.new.terms) (contents c.make.new.self)
    c.lets.values.items c.lets.inside c.in-Some.ty c.in-Some.value c.in-Some.body c.in_ok-ty.ty c.in_ok-value.value c.in_ok-make.field-0 = record {
      is_let = c.in-Some.ensures;
      grows_one = c.put.ensures.keeps;
      made_ty = rw c.deref.ensures.value at c.in_ok-ty.ensures.ok;
      grows_two = c.put-in-Some.ensures.keeps;
      made_value = rw c.deref-in-Some.ensures.value at c.in_ok-value.ensures.ok;
      grows = c.make.ensures.keeps;
      made = c.in_ok-make.ensures.ok;
    } in
    record {
      keeps = Extends-trans _ _ _ inv.keeps (met_grows met);
      stays = c.make.ensures.rest ∙ (c.put-in-Some.ensures.rest ∙ (c.put.ensures.rest ∙ inv.stays));
      pushing = pushing_on c.requires.closed inv.pushing met c.in_ok-push.ensures.items c.in_ok-push-2.ensures.items;
    }

pub returns : goal.returns
returns g c =
    let inv = c.lets.invariant in
    record {
      keeps = Extends-trans _ _ _ inv.keeps (Extends-trans _ _ _ c.put-2.ensures.keeps c.all_lets.ensures.keeps);
      stays = c.all_lets.ensures.stays ∙ (c.put-2.ensures.rest ∙ inv.stays);
      known = search rules;
      alike = pushing_ends (g.L.Terms.contents c.all_lets.new.looks) c.all_lets.result c.requires.closed inv.pushing c.put-2.ensures.keeps
          (rw c.deref-2.ensures.value at c.in_ok-end.ensures.ok) (rw c.deref-3.ensures.value at c.all_lets.ensures.ok);
    }
