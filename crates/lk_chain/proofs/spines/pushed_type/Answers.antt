use Rattle.std.proofs.Common.{rules, ◌≡◌, ◌∷◌, ◌∙◌}
use Rattle.lk_store.proofs.Extending.{Extends-trans}
use Rattle.lk_chain.proofs.Arguments.{IsNextPi, given_start, given_on, given_ends}
use Rattle.lk_chain.proofs.spines.pushed_type.Goals as goal

pub arguments-init : goal.arguments-init
arguments-init g c = record {
  keeps = search rules;
  stays = search rules;
  given = given_start (search rules) (search rules) c.requires.ty_in;
}

pub arguments-preserved : goal.arguments-preserved
arguments-preserved g c =
    let inv = c.arguments.invariant in
    let contents = g.L.Terms.contents in
    let taken : c.arguments.left.now ≡ c.in-Some.argument.now ∷ c.in-Some.others.now =
    search rules in
    let next : IsNextPi (contents c.arguments.looks) (contents c.put.new.terms)
    c.arguments.values.items c.arguments.inside
    c.in-Some-pi_of.domain c.in-Some-pi_of.body c.in_ok-put-in-Some-pi_of.field-0 = record {
      is_pi = c.in-Some-pi_of.ensures;
      grows = c.put.ensures.keeps;
      domain_made = rw c.deref-in-Some-pi_of.ensures.value at c.in_ok-put-in-Some-pi_of.ensures.ok;
    } in
    record {
      keeps = Extends-trans _ _ _ inv.keeps c.put.ensures.keeps;
      stays = c.put.ensures.rest ∙ inv.stays;
      given = given_on c.requires.arguments_in inv.keeps inv.given next taken
          c.in_ok-push-in-Some-pi_of.ensures.items c.in_ok-push-in-Some-pi_of-2.ensures.items;
    }

pub returns-in-None : goal.returns-in-None
returns-in-None g c =
    let inv = c.arguments.invariant in
    record {
      keeps = Extends-trans _ _ _ inv.keeps c.end_pis.ensures.keeps;
      stays = c.end_pis.ensures.stays ∙ inv.stays;
      ok = given_ends (g.L.Terms.contents c.end_pis.new.looks) c.end_pis.result
          c.requires.arguments_in inv.keeps inv.given
          (rw (c.deref.ensures.value, c.deref-in-None.ensures.value) at c.end_pis.ensures.ok);
    }

pub returns : goal.returns
returns g c =
    let inv = c.arguments.invariant in
    record {
      keeps = Extends-trans _ _ _ inv.keeps c.end_pis-2.ensures.keeps;
      stays = c.end_pis-2.ensures.stays ∙ inv.stays;
      ok = given_ends (g.L.Terms.contents c.end_pis-2.new.looks) c.end_pis-2.result
          c.requires.arguments_in inv.keeps inv.given
          (rw (c.deref-2.ensures.value, c.deref-3.ensures.value) at c.end_pis-2.ensures.ok);
    }
