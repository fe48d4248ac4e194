use Rattle.std.proofs.Common.{rules, ◌≡◌, ◌+◌, ◌∷◌, [], suc, length, Some, ap, ◌∙◌, arith}
use Rattle.std.proofs.lemmas.List.{length-append}
use Rattle.lk_store.specs.Contents.{tree_at}
use Rattle.lk_store.proofs.Extending.{Extends-trans}
use Rattle.lk_type.specs.Openings.{IsBinder, IsFollowing, IsClosedBy}
use Rattle.lk_type.specs.Marks.{body_at}
use Rattle.lk_type.proofs.Openings.{IsAdded, still_closed, still_opened, opened_in}
use Rattle.lk_type.proofs.Marks.{body_on}
use Rattle.lk_type.proofs.Followings.{some_then, some_both, following_next}
use Rattle.lk_type.proofs.opening.open_binders.Goals as goal

pub returns-in-None : goal.returns-in-None
returns-in-None g c = record {
  keeps = Extends-trans _ _ _ c.binders.invariant.keeps c.put.ensures.keeps;
  stays = c.put.ensures.rest ∙ c.binders.invariant.stays;
  known = search rules;
  opened = opened_in c.binders.inside c.put.result c.put.ensures.keeps c.binders.invariant.closed c.binders.invariant.opened
      (rw c.deref.ensures.value at c.put.ensures.ok);
}

pub binders-preserved : goal.binders-preserved
binders-preserved g c =
    let inv = c.binders.invariant in
    let h = c.in_ok-add_local-in-Some-parts_of.ensures in
    let contents = g.L.Terms.contents in
    let parts : IsBinder (contents c.binders.looks) c.args.binders c.binders.inside
    (c.in-Some-parts_of.domain, c.in-Some-parts_of.body) = search rules in
    let count : c.in_ok-count-in-Some-parts_of.count ≡ suc c.binders.count = search rules in
    let here : IsFollowing (contents c.binders.looks) c.binders.locals.items c.binders.inside (c.in-Some.number, c.in-Some.top) = rw c.in-Some.is at inv.following in
    let few : IsClosedBy (contents c.args.looks.now) c.args.locals.now.items c.args.body = rw c.in-Some.is at inv.few in
    let added : IsAdded c.args.binders (contents c.binders.looks) (contents c.add_local.new.looks) c.binders.inside
    c.in-Some-parts_of.domain c.in-Some-parts_of.body c.in-Some.number c.in_ok-add_local-in-Some-parts_of.field-0
    c.binders.locals.items c.add_local.new.locals.items = record {
      grows = h.makes.keeps;
      is_binder = parts;
      is_number = here.number;
      made = h.makes.ok;
      pushed = h.pushed;
      closed = inv.closed;
    } in
    let at : tree_at (contents c.add_local.new.looks) c.in-Some-parts_of.body ≡ body_at c.args.binders c.in_ok-count-in-Some-parts_of.count (tree_at (contents c.args.looks.now) c.args.e) = rw count (body_on (tree_at (contents c.args.looks.now) c.args.e) c.binders.count h.makes.keeps inv.at parts) in
    let more : length c.add_local.new.locals.items ≡ length c.binders.locals.items + 1 = ap length h.pushed ∙ length-append c.binders.locals.items (c.in_ok-add_local-in-Some-parts_of.field-0 ∷ []) in
    let were = inv.many in
    let many : c.in_ok-count-in-Some-parts_of.count ≡ suc (length c.binders.locals.items) = omega (arith, count, were) in
    record {
      keeps = Extends-trans _ _ _ inv.keeps h.makes.keeps;
      stays = h.makes.stays ∙ inv.stays;
      inside_in = search rules;
      at = at;
      closed = still_closed added;
      many = omega (arith, more, many);
      following = some_both c.next_number-following.result (λ p. following_next added (tree_at (contents c.args.looks.now) c.args.e) c.in_ok-count-in-Some-parts_of.count
          c.args.marks.now c.args.all (Some c.in-Some.top) p c.requires.marks c.requires.all many at (here.among, here.reaches)) c.next_number-following.ensures.follows c.next_number-following.ensures.closed;
      few = some_then c.next_number-following.result (λ p h. few) c.next_number-following.ensures.follows;
      opened = still_opened added few inv.opened;
    }

pub returns : goal.returns
returns g c = record {
  keeps = Extends-trans _ _ _ c.binders.invariant.keeps c.put-2.ensures.keeps;
  stays = c.put-2.ensures.rest ∙ c.binders.invariant.stays;
  known = search rules;
  opened = opened_in c.binders.inside c.put-2.result c.put-2.ensures.keeps c.binders.invariant.closed c.binders.invariant.opened
      (rw c.deref-2.ensures.value at c.put-2.ensures.ok);
}
