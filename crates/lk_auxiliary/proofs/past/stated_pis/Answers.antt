use Rattle.std.proofs.Common.{◌-◌, ◌<◌, ◌∷◌, ◌++◌, [], length, map, refl, ap, ◌∙◌, rules, arith}
use Rattle.std.proofs.lemmas.List.{map-append}
use Rattle.std.proofs.lemmas.List.Elements.{All-nil, All-same, All-push, All-weaker}
use Rattle.std.proofs.lemmas.Result.{err_from_is_err_and}
use Rattle.lk_inductive.specs.Nested.{stated_pis}
use Rattle.lk_store.specs.Contents.{tree_at}
use Rattle.lk_store.proofs.Extending.{Extends-trans}
use Rattle.lk_subst.specs.Numbers.{trees-steady}
use Rattle.lk_auxiliary.specs.Past.{stated_pi}
use Rattle.lk_auxiliary.proofs.Pasts.{refuses_too, stated_first, stated_leads, stated_refused}
use Rattle.lk_auxiliary.proofs.past.stated_pis.Goals as goal

pub pis-init : goal.pis-init
pis-init g c =
    let before = g.T.Terms.contents c.args.terms.now in
    record {
      keeps = search rules;
      same_rest = refl;
      locals_in = All-same (λ x. x < length before.trees) c.new-locals.result.items [] c.new-locals.ensures.items (All-nil (λ x. x < length before.trees));
      rest_in = c.requires;
      leads = rw c.new-locals.ensures.items (stated_first c.args.first c.args.count (tree_at before c.args.e));
    }

pub returns-in_err-opened-clause-stated : goal.returns-in_err-opened-clause-stated
returns-in_err-opened-clause-stated g c =
    let before = g.T.Terms.contents c.args.terms.now in
    let now = g.T.Terms.contents c.pis.terms in
    let p = err_from_is_err_and c.from_residual.result c.from_residual.ensures.1 in
    rw (p.1, p.2) (refuses_too (stated_pi c.pis.number (tree_at now c.pis.rest)) (stated_pis c.args.first c.args.count (tree_at before c.args.e)) c.in_err-opened.field-0.0
    (λ r h. stated_refused c.args.first c.args.count (tree_at before c.args.e) (map (tree_at now) c.pis.locals.items) c.pis.number c.pis.left (tree_at now c.pis.rest) c.pis.invariant.leads (c.pis.left - 1) r (let some = c.pis-test.true in omega arith) h)
    c.in_err-opened.ensures.stated)

pub pis-preserved : goal.pis-preserved
pis-preserved g c =
    let before = g.T.Terms.contents c.args.terms.now in
    let now = g.T.Terms.contents c.pis.terms in
    let after = g.T.Terms.contents c.stated_pi.new.terms in
    let was = c.pis.invariant in
    let more = c.keep.new.kept.items in
    let grown = c.in_ok-opened.ensures.keeps in
    let pushed = c.in_ok-number.ensures.kept in
    let kept = All-weaker (λ x. x < length now.trees) (λ x. x < length after.trees) (λ x h. let longer = grown.trees.longer in omega arith) c.pis.locals.items was.locals_in in
    record {
      keeps = Extends-trans before now after was.keeps grown;
      same_rest = c.in_ok-opened.ensures.rest ∙ was.same_rest;
      locals_in = All-same (λ x. x < length after.trees) more (c.pis.locals.items ++ c.in_ok-opened.opened.0 ∷ []) pushed (All-push (λ x. x < length after.trees) c.pis.locals.items c.in_ok-opened.opened.0 kept c.in_ok-opened.ensures.known.0);
      rest_in = c.in_ok-opened.ensures.known.1;
      leads =
          stated_leads c.args.first c.args.count (tree_at before c.args.e) (map (tree_at now) c.pis.locals.items) c.pis.number c.pis.left (tree_at now c.pis.rest) was.leads
          (map (tree_at after) more) c.in_ok-number.number (c.pis.left - 1) (tree_at after c.in_ok-opened.opened.0) (tree_at after c.in_ok-opened.opened.1)
          (let some = c.pis-test.true in omega arith) c.in_ok-number.ensures.next
          (ap (map (tree_at after)) pushed ∙ map-append (tree_at after) c.pis.locals.items (c.in_ok-opened.opened.0 ∷ []) ∙ ap (λ ts. ts ++ tree_at after c.in_ok-opened.opened.0 ∷ []) (trees-steady now after c.pis.locals.items grown was.locals_in))
          c.in_ok-opened.ensures.stated;
    }
