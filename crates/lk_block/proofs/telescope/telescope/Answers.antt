use Rattle.std.proofs.Common.{◌-◌, ◌<◌, ◌∷◌, ◌++◌, [], length, map, refl, ap, ◌∙◌, rules, arith}
use Rattle.std.proofs.lemmas.List.{map-append}
use Rattle.std.proofs.lemmas.List.Elements.{All-nil, All-same, All-push, All-weaker}
use Rattle.std.proofs.lemmas.Result.{err_from_is_err_and}
use Rattle.lk_store.specs.Contents.{tree_at}
use Rattle.lk_store.proofs.Extending.{Extends-trans}
use Rattle.lk_subst.specs.Numbers.{trees-steady}
use Rattle.lk_block.proofs.Telescopes.{leads_first, leads_next, leads_halt, leads_end}
use Rattle.lk_block.proofs.telescope.telescope.Goals as goal

pub pis-init : goal.pis-init
pis-init g c =
    let before = g.A.Terms.contents c.args.asks.now in
    record {
      keeps = search rules;
      same_standing = refl;
      locals_in = All-same (λ x. x < length before.trees) c.new-locals.result.items [] c.new-locals.ensures.items (All-nil (λ x. x < length before.trees));
      rest_in = c.requires;
      leads = rw c.new-locals.ensures.items (leads_first (g.A.Asks.standing c.args.asks.now) c.args.first c.args.count (tree_at before c.args.e) (g.A.Asks.left c.args.asks.now));
    }

pub returns-in_err-opened-clause-outcome : goal.returns-in_err-opened-clause-outcome
returns-in_err-opened-clause-outcome g c =
    let before = g.A.Terms.contents c.args.asks.now in
    let now = g.A.Terms.contents c.pis.asks in
    let p = err_from_is_err_and c.from_residual.result c.from_residual.ensures.1 in
    rw (p.1, p.2) (leads_halt (g.A.Asks.standing c.args.asks.now) (g.A.Asks.standing c.pis.asks) c.pis.invariant.same_standing
    c.args.first c.args.count (tree_at before c.args.e) (g.A.Asks.left c.args.asks.now) (map (tree_at now) c.pis.locals.items) c.pis.number c.pis.left (tree_at now c.pis.rest) (g.A.Asks.left c.pis.asks) c.pis.invariant.leads
    (c.pis.left - 1) c.in_err-opened.field-0.0 (let some = c.pis-test.true in omega arith) c.in_err-opened.ensures.outcome)

pub pis-preserved : goal.pis-preserved
pis-preserved g c =
    let before = g.A.Terms.contents c.args.asks.now in
    let now = g.A.Terms.contents c.pis.asks in
    let after = g.A.Terms.contents c.next_local.new.asks in
    let more = c.keep.new.kept.items in
    let grown = c.in_ok-opened.ensures.keeps in
    let pushed = c.in_ok-number.ensures.kept in
    let kept = All-weaker (λ x. x < length now.trees) (λ x. x < length after.trees) (λ x h. let longer = grown.trees.longer in omega arith) c.pis.locals.items c.pis.invariant.locals_in in
    record {
      keeps = Extends-trans before now after c.pis.invariant.keeps grown;
      same_standing = c.in_ok-opened.ensures.stays ∙ c.pis.invariant.same_standing;
      locals_in = All-same (λ x. x < length after.trees) more (c.pis.locals.items ++ c.in_ok-opened.opened.0 ∷ []) pushed (All-push (λ x. x < length after.trees) c.pis.locals.items c.in_ok-opened.opened.0 kept c.in_ok-opened.ensures.known.0);
      rest_in = c.in_ok-opened.ensures.known.1;
      leads =
          leads_next (g.A.Asks.standing c.args.asks.now) (g.A.Asks.standing c.pis.asks) c.pis.invariant.same_standing
          c.args.first c.args.count (tree_at before c.args.e) (g.A.Asks.left c.args.asks.now) (map (tree_at now) c.pis.locals.items) c.pis.number c.pis.left (tree_at now c.pis.rest) (g.A.Asks.left c.pis.asks) c.pis.invariant.leads
          (map (tree_at after) more) _ (c.pis.left - 1) (tree_at after c.in_ok-opened.opened.0) (tree_at after c.in_ok-opened.opened.1) (g.A.Asks.left c.next_local.new.asks)
          (let some = c.pis-test.true in omega arith) c.in_ok-number.ensures.next
          (ap (map (tree_at after)) pushed ∙ map-append (tree_at after) c.pis.locals.items (c.in_ok-opened.opened.0 ∷ []) ∙ ap (λ ts. ts ++ tree_at after c.in_ok-opened.opened.0 ∷ []) (trees-steady now after c.pis.locals.items grown c.pis.invariant.locals_in))
          c.in_ok-opened.ensures.outcome;
    }

pub returns-clause-outcome : goal.returns-clause-outcome
returns-clause-outcome g c =
    let before = g.A.Terms.contents c.args.asks.now in
    let now = g.A.Terms.contents c.pis.asks in
    leads_end (g.A.Asks.standing c.args.asks.now) (g.A.Asks.standing c.pis.asks) c.pis.invariant.same_standing
    c.args.first c.args.count (tree_at before c.args.e) (g.A.Asks.left c.args.asks.now) (map (tree_at now) c.pis.locals.items) c.pis.number c.pis.left (tree_at now c.pis.rest) (g.A.Asks.left c.pis.asks) c.pis.invariant.leads
    (let none = c.pis-test.false in omega arith)
