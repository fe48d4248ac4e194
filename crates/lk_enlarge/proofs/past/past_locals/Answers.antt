use Rattle.std.proofs.Common.{◌<◌, ◌∷◌, ◌++◌, [], length, map, refl, sym, ap, ◌∙◌, rules, arith}
use Rattle.std.proofs.lemmas.List.{map-append}
use Rattle.std.proofs.lemmas.List.Elements.{All-nil, All-same, All-push, All-weaker}
use Rattle.std.proofs.lemmas.Result.{err_from_is_err_and}
use Rattle.lk_store.specs.Contents.{tree_at}
use Rattle.lk_store.proofs.Extending.{Extends-trans}
use Rattle.lk_subst.specs.Numbers.{trees-steady}
use Rattle.lk_lists.proofs.Lists.{rest_have, first_has, none_left}
use Rattle.lk_auxiliary.proofs.Pasts.{refuses_too}
use Rattle.lk_enlarge.specs.Opened.{past_local, past_locals}
use Rattle.lk_enlarge.proofs.Opening.{past_first, past_on, past_refused, past_end}
use Rattle.lk_enlarge.proofs.past.past_locals.Goals as goal

pub parameters-init : goal.parameters-init
parameters-init g c =
    let before = g.T.Terms.contents c.args.terms.now in
    record {
      keeps = search rules;
      same_rest = refl;
      left_in = c.requires.parameters_in;
      locals_in = All-same (λ x. x < length before.trees) c.new-locals.result.items [] c.new-locals.ensures.items (All-nil (λ x. x < length before.trees));
      at_in = c.requires.e_in;
      leads = rw c.new-locals.ensures.items (past_first (map (tree_at before) c.args.parameters.now) (tree_at before c.args.e));
    }

pub returns-in_err-opened-clause-past : goal.returns-in_err-opened-clause-past
returns-in_err-opened-clause-past g c =
    let before = g.T.Terms.contents c.args.terms.now in
    let now = g.T.Terms.contents c.parameters.terms in
    let was = c.parameters.invariant in
    let P = c.in-Some.parameter.now in
    let more = c.in-Some.more.now in
    let split = c.in-Some.ensures.cases.0 in
    let known = first_has (λ x. x < length before.trees) c.parameters.left.now P more split was.left_in in
    let p = err_from_is_err_and c.from_residual.result c.from_residual.ensures.1 in
    rw (p.1, p.2) (refuses_too (past_local (tree_at now P) (tree_at now c.parameters.at)) (past_locals (map (tree_at before) c.args.parameters.now) (tree_at before c.args.e)) c.in_err-opened.field-0.0
    (λ r h. past_refused (map (tree_at before) c.args.parameters.now) (tree_at before c.args.e) (map (tree_at now) c.parameters.locals.items) (map (tree_at before) c.parameters.left.now) (tree_at now c.parameters.at) was.leads
    (tree_at before P) (map (tree_at before) more) (ap (map (tree_at before)) split) r (ap (λ t. past_local t (tree_at now c.parameters.at)) (sym (was.keeps.trees.same P known)) ∙ h))
    c.in_err-opened.ensures.past)

pub parameters-preserved : goal.parameters-preserved
parameters-preserved g c =
    let before = g.T.Terms.contents c.args.terms.now in
    let now = g.T.Terms.contents c.parameters.terms in
    let after = g.T.Terms.contents c.past_local.new.terms in
    let was = c.parameters.invariant in
    let P = c.in-Some.parameter.now in
    let more = c.in-Some.more.now in
    let split = c.in-Some.ensures.cases.0 in
    let known = first_has (λ x. x < length before.trees) c.parameters.left.now P more split was.left_in in
    let grown = c.in_ok-opened.ensures.keeps in
    let opened = c.in_ok-opened.opened in
    let pushed = c.in-Ok.ensures.items in
    let kept = All-weaker (λ x. x < length now.trees) (λ x. x < length after.trees) (λ x h. let longer = grown.trees.longer in omega arith) c.parameters.locals.items was.locals_in in
    record {
      keeps = Extends-trans before now after was.keeps grown;
      same_rest = c.in_ok-opened.ensures.rest ∙ was.same_rest;
      left_in = rest_have (λ x. x < length before.trees) c.parameters.left.now P more split was.left_in;
      locals_in = All-same (λ x. x < length after.trees) c.push.new.self.items (c.parameters.locals.items ++ opened.0 ∷ []) pushed (All-push (λ x. x < length after.trees) c.parameters.locals.items opened.0 kept c.in_ok-opened.ensures.known.0);
      at_in = c.in_ok-opened.ensures.known.1;
      leads =
          past_on (map (tree_at before) c.args.parameters.now) (tree_at before c.args.e) (map (tree_at now) c.parameters.locals.items) (map (tree_at before) c.parameters.left.now) (tree_at now c.parameters.at) was.leads
          (tree_at before P) (map (tree_at before) more) (ap (map (tree_at before)) split)
          (map (tree_at after) c.push.new.self.items) (tree_at after opened.0) (tree_at after opened.1)
          (ap (map (tree_at after)) pushed ∙ map-append (tree_at after) c.parameters.locals.items (opened.0 ∷ []) ∙ ap (λ ts. ts ++ tree_at after opened.0 ∷ []) (trees-steady now after c.parameters.locals.items grown was.locals_in))
          (ap (λ t. past_local t (tree_at now c.parameters.at)) (sym (was.keeps.trees.same P known)) ∙ c.in_ok-opened.ensures.past);
    }

pub returns-clause-past : goal.returns-clause-past
returns-clause-past g c =
    let before = g.T.Terms.contents c.args.terms.now in
    let now = g.T.Terms.contents c.parameters.terms in
    past_end (map (tree_at before) c.args.parameters.now) (tree_at before c.args.e) (map (tree_at now) c.parameters.locals.items) (map (tree_at before) c.parameters.left.now) (tree_at now c.parameters.at) c.parameters.invariant.leads
    (none_left (tree_at before) c.parameters.left.now c.in_default.ensures.cases)
