use Rattle.std.proofs.Common.{◌<◌, ◌∷◌, ◌++◌, [], length, map, refl, sym, ap, subst, ◌∙◌, rules, arith, Err}
use Rattle.std.proofs.lemmas.List.{map-append}
use Rattle.std.proofs.lemmas.List.Elements.{All-nil, All-same, All-push, All-weaker}
use Rattle.std.proofs.lemmas.Result.{err_from_is_err_and}
use Rattle.lk_declaration.specs.Courses.{Settles}
use Rattle.lk_env.specs.Units.{constructor_at, IsConstructorIn}
use Rattle.lk_inductive.specs.Nested.{at_args, ctors_at}
use Rattle.lk_store.specs.Contents.{tree_at}
use Rattle.lk_store.proofs.Extending.{Extends-trans}
use Rattle.lk_subst.specs.Numbers.{trees-steady}
use Rattle.lk_lists.proofs.Lists.{rest_have, first_has}
use Rattle.lk_auxiliary.proofs.Pasts.{refuses_too}
use Rattle.lk_auxiliary.specs.Places.{levels_of, arguments_of}
use Rattle.lk_auxiliary.proofs.Instances.{at_first, at_next, at_refused}
use Rattle.lk_auxiliary.proofs.Steady.{at_in_stays, at_steady}
use Rattle.lk_auxiliary.proofs.instance.ctors_at.Goals as goal

pub constructors-init : goal.constructors-init
constructors-init g c =
    let before = g.T.Terms.contents c.args.terms.now in
    record {
      keeps = search rules;
      same_rest = refl;
      found_in = All-same (λ x. x < length before.trees) c.new-found.result.items [] c.new-found.ensures.items (All-nil (λ x. x < length before.trees));
      rest_in = c.requires.constructors_in;
      leads = rw c.new-found.ensures.items (at_first (levels_of before c.args.at.now) (arguments_of before c.args.at.now) (map (constructor_at before) c.args.constructors.now));
    }

pub at_args-requires-clause-at_in : goal.at_args-requires-clause-at_in
at_args-requires-clause-at_in g c =
    at_in_stays (g.T.Terms.contents c.args.terms.now) (g.T.Terms.contents c.constructors.terms) c.constructors.invariant.keeps c.args.at.now c.requires.at_in

pub returns-in_err-made-clause-made : goal.returns-in_err-made-clause-made
returns-in_err-made-clause-made g c =
    let before = g.T.Terms.contents c.args.terms.now in
    let now = g.T.Terms.contents c.constructors.terms in
    let was = c.constructors.invariant in
    let stated = c.in-Some.stated.now in
    let more = c.in-Some.more.now in
    let split = c.in-Some.ensures.cases.0 in
    let at = c.args.at.now in
    let d = constructor_at before stated in
    let known = first_has (IsConstructorIn before) c.constructors.rest.now stated more split was.rest_in in
    let p = err_from_is_err_and c.from_residual.result c.from_residual.ensures.1 in
    rw (p.1, p.2) (refuses_too (at_args (levels_of before at) (arguments_of before at) d.levels d.type) (ctors_at (levels_of before at) (arguments_of before at) (map (constructor_at before) c.args.constructors.now)) c.in_err-made.field-0.0
    (λ r. at_refused (levels_of before at) (arguments_of before at) (map (constructor_at before) c.args.constructors.now) (map (tree_at now) c.constructors.found.items) (map (constructor_at before) c.constructors.rest.now) was.leads d (map (constructor_at before) more)
    r (ap (map (constructor_at before)) split))
    (subst (λ q. Settles q (tree_at now) (Err c.in_err-made.field-0.0)) (at_steady before now was.keeps at c.requires.at_in c.deref.result.now stated.levels.items stated.ty c.deref.ensures.value known.stated.levels_in known.stated.ty_in) c.in_err-made.ensures.made))

pub constructors-preserved : goal.constructors-preserved
constructors-preserved g c =
    let before = g.T.Terms.contents c.args.terms.now in
    let now = g.T.Terms.contents c.constructors.terms in
    let after = g.T.Terms.contents c.at_args.new.terms in
    let was = c.constructors.invariant in
    let stated = c.in-Some.stated.now in
    let more = c.in-Some.more.now in
    let split = c.in-Some.ensures.cases.0 in
    let at = c.args.at.now in
    let found = c.constructors.found.items in
    let made = c.in_ok-made.made in
    let pushed = c.push.new.self.items in
    let grown = c.in_ok-made.ensures.keeps in
    let known = first_has (IsConstructorIn before) c.constructors.rest.now stated more split was.rest_in in
    let kept = All-weaker (λ x. x < length now.trees) (λ x. x < length after.trees) (λ x h. let longer = grown.trees.longer in omega arith) found was.found_in in
    record {
      keeps = Extends-trans before now after was.keeps grown;
      same_rest = c.in_ok-made.ensures.rest ∙ was.same_rest;
      found_in = All-same (λ x. x < length after.trees) pushed (found ++ made ∷ []) c.in-Ok.ensures.items (All-push (λ x. x < length after.trees) found made kept c.in_ok-made.ensures.known);
      rest_in = rest_have (IsConstructorIn before) c.constructors.rest.now stated more split was.rest_in;
      leads =
          at_next (levels_of before at) (arguments_of before at) (map (constructor_at before) c.args.constructors.now) (map (tree_at now) found) (map (constructor_at before) c.constructors.rest.now) was.leads
          (constructor_at before stated) (map (constructor_at before) more) (map (tree_at after) pushed) (tree_at after made) (ap (map (constructor_at before)) split)
          (ap (map (tree_at after)) c.in-Ok.ensures.items ∙ map-append (tree_at after) found (made ∷ []) ∙ ap (λ ts. ts ++ tree_at after made ∷ []) (trees-steady now after found grown was.found_in))
          (sym (at_steady before now was.keeps at c.requires.at_in c.deref.result.now stated.levels.items stated.ty c.deref.ensures.value known.stated.levels_in known.stated.ty_in) ∙ c.in_ok-made.ensures.made);
    }
