use Rattle.std.proofs.Common.{map, refl, ap, ◌∙◌}
use Rattle.std.proofs.lemmas.Result.{err_from_is_err_and}
use Rattle.lk_questions.specs.Declarations.{checked}
use Rattle.lk_questions.specs.Steps.{sort_of}
use Rattle.lk_tree.specs.Tree.{Level}
use Rattle.lk_store.specs.Contents.{level_at, tree_at}
use Rattle.lk_store.proofs.Extending.{Extends-trans}
use Rattle.lk_env.specs.Units.{constructor_at, IsConstructorIn}
use Rattle.lk_block.specs.Sorts.{constructors_form}
use Rattle.lk_lists.proofs.Lists.{rest_have, first_has, none_left}
use Rattle.lk_declaration.proofs.Leading.{leads_on, leads_stop, leads_end}
use Rattle.lk_block.proofs.Sorted.{constructors_split}
use Rattle.lk_block.proofs.sorts.check_constructors.Goals as goal

pub returns-in_err-sort_of-clause-outcome : goal.returns-in_err-sort_of-clause-outcome
returns-in_err-sort_of-clause-outcome g c =
    let before = g.A.Terms.contents c.args.asks.now in
    let now = g.A.Terms.contents c.constructors.asks in
    let first = c.in-Some.constructor.now in
    let more = c.in-Some.more.now in
    let was = c.constructors.invariant in
    let known = first_has (IsConstructorIn before) c.constructors.rest.now first more c.in-Some.ensures.cases.0 was.rest_in in
    let p = err_from_is_err_and c.from_residual.result c.from_residual.ensures.1 in
    rw (p.1, p.2) (leads_stop (g.A.Asks.standing c.args.asks.now) (g.A.Asks.standing c.constructors.asks) was.same_standing
    (constructors_form (map (constructor_at before) c.args.constructors.now)) (g.A.Asks.left c.args.asks.now) (constructors_form (map (constructor_at before) c.constructors.rest.now)) (g.A.Asks.left c.constructors.asks) was.leads
    (sort_of (tree_at now first.ty)) (λ (s : Level). constructors_form (map (constructor_at before) more))
    (constructors_split (map (constructor_at before) c.constructors.rest.now) (constructor_at before first) (map (constructor_at before) more) (tree_at now first.ty) (ap (map (constructor_at before)) c.in-Some.ensures.cases.0) (was.keeps.trees.same first.ty known.stated.ty_in))
    c.in_err-sort_of.field-0.0 c.in_err-sort_of.ensures.outcome)

pub constructors-preserved : goal.constructors-preserved
constructors-preserved g c =
    let before = g.A.Terms.contents c.args.asks.now in
    let now = g.A.Terms.contents c.constructors.asks in
    let after = g.A.Terms.contents c.sort_of.new.asks in
    let first = c.in-Some.constructor.now in
    let more = c.in-Some.more.now in
    let was = c.constructors.invariant in
    let known = first_has (IsConstructorIn before) c.constructors.rest.now first more c.in-Some.ensures.cases.0 was.rest_in in
    record {
      keeps = Extends-trans before now after was.keeps c.in_ok-sort_of.ensures.keeps;
      same_standing = c.in_ok-sort_of.ensures.stays ∙ was.same_standing;
      rest_in = rest_have (IsConstructorIn before) c.constructors.rest.now first more c.in-Some.ensures.cases.0 was.rest_in;
      leads = leads_on (g.A.Asks.standing c.args.asks.now) (g.A.Asks.standing c.constructors.asks) was.same_standing
          (constructors_form (map (constructor_at before) c.args.constructors.now)) (g.A.Asks.left c.args.asks.now) (constructors_form (map (constructor_at before) c.constructors.rest.now)) (g.A.Asks.left c.constructors.asks) was.leads
          (sort_of (tree_at now first.ty)) (λ (s : Level). constructors_form (map (constructor_at before) more))
          (constructors_split (map (constructor_at before) c.constructors.rest.now) (constructor_at before first) (map (constructor_at before) more) (tree_at now first.ty) (ap (map (constructor_at before)) c.in-Some.ensures.cases.0) (was.keeps.trees.same first.ty known.stated.ty_in))
          (level_at after c.in_ok-sort_of.field-0) (g.A.Asks.left c.sort_of.new.asks) (constructors_form (map (constructor_at before) more)) c.in_ok-sort_of.ensures.outcome refl;
    }

pub returns-clause-outcome : goal.returns-clause-outcome
returns-clause-outcome g c =
    let before = g.A.Terms.contents c.args.asks.now in
    leads_end (g.A.Asks.standing c.args.asks.now) (constructors_form (map (constructor_at before) c.args.constructors.now)) (g.A.Asks.left c.args.asks.now) (constructors_form (map (constructor_at before) c.constructors.rest.now)) (g.A.Asks.left c.constructors.asks) checked
    c.constructors.invariant.leads (ap constructors_form (none_left (constructor_at before) c.constructors.rest.now c.in_default.ensures.cases))
