use Rattle.std.proofs.Common.{map, refl, ap, ◌∙◌}
use Rattle.std.proofs.lemmas.Result.{err_from_is_err_and}
use Rattle.lk_questions.specs.Declarations.{Yes, checked}
use Rattle.lk_inductive.specs.BlockSteps.{ctor_sorts}
use Rattle.lk_store.proofs.Extending.{Extends-trans}
use Rattle.lk_env.specs.Units.{constructor_at, type_at, IsTypeIn}
use Rattle.lk_block.specs.Sorts.{constructors_form, sorts_form}
use Rattle.lk_lists.proofs.Lists.{rest_have, first_has, none_left}
use Rattle.lk_env.proofs.Stays.{type_in_stays}
use Rattle.lk_declaration.proofs.Leading.{leads_on, leads_stop, leads_end}
use Rattle.lk_block.proofs.Sorted.{types_split, constructors_kept}
use Rattle.lk_block.proofs.sorts.check_sorts.Goals as goal

pub check_constructors-requires : goal.check_constructors-requires
check_constructors-requires g c =
    let before = g.A.Terms.contents c.args.asks.now in
    let first = c.in-Some.stated.now in
    let known = first_has (IsTypeIn before) c.types.rest.now first c.in-Some.more.now c.in-Some.ensures.cases.0 c.types.invariant.rest_in in
    rw c.deref.ensures.value (type_in_stays before (g.A.Terms.contents c.types.asks) c.types.invariant.keeps first known).constructors_in

pub returns-in_err-check_constructors-clause-outcome : goal.returns-in_err-check_constructors-clause-outcome
returns-in_err-check_constructors-clause-outcome g c =
    let before = g.A.Terms.contents c.args.asks.now in
    let now = g.A.Terms.contents c.types.asks in
    let first = c.in-Some.stated.now in
    let more = c.in-Some.more.now in
    let was = c.types.invariant in
    let known = first_has (IsTypeIn before) c.types.rest.now first more c.in-Some.ensures.cases.0 was.rest_in in
    let p = err_from_is_err_and c.from_residual.result c.from_residual.ensures.1 in
    rw (p.1, p.2) (leads_stop (g.A.Asks.standing c.args.asks.now) (g.A.Asks.standing c.types.asks) was.same_standing
    (sorts_form (map (type_at before) c.args.types.now)) (g.A.Asks.left c.args.asks.now) (sorts_form (map (type_at before) c.types.rest.now)) (g.A.Asks.left c.types.asks) was.leads
    (constructors_form (map (constructor_at now) c.deref.result.now)) (λ (y : Yes). sorts_form (map (type_at before) more))
    (types_split (map (type_at before) c.types.rest.now) (type_at before first) (map (type_at before) more) (ctor_sorts (map (constructor_at now) c.deref.result.now)) (ap (map (type_at before)) c.in-Some.ensures.cases.0)
    (ap (λ ks. ctor_sorts (map (constructor_at now) ks)) c.deref.ensures.value ∙ constructors_kept before now first.constructors.items was.keeps known.constructors_in))
    c.in_err-check_constructors.field-0.0 c.in_err-check_constructors.ensures.outcome)

pub types-preserved : goal.types-preserved
types-preserved g c =
    let before = g.A.Terms.contents c.args.asks.now in
    let now = g.A.Terms.contents c.types.asks in
    let after = g.A.Terms.contents c.check_constructors.new.asks in
    let first = c.in-Some.stated.now in
    let more = c.in-Some.more.now in
    let was = c.types.invariant in
    let known = first_has (IsTypeIn before) c.types.rest.now first more c.in-Some.ensures.cases.0 was.rest_in in
    record {
      keeps = Extends-trans before now after was.keeps c.in_ok-check_constructors.ensures.keeps;
      same_standing = c.in_ok-check_constructors.ensures.stays ∙ was.same_standing;
      rest_in = rest_have (IsTypeIn before) c.types.rest.now first more c.in-Some.ensures.cases.0 was.rest_in;
      leads = leads_on (g.A.Asks.standing c.args.asks.now) (g.A.Asks.standing c.types.asks) was.same_standing
          (sorts_form (map (type_at before) c.args.types.now)) (g.A.Asks.left c.args.asks.now) (sorts_form (map (type_at before) c.types.rest.now)) (g.A.Asks.left c.types.asks) was.leads
          (constructors_form (map (constructor_at now) c.deref.result.now)) (λ (y : Yes). sorts_form (map (type_at before) more))
          (types_split (map (type_at before) c.types.rest.now) (type_at before first) (map (type_at before) more) (ctor_sorts (map (constructor_at now) c.deref.result.now)) (ap (map (type_at before)) c.in-Some.ensures.cases.0)
          (ap (λ ks. ctor_sorts (map (constructor_at now) ks)) c.deref.ensures.value ∙ constructors_kept before now first.constructors.items was.keeps known.constructors_in))
          checked (g.A.Asks.left c.check_constructors.new.asks) (sorts_form (map (type_at before) more)) c.in_ok-check_constructors.ensures.outcome refl;
    }

pub returns-clause-outcome : goal.returns-clause-outcome
returns-clause-outcome g c =
    let before = g.A.Terms.contents c.args.asks.now in
    leads_end (g.A.Asks.standing c.args.asks.now) (sorts_form (map (type_at before) c.args.types.now)) (g.A.Asks.left c.args.asks.now) (sorts_form (map (type_at before) c.types.rest.now)) (g.A.Asks.left c.types.asks) checked
    c.types.invariant.leads (ap sorts_form (none_left (type_at before) c.types.rest.now c.in_default.ensures.cases))
