use Rattle.std.proofs.Common.{map, refl, ◌∙◌}
use Rattle.std.proofs.lemmas.Result.{err_from_is_err_and}
use Rattle.lk_questions.specs.Declarations.{Yes, checked}
use Rattle.lk_store.specs.Contents.{name_at}
use Rattle.lk_store.proofs.Extending.{Extends-trans}
use Rattle.lk_env.specs.Units.{recursor_at, IsRecursorIn}
use Rattle.lk_inductive.specs.Compare.{rec_named, compare_found, compare_steps}
use Rattle.lk_lists.proofs.Lists.{rest_have, first_has}
use Rattle.lk_env.proofs.Stays.{recursor_in_stays}
use Rattle.lk_recursor.specs.Fronts.{own_recursors}
use Rattle.lk_recursor.proofs.Compared.{shared-known}
use Rattle.lk_recursor.proofs.Checked.{recursors_step, none_stated}
use Rattle.lk_declaration.proofs.Leading.{split_bind, leads_on, leads_stop, leads_end}
use Rattle.lk_recursor.proofs.comparing.check_all.Goals as goal

pub check_recursor-requires-clause-shared_is : goal.check_recursor-requires-clause-shared_is
check_recursor-requires-clause-shared_is g c =
    shared-known (g.A.Terms.contents c.args.asks.now) (g.A.Terms.contents c.stated.asks) c.stated.invariant.keeps c.args.shared.now c.requires.shared_is

pub check_recursor-requires-clause-stated_in : goal.check_recursor-requires-clause-stated_in
check_recursor-requires-clause-stated_in g c =
    let before = g.A.Terms.contents c.args.asks.now in
    recursor_in_stays before (g.A.Terms.contents c.stated.asks) c.stated.invariant.keeps c.in-Some.recursor.now (first_has (IsRecursorIn before) c.stated.rest.now c.in-Some.recursor.now c.in-Some.more.now c.in-Some.ensures.cases.0 c.stated.invariant.rest_in)

pub returns-in_err-check_recursor-clause-outcome : goal.returns-in_err-check_recursor-clause-outcome
returns-in_err-check_recursor-clause-outcome g c =
    let before = g.A.Terms.contents c.args.asks.now in
    let now = g.A.Terms.contents c.stated.asks in
    let shape = c.args.shared.now.shape.now in
    let inv = c.stated.invariant in
    let all = own_recursors before shape c.args.shared.now.front.now in
    let whole = compare_steps all (map (recursor_at before) c.args.stated.now) in
    let rest = compare_steps all (map (recursor_at before) c.stated.rest.now) in
    let known = first_has (IsRecursorIn before) c.stated.rest.now c.in-Some.recursor.now c.in-Some.more.now c.in-Some.ensures.cases.0 inv.rest_in in
    let step = recursors_step before now inv.keeps shape c.args.shared.now.front.now c.requires.shared_is.shape_in c.requires.shared_is.front_is c.stated.rest.now c.in-Some.more.now c.in-Some.recursor.now c.in-Some.ensures.cases.0 known in
    let one = compare_found (recursor_at now c.in-Some.recursor.now) (rec_named (own_recursors now shape c.args.shared.now.front.now) (name_at now c.in-Some.recursor.now.name)) in
    let others = compare_steps all (map (recursor_at before) c.in-Some.more.now) in
    let p = err_from_is_err_and c.from_residual.result c.from_residual.ensures.1 in
    rw (p.1, p.2) (leads_stop (g.A.Asks.standing c.args.asks.now) (g.A.Asks.standing c.stated.asks) inv.same_standing
    whole (g.A.Asks.left c.args.asks.now) rest (g.A.Asks.left c.stated.asks) inv.leads one (λ (y : Yes). others) (split_bind rest one (λ (y : Yes). others) step) c.in_err-check_recursor.field-0.0 c.in_err-check_recursor.ensures.outcome)

pub stated-preserved : goal.stated-preserved
stated-preserved g c =
    let before = g.A.Terms.contents c.args.asks.now in
    let now = g.A.Terms.contents c.stated.asks in
    let shape = c.args.shared.now.shape.now in
    let inv = c.stated.invariant in
    let all = own_recursors before shape c.args.shared.now.front.now in
    let whole = compare_steps all (map (recursor_at before) c.args.stated.now) in
    let rest = compare_steps all (map (recursor_at before) c.stated.rest.now) in
    let known = first_has (IsRecursorIn before) c.stated.rest.now c.in-Some.recursor.now c.in-Some.more.now c.in-Some.ensures.cases.0 inv.rest_in in
    let step = recursors_step before now inv.keeps shape c.args.shared.now.front.now c.requires.shared_is.shape_in c.requires.shared_is.front_is c.stated.rest.now c.in-Some.more.now c.in-Some.recursor.now c.in-Some.ensures.cases.0 known in
    let one = compare_found (recursor_at now c.in-Some.recursor.now) (rec_named (own_recursors now shape c.args.shared.now.front.now) (name_at now c.in-Some.recursor.now.name)) in
    let others = compare_steps all (map (recursor_at before) c.in-Some.more.now) in
    record {
      keeps = Extends-trans before now (g.A.Terms.contents c.check_recursor.new.asks) inv.keeps c.in_ok-check_recursor.ensures.keeps;
      same_standing = c.in_ok-check_recursor.ensures.stays ∙ inv.same_standing;
      rest_in = rest_have (IsRecursorIn before) c.stated.rest.now c.in-Some.recursor.now c.in-Some.more.now c.in-Some.ensures.cases.0 inv.rest_in;
      leads = leads_on (g.A.Asks.standing c.args.asks.now) (g.A.Asks.standing c.stated.asks) inv.same_standing
          whole (g.A.Asks.left c.args.asks.now) rest (g.A.Asks.left c.stated.asks) inv.leads one (λ (y : Yes). others) (split_bind rest one (λ (y : Yes). others) step) checked (g.A.Asks.left c.check_recursor.new.asks) others c.in_ok-check_recursor.ensures.outcome refl;
    }

pub returns-clause-outcome : goal.returns-clause-outcome
returns-clause-outcome g c =
    let before = g.A.Terms.contents c.args.asks.now in
    let now = g.A.Terms.contents c.stated.asks in
    let shape = c.args.shared.now.shape.now in
    let inv = c.stated.invariant in
    let all = own_recursors before shape c.args.shared.now.front.now in
    let whole = compare_steps all (map (recursor_at before) c.args.stated.now) in
    let rest = compare_steps all (map (recursor_at before) c.stated.rest.now) in
    leads_end (g.A.Asks.standing c.args.asks.now) whole (g.A.Asks.left c.args.asks.now) rest (g.A.Asks.left c.stated.asks) checked inv.leads
    (none_stated before all c.stated.rest.now c.in_default.ensures.cases)
