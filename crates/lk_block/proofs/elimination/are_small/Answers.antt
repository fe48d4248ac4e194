use Rattle.std.proofs.Common.{Bool, true, false, map, refl, ap, ◌∙◌}
use Rattle.std.specs.Prelude.{if◌then◌else◌}
use Rattle.std.proofs.lemmas.Result.{err_from_is_err_and}
use Rattle.lk_questions.specs.Program.{done}
use Rattle.lk_inductive.specs.BlockSteps.{small_steps}
use Rattle.lk_store.specs.Contents.{tree_at}
use Rattle.lk_store.proofs.Extending.{Extends-trans}
use Rattle.lk_subst.specs.Numbers.{trees-steady}
use Rattle.lk_block.specs.Shapes.{field_at, IsFieldIn}
use Rattle.lk_block.specs.Smalls.{small_form}
use Rattle.lk_lists.proofs.Lists.{rest_have, first_has, none_left}
use Rattle.lk_declaration.proofs.Leading.{leads_on, leads_stop, leads_end}
use Rattle.lk_block.proofs.Smallness.{small_split}
use Rattle.lk_block.proofs.elimination.are_small.Goals as goal

pub returns-in_err-small-clause-outcome : goal.returns-in_err-small-clause-outcome
returns-in_err-small-clause-outcome g c =
    let before = g.A.Terms.contents c.args.asks.now in
    let now = g.A.Terms.contents c.fields.asks in
    let is = map (tree_at before) c.args.indices.now in
    let is' = map (tree_at now) c.args.indices.now in
    let first = c.in-Some.field.now in
    let more = c.in-Some.more.now in
    let was = c.fields.invariant in
    let known = first_has (IsFieldIn before) c.fields.rest.now first more c.in-Some.ensures.cases.0 was.rest_in in
    let p = err_from_is_err_and c.from_residual.result c.from_residual.ensures.1 in
    rw (p.1, p.2) (leads_stop (g.A.Asks.standing c.args.asks.now) (g.A.Asks.standing c.fields.asks) was.same_standing
    (small_steps is (map (field_at before) c.args.fields.now)) (g.A.Asks.left c.args.asks.now) (small_steps is (map (field_at before) c.fields.rest.now)) (g.A.Asks.left c.fields.asks) was.leads
    (small_form is' (tree_at now first.variable)) (λ (small : Bool). if small then small_steps is (map (field_at before) more) else done false)
    (small_split is is' (map (field_at before) c.fields.rest.now) (field_at before first) (map (field_at before) more) (tree_at now first.variable) (ap (map (field_at before)) c.in-Some.ensures.cases.0)
    (trees-steady before now c.args.indices.now was.keeps c.requires.indices_in) (was.keeps.trees.same first.variable known.variable_in))
    c.in_err-small.field-0.0 c.in_err-small.ensures.outcome)

pub returns-then-not-small-clause-outcome : goal.returns-then-not-small-clause-outcome
returns-then-not-small-clause-outcome g c =
    let before = g.A.Terms.contents c.args.asks.now in
    let now = g.A.Terms.contents c.fields.asks in
    let is = map (tree_at before) c.args.indices.now in
    let is' = map (tree_at now) c.args.indices.now in
    let first = c.in-Some.field.now in
    let more = c.in-Some.more.now in
    let was = c.fields.invariant in
    let known = first_has (IsFieldIn before) c.fields.rest.now first more c.in-Some.ensures.cases.0 was.rest_in in
    leads_end (g.A.Asks.standing c.args.asks.now) (small_steps is (map (field_at before) c.args.fields.now)) (g.A.Asks.left c.args.asks.now) (done false) (g.A.Asks.left c.is_small.new.asks) false
    (leads_on (g.A.Asks.standing c.args.asks.now) (g.A.Asks.standing c.fields.asks) was.same_standing
    (small_steps is (map (field_at before) c.args.fields.now)) (g.A.Asks.left c.args.asks.now) (small_steps is (map (field_at before) c.fields.rest.now)) (g.A.Asks.left c.fields.asks) was.leads
    (small_form is' (tree_at now first.variable)) (λ (small : Bool). if small then small_steps is (map (field_at before) more) else done false)
    (small_split is is' (map (field_at before) c.fields.rest.now) (field_at before first) (map (field_at before) more) (tree_at now first.variable) (ap (map (field_at before)) c.in-Some.ensures.cases.0)
    (trees-steady before now c.args.indices.now was.keeps c.requires.indices_in) (was.keeps.trees.same first.variable known.variable_in))
    c.in_ok-small.small (g.A.Asks.left c.is_small.new.asks) (done false) c.in_ok-small.ensures.outcome (ap (λ (small : Bool). if small then small_steps is (map (field_at before) more) else done false) c.if-not-small.true)) refl

pub fields-preserved : goal.fields-preserved
fields-preserved g c =
    let before = g.A.Terms.contents c.args.asks.now in
    let now = g.A.Terms.contents c.fields.asks in
    let after = g.A.Terms.contents c.is_small.new.asks in
    let is = map (tree_at before) c.args.indices.now in
    let is' = map (tree_at now) c.args.indices.now in
    let first = c.in-Some.field.now in
    let more = c.in-Some.more.now in
    let was = c.fields.invariant in
    let known = first_has (IsFieldIn before) c.fields.rest.now first more c.in-Some.ensures.cases.0 was.rest_in in
    record {
      keeps = Extends-trans before now after was.keeps c.in_ok-small.ensures.keeps;
      same_standing = c.in_ok-small.ensures.stays ∙ was.same_standing;
      rest_in = rest_have (IsFieldIn before) c.fields.rest.now first more c.in-Some.ensures.cases.0 was.rest_in;
      leads = leads_on (g.A.Asks.standing c.args.asks.now) (g.A.Asks.standing c.fields.asks) was.same_standing
          (small_steps is (map (field_at before) c.args.fields.now)) (g.A.Asks.left c.args.asks.now) (small_steps is (map (field_at before) c.fields.rest.now)) (g.A.Asks.left c.fields.asks) was.leads
          (small_form is' (tree_at now first.variable)) (λ (small : Bool). if small then small_steps is (map (field_at before) more) else done false)
          (small_split is is' (map (field_at before) c.fields.rest.now) (field_at before first) (map (field_at before) more) (tree_at now first.variable) (ap (map (field_at before)) c.in-Some.ensures.cases.0)
          (trees-steady before now c.args.indices.now was.keeps c.requires.indices_in) (was.keeps.trees.same first.variable known.variable_in))
          c.in_ok-small.small (g.A.Asks.left c.is_small.new.asks) (small_steps is (map (field_at before) more)) c.in_ok-small.ensures.outcome (ap (λ (small : Bool). if small then small_steps is (map (field_at before) more) else done false) c.if-not-small.false);
    }

pub returns-clause-outcome : goal.returns-clause-outcome
returns-clause-outcome g c =
    let before = g.A.Terms.contents c.args.asks.now in
    let is = map (tree_at before) c.args.indices.now in
    leads_end (g.A.Asks.standing c.args.asks.now) (small_steps is (map (field_at before) c.args.fields.now)) (g.A.Asks.left c.args.asks.now) (small_steps is (map (field_at before) c.fields.rest.now)) (g.A.Asks.left c.fields.asks) true
    c.fields.invariant.leads (ap (small_steps is) (none_left (field_at before) c.fields.rest.now c.in_default.ensures.cases))
