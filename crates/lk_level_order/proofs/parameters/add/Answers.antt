use Rattle.lk_level_order.specs.declared.parameters.Parameter.{Parameter}
use Rattle.lk_store.specs.Contents.{name_at}
use Rattle.lk_level_order.specs.Parameters.{names_of}
use Rattle.lk_level_order.proofs.Gathered.{found_within, fresh_name, added, added_within}
use Rattle.lk_level_order.proofs.Ordered.{with_one, pushed_name}
use Rattle.lk_level_order.proofs.parameters.add.Goals as goal

pub returns-in-Some-clause-complete : goal.returns-in-Some-clause-complete
returns-in-Some-clause-complete g c = found_within (g.T.Terms.contents c.args.terms.now) c.args.names.now c.in-Some.field-0 c.args.name c.in-Some.ensures.known c.in-Some.ensures.present

pub returns-in_ok-push-in-None-clause-gathers : goal.returns-in_ok-push-in-None-clause-gathers
returns-in_ok-push-in-None-clause-gathers g c =
    let row : Parameter = record { name = c.args.name } in
    rw c.in_ok-push-in-None.ensures.ok
    (added (g.T.Terms.contents c.args.terms.now) c.args.names.now row c.count_names-names.ensures.apart c.requires c.in-None.ensures.absent)

pub returns-in_ok-push-in-None-clause-complete : goal.returns-in_ok-push-in-None-clause-complete
returns-in_ok-push-in-None-clause-complete g c =
    let row : Parameter = record { name = c.args.name } in
    rw c.in_ok-push-in-None.ensures.ok (added_within (g.T.Terms.contents c.args.terms.now) c.args.names.now row)

pub returns-in-Some-clause-order : goal.returns-in-Some-clause-order
returns-in-Some-clause-order g c are =
    let t = g.T.Terms.contents c.args.terms.now in
    with_one (names_of t c.args.names.now) (name_at t c.args.name) (found_within t c.args.names.now c.in-Some.field-0 c.args.name c.in-Some.ensures.known c.in-Some.ensures.present)

pub returns-in_ok-push-in-None-clause-order : goal.returns-in_ok-push-in-None-clause-order
returns-in_ok-push-in-None-clause-order g c are =
    let t = g.T.Terms.contents c.args.terms.now in
    let row : Parameter = record { name = c.args.name } in
    rw c.in_ok-push-in-None.ensures.ok
    (pushed_name t c.args.names.now row (fresh_name t c.args.names.now row c.count_names-names.ensures.apart c.requires c.in-None.ensures.absent are))
