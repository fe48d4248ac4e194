use Rattle.std.proofs.Common.{Some, None, sym, subst, arith}
use Rattle.lk_store.specs.Contents.{name_at}
use Rattle.lk_env.specs.Units.{IsUnitIn}
use Rattle.lk_env.specs.Scopes.{IsAlone, AnswersAmong}
use Rattle.lk_env.proofs.Scoped.{alone_first, alone_later, none_found, rest_of, first_of}
use Rattle.lk_env.proofs.scope.named_among.Goals as goal

pub units-init : goal.units-init
units-init g c = record { units_in = c.requires.units_in; alone = c.requires.alone; fits = c.requires.fits; leads = λ d over known o h. h; rest_known = λ d known. known }

pub alone_named-requires-clause-alone : goal.alone_named-requires-clause-alone
alone_named-requires-clause-alone g c = first_of IsAlone c.units.rest.now c.in-Some.unit.now c.in-Some.more.now c.in-Some.ensures.cases.0 c.units.invariant.alone

pub alone_named-requires-clause-unit_in : goal.alone_named-requires-clause-unit_in
alone_named-requires-clause-unit_in g c = first_of (IsUnitIn (g.T.Terms.contents c.args.terms.now)) c.units.rest.now c.in-Some.unit.now c.in-Some.more.now c.in-Some.ensures.cases.0 c.units.invariant.units_in

pub returns-in-Some-alone_named-clause-answer : goal.returns-in-Some-alone_named-clause-answer
returns-in-Some-alone_named-clause-answer g c d over known =
    let x = name_at (g.T.Terms.contents c.args.terms.now) c.args.name in
    let u = c.in-Some.unit.now in
    let more = c.in-Some.more.now in
    let e = c.in-Some-alone_named.entry in
    let split = c.in-Some.ensures.cases.0 in
    let unit_in = first_of (IsUnitIn d) c.units.rest.now u more split (c.units.invariant.rest_known d known) in
    c.units.invariant.leads d over known (Some e)
    (subst (λ us. AnswersAmong d c.units.number us x (Some e)) (sym split) (alone_first d x u more c.units.number e c.in-Some-alone_named.ensures.unit.0 (c.in-Some-alone_named.ensures.answer d over unit_in)))

pub units-preserved : goal.units-preserved
units-preserved g c =
    let now = g.T.Terms.contents c.args.terms.now in
    let x = name_at now c.args.name in
    let u = c.in-Some.unit.now in
    let more = c.in-Some.more.now in
    let split = c.in-Some.ensures.cases.0 in
    record {
      units_in = rest_of (IsUnitIn now) c.units.rest.now u more split c.units.invariant.units_in;
      alone = rest_of IsAlone c.units.rest.now u more split c.units.invariant.alone;
      fits = omega (arith, c.units.invariant.fits, c.in-Some.ensures.cases.1);
      rest_known = λ d known. rest_of (IsUnitIn d) c.units.rest.now u more split (c.units.invariant.rest_known d known);
      leads = λ d over known o h.
          c.units.invariant.leads d over known o
          (subst (λ us. AnswersAmong d c.units.number us x o) (sym split)
          (alone_later d x u more c.units.number o (c.in_default-alone_named.ensures.answer d over (first_of (IsUnitIn d) c.units.rest.now u more split (c.units.invariant.rest_known d known))) h));
    }

pub returns-clause-answer : goal.returns-clause-answer
returns-clause-answer g c d over known =
    let x = name_at (g.T.Terms.contents c.args.terms.now) c.args.name in
    c.units.invariant.leads d over known None (none_found d x c.units.rest.now c.in_default.ensures.cases)
