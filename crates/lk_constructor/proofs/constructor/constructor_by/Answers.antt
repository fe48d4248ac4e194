use Rattle.std.proofs.Common.{Some, refl}
use Rattle.lk_store.specs.Contents.{name_at}
use Rattle.lk_questions.specs.Iota.{ctor_app_by}
use Rattle.lk_constructor.specs.declared.constructor.AppliedConstructor.{AppliedConstructor}
use Rattle.lk_constructor.proofs.Giving.{entry_there, over_there}
use Rattle.lk_constructor.proofs.Applied.{constructor_found, constructor_missing, applied_in}
use Rattle.lk_constructor.proofs.constructor.constructor_by.Goals as goal

pub returns-in-Some-clause-is : goal.returns-in-Some-clause-is
returns-in-Some-clause-is g c p ks xs h =
    let basis = (g.L.Looks.sight (g.L.Terms.rest c.args.looks.now)).basis in
    let l = (g.L.Scope.Lends.lent c.scope.result.now) in
    let d = g.L.Terms.contents c.args.looks.now in
    let there = entry_there basis l c.args.entry p c.scope.ensures.is h in
    let u : AppliedConstructor = record {
      name = c.args.name;
      inductive = c.in-Some.ty.now.name;
      parameters = c.in-Some.constructor.now.parameters;
      fields = c.in-Some.constructor.now.fields;
      entry = c.args.entry;
    } in
    applied_in d l basis.library xs (Some u) (ctor_app_by (name_at d c.args.name) ks xs p p.kind)
    c.scope.ensures.is
    (constructor_found d l u c.in-Some.ty.now c.in-Some.constructor.now ks xs p
    (over_there basis l d c.scope.ensures.is c.scope.ensures.over)
    c.in-Some.ensures.known.0 there (c.in-Some.ensures.value p there) refl refl refl)

pub returns-in-None-clause-is : goal.returns-in-None-clause-is
returns-in-None-clause-is g c p ks xs h =
    let basis = (g.L.Looks.sight (g.L.Terms.rest c.args.looks.now)).basis in
    let d = g.L.Terms.contents c.args.looks.now in
    constructor_missing d basis.library (name_at d c.args.name) ks xs p p.kind
    (c.in-None.ensures.value p (entry_there basis (g.L.Scope.Lends.lent c.scope.result.now) c.args.entry p
    c.scope.ensures.is h))
