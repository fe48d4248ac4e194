use Rattle.std.proofs.Common.{Some, sym, ap, ◌∙◌}
use Rattle.lk_store.specs.Store.{contents_of}
use Rattle.lk_replay_iota.specs.Recursors.{only_ruled}
use Rattle.lk_replay_iota.proofs.RuledForms.{only_found, only_lost, no_recursor}
use Rattle.lk_replay_iota.proofs.recursors.only_of.Goals as goal

pub returns-in-Some-only-clause-is : goal.returns-in-Some-only-clause-is
returns-in-Some-only-clause-is g c y h =
    let b = contents_of (g.L.Lends.lent c.args.library.now).tables in
    let rules = c.in-Some.rules.now in
    only_found b y.kind c.in-Some.recursor.now rules (c.in-Some.ensures.value y h) c.in-Some-only.rule.now c.in-Some-only.ensures
    ∙ ap Some (sym (c.with_one.ensures.is b rules))

pub returns-in-None-only-clause-is : goal.returns-in-None-only-clause-is
returns-in-None-only-clause-is g c y h =
    let b = contents_of (g.L.Lends.lent c.args.library.now).tables in
    only_lost b y.kind c.in-Some.recursor.now c.in-Some.rules.now (c.in-Some.ensures.value y h) c.in-None-only.ensures

pub returns-in-None-clause-is : goal.returns-in-None-clause-is
returns-in-None-clause-is g c y h = no_recursor only_ruled y.kind (c.in-None.ensures.value y h)
