use Rattle.std.proofs.Common.{Some, length, refl, sym, ap, ◌∙◌}
use Rattle.std.proofs.lemmas.Option.{slice_get_read, slice_get_past}
use Rattle.lk_store.specs.Store.{contents_of}
use Rattle.lk_replay_iota.specs.Recursors.{nth_ruled}
use Rattle.lk_replay_iota.proofs.RuledForms.{nth_found, nth_lost, no_recursor}
use Rattle.lk_replay_iota.proofs.recursors.nth_of.Goals as goal

pub returns-in-Some-get-clause-is : goal.returns-in-Some-get-clause-is
returns-in-Some-get-clause-is g c y h =
    let b = contents_of (g.L.Lends.lent c.args.library.now).tables in
    let rules = c.in-Some.rules.now in
    nth_found b y.kind c.in-Some.recursor.now rules (c.in-Some.ensures.value y h) c.args.place c.in-Some-get.rule.now
    (slice_get_read rules (length rules) c.args.place c.in-Some-get.rule.now refl c.in-Some-get.ensures.lookup.3.0 c.in-Some-get.ensures.lookup.1)
    ∙ ap Some (sym (c.with_one.ensures.is b rules))

pub returns-in-None-get-clause-is : goal.returns-in-None-get-clause-is
returns-in-None-get-clause-is g c y h =
    let b = contents_of (g.L.Lends.lent c.args.library.now).tables in
    nth_lost b y.kind c.in-Some.recursor.now c.in-Some.rules.now (c.in-Some.ensures.value y h) c.args.place
    (slice_get_past c.in-Some.rules.now c.args.place c.in-None-get.ensures.lookup.3)

pub returns-in-None-clause-is : goal.returns-in-None-clause-is
returns-in-None-clause-is g c y h = no_recursor (nth_ruled c.args.place) y.kind (c.in-None.ensures.value y h)
