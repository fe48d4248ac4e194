use Rattle.std.proofs.Common.{sym, ◌∙◌}
use Rattle.lk_store.specs.Store.{contents_of}
use Rattle.lk_constructor.proofs.Giving.{entry_there, over_there}
use Rattle.lk_derive_iota.proofs.FoundRules.{rules_are, no_rules, rules_steady}
use Rattle.lk_derive_iota.proofs.rules.rules_of.Goals as goal

pub returns-in-Some-clause-value : goal.returns-in-Some-clause-value
returns-in-Some-clause-value g c p r h kind =
    let basis = (g.L.Looks.sight (g.L.Terms.rest c.args.looks.now)).basis in
    let l = (g.L.Scope.Lends.lent c.scope.result.now) in
    let d = g.L.Terms.contents c.args.looks.now in
    let rules = c.in-Some.rules.now in
    rules_are (contents_of l.tables) p.kind r c.in-Some.field-0-0.now rules
    (c.in-Some.ensures.value p (entry_there basis l c.args.entry p c.scope.ensures.is h)) kind
    ∙ sym (rules_steady (contents_of l.tables) d rules
    (over_there basis l d c.scope.ensures.is c.scope.ensures.over) c.in-Some.ensures.known.1)

pub returns-in-None-clause-value : goal.returns-in-None-clause-value
returns-in-None-clause-value g c p r h kind =
    let basis = (g.L.Looks.sight (g.L.Terms.rest c.args.looks.now)).basis in
    absurd (no_rules p.kind r (c.in-None.ensures.value p
    (entry_there basis (g.L.Scope.Lends.lent c.scope.result.now) c.args.entry p c.scope.ensures.is h)) kind)
