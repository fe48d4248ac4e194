use Rattle.std.proofs.Common.{subst}
use Rattle.lk_store.specs.Store.{contents_of}
use Rattle.lk_constructor.proofs.Giving.{entry_there}
use Rattle.lk_derive_iota.specs.Redexes.{IsShape}
use Rattle.lk_derive_iota.proofs.FoundRules.{no_rules, recursor_is}
use Rattle.lk_derive_iota.proofs.redexes.shape_of.Goals as goal

pub returns-in-Some : goal.returns-in-Some
returns-in-Some g c p r h kind =
    let basis = (g.L.Looks.sight (g.L.Terms.rest c.args.looks.now)).basis in
    let l = (g.L.Scope.Lends.lent c.scope.result.now) in
    let there = entry_there basis l c.args.entry p c.scope.ensures.is h in
    let rules = c.in-Some.field-0-1.now in
    subst (λ z. IsShape z c.shape_by.result) (recursor_is p.kind r _ (c.in-Some.ensures.value p there) kind) (c.shape_by.ensures (contents_of l.tables) rules)

pub returns-in-None : goal.returns-in-None
returns-in-None g c p r h kind =
    let basis = (g.L.Looks.sight (g.L.Terms.rest c.args.looks.now)).basis in
    let l = (g.L.Scope.Lends.lent c.scope.result.now) in
    absurd (no_rules p.kind r (c.in-None.ensures.value p (entry_there basis l c.args.entry p c.scope.ensures.is h)) kind)
