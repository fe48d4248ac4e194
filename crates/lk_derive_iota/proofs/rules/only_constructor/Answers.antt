use Rattle.std.proofs.Common.{[], None, sym, subst}
use Rattle.lk_constructor.specs.Applied.{IsAppliedIf}
use Rattle.lk_derive_iota.specs.Only.{only_at}
use Rattle.lk_derive_iota.proofs.FoundRules.{only_is, none_at}
use Rattle.lk_derive_iota.proofs.rules.only_constructor.Goals as goal

pub returns-in-Some-clause-is : goal.returns-in-Some-clause-is
returns-in-Some-clause-is g c p r h kind =
    let d = g.L.Terms.contents c.args.looks.now in
    let basis = (g.L.Looks.sight (g.L.Terms.rest c.args.looks.now)).basis in
    only_is d c.rules_of.result.now r.rules (c.rules_of.ensures.value p r h kind) c.in-Some.rule
    c.in-Some.ensures
    (λ rs. IsAppliedIf d basis.library [] c.constructor_at.result (only_at basis.place rs))
    (c.constructor_at.ensures.is [] [])

pub returns-in-None-clause-is : goal.returns-in-None-clause-is
returns-in-None-clause-is g c p r h kind =
    let d = g.L.Terms.contents c.args.looks.now in
    let basis = (g.L.Looks.sight (g.L.Terms.rest c.args.looks.now)).basis in
    subst (IsAppliedIf d basis.library [] None) (sym
    (none_at d c.rules_of.result.now r.rules (c.rules_of.ensures.value p r h kind) basis.place
    c.in-None.ensures)) tt
