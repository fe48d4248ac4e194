use Rattle.std.proofs.Common.{sym, rules, ◌∙◌}
use Rattle.lk_store.specs.Store.{contents_of}
use Rattle.lk_ask.proofs.Steps.{wrapped}
use Rattle.lk_engine.proofs.Constants.{by_recursor, by_quotient_unit}
use Rattle.lk_engine.proofs.steps.constant_applied.Goals as goal

pub returns-then-is_quotient : goal.returns-then-is_quotient
returns-then-is_quotient g c =
    let look = c.look.ensures in
    let b = (g.L.Looks.sight (g.L.Terms.rest c.args.looks.now)).basis in
    let h = c.in-Ok.ensures.found in
    let kind = c.is_quotient.ensures (contents_of b.library.tables) b.library.units h.entry h.is in
    wrapped c.of_quotient.ensures
    (by_quotient_unit look.contents look.stays c.args.name c.args.levels c.args.e c.in-Ok.entry h
    c.requires.head_is (sym kind ∙ c.if-is_quotient.true) c.in_ok-begin.ensures)

pub returns-in_err-begin-2 : goal.returns-in_err-begin-2
returns-in_err-begin-2 g c =
    let look = c.look.ensures in
    let b = (g.L.Looks.sight (g.L.Terms.rest c.args.looks.now)).basis in
    let h = c.in-Ok.ensures.found in
    let kind = c.is_quotient.ensures (contents_of b.library.tables) b.library.units h.entry h.is in
    let made = by_recursor look.contents look.stays c.args.name c.args.levels c.args.e c.in-Ok.entry
    h c.requires.head_is (sym kind ∙ c.if-is_quotient.false) c.begin-2.ensures in
    record { keeps = made.keeps; stays = made.stays; known = search rules; steps = search rules }

pub returns : goal.returns
returns g c =
    let look = c.look.ensures in
    let b = (g.L.Looks.sight (g.L.Terms.rest c.args.looks.now)).basis in
    let h = c.in-Ok.ensures.found in
    let kind = c.is_quotient.ensures (contents_of b.library.tables) b.library.units h.entry h.is in
    wrapped c.of_iota.ensures
    (by_recursor look.contents look.stays c.args.name c.args.levels c.args.e c.in-Ok.entry
    h c.requires.head_is (sym kind ∙ c.if-is_quotient.false) c.in_ok-begin-2.ensures)
