use Rattle.std.proofs.Common.{Ok, subst, ◌∙◌}
use Rattle.lk_store.specs.Contents.{tree_at}
use Rattle.lk_ask.specs.Gives.{Gives}
use Rattle.lk_iota.specs.Sheets.{IsKnownIotaSheet}
use Rattle.lk_iota.specs.Iotas.{iota_next}
use Rattle.lk_ask.proofs.Steps.{gives_now}
use Rattle.lk_iota.proofs.Going.{k_is, no_k_is}
use Rattle.lk_iota.proofs.start.first.Goals as goal

pub returns-then-redex : goal.returns-then-redex
returns-then-redex g c p at is =
    let sight = g.L.Looks.sight (g.L.Terms.rest c.args.looks.now) in
    let e = tree_at (g.L.Terms.contents c.args.looks.now) c.args.e in
    subst (Gives IsKnownIotaSheet iota_next g.L.Terms.contents g.L.Terms.rest g.L.Looks.sight
    c.args.looks.now c.with_k.new.looks (Ok c.with_k.result))
    (k_is sight.basis.place sight.last e p c.args.redex.now.k is.k_is c.if-redex.true)
    (c.with_k.ensures p at is)

pub returns-else-redex : goal.returns-else-redex
returns-else-redex g c p at is =
    let sight = g.L.Looks.sight (g.L.Terms.rest c.args.looks.now) in
    let d = g.L.Terms.contents c.args.looks.now in
    gives_now c.args.looks.now _ _
    (c.ask_major.ensures.known _ c.requires.redex_in.major_in c.requires.e_in)
    (c.ask_major.ensures.steps sight.basis.place d sight.basis.library sight.last p at is
    ∙ no_k_is sight.basis.place sight.last (tree_at d c.args.e) p c.args.redex.now.k is.k_is
    c.if-redex.false)
