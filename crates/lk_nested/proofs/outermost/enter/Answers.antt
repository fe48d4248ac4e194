use Rattle.std.proofs.Common.{refl, sym, inl, ◌∙◌}
use Rattle.lk_store.specs.Contents.{tree_at}
use Rattle.lk_mentions.specs.Names.{names_at}
use Rattle.lk_nested.proofs.Quiet.{unmet_quiet}
use Rattle.lk_nested.proofs.Taking.{gathered_none}
use Rattle.lk_nested.proofs.outermost.enter.Goals as goal

pub returns-in-Some-clause-taken : goal.returns-in-Some-clause-taken
returns-in-Some-clause-taken g c =
    let s = g.A.Terms.contents c.args.asks.now in
    let w = (g.A.Asks.standing c.args.asks.now).place in
    inl (refl, λ met among. inl (refl, gathered_none w (names_at s c.args.names.now) s c.args.found.now.items c.args.walk.now.done c.args.e c.in-Some.field-0 c.requires.done c.in-Some.ensures.known c.in-Some.ensures.present met among))

pub returns-then-not-branch-clause-taken : goal.returns-then-not-branch-clause-taken
returns-then-not-branch-clause-taken g c =
    let s = g.A.Terms.contents c.args.asks.now in
    let w = (g.A.Asks.standing c.args.asks.now).place in
    inl (refl, λ met among. inl (refl, unmet_quiet (names_at s c.args.names.now) w met (tree_at s c.args.e) (sym c.in_ok-is_mentioning.ensures ∙ c.if-not-branch.true)))
