use Rattle.std.proofs.Common.{refl, sym, inl, ◌∙◌}
use Rattle.lk_store.specs.Contents.{tree_at}
use Rattle.lk_mentions.specs.Names.{names_at}
use Rattle.lk_nested.proofs.Quiet.{nested_quiet}
use Rattle.lk_nested.proofs.Walking.{tree_flat}
use Rattle.lk_nested.proofs.nested.NestedSeek.look.Goals as goal

pub returns-in-Some-clause-looked : goal.returns-in-Some-clause-looked
returns-in-Some-clause-looked g c =
    let a = c.args.self.now.asks.now in
    let s = g.A.Terms.contents a in
    inl (refl, tree_flat (g.A.Asks.standing a).place (names_at s c.args.self.now.names.now) s c.args.e c.args.walked.now.flat c.in-Some.field-0 c.requires.kept.flat c.in-Some.ensures.known c.in-Some.ensures.present)

pub returns-then-not-branch-clause-looked : goal.returns-then-not-branch-clause-looked
returns-then-not-branch-clause-looked g c =
    let a = c.args.self.now.asks.now in
    let s = g.A.Terms.contents a in
    inl (refl, nested_quiet (names_at s c.args.self.now.names.now) (g.A.Asks.standing a).place (tree_at s c.args.e) (sym c.in_ok-is_mentioning.ensures ∙ c.if-not-branch.true))
