use Rattle.std.proofs.Common.{refl, inl, sym, ◌∙◌}
use Rattle.lk_store.specs.Contents.{tree_at}
use Rattle.lk_fine.proofs.LookedThrough.{no_locals, tree_met}
use Rattle.lk_fine.proofs.locals.UnfitLocalSeek.look.Goals as goal

pub returns-then-local_bound-eq0-clause-looked : goal.returns-then-local_bound-eq0-clause-looked
returns-then-local_bound-eq0-clause-looked g c =
    inl (refl, no_locals (tree_at (g.T.Terms.contents c.args.self.now.terms.now) c.args.e) (sym c.local_bound.ensures ∙ c.if-local_bound-eq0.true))

pub returns-in-Some-clause-looked : goal.returns-in-Some-clause-looked
returns-in-Some-clause-looked g c =
    inl (refl, tree_met (g.T.Terms.contents c.args.self.now.terms.now) c.args.e c.args.met.now c.in-Some.field-0 c.requires.kept c.in-Some.ensures.known c.in-Some.ensures.present)
