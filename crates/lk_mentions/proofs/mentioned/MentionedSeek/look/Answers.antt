use Rattle.std.proofs.Common.{refl, inl}
use Rattle.lk_mentions.proofs.Looked.{tree_met}
use Rattle.lk_mentions.proofs.mentioned.MentionedSeek.look.Goals as goal

pub returns-in-Some-clause-looked : goal.returns-in-Some-clause-looked
returns-in-Some-clause-looked g c =
    let s = c.args.self.now in
    inl (refl, tree_met (g.T.Terms.contents s.terms.now) s.names.now c.args.e c.args.met.now c.in-Some.field-0 c.requires.kept c.in-Some.ensures.known c.in-Some.ensures.present)
