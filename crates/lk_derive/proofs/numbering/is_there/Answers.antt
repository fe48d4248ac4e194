use Rattle.std.proofs.Common.{sym, ◌∙◌}
use Rattle.lk_derive.proofs.Noted.{some_there}
use Rattle.lk_derive.proofs.numbering.is_there.Goals as goal

pub returns-else-is_of_one : goal.returns-else-is_of_one
returns-else-is_of_one g c = λ h.
    some_there (g.T.Terms.contents c.args.terms.now) c.args.notes.now c.args.claim c.place_of.result c.requires.notes c.place_of.ensures (sym c.is_some.ensures ∙ h)
