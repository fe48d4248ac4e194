use Rattle.std.proofs.Common.{sym, ◌∙◌}
use Rattle.lk_derive.proofs.Noted.{placed_at}
use Rattle.lk_derive.proofs.numbering.number_of.Goals as goal

pub returns-in-Some : goal.returns-in-Some
returns-in-Some g c = (
  sym c.is_of_one.ensures ∙ c.if-is_of_one.false,
  placed_at (g.T.Terms.contents c.args.terms.now) c.args.notes.now c.args.claim c.in-Some.place c.requires.notes (sym c.in-Some.ensures),
)
