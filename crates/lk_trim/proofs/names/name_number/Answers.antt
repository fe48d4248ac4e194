use Rattle.std.proofs.Common.{sym, ◌∙◌}
use Rattle.lk_trim.proofs.Numbered.{name_numbered}
use Rattle.lk_trim.proofs.names.name_number.Goals as goal

pub returns : goal.returns
returns g c =
    c.place_from_one.ensures ∙ name_numbered (g.T.Terms.contents c.args.store.now) c.args.numbers.now c.requires.numbers c.args.name c.requires.name_in (sym c.is_anonymous.ensures ∙ c.if-is_anonymous.false)
