use Rattle.std.proofs.Common.{sym, ◌∙◌}
use Rattle.lk_trim.proofs.Numbered.{name_has}
use Rattle.lk_trim.proofs.names.has_name.Goals as goal

pub returns : goal.returns
returns g c =
    c.has.ensures ∙ name_has (g.T.Terms.contents c.args.store.now) c.args.numbers.now c.requires.numbers c.args.name c.requires.name_in (sym c.is_anonymous.ensures ∙ c.if-is_anonymous.false)
