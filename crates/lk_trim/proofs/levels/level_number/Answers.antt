use Rattle.std.proofs.Common.{sym, ◌∙◌}
use Rattle.lk_trim.proofs.Numbered.{level_numbered}
use Rattle.lk_trim.proofs.levels.level_number.Goals as goal

pub returns : goal.returns
returns g c =
    c.place_from_one.ensures ∙ level_numbered (g.T.Terms.contents c.args.store.now) c.args.numbers.now c.requires.numbers c.args.level c.requires.level_in (sym c.is_zero.ensures ∙ c.if-is_zero.false)
