use Rattle.std.proofs.Common.{sym, ◌∙◌}
use Rattle.lk_trim.proofs.Numbered.{level_has}
use Rattle.lk_trim.proofs.levels.has_level.Goals as goal

pub returns : goal.returns
returns g c =
    c.has.ensures ∙ level_has (g.T.Terms.contents c.args.store.now) c.args.numbers.now c.requires.numbers c.args.level c.requires.level_in (sym c.is_zero.ensures ∙ c.if-is_zero.false)
