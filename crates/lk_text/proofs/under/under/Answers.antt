use Rattle.std.proofs.Common.{sym, ◌∙◌}
use Rattle.lk_env.specs.Units.{library_of}
use Rattle.lk_text.proofs.Marked.{yes_under}
use Rattle.lk_text.proofs.under.under.Goals as goal

pub returns-then-allows_unit : goal.returns-then-allows_unit
returns-then-allows_unit c = λ p h. yes_under p (library_of c.args.library.now) c.args.unit c.args.said _ c.in-Yes.is (sym c.if-allows_unit.true ∙ c.allows_unit.ensures p h)

pub returns-else-allows_unit : goal.returns-else-allows_unit
returns-else-allows_unit c = λ p h. yes_under p (library_of c.args.library.now) c.args.unit c.args.said _ c.in-Yes.is (sym c.if-allows_unit.false ∙ c.allows_unit.ensures p h)
