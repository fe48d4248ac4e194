use Rattle.std.proofs.Common.{Ok, true, ap, ◌∙◌}
use Rattle.lk_tree.specs.Tree.{zero_level, succ_level}
use Rattle.lk_tree.specs.LevelTest.{level_test}
use Rattle.lk_questions.specs.Settled.{settle}
use Rattle.lk_questions.specs.Levels.{tested}
use Rattle.lk_lit.proofs.Levels.{one_is_one}
use Rattle.lk_lit.proofs.Settling.{settles_now}
use Rattle.lk_lit.proofs.shapes.is_one.Goals as goal

pub returns-then-is_spelled_one : goal.returns-then-is_spelled_one
returns-then-is_spelled_one g c =
    let s = g.L.Looks.sight (g.L.Terms.rest c.args.looks.now) in
    let one = succ_level zero_level in
    settles_now c.args.looks.now (Ok true)
    (ap (λ o. settle s.basis.place s.last (tested o))
    (ap (λ l. level_test l one) (c.is_spelled_one.ensures c.if-is_spelled_one.true) ∙ one_is_one))
