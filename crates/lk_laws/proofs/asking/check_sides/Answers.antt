use Rattle.std.proofs.Common.{refl, ap, ◌∙◌}
use Rattle.lk_declaration.proofs.Moves.{gives_moved}
use Rattle.lk_laws.specs.Sides.{side_tree}
use Rattle.lk_laws.specs.Steps.{sides_equal}
use Rattle.lk_laws.proofs.asking.check_sides.Goals as goal

pub returns-clause-outcome : goal.returns-clause-outcome
returns-clause-outcome g c v is =
    let k = g.A.Terms.contents c.args.asks.now in
    let first = c.in_ok-left.ensures in
    let second = c.in_ok-right.ensures in
    let a = side_tree v c.args.law.left in
    let b = side_tree v c.args.law.right in
    gives_moved (g.A.Asks.standing c.args.asks.now) (g.A.Asks.standing c.build-2.new.asks)
    (second.stays ∙ first.stays) (sides_equal a b) (sides_equal a b) refl
    (g.A.Asks.left c.args.asks.now) (g.A.Asks.left c.build-2.new.asks) (second.left ∙ first.left)
    (λ (u : Unit {0}). u) (g.A.Asks.left c.check_same.new.asks) c.check_same.result
    (c.check_same.ensures.outcome a b
    (second.keeps.trees.same c.in_ok-left.left first.ok.known ∙ first.ok.is
    ∙ ap (λ t. side_tree t c.args.law.left) is)
    (second.ok.is ∙ ap (λ t. side_tree t c.args.law.right)
    (first.keeps.trees.same c.args.value c.requires ∙ is)))
