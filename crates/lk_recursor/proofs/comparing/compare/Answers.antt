use Rattle.std.proofs.Common.{map, ap, ◌∙◌}
use Rattle.lk_questions.specs.Declarations.{checked}
use Rattle.lk_env.specs.Units.{recursor_at}
use Rattle.lk_inductive.specs.Recursors.{recursors_by}
use Rattle.lk_inductive.specs.Compare.{compare_steps}
use Rattle.lk_block.specs.Shapes.{shape_at}
use Rattle.lk_restore.specs.Originals.{restoring_at}
use Rattle.lk_recursor.specs.Fronts.{own_recursors}
use Rattle.lk_recursor.proofs.Checked.{compare-read}
use Rattle.lk_declaration.proofs.Moves.{gives_moved}
use Rattle.lk_recursor.proofs.comparing.compare.Goals as goal

pub returns-clause-outcome : goal.returns-clause-outcome
returns-clause-outcome g c =
    let before = g.A.Terms.contents c.args.asks.now in
    let between = g.A.Terms.contents c.front_between.new.asks in
    let shape = c.args.shape.now in
    let made = c.in_ok-front.ensures in
    gives_moved (g.A.Asks.standing c.args.asks.now) (g.A.Asks.standing c.front_between.new.asks) made.stays
    (compare_steps (recursors_by (restoring_at before c.args.originals.now (shape_at before shape)) (shape_at before shape)) (map (recursor_at before) c.args.stated.now)) (compare_steps (own_recursors between shape c.in_ok-front.front) (map (recursor_at between) c.args.stated.now))
    (ap (λ os. compare_steps (recursors_by (restoring_at between os (shape_at between shape)) (shape_at between shape)) (map (recursor_at between) c.args.stated.now)) made.originals
    ∙ compare-read before between made.keeps shape c.args.originals.now c.requires.shape_in c.requires.originals_are c.args.stated.now c.requires.stated_in)
    (g.A.Asks.left c.args.asks.now) (g.A.Asks.left c.front_between.new.asks) made.left (λ u. checked) (g.A.Asks.left c.compare_with.new.asks) c.compare_with.result c.compare_with.ensures.outcome
