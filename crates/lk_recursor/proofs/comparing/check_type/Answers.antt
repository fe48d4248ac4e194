use Rattle.std.proofs.Common.{ap, ◌∙◌}
use Rattle.lk_questions.specs.Declarations.{checked}
use Rattle.lk_store.specs.Contents.{tree_at}
use Rattle.lk_recursor.specs.Comparisons.{same_form, stated_of, renamed_type}
use Rattle.lk_declaration.proofs.Moves.{gives_moved}
use Rattle.lk_recursor.proofs.comparing.check_type.Goals as goal

pub returns-clause-outcome : goal.returns-clause-outcome
returns-clause-outcome g c =
    let before = g.A.Terms.contents c.args.asks.now in
    let between = g.A.Terms.contents c.type_between.new.asks in
    let pair = c.args.pair.now in
    let made = c.in_ok-made.ensures in
    gives_moved (g.A.Asks.standing c.args.asks.now) (g.A.Asks.standing c.type_between.new.asks) made.stays
    (same_form (stated_of before pair).type (renamed_type before pair)) (same_form (tree_at between pair.stated.now.ty) (tree_at between c.in_ok-made.made))
    (ap (λ a. same_form a (tree_at between c.in_ok-made.made)) (made.keeps.trees.same pair.stated.now.ty c.requires.stated_in.stated.ty_in) ∙ ap (same_form (tree_at before pair.stated.now.ty)) made.ok.is)
    (g.A.Asks.left c.args.asks.now) (g.A.Asks.left c.type_between.new.asks) made.left (λ u. checked) (g.A.Asks.left c.check_same.new.asks) c.check_same.result c.check_same.ensures.outcome
