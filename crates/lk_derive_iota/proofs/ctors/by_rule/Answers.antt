use Rattle.std.proofs.Common.{◌∙◌}
use Rattle.lk_derive_iota.proofs.Growing.{rule_on, stated_at}
use Rattle.lk_derive_iota.proofs.ctors.by_rule.Goals as goal

pub state_rule-requires-clause-at : goal.state_rule-requires-clause-at
state_rule-requires-clause-at g c =
    let leaves = c.right_side.ensures.leaves in
    rule_on leaves.place leaves.library (leaves.keeps.trees.same c.args.x c.requires.x_in) c.in_ok-made.ensures.at

pub go_behind-requires-clause-stated : goal.go_behind-requires-clause-stated
go_behind-requires-clause-stated g c = stated_at (c.state_rule.ensures.leaves.place ∙ c.right_side.ensures.leaves.place) c.requires.stated
