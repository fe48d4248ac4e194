use Rattle.std.proofs.Common.{◌∙◌}
use Rattle.lk_members.proofs.Recursors.{none_listed, all_listed}
use Rattle.lk_members.proofs.members.Members.recursors_made.Goals as goal

pub returns-in_default : goal.returns-in_default
returns-in_default c =
    none_listed c.args.self.now c.requires c.args.types.now c.new-wanted.result (c.new-wanted.ensures ∙ c.in_ok-copy_numbers.ensures) c.new.result.items c.in_default.ensures.absent c.new.ensures.items

pub returns : goal.returns
returns c =
    all_listed c.args.self.now c.requires c.args.types.now c.new-wanted.result (c.new-wanted.ensures ∙ c.in_ok-copy_numbers.ensures) c.in_ok-made.made.items c.in-Some.number c.index.result.now c.deref.result.now
    c.in-Some.ensures.known c.in-Some.ensures.present c.index.ensures c.deref.ensures.value c.in_ok-made.ensures
