use Rattle.std.proofs.Common.{refl, ◌-◌}
use Rattle.lk_nested.specs.declared.spines.Spine.{Spine}
use Rattle.lk_nested.proofs.Applied.{some_argument, function_spine, spines_pushed}
use Rattle.lk_nested.proofs.spines.keep_function.Goals as goal

pub overflow_sub-spine : goal.overflow_sub-spine
overflow_sub-spine g c = some_argument (g.T.Terms.contents c.args.terms.now) c.args.spine c.args.f c.requires.spine c.requires.function

pub returns : goal.returns
returns g c =
    let s = g.T.Terms.contents c.args.terms.now in
    let row : Spine = record { tree = c.args.f; head = c.args.spine.head; count = c.args.spine.count - 1 } in
    record { spines = spines_pushed s c.args.spines.now c.push.new.self row c.requires.spines (function_spine s c.args.spine c.args.f c.requires.spine c.requires.function row refl refl) c.in_ok-push.ensures.ok }
