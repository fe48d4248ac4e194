use Rattle.std.proofs.Common.{length, ◌∙◌}
use Rattle.lk_tree.specs.Spine.{args}
use Rattle.lk_store.specs.Contents.{tree_at}
use Rattle.lk_replay_iota.proofs.RuledForms.{before_given, before_lost}
use Rattle.lk_replay_iota.proofs.majors.is_before.Goals as goal

pub returns-in-Some : goal.returns-in-Some
returns-in-Some g c e h =
    let t = tree_at (g.L.Terms.contents c.args.looks.now) in
    c.has_arguments.ensures ∙ before_given (length (args (t c.args.f))) e.kind c.in-Some.count (c.in-Some.ensures e h)

pub returns-in-None : goal.returns-in-None
returns-in-None g c e h =
    let t = tree_at (g.L.Terms.contents c.args.looks.now) in
    before_lost (length (args (t c.args.f))) e.kind (c.in-None.ensures e h)
