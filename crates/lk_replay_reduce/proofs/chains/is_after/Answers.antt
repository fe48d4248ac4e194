use Rattle.std.proofs.Common.{◌≡◌, true, ◌&&◌, sym, ap, ◌∙◌}
use Rattle.lk_questions.specs.Tests.{passes}
use Rattle.lk_written.specs.Premises.{ends}
use Rattle.lk_store.specs.Contents.{tree_at}
use Rattle.lk_premises.specs.Reading.{stated_at}
use Rattle.lk_premises.specs.Applied.{are_headed}
use Rattle.lk_premises.proofs.Comparing.{heads_are}
use Rattle.lk_replay_reduce.proofs.chains.is_after.Goals as goal

pub returns-then-ended : goal.returns-then-ended
returns-then-ended g c =
    let d = g.T.Terms.contents c.args.terms.now in
    let t = tree_at d in
    let step = c.args.step in
    let done : passes (ends step.after.now) ≡ true = sym c.ended.ensures ∙ c.if-ended.true in
    c.are_applied.ensures
    ∙ sym (ap (λ z. z && are_headed (t step.left) (t step.right) (t c.args.a) (t c.args.b)) done)
    ∙ sym (heads_are (stated_at d step) (t c.args.a) (t c.args.b))
