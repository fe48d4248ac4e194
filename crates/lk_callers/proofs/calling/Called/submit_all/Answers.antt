use Rattle.std.proofs.Common.{rules, ℕ, subst, length, ◌≡◌}
use Rattle.lk_callers.specs.Owned.{bytes_in}
use Rattle.lk_callers.specs.Answered.{IsCalled}
use Rattle.lk_callers.proofs.calling.Called.submit_all.Goals as goal

pub returns : goal.returns
returns g c =
    let i = c.loop-text.invariant in
    let last : c.loop-text.text ≡ length c.args.texts.now = search rules in
    let one = IsCalled g.T.Reads.stated (bytes_in c.args.texts.now) c.args.turns (g.C.Checks.budget_of c.args.checks.now) in
    subst (λ (n : ℕ). one (length c.args.texts.now) n c.loop-text.self) i.0 (subst (λ (k : ℕ). one k c.loop-text.self.number c.loop-text.self) last i.1)
