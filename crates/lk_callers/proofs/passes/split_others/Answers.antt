use Rattle.std.proofs.Common.{rules, ◌∙◌, ap, subst, ℕ}
use Rattle.lk_session.specs.declared.view.View.{View}
use Rattle.lk_callers.specs.Answered.{IsNew}
use Rattle.lk_callers.proofs.New.{new_more}
use Rattle.lk_callers.proofs.passes.split_others.Goals as goal

pub loop-number-preserved : goal.loop-number-preserved
loop-number-preserved g c =
    let i = c.loop-number.invariant in
    let some = c.in-Some.ensures.some in
    record {
      idle = (ap (λ (v : View). v.mine) some.1 ∙ i.idle.0, ap (λ (v : View). v.passes) some.1 ∙ i.idle.1);
      new = new_more c.loop-number.passes.items c.push.new.self.items c.idle.result i.new (subst (λ (n : ℕ). IsNew n c.idle.result) i.count c.idle.ensures) c.in_ok-push.ensures.items;
      count = search rules;
    }
