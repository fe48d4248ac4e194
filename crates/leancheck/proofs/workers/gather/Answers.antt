use Rattle.std.proofs.Common.{ℕ, ◌≡◌, ◌++◌, sym, ap, ◌∙◌, arith, Some}
use Rattle.std.proofs.lemmas.List.{map-append}
use Rattle.std.proofs.lemmas.List.Elements.{All-append, All-pop}
use Rattle.lk_desk.specs.declared.view.View.{View}
use Rattle.lk_desk.specs.Seats.{view}
use Rattle.leancheck.specs.declared.order.UnitVerdict.{UnitVerdict}
use Rattle.leancheck.specs.Drawn.{IsRightOne, numbers}
use Rattle.leancheck.specs.Workers.{IsDone}
use Rattle.leancheck.proofs.workers.gather.Goals as goal

pub loop-one-preserved : goal.loop-one-preserved
loop-one-preserved c =
    let i = c.loop-one.invariant in
    let Fine = IsDone c.args.library.now c.args.steps c.args.desk.now in
    let Right = IsRightOne c.args.library.now c.args.steps in
    let left = All-pop Fine c.loop-one.all.items c.pop.new.self.items (Some c.in-Some.one) c.in-Some.ensures.items i.each in
    let one : Fine c.in-Some.one = left.1 in
    let both = c.join.ensures.both in
    let of = c.join.ensures.of in
    let items : c.append.new.self.items ≡ c.loop-one.answers.items ++ c.in-Some.one.answers.items = c.in_ok-append.ensures.items in
    let number : UnitVerdict → ℕ = λ a. a.number in
    let joined : (view c.loop-one.first).drawn ++ (view c.in-Some.one.seat).drawn ≡ numbers c.loop-one.answers.items ++ numbers c.in-Some.one.answers.items = λ k. i.drawn k ++ one.drawn k in
    record {
      sits = (of.0.0, of.0.1, of.1 ∙ i.sits.2);
      drawn = ap (λ (u : View). u.drawn) both ∙ (joined ∙ (sym (map-append number c.loop-one.answers.items c.in-Some.one.answers.items) ∙ ap numbers (sym items)));
      seats = (let s = ap (λ (u : View). u.seats) both in let o = one.alone in let n = c.in-Some.ensures.cases in let t = i.seats in omega arith);
      right = rw items (All-append Right c.loop-one.answers.items c.in-Some.one.answers.items i.right one.right);
      each = left.0;
    }
