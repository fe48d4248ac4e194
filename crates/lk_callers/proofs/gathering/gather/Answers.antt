use Rattle.std.proofs.Common.{rules, length, ℕ, ◌∷◌, [], sym, subst}
use Rattle.lk_callers.specs.Answered.{IsGathered}
use Rattle.lk_callers.proofs.Gathered.{last_gathered, next_gathered, front_begins}
use Rattle.lk_callers.proofs.gathering.gather.Goals as goal

pub loop-one-init : goal.loop-one-init
loop-one-init g c = record {
  begins = (c.in-Some.last ∷ [], sym c.in-Some.ensures.items);
  all = last_gathered g.T.Reads.stated c.args.called.items c.pop.new.self.items c.in-Some.last c.in_ok-all.all c.in-Some.ensures.items c.in_ok-all.was;
}

pub loop-one-preserved : goal.loop-one-preserved
loop-one-preserved g c =
    let i = c.loop-one.invariant in
    record {
      begins = front_begins c.args.called.items c.loop-one.called.items c.pop-in-loop-one.new.self.items c.in-Some-pop.one i.begins c.in-Some-pop.ensures.items;
      all = next_gathered g.T.Reads.stated c.args.called.items c.pop-in-loop-one.new.self.items c.loop-one.called.items c.in-Some-pop.one c.in_ok-one.field-0 c.take_in.new.all c.loop-one.all i.begins c.in-Some-pop.ensures.items c.in_ok-one.was c.in_ok-take_in.ensures i.all;
    }

pub returns : goal.returns
returns g c = λ texts t budget are.
    subst (λ (n : ℕ). IsGathered g.T.Reads.stated texts t budget n (length c.args.called.items) c.loop-one.all) (search rules) (c.loop-one.invariant.all texts t budget are)
