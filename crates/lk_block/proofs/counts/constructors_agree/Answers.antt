use Rattle.std.proofs.Common.{length, map, ap, sym, ◌∙◌, arith}
use Rattle.lk_store.specs.Contents.{name_at}
use Rattle.lk_env.specs.Units.{constructor_at, IsConstructorIn}
use Rattle.lk_lists.proofs.Lists.{rest_have}
use Rattle.lk_block.proofs.Agreed.{constructors_next}
use Rattle.lk_block.proofs.counts.constructors_agree.Goals as goal

pub constructors-preserved : goal.constructors-preserved
constructors-preserved g c =
    let s = g.T.Terms.contents c.args.terms.now in
    record {
      rest_in = rest_have (IsConstructorIn s) c.constructors.rest.now c.in-Some.constructor.now c.in-Some.more.now c.in-Some.ensures.cases.0 c.constructors.invariant.rest_in;
      so_far = let n = ap length c.in-Some.ensures.cases.0 in let m = c.constructors.invariant.so_far in omega arith;
      same = c.constructors.invariant.same ∙ constructors_next (constructor_at s) c.args.parameters (map (name_at s) c.args.levels.now) (name_at s c.args.parent) c.constructors.place c.constructors.rest.now c.in-Some.more.now c.in-Some.constructor.now
          c.in-Some.ensures.cases.0 (sym c.constructor_agrees.ensures ∙ c.if-not-constructor_agrees.false);
    }
