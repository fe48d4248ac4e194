use Rattle.std.proofs.Common.{map, sym, ◌∙◌}
use Rattle.lk_store.specs.Contents.{name_at}
use Rattle.lk_env.specs.Units.{type_at, IsTypeIn}
use Rattle.lk_lists.proofs.Lists.{rest_have}
use Rattle.lk_block.proofs.Agreed.{types_next}
use Rattle.lk_block.proofs.counts.types_agree.Goals as goal

pub types-preserved : goal.types-preserved
types-preserved g c =
    let s = g.T.Terms.contents c.args.terms.now in
    record {
      rest_in = rest_have (IsTypeIn s) c.types.rest.now c.in-Some.stated.now c.in-Some.more.now c.in-Some.ensures.cases.0 c.types.invariant.rest_in;
      same = c.types.invariant.same ∙ types_next (type_at s) c.args.parameters (map (name_at s) c.args.levels.now) c.types.rest.now c.in-Some.more.now c.in-Some.stated.now
          c.in-Some.ensures.cases.0 (sym c.type_agrees.ensures ∙ c.if-not-type_agrees.false);
    }
