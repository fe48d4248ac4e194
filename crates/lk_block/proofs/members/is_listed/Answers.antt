use Rattle.std.proofs.Common.{sym, ◌∙◌}
use Rattle.lk_store.specs.Contents.{name_at}
use Rattle.lk_env.specs.Units.{IsTypeIn}
use Rattle.lk_lists.proofs.Lists.{rest_have}
use Rattle.lk_block.proofs.Arguments.{listed_next}
use Rattle.lk_block.proofs.members.is_listed.Goals as goal

pub types-preserved : goal.types-preserved
types-preserved g c =
    let s = g.T.Terms.contents c.args.terms.now in
    record {
      rest_in = rest_have (IsTypeIn s) c.types.rest.now c.in-Some.listed.now c.in-Some.more.now c.in-Some.ensures.cases.0 c.types.invariant.rest_in;
      same = c.types.invariant.same ∙ listed_next s c.types.rest.now c.in-Some.more.now c.in-Some.listed.now (name_at s c.args.name) c.args.count c.in-Some.ensures.cases.0 (sym c.is_listing.ensures ∙ c.if-is_listing.false);
    }
