use Rattle.std.proofs.Common.{◌∙◌}
use Rattle.lk_derive.proofs.PairsMade.{value_there, making_done, making_more}
use Rattle.lk_derive.proofs.sides.add_laws.Goals as goal

pub sides_of-requires : goal.sides_of-requires
sides_of-requires g c =
    value_there (g.T.Terms.contents c.args.terms.now) (g.T.Terms.contents c.laws.terms) c.args.value c.requires.value_in c.args.sides.now.items c.laws.sides.items c.args.laws.now c.laws.rest.now c.laws.invariant.making

pub laws-preserved : goal.laws-preserved
laws-preserved g c = record {
  rest_stays = c.sides_of.ensures.rest ∙ c.laws.invariant.rest_stays;
  making = making_more (g.T.Terms.contents c.args.terms.now) (g.T.Terms.contents c.laws.terms) c.args.value c.requires.value_in c.args.sides.now.items c.laws.sides.items c.args.laws.now c.laws.rest.now c.laws.invariant.making
      c.in-Some.law.now c.in-Some.more.now c.in-Some.ensures.cases.0 (g.T.Terms.contents c.sides_of.new.terms) c.sides_of.ensures.keeps c.in_ok-pair.pair c.in_ok-pair.ensures.sides c.push_pair.new.sides.items c.in_ok-push_pair.ensures;
}

pub returns-clause-adds : goal.returns-clause-adds
returns-clause-adds g c =
    making_done (g.T.Terms.contents c.args.terms.now) (g.T.Terms.contents c.laws.terms) c.args.value c.requires.value_in c.args.sides.now.items c.laws.sides.items c.args.laws.now c.laws.rest.now c.laws.invariant.making c.in_default.ensures.cases
