use Rattle.std.proofs.Common.{◌∙◌, sym, subst, ap}
use Rattle.lk_ask.specs.Questions.{IsKnownQuery}
use Rattle.lk_engine.proofs.Shared.{trees_stored}
use Rattle.lk_engine.proofs.share.Share.is_for.Goals as goal

pub returns-in-Some : goal.returns-in-Some
returns-in-Some c = λ is. record {
  unit = c.in-Some.field-0;
  looks = ap (λ s. s.unit) (sym c.self.view_is) ∙ c.in-Some.is;
  query = subst (λ n. IsKnownQuery n c.args.query)
      (ap (λ s. s.terms) c.base_sizes.ensures ∙ trees_stored c.args.terms.now.base)
      (c.is_query_below.ensures.known is);
}
