use Rattle.std.proofs.Common.{◌≡◌, ◌∷◌, sym, ◌∙◌}
use Rattle.std.proofs.lemmas.List.Elements.{All-rest}
use Rattle.lk_store.specs.Contents.{name_at}
use Rattle.lk_env.specs.Units.{IsRuleIn}
use Rattle.lk_iota.proofs.RightSides.{rule_passed}
use Rattle.lk_iota.proofs.rule.fitting_rule.Goals as goal

pub rules-preserved : goal.rules-preserved
rules-preserved g c =
    let d = g.T.Terms.contents c.args.terms.now in
    let rest : c.rules.rest.now ≡ c.in-Some.rule.now ∷ c.in-Some.more.now =
    c.in-Some.ensures.cases.0 in
    record {
      known = All-rest (IsRuleIn d) c.in-Some.rule.now c.in-Some.more.now c.rules.rest.now rest
          c.rules.invariant.known;
      same =
          sym (rule_passed d c.rules.rest.now c.in-Some.more.now c.in-Some.rule.now
          (name_at d c.args.constructor.name) c.args.constructor.parameters c.args.count c.fits.result rest
          c.fits.ensures c.if-fits.false)
          ∙ c.rules.invariant.same;
    }
