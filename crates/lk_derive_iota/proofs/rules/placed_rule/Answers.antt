use Rattle.std.proofs.Common.{◌≡◌, ◌∷◌, suc, length, refl, ap, sym, ◌∙◌, arith}
use Rattle.std.proofs.lemmas.List.Elements.{All-rest}
use Rattle.lk_store.specs.Contents.{name_at}
use Rattle.lk_env.specs.Units.{IsRuleIn}
use Rattle.lk_derive_iota.proofs.FoundRules.{rule_passed, place_passed, found_place}
use Rattle.lk_derive_iota.proofs.rules.placed_rule.Goals as goal

pub returns-then-fits-clause-place : goal.returns-then-fits-clause-place
returns-then-fits-clause-place g c = found_place c.rules.rest.now c.in-Some.more.now _ c.in-Some.rule.now c.rules.place c.in-Some.ensures.cases.0 c.rules.invariant.at

pub rules-preserved : goal.rules-preserved
rules-preserved g c =
    let d = g.T.Terms.contents c.args.terms.now in
    let rest : c.rules.rest.now ≡ c.in-Some.rule.now ∷ c.in-Some.more.now = c.in-Some.ensures.cases.0 in
    let many = c.rules.invariant.many in
    let longer : length c.rules.rest.now ≡ suc (length c.in-Some.more.now) = ap length rest in
    record {
      known = All-rest (IsRuleIn d) c.in-Some.rule.now c.in-Some.more.now c.rules.rest.now rest c.rules.invariant.known;
      same =
          sym (rule_passed d c.rules.rest.now c.in-Some.more.now c.in-Some.rule.now
          (name_at d c.args.constructor.name) c.args.constructor.parameters c.args.count c.fits.result rest
          c.fits.ensures c.if-fits.false)
          ∙ c.rules.invariant.same;
      at = λ i. place_passed c.rules.rest.now c.in-Some.more.now _ c.in-Some.rule.now c.rules.place _ rest c.rules.invariant.at refl i;
      many = omega arith;
    }
