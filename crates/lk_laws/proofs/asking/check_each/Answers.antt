use Rattle.std.proofs.Common.{map, refl, ap, ◌∙◌}
use Rattle.std.proofs.lemmas.Result.{err_from_is_err_and}
use Rattle.lk_questions.specs.NumberLaws.{laws_hold}
use Rattle.lk_store.proofs.Extending.{Extends-trans}
use Rattle.lk_declaration.proofs.Leading.{leads_on, leads_stop, leads_end}
use Rattle.lk_laws.specs.Sides.{law_at}
use Rattle.lk_laws.specs.Steps.{law_holds}
use Rattle.lk_laws.proofs.OneByOne.{law_split, none_left}
use Rattle.lk_laws.proofs.asking.check_each.Goals as goal

pub returns-in_err-check_law-clause-outcome : goal.returns-in_err-check_law-clause-outcome
returns-in_err-check_law-clause-outcome g c v is =
    let was = c.laws.invariant in
    let all = map (law_at v) c.args.laws.now in
    let rest = map (law_at v) c.laws.rest.now in
    let law = law_at v c.in-Some.law.now in
    let more = map (law_at v) c.in-Some.more.now in
    let p = err_from_is_err_and c.from_residual.result c.from_residual.ensures.1 in
    rw (p.1, p.2) (leads_stop (g.A.Asks.standing c.args.asks.now)
    (g.A.Asks.standing c.laws.asks) was.stays (laws_hold all) (g.A.Asks.left c.args.asks.now)
    (laws_hold rest) (g.A.Asks.left c.laws.asks) (was.leads v is) (law_holds law)
    (λ (u : Unit {0}). laws_hold more)
    (law_split rest law more (ap (map (law_at v)) c.in-Some.ensures.cases.0))
    c.in_err-check_law.field-0.0 (c.in_err-check_law.ensures.outcome v
    (was.keeps.trees.same c.args.value c.requires ∙ is)))

pub laws-preserved : goal.laws-preserved
laws-preserved g c =
    let was = c.laws.invariant in
    let step = c.in_ok-check_law.ensures in
    record {
      keeps = Extends-trans (g.A.Terms.contents c.args.asks.now) (g.A.Terms.contents c.laws.asks)
          (g.A.Terms.contents c.check_law.new.asks) was.keeps step.keeps;
      stays = step.stays ∙ was.stays;
      leads = λ v is.
          let all = map (law_at v) c.args.laws.now in
          let rest = map (law_at v) c.laws.rest.now in
          let law = law_at v c.in-Some.law.now in
          let more = map (law_at v) c.in-Some.more.now in
          leads_on (g.A.Asks.standing c.args.asks.now) (g.A.Asks.standing c.laws.asks) was.stays
          (laws_hold all) (g.A.Asks.left c.args.asks.now) (laws_hold rest)
          (g.A.Asks.left c.laws.asks) (was.leads v is) (law_holds law)
          (λ (u : Unit {0}). laws_hold more)
          (law_split rest law more (ap (map (law_at v)) c.in-Some.ensures.cases.0))
          c.in_ok-check_law.field-0 (g.A.Asks.left c.check_law.new.asks) (laws_hold more)
          (step.outcome v (was.keeps.trees.same c.args.value c.requires ∙ is)) refl;
    }

pub returns-clause-outcome : goal.returns-clause-outcome
returns-clause-outcome g c v is =
    leads_end (g.A.Asks.standing c.args.asks.now) (laws_hold (map (law_at v) c.args.laws.now))
    (g.A.Asks.left c.args.asks.now) (laws_hold (map (law_at v) c.laws.rest.now))
    (g.A.Asks.left c.laws.asks) tt (c.laws.invariant.leads v is)
    (ap laws_hold (none_left (law_at v) c.laws.rest.now c.in_default.ensures.cases))
