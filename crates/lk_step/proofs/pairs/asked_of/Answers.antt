use Rattle.std.proofs.Common.{rules, ◌≡◌, ◌++◌, ◌∷◌, [], sym, subst}
use Rattle.lk_step.specs.Pairs.{IsAsking}
use Rattle.lk_step.specs.Makes.{equality_claim}
use Rattle.lk_step.proofs.Asking.{asks_none, asks_more, asks_done}
use Rattle.lk_step.proofs.pairs.asked_of.Goals as goal

pub pairs-init : goal.pairs-init
pairs-init g c =
    let d = g.L.Terms.contents c.args.looks.now in
    let h = asks_none d c.args.pairs.now c.requires.pairs_in in
    subst (λ qs. IsAsking d c.args.pairs.now c.args.pairs.now qs c.new-2.result.items) (sym c.new.ensures.items)
    (subst (λ cs. IsAsking d c.args.pairs.now c.args.pairs.now [] cs) (sym c.new-2.ensures.items) h)

pub pairs-preserved : goal.pairs-preserved
pairs-preserved g c =
    let split : c.pairs.rest.now ≡ c.in-Some.more.now ++ c.in-Some.pair.now ∷ [] = search rules in
    let d = g.L.Terms.contents c.args.looks.now in
    let p = c.in-Some.pair.now in
    let more = asks_more (g.L.Terms.contents c.args.looks.now) c.args.pairs.now c.pairs.rest.now c.pairs.asked.asks.items c.pairs.asked.premises.items c.pairs.invariant c.in-Some.more.now p split in
    subst (λ cs. IsAsking d c.args.pairs.now c.in-Some.more.now c.push_pair.new.asked.asks.items cs) (sym c.in_ok-push_pair.ensures.premises)
    (subst (λ qs. IsAsking d c.args.pairs.now c.in-Some.more.now qs (c.pairs.asked.premises.items ++ equality_claim p.left p.right ∷ [])) (sym c.in_ok-push_pair.ensures.asks) more)

pub returns : goal.returns
returns g c = asks_done (g.L.Terms.contents c.args.looks.now) c.args.pairs.now c.pairs.rest.now c.pairs.asked.asks.items c.pairs.asked.premises.items c.pairs.invariant c.in_default.ensures.cases
