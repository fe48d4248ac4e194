use Rattle.std.proofs.lemmas.Result.{on_ok_weaker}
use Rattle.std.proofs.Common.{◌≡◌, ◌++◌, true, sym, ap, ◌∙◌}
use Rattle.lk_store.specs.Contents.{level_at}
use Rattle.lk_level_order.specs.declared.gathering.Side.{Side}
use Rattle.lk_level_order.specs.Gathering.{wanted_of}
use Rattle.lk_level_order.specs.Parameters.{wanted}
use Rattle.lk_level_order.proofs.Gathered.{two_met, wanted_max, wanted_imax}
use Rattle.lk_level_order.proofs.gathering.close.Goals as goal

pub returns-in_ok-met_before-in-Max-clause-complete : goal.returns-in_ok-met_before-in-Max-clause-complete
returns-in_ok-met_before-in-Max-clause-complete g c =
    let t = g.T.Terms.contents c.args.terms.now in
    let inside = c.args.side.inside in
    let left : Side = record { level = c.in-Max.left; inside = inside } in
    let right : Side = record { level = c.in-Max.right; inside = inside } in
    let is : wanted_of t c.args.side ≡ wanted_of t left ++ wanted_of t right =
    ap (wanted inside) (sym c.in-Max.ensures.level) ∙ wanted_max inside (level_at t c.in-Max.left) (level_at t c.in-Max.right) in
    on_ok_weaker c.met_before-in-Max-2.result (λ m. two_met t c.args.names.now c.args.met.now left right (wanted_of t c.args.side) is c.in_ok-met_before-in-Max.ensures m) c.met_before-in-Max-2.ensures

pub returns-in_ok-met_before-in-IMax-clause-complete : goal.returns-in_ok-met_before-in-IMax-clause-complete
returns-in_ok-met_before-in-IMax-clause-complete g c =
    let t = g.T.Terms.contents c.args.terms.now in
    let inside = c.args.side.inside in
    let left : Side = record { level = c.in-IMax.left; inside = inside } in
    let right : Side = record { level = c.in-IMax.right; inside = true } in
    let is : wanted_of t c.args.side ≡ wanted_of t left ++ wanted_of t right =
    ap (wanted inside) (sym c.in-IMax.ensures.level) ∙ wanted_imax inside (level_at t c.in-IMax.left) (level_at t c.in-IMax.right) in
    on_ok_weaker c.met_before-in-IMax-2.result (λ m. two_met t c.args.names.now c.args.met.now left right (wanted_of t c.args.side) is c.in_ok-met_before-in-IMax.ensures m) c.met_before-in-IMax-2.ensures
