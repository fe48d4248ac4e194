use Rattle.std.proofs.Common.{rules, ◌≡◌, ◌++◌, ◌∷◌, [], true, sym, ap, ◌∙◌}
use Rattle.lk_store.specs.Contents.{level_at}
use Rattle.lk_level_order.specs.declared.gathering.Side.{Side}
use Rattle.lk_level_order.specs.Parameters.{wanted}
use Rattle.lk_level_order.specs.Gathering.{wanted_of, own_param}
use Rattle.lk_level_order.proofs.Gathered.{wanted_max, wanted_imax, opened_at, closed_at, parts_opened}
use Rattle.lk_level_order.proofs.Ordered.{own_zero, own_of_param, wanted_succ, one_on_top, two_on_top, three_on_top}
use Rattle.lk_level_order.proofs.gathering.open.Goals as goal

pub returns-in_ok-push-in-Max-2-clause-turns : goal.returns-in_ok-push-in-Max-2-clause-turns
returns-in_ok-push-in-Max-2-clause-turns g c s h w =
    let t = g.T.Terms.contents c.args.terms.now in
    let inside = c.args.side.inside in
    let left : Side = record { level = c.in-Max.left; inside = inside } in
    let right : Side = record { level = c.in-Max.right; inside = inside } in
    let is : wanted_of t c.args.side ≡ wanted_of t left ++ wanted_of t right =
    ap (wanted inside) (sym c.in-Max.ensures.level) ∙ wanted_max inside (level_at t c.in-Max.left) (level_at t c.in-Max.right) in
    let known = c.in-Max.ensures.known in
    let first : c.push.new.self.items ≡ c.args.stack.now.items ++ opened_at c.args.side ∷ [] = search rules in
    let second : c.push-in-Max.new.self.items ≡ c.push.new.self.items ++ closed_at right ∷ [] = search rules in
    let third : c.push-in-Max-2.new.self.items ≡ c.push-in-Max.new.self.items ++ closed_at left ∷ [] = search rules in
    rw (third, second, first) (parts_opened t s c.args.stack.now.items c.args.side left right is c.requires known.0 known.1 h w)

pub returns-in_ok-push-in-IMax-2-clause-turns : goal.returns-in_ok-push-in-IMax-2-clause-turns
returns-in_ok-push-in-IMax-2-clause-turns g c s h w =
    let t = g.T.Terms.contents c.args.terms.now in
    let inside = c.args.side.inside in
    let left : Side = record { level = c.in-IMax.left; inside = inside } in
    let right : Side = record { level = c.in-IMax.right; inside = true } in
    let is : wanted_of t c.args.side ≡ wanted_of t left ++ wanted_of t right =
    ap (wanted inside) (sym c.in-IMax.ensures.level) ∙ wanted_imax inside (level_at t c.in-IMax.left) (level_at t c.in-IMax.right) in
    let known = c.in-IMax.ensures.known in
    let first : c.push.new.self.items ≡ c.args.stack.now.items ++ opened_at c.args.side ∷ [] = search rules in
    let second : c.push-in-IMax.new.self.items ≡ c.push.new.self.items ++ closed_at right ∷ [] = search rules in
    let third : c.push-in-IMax-2.new.self.items ≡ c.push-in-IMax.new.self.items ++ closed_at left ∷ [] = search rules in
    rw (third, second, first) (parts_opened t s c.args.stack.now.items c.args.side left right is c.requires known.0 known.1 h w)

pub returns-in_ok-push-in-Max-2-clause-order : goal.returns-in_ok-push-in-Max-2-clause-order
returns-in_ok-push-in-Max-2-clause-order g c =
    let t = g.T.Terms.contents c.args.terms.now in
    let inside = c.args.side.inside in
    let left : Side = record { level = c.in-Max.left; inside = inside } in
    let right : Side = record { level = c.in-Max.right; inside = inside } in
    let is : wanted_of t c.args.side ≡ wanted_of t left ++ wanted_of t right =
    ap (wanted inside) (sym c.in-Max.ensures.level) ∙ wanted_max inside (level_at t c.in-Max.left) (level_at t c.in-Max.right) in
    let own : own_param inside (level_at t c.args.side.level) ≡ [] = ap (own_param inside) (sym c.in-Max.ensures.level) in
    let first : c.push.new.self.items ≡ c.args.stack.now.items ++ opened_at c.args.side ∷ [] = search rules in
    let second : c.push-in-Max.new.self.items ≡ c.push.new.self.items ++ closed_at right ∷ [] = search rules in
    let third : c.push-in-Max-2.new.self.items ≡ c.push-in-Max.new.self.items ++ closed_at left ∷ [] = search rules in
    rw (third, second, first) (three_on_top t c.args.stack.now.items c.args.side left right own is)

pub returns-in_ok-push-in-IMax-2-clause-order : goal.returns-in_ok-push-in-IMax-2-clause-order
returns-in_ok-push-in-IMax-2-clause-order g c =
    let t = g.T.Terms.contents c.args.terms.now in
    let inside = c.args.side.inside in
    let left : Side = record { level = c.in-IMax.left; inside = inside } in
    let right : Side = record { level = c.in-IMax.right; inside = true } in
    let is : wanted_of t c.args.side ≡ wanted_of t left ++ wanted_of t right =
    ap (wanted inside) (sym c.in-IMax.ensures.level) ∙ wanted_imax inside (level_at t c.in-IMax.left) (level_at t c.in-IMax.right) in
    let own : own_param inside (level_at t c.args.side.level) ≡ [] = ap (own_param inside) (sym c.in-IMax.ensures.level) in
    let first : c.push.new.self.items ≡ c.args.stack.now.items ++ opened_at c.args.side ∷ [] = search rules in
    let second : c.push-in-IMax.new.self.items ≡ c.push.new.self.items ++ closed_at right ∷ [] = search rules in
    let third : c.push-in-IMax-2.new.self.items ≡ c.push-in-IMax.new.self.items ++ closed_at left ∷ [] = search rules in
    rw (third, second, first) (three_on_top t c.args.stack.now.items c.args.side left right own is)

pub returns-in-Zero-clause-order : goal.returns-in-Zero-clause-order
returns-in-Zero-clause-order g c =
    let t = g.T.Terms.contents c.args.terms.now in
    let own = own_zero c.args.side.inside t c.level.result (level_at t c.args.side.level) (search rules) c.level.ensures.level in
    let first : c.push.new.self.items ≡ c.args.stack.now.items ++ opened_at c.args.side ∷ [] = search rules in
    rw first (one_on_top t c.args.stack.now.items c.args.side own)

pub returns-in-Param-clause-order : goal.returns-in-Param-clause-order
returns-in-Param-clause-order g c =
    let t = g.T.Terms.contents c.args.terms.now in
    let own = own_of_param c.args.side.inside t c.level.result c.in-Param.field-0 (level_at t c.args.side.level) (search rules) c.level.ensures.level in
    let first : c.push.new.self.items ≡ c.args.stack.now.items ++ opened_at c.args.side ∷ [] = search rules in
    rw first (one_on_top t c.args.stack.now.items c.args.side own)

pub returns-in_ok-push-in-Succ-clause-order : goal.returns-in_ok-push-in-Succ-clause-order
returns-in_ok-push-in-Succ-clause-order g c =
    let t = g.T.Terms.contents c.args.terms.now in
    let inside = c.args.side.inside in
    let part : Side = record { level = c.in-Succ.level; inside = inside } in
    let is : wanted_of t c.args.side ≡ wanted_of t part = ap (wanted inside) (sym c.in-Succ.ensures.level) ∙ wanted_succ inside (level_at t c.in-Succ.level) in
    let own : own_param inside (level_at t c.args.side.level) ≡ [] = ap (own_param inside) (sym c.in-Succ.ensures.level) in
    let first : c.push.new.self.items ≡ c.args.stack.now.items ++ opened_at c.args.side ∷ [] = search rules in
    let second : c.push-in-Succ.new.self.items ≡ c.push.new.self.items ++ closed_at part ∷ [] = search rules in
    rw (second, first) (two_on_top t c.args.stack.now.items c.args.side part own is)
