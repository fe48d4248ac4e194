use Rattle.std.proofs.Common.{map, sym, ap, ◌∙◌, arith}
use Rattle.lk_env.specs.Units.{type_at, IsTypeIn}
use Rattle.lk_store.specs.Contents.{name_at}
use Rattle.lk_lists.proofs.Lists.{rest_have}
use Rattle.lk_auxiliary.proofs.Numbers.{count_same, count_other}
use Rattle.lk_auxiliary.proofs.among.count_others.Goals as goal

pub types-preserved-in_ok-count : goal.types-preserved-in_ok-count
types-preserved-in_ok-count g c =
    let s = g.T.Terms.contents c.args.terms.now in
    let stated = c.in-Some.stated.now in
    let more = c.in-Some.more.now in
    let split = c.in-Some.ensures.cases.0 in
    let J = name_at s c.args.name in
    let one = count_other J (type_at s stated) (map (type_at s) c.types.rest.now) (map (type_at s) more) (ap (map (type_at s)) split) (sym c.names_equal.ensures ∙ c.if-not-names_equal.true) in
    let was = c.types.invariant.same in
    let next = c.in_ok-count.ensures in
    record { rest_in = rest_have (IsTypeIn s) c.types.rest.now stated more split c.types.invariant.rest_in; same = omega arith }

pub types-preserved : goal.types-preserved
types-preserved g c =
    let s = g.T.Terms.contents c.args.terms.now in
    let stated = c.in-Some.stated.now in
    let more = c.in-Some.more.now in
    let split = c.in-Some.ensures.cases.0 in
    let J = name_at s c.args.name in
    let one = count_same J (type_at s stated) (map (type_at s) c.types.rest.now) (map (type_at s) more) (ap (map (type_at s)) split) (sym c.names_equal.ensures ∙ c.if-not-names_equal.false) in
    let was = c.types.invariant.same in
    record { rest_in = rest_have (IsTypeIn s) c.types.rest.now stated more split c.types.invariant.rest_in; same = omega arith }
