use Rattle.std.proofs.Common.{◌≡◌, map, ap, subst, ◌∙◌}
use Rattle.lk_env.specs.Units.{constructor_at, type_at, IsTypeIn}
use Rattle.lk_rulebook.specs.Place.{BlockType}
use Rattle.lk_mentions.specs.Names.{names_at}
use Rattle.lk_nested.specs.Findings.{found}
use Rattle.lk_lists.proofs.Lists.{rest_have, first_has}
use Rattle.lk_enlarge.specs.Larger.{ctors_hold}
use Rattle.lk_enlarge.proofs.Holding.{hold_next}
use Rattle.lk_enlarge.proofs.larger.types_hold.Goals as goal

pub constructors_hold-requires-clause-constructors_in : goal.constructors_hold-requires-clause-constructors_in
constructors_hold-requires-clause-constructors_in g c =
    let s = g.A.Terms.contents c.args.asks.now in
    rw c.deref.ensures.value (first_has (IsTypeIn s) c.types.left.now c.in-Some.stated.now c.in-Some.more.now c.in-Some.ensures.cases.0 c.types.invariant.left_in).constructors_in

pub types-preserved : goal.types-preserved
types-preserved g c =
    let s = g.A.Terms.contents c.args.asks.now in
    let w = (g.A.Asks.standing c.args.asks.now).place in
    let ns = names_at s c.args.names.now in
    record {
      marked = c.in_ok-constructors_hold.ensures.marks;
      walked = c.in_ok-constructors_hold.ensures.walked;
      left_in = rest_have (IsTypeIn s) c.types.left.now c.in-Some.stated.now c.in-Some.more.now c.in-Some.ensures.cases.0 c.types.invariant.left_in;
      leads = c.types.invariant.leads
          ∙ hold_next (λ (t : BlockType). ctors_hold w ns t.ctors) (map (type_at s) c.types.left.now) (type_at s c.in-Some.stated.now) (map (type_at s) c.in-Some.more.now) (ap (map (type_at s)) c.in-Some.ensures.cases.0)
          (subst (λ ks. ctors_hold w ns (map (constructor_at s) ks) ≡ found c.in_ok-constructors_hold.field-0) c.deref.ensures.value c.in_ok-constructors_hold.ensures.hold ∙ ap found c.if-branch.false);
    }
