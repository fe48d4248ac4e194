use Rattle.std.proofs.Common.{rules, nat_eq, refl, ap, sym, ◌∙◌}
use Rattle.lk_lit.proofs.Operations.{constant_names, other_constant}
use Rattle.lk_lit.proofs.op.operation_at_head.Goals as goal

pub returns-then-local_bound-eq0 : goal.returns-then-local_bound-eq0
returns-then-local_bound-eq0 g c d us e h is there =
    constant_names _ _ _ h.kind _ (c.in-Some.ensures d us e h is there) (search rules)
    (ap (λ n. nat_eq n 0) (sym c.local_bound.ensures ∙ c.if-local_bound-eq0.true))

pub returns-in-None : goal.returns-in-None
returns-in-None g c d us e h is there = other_constant _ _ _ h.kind _ (c.in-None.ensures d us e h is there) refl
