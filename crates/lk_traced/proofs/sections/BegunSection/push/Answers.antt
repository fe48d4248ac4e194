use Rattle.std.proofs.Common.{rules, refl}
use Rattle.lk_traced.proofs.Adding.{begun_push, begun_push_known}
use Rattle.lk_traced.proofs.sections.BegunSection.push.Goals as goal

pub returns-clause-holds : goal.returns-clause-holds
returns-clause-holds c = λ k p known h.
    begun_push c.args.self.now _ k p c.args.number c.args.own c.len-place.result c.args.line (search rules) refl refl c.in_ok-push-2.ensures.items c.in_ok-push.ensures.items c.in_ok-add.ensures.ok known h

pub returns-clause-known : goal.returns-clause-known
returns-clause-known c = λ k known h. begun_push_known c.args.self.now _ k c.args.number c.args.line c.in_ok-push-2.ensures.items c.in_ok-push.ensures.items known h
