use Rattle.std.proofs.Common.{◌≡◌, Some, None}
use Rattle.lk_tree.specs.Spine.{head, args}
use Rattle.lk_store.specs.Contents.{tree_at}
use Rattle.lk_ask.proofs.Steps.{carried}
use Rattle.lk_constructor.specs.Applied.{IsApplied}
use Rattle.lk_constructor.specs.Looking.{app_at}
use Rattle.lk_constructor.proofs.Applied.{some_applied, none_applied}
use Rattle.lk_iota.specs.Redexes.{redex_at, IsRedex}
use Rattle.lk_iota.specs.Expansions.{at_ctor}
use Rattle.lk_iota.specs.Iotas.{by_app}
use Rattle.lk_iota.proofs.Looking.{found_on, refused_on, over_old}
use Rattle.lk_iota.proofs.subject.by_subject.Goals as goal

pub returns-in-Err : goal.returns-in-Err
returns-in-Err g c p at is =
    let d = g.L.Terms.contents c.args.looks.now in
    let m = tree_at d c.args.m in
    refused_on (by_app (tree_at d c.args.e) p m) c.in-Err.rule (c.in-Err.ensures.finds (args m))

pub returns-in-Some : goal.returns-in-Some
returns-in-Some g c p at is =
    let basis = (g.L.Looks.sight (g.L.Terms.rest c.args.looks.now)).basis in
    let d = g.L.Terms.contents c.args.looks.now in
    let e = tree_at d c.args.e in
    let m = tree_at d c.args.m in
    let look = c.look_head.ensures in
    let finds = c.in-Ok.ensures.finds (args m) in
    let b = some_applied d basis.library (args m) c.in-Some.constructor
    (app_at basis.place (head m) (args m)) (rw c.in-Some.is at finds.is) in
    found_on (by_app e p m) _ (Some b.0) finds b.1
    (over_old d (λ t. at_ctor (t c.args.e) p (Some b.0)) look.contents
    (c.at_constructor.ensures p b.0
    (carried (λ k n. IsRedex k n.library c.args.redex.now p) look.contents look.stays is)
    (carried (λ k n. IsApplied k n.library (args (tree_at k c.args.m)) c.in-Some.constructor b.0)
    look.contents look.stays b.2)))

pub returns-in-None : goal.returns-in-None
returns-in-None g c p at is =
    let basis = (g.L.Looks.sight (g.L.Terms.rest c.args.looks.now)).basis in
    let d = g.L.Terms.contents c.args.looks.now in
    let e = tree_at d c.args.e in
    let m = tree_at d c.args.m in
    let look = c.look_head.ensures in
    let finds = c.in-Ok.ensures.finds (args m) in
    let none = none_applied d basis.library (args m) (app_at basis.place (head m) (args m))
    (rw c.in-None.is at finds.is) in
    found_on (by_app e p m) _ None finds none
    (over_old d (λ t. by_app (t c.args.e) p (t c.args.m) None) look.contents
    (c.no_constructor.ensures p
    (carried (λ k n. redex_at n.place (tree_at k c.args.e) ≡ Some p) look.contents look.stays at)
    (carried (λ k n. IsRedex k n.library c.args.redex.now p) look.contents look.stays is)))
