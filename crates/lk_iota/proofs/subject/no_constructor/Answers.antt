use Rattle.std.proofs.Common.{◌≡◌, [], Ok, Some, None, refl, subst}
use Rattle.lk_store.specs.Contents.{tree_at}
use Rattle.lk_ask.specs.declared.next.Next.TheVariants.{Done, No}
use Rattle.lk_ask.specs.declared.query.Answer.TheVariants.{Term}
use Rattle.lk_ask.proofs.Steps.{carried}
use Rattle.lk_constructor.specs.Applied.{IsApplied}
use Rattle.lk_constructor.proofs.Applied.{some_applied, none_applied}
use Rattle.lk_iota.specs.Redexes.{redex_at}
use Rattle.lk_iota.specs.OnlyRule.{only_at}
use Rattle.lk_iota.specs.Expansions.{by_only}
use Rattle.lk_iota.specs.Iotas.{Reduces}
use Rattle.lk_iota.proofs.Looking.{found_on, found_once, refused_on, over_old}
use Rattle.lk_iota.proofs.Going.{none_looked}
use Rattle.lk_iota.proofs.subject.no_constructor.Goals as goal

pub returns-in-Err : goal.returns-in-Err
returns-in-Err g c p at is =
    let d = g.L.Terms.contents c.args.looks.now in
    let e = tree_at d c.args.e in
    let m = tree_at d c.args.m in
    subst (λ s. Reduces g.L.Terms.contents g.L.Terms.rest g.L.Looks.sight c.args.looks.now
    c.look_only.new.looks (Ok (No c.in-Err.rule)) (λ t. s)) (none_looked e p m)
    (refused_on (by_only e p m) c.in-Err.rule
    (c.in-Err.ensures.finds p.entry p.recursor is.entry_is is.kind_is))

pub returns-in-Some : goal.returns-in-Some
returns-in-Some g c p at is =
    let basis = (g.L.Looks.sight (g.L.Terms.rest c.args.looks.now)).basis in
    let d = g.L.Terms.contents c.args.looks.now in
    let e = tree_at d c.args.e in
    let m = tree_at d c.args.m in
    let look = c.look_only.ensures in
    let finds = c.in-Ok.ensures.finds p.entry p.recursor is.entry_is is.kind_is in
    let b = some_applied d basis.library [] c.in-Some.constructor
    (only_at basis.place p.recursor.rules) (rw c.in-Some.is at finds.is) in
    subst (λ s. Reduces g.L.Terms.contents g.L.Terms.rest g.L.Looks.sight c.args.looks.now
    c.look_only.new.looks c.by_only.result (λ t. s)) (none_looked e p m)
    (found_on (by_only e p m) _ (Some b.0) finds b.1
    (over_old d (λ t. by_only (t c.args.e) p (t c.args.m) (Some b.0)) look.contents
    (c.by_only.ensures p b.0
    (carried (λ k n. redex_at n.place (tree_at k c.args.e) ≡ Some p) look.contents look.stays at)
    (record {
      only = carried (λ k n. only_at n.place p.recursor.rules ≡ Some b.0) look.contents look.stays
          b.1;
      stands = carried (λ k n. IsApplied k n.library [] c.in-Some.constructor b.0) look.contents
          look.stays b.2;
    }))))

pub returns-in-None : goal.returns-in-None
returns-in-None g c p at is =
    let basis = (g.L.Looks.sight (g.L.Terms.rest c.args.looks.now)).basis in
    let d = g.L.Terms.contents c.args.looks.now in
    let e = tree_at d c.args.e in
    let m = tree_at d c.args.m in
    let finds = c.in-Ok.ensures.finds p.entry p.recursor is.entry_is is.kind_is in
    let none = none_applied d basis.library [] (only_at basis.place p.recursor.rules)
    (rw c.in-None.is at finds.is) in
    subst (λ s. Reduces g.L.Terms.contents g.L.Terms.rest g.L.Looks.sight c.args.looks.now
    c.look_only.new.looks (Ok (Done (Term c.args.e))) (λ t. s)) (none_looked e p m)
    (found_once (by_only e p m) _ None finds none c.look_only.ensures.contents c.requires.e_in refl)
