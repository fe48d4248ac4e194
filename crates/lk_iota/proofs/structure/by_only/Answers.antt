use Rattle.lk_store.specs.Contents.{tree_at}
use Rattle.lk_ask.proofs.Steps.{gives_now}
use Rattle.lk_constructor.proofs.Giving.{entry_there}
use Rattle.lk_iota.proofs.Expanding.{builds, builds_none, type_asked, no_structure}
use Rattle.lk_iota.proofs.structure.by_only.Goals as goal

pub returns-in-Some : goal.returns-in-Some
returns-in-Some g c p k at only =
    let sight = g.L.Looks.sight (g.L.Terms.rest c.args.looks.now) in
    let d = g.L.Terms.contents c.args.looks.now in
    let there = entry_there sight.basis (g.L.Scope.Lends.lent c.scope.result.now) c.args.constructor.entry k.entry
    c.scope.ensures.is only.stands.entry_is in
    let is = builds d k k.entry.kind only.stands.kind_is c.in-Some.field-0
    (rw c.in-Some.is at c.in_ok-structure_of.ensures.is k.entry there) in
    gives_now c.args.looks.now _ _ (c.requires.m_in, (c.requires.e_in, c.requires.m_in))
    (type_asked sight.basis.place sight.last (tree_at d c.args.e) p (tree_at d c.args.m) k at
    only.only is)

pub returns-in-None : goal.returns-in-None
returns-in-None g c p k at only =
    let sight = g.L.Looks.sight (g.L.Terms.rest c.args.looks.now) in
    let d = g.L.Terms.contents c.args.looks.now in
    let there = entry_there sight.basis (g.L.Scope.Lends.lent c.scope.result.now) c.args.constructor.entry k.entry
    c.scope.ensures.is only.stands.entry_is in
    let is = builds_none d k k.entry.kind only.stands.kind_is
    (rw c.in-None.is at c.in_ok-structure_of.ensures.is k.entry there) in
    gives_now c.args.looks.now _ _ c.requires.e_in
    (no_structure sight.basis.place sight.last (tree_at d c.args.e) p (tree_at d c.args.m) k at
    only.only is)
