use Rattle.std.proofs.Common.{rules}
use Rattle.lk_store.specs.Contents.{list_at, tree_at}
use Rattle.lk_constructor.proofs.Giving.{entry_there}
use Rattle.lk_premises.specs.Claims.{claims_at}
use Rattle.lk_structure.proofs.Structured.{some_structure, none_structure, lent_is}
use Rattle.lk_replay_types.specs.Projections.{projection_at}
use Rattle.lk_replay_types.proofs.SubjectKinds.{kind_some, kind_none}
use Rattle.lk_replay_types.proofs.projections.with_entry.Goals as goal

pub returns-in-Some : goal.returns-in-Some
returns-in-Some g c k h =
    let start = g.L.Terms.contents c.args.looks.now in
    let sight = g.L.Looks.sight (g.L.Terms.rest c.args.looks.now) in
    let l = g.L.Scope.Lends.lent c.scope.result.now in
    let at = entry_there sight.basis l c.args.entry k c.scope.ensures.is h in
    let found = some_structure l c.in-Some.structure _ (c.in-Some.ensures.is k at) in
    let q = found.0 in
    let lent = lent_is l sight.basis.library start c.in-Some.structure c.scope.ensures.is c.requires.over c.in-Some.ensures.known q found.2 in
    rw (kind_some (claims_at start c.args.claims.now) c.args.left.now (projection_at start c.args.p) (tree_at start c.args.own) (list_at start c.args.levels) (tree_at start c.args.ty) k.kind q found.1)
    (c.with_structure.ensures q.0 q.1 lent)

pub returns-in-None : goal.returns-in-None
returns-in-None g c k h =
    let start = g.L.Terms.contents c.args.looks.now in
    let sight = g.L.Looks.sight (g.L.Terms.rest c.args.looks.now) in
    let l = g.L.Scope.Lends.lent c.scope.result.now in
    let at = entry_there sight.basis l c.args.entry k c.scope.ensures.is h in
    let none = none_structure l _ (c.in-None.ensures.is k at) in
    rw (kind_none (claims_at start c.args.claims.now) c.args.left.now (projection_at start c.args.p) (tree_at start c.args.own) (list_at start c.args.levels) (tree_at start c.args.ty) k.kind none)
    (record { keeps = search rules; stays = search rules; ok = search rules })
