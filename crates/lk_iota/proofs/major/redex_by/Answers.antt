use Rattle.std.proofs.Common.{◌≡◌, subst}
use Rattle.lk_tree.specs.Spine.{args}
use Rattle.lk_rulebook.specs.Place.{a_rec}
use Rattle.lk_store.specs.Store.{contents_of}
use Rattle.lk_store.specs.Contents.{list_at, tree_at}
use Rattle.lk_env.specs.Lent.{given_recursor}
use Rattle.lk_env.specs.StoredLibrary.{StoredLibrary}
use Rattle.lk_iota.specs.Redexes.{split_at, redex_by, IsRedexIf}
use Rattle.lk_constructor.proofs.Giving.{entry_there}
use Rattle.lk_iota.proofs.Splits.{recursor_kind, redex_of_kind, no_redex_of_kind}
use Rattle.lk_iota.proofs.major.redex_by.Goals as goal

pub returns-in_ok-arguments-in-Some-clause-is : goal.returns-in_ok-arguments-in-Some-clause-is
returns-in_ok-arguments-in-Some-clause-is g c p h =
    let basis = (g.L.Looks.sight (g.L.Terms.rest c.args.looks.now)).basis in
    let d = g.L.Terms.contents c.args.looks.now in
    let l = (g.L.Scope.Lends.lent c.scope.result.now) in
    let ls = list_at d c.args.levels in
    let xs = args (tree_at d c.args.e) in
    let r = given_recursor (contents_of l.tables) c.in-Some.recursor.now c.in-Some.field-0-1.now in
    let there = entry_there basis l c.args.entry p c.scope.ensures.is h in
    let kind : p.kind ≡ a_rec r = recursor_kind p.kind r (c.in-Some.ensures.value p there) in
    subst (λ (k : StoredLibrary). IsRedexIf d k c.split.result (redex_by ls xs p p.kind))
    c.scope.ensures.is
    (redex_of_kind d l c.split.result ls xs p p.kind r kind
    (subst (λ ys. IsRedexIf d l c.split.result (split_at ls p r ys))
    c.in_ok-arguments-in-Some.ensures.are
    (c.split.ensures.is d l p c.in-Some.field-0-1.now there kind)))

pub returns-in-None-clause-is : goal.returns-in-None-clause-is
returns-in-None-clause-is g c p h =
    let basis = (g.L.Looks.sight (g.L.Terms.rest c.args.looks.now)).basis in
    let d = g.L.Terms.contents c.args.looks.now in
    no_redex_of_kind d basis.library (list_at d c.args.levels) (args (tree_at d c.args.e)) p p.kind
    (c.in-None.ensures.value p (entry_there basis (g.L.Scope.Lends.lent c.scope.result.now) c.args.entry p
    c.scope.ensures.is h))
