use Rattle.std.proofs.Common.{◌≡◌, Some, None, subst}
use Rattle.lk_rulebook.specs.Place.{Entry as PlainEntry}
use Rattle.lk_store.specs.Contents.{name_at}
use Rattle.lk_store.specs.Store.{contents_of}
use Rattle.lk_env.specs.Entries.{plain_entry}
use Rattle.lk_env.specs.Units.{block_at, type_at}
use Rattle.lk_env.specs.Lent.{type_in, IsBlockTypeIn}
use Rattle.lk_env.proofs.Stays.{type_in_stays, types_in_stay}
use Rattle.lk_env.specs.StoredLibrary.{StoredLibrary}
use Rattle.lk_engine.specs.Lookouts.{place_of}
use Rattle.lk_engine.proofs.Copied.{no_family, family_is}
use Rattle.lk_engine.proofs.families.family_of.Goals as goal

pub returns-in-None-clause-family : goal.returns-in-None-clause-family
returns-in-None-clause-family g c =
    let l = c.args.lookout.now in
    let now = g.T.Terms.contents l.terms in
    no_family (contents_of l.scope.tables) now c.in-Ok.ensures.over l.scope.units (place_of l)
    (name_at now c.args.name) c.in-Ok.entry c.in-Ok.ensures.answer
    (subst (λ (s : StoredLibrary). (y : PlainEntry) → plain_entry (contents_of s.tables) s.units c.in-Ok.entry ≡ Some y
    → type_in y.kind ≡ None) c.scope.ensures.is c.in-None.ensures.value)

pub returns-in_ok-copied-in-Some-clause-known : goal.returns-in_ok-copied-in-Some-clause-known
returns-in_ok-copied-in-Some-clause-known g c =
    let l = c.args.lookout.now in
    let now = g.T.Terms.contents l.terms in
    let b = c.in-Some.block.now in
    let t = c.in-Some.own.now in
    let known : IsBlockTypeIn (contents_of l.scope.tables) b t = subst (λ (s : StoredLibrary). IsBlockTypeIn (contents_of s.tables) b t) c.scope.ensures.is c.in-Some.ensures.known in
    c.in_ok-copied-in-Some.ensures.known now
    (type_in_stays (contents_of l.scope.tables) now c.in-Ok.ensures.over t known.type_in)
    (types_in_stay (contents_of l.scope.tables) now c.in-Ok.ensures.over b.types.items known.block_in)

pub returns-in_ok-copied-in-Some-clause-family : goal.returns-in_ok-copied-in-Some-clause-family
returns-in_ok-copied-in-Some-clause-family g c =
    let l = c.args.lookout.now in
    let now = g.T.Terms.contents l.terms in
    let b = c.in-Some.block.now in
    let t = c.in-Some.own.now in
    family_is (contents_of l.scope.tables) now c.in-Ok.ensures.over l.scope.units (place_of l)
    (name_at now c.args.name) c.in-Ok.entry c.in-Ok.ensures.answer b t
    (subst (λ (s : StoredLibrary). IsBlockTypeIn (contents_of s.tables) b t) c.scope.ensures.is c.in-Some.ensures.known)
    (subst (λ (s : StoredLibrary). (y : PlainEntry) → plain_entry (contents_of s.tables) s.units c.in-Ok.entry ≡ Some y
    → type_in y.kind ≡ Some (block_at (contents_of s.tables) b, type_at (contents_of s.tables) t)) c.scope.ensures.is c.in-Some.ensures.value)
    c.in_ok-copied-in-Some.field-0
    (c.in_ok-copied-in-Some.ensures.own now)
    (c.in_ok-copied-in-Some.ensures.types now)
