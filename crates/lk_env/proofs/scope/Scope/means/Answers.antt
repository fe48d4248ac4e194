use Rattle.std.proofs.Common.{Ok, Err, subst}
use Rattle.lk_store.specs.Contents.{name_at}
use Rattle.lk_store.specs.Store.{over, contents_of}
use Rattle.lk_env.specs.Entries.{IsAnswer}
use Rattle.lk_env.specs.Places.{place_at}
use Rattle.lk_env.proofs.Meanings.{none_means, own_means, auxiliary_means, known_in}
use Rattle.lk_env.proofs.scope.Scope.means.Goals as goal

pub returns-in-None-clause-answer : goal.returns-in-None-clause-answer
returns-in-None-clause-answer g c =
    let x = name_at (g.T.Terms.contents c.args.terms.now) c.args.name in
    none_means c.args.self.now (over c.self.inside.given.value.base c.self.inside.given.value.own) c.self.inside.library.now c.self.inside.auxiliary.items c.self.view_is c.self.invariant.0 c.self.invariant.1
    c.args.site.now x c.means.result c.in-None.ensures.answer c.means.ensures.known c.means.ensures.answer

pub returns-in-None-clause-known : goal.returns-in-None-clause-known
returns-in-None-clause-known g c =
    known_in c.args.self.now (over c.self.inside.given.value.base c.self.inside.given.value.own) c.self.inside.library.now c.self.inside.auxiliary.items c.self.view_is c.self.invariant.0 c.self.invariant.1
    c.means.result c.means.ensures.known

pub returns-then-entry-site-clause-known : goal.returns-then-entry-site-clause-known
returns-then-entry-site-clause-known g c =
    known_in c.args.self.now (over c.self.inside.given.value.base c.self.inside.given.value.own) c.self.inside.library.now c.self.inside.auxiliary.items c.self.view_is c.self.invariant.0 c.self.invariant.1
    (Ok c.in-Ok.entry) c.in-Ok.ensures.known

pub returns-else-entry-site-clause-known : goal.returns-else-entry-site-clause-known
returns-else-entry-site-clause-known g c = c.in-Some.ensures.answer.2

pub returns-in-Err-clause-known : goal.returns-in-Err-clause-known
returns-in-Err-clause-known g c = c.in-Some.ensures.answer.2

pub returns-then-entry-site-clause-answer : goal.returns-then-entry-site-clause-answer
returns-then-entry-site-clause-answer g c =
    let x = name_at (g.T.Terms.contents c.args.terms.now) c.args.name in
    own_means c.args.self.now (over c.self.inside.given.value.base c.self.inside.given.value.own) c.self.inside.library.now c.self.inside.auxiliary.items c.self.view_is c.self.invariant.0 c.self.invariant.1
    c.args.site.now x c.in-Ok.entry c.in-Ok.ensures.known (subst (λ s. IsAnswer (contents_of c.self.inside.library.now.tables) c.self.inside.library.now.units (place_at c.self.inside.library.now s) x (Ok c.in-Ok.entry)) c.of_types.ensures c.in-Ok.ensures.answer) c.if-entry-site.true

pub returns-else-entry-site-clause-answer : goal.returns-else-entry-site-clause-answer
returns-else-entry-site-clause-answer g c =
    let x = name_at (g.T.Terms.contents c.args.terms.now) c.args.name in
    auxiliary_means c.args.self.now (over c.self.inside.given.value.base c.self.inside.given.value.own) c.self.inside.library.now c.self.inside.auxiliary.items c.self.view_is c.self.invariant.0 c.self.invariant.1
    c.args.site.now x (Ok c.in-Ok.entry) (subst (λ s. IsAnswer (contents_of c.self.inside.library.now.tables) c.self.inside.library.now.units (place_at c.self.inside.library.now s) x (Ok c.in-Ok.entry)) c.of_types.ensures c.in-Ok.ensures.answer) c.if-entry-site.false
    c.in-Some.auxiliary c.in-Some.ensures.answer c.in-Some.ensures.origin

pub returns-in-Err-clause-answer : goal.returns-in-Err-clause-answer
returns-in-Err-clause-answer g c =
    let x = name_at (g.T.Terms.contents c.args.terms.now) c.args.name in
    auxiliary_means c.args.self.now (over c.self.inside.given.value.base c.self.inside.given.value.own) c.self.inside.library.now c.self.inside.auxiliary.items c.self.view_is c.self.invariant.0 c.self.invariant.1
    c.args.site.now x (Err c.in-Err.field-0) (subst (λ s. IsAnswer (contents_of c.self.inside.library.now.tables) c.self.inside.library.now.units (place_at c.self.inside.library.now s) x (Err c.in-Err.field-0)) c.of_types.ensures c.in-Err.ensures.answer) tt
    c.in-Some.auxiliary c.in-Some.ensures.answer c.in-Some.ensures.origin
