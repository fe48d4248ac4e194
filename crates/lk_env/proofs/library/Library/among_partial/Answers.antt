use Rattle.std.proofs.Common.{refl, ap, sym, ◌∙◌}
use Rattle.std.specs.Prelude.{option_and_then}
use Rattle.lk_rulebook.specs.Units.{at_partial}
use Rattle.lk_store.specs.Contents.{name_at}
use Rattle.lk_store.specs.Store.{contents_of}
use Rattle.lk_env.specs.Units.{library_of}
use Rattle.lk_env.specs.Places.{own_member, partial_entry_in, partial_at}
use Rattle.lk_env.proofs.Answered.{answered_at}
use Rattle.lk_env.proofs.Partial.{found_own}
use Rattle.lk_env.proofs.library.Library.among_partial.Goals as goal

pub returns-in-Some-clause-answer : goal.returns-in-Some-clause-answer
returns-in-Some-clause-answer c =
    let us = library_of c.args.self.now in
    let s = c.args.site.now in
    let x = name_at (contents_of c.args.self.now.tables) c.args.name in
    let own = c.in-Some.ensures ∙ ap (own_member s.unit) c.position_of.ensures in
    answered_at (contents_of c.args.self.now.tables) c.args.self.now.units us s.unit (partial_at us s) x (at_partial s.unit (partial_entry_in us s c.in-Some.member)) c.partial_in.result
    (found_own us s x c.requires.new ∙ ap (λ o. at_partial s.unit (option_and_then (partial_entry_in us s) o)) (sym own))
    (rw (← c.self.view_is, ← c.deref.ensures.value)
    (c.partial_in.ensures.answer (contents_of c.self.inside.base) (name_at (contents_of c.self.inside.base) c.args.name)))

pub returns-in-None-clause-answer : goal.returns-in-None-clause-answer
returns-in-None-clause-answer c =
    let us = library_of c.args.self.now in
    let s = c.args.site.now in
    let x = name_at (contents_of c.args.self.now.tables) c.args.name in
    let own = c.in-None.ensures ∙ ap (own_member s.unit) c.position_of.ensures in
    let found = found_own us s x c.requires.new ∙ ap (λ o. at_partial s.unit (option_and_then (partial_entry_in us s) o)) (sym own) in
    record { means = rw found refl; rule = rw found refl; unknown = λ is. rw found refl }
