use Rattle.lk_store.specs.Contents.{name_at}
use Rattle.lk_store.specs.Store.{contents_of}
use Rattle.lk_env.specs.Units.{library_of}
use Rattle.lk_env.specs.Places.{found_at, partial_at}
use Rattle.lk_env.specs.Index.{pair_of}
use Rattle.lk_env.specs.Scan.{AreFlaws}
use Rattle.lk_env.proofs.Answered.{answered_at}
use Rattle.lk_env.proofs.Partial.{found_before}
use Rattle.lk_env.proofs.library.Library.at.Goals as goal

pub returns-in-Some-clause-answer : goal.returns-in-Some-clause-answer
returns-in-Some-clause-answer c =
    let us = library_of c.args.self.now in
    let s = c.args.site.now in
    let x = name_at (contents_of c.args.self.now.tables) c.args.name in
    answered_at (contents_of c.args.self.now.tables) c.args.self.now.units us s.unit (partial_at us s) x (found_at us (pair_of c.in-Some.position)) c.entry_in.result
    (found_before us s x (pair_of c.in-Some.position) c.in-Some.ensures)
    (let are : AreFlaws (contents_of c.self.inside.base) c.deref.result.now c.deref-in-Some.result.now = rw (c.deref.ensures.value, c.deref-in-Some.ensures.value) c.self.invariant.2 in
    rw (← c.self.view_is, ← c.deref.ensures.value)
    (c.entry_in.ensures.answer (contents_of c.self.inside.base) are s.unit (name_at (contents_of c.self.inside.base) c.args.name)))
