use Rattle.lk_store.specs.Store.{contents_of}
use Rattle.lk_env.specs.Units.{declaration_at, library_of}
use Rattle.leancheck.proofs.SectionsBelow.{has_one, has_none, passed, written}
use Rattle.leancheck.proofs.derived.trace_declaration.Goals as goal

pub returns-then-not-checked-clause-written : goal.returns-then-not-checked-clause-written
returns-then-not-checked-clause-written g c = λ budget ks same was.
    let l = c.args.library.now in
    let us = library_of l in
    let k = c.args.checked in
    let d = declaration_at (contents_of l.tables) c.args.declaration.now in
    passed us budget k.unit (g.D.Terms.contents c.args.deriver.now.derives) ks c.args.trace.now
    (has_none us k.unit k.budget (budget k.unit) k.yes same d c.requires.at c.requires.yes c.if-not-checked.true) was

pub returns-clause-written : goal.returns-clause-written
returns-clause-written g c = λ budget ks same was.
    let l = c.args.library.now in
    let us = library_of l in
    let k = c.args.checked in
    let d = declaration_at (contents_of l.tables) c.args.declaration.now in
    written us budget k.unit (g.D.Terms.contents c.args.deriver.now.derives) (g.D.Terms.contents c.trace_yes.new.deriver.derives) ks c.args.trace.now c.trace_yes.new.trace
    (has_one us k.unit k.budget (budget k.unit) k.yes same d c.requires.at c.requires.yes c.if-not-checked.false) was
    (c.in_ok-trace_yes.ensures.written ks was.sections was.written)
