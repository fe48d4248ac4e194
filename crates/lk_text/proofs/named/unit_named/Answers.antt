use Rattle.std.proofs.Common.{◌∙◌, sym}
use Rattle.lk_store.specs.Store.{contents_of}
use Rattle.lk_env.specs.Units.{library_of, unit_at}
use Rattle.lk_text.proofs.Printed.{ends_at, passes_at, unit_lent}
use Rattle.lk_text.proofs.named.unit_named.Goals as goal

pub returns-then-branch-clause-first : goal.returns-then-branch-clause-first
returns-then-branch-clause-first c = ends_at c.args.text.now (library_of c.args.library.now) c.loop-n.n (unit_at (contents_of c.args.library.now.tables) c.index-units-n.result)
    (unit_lent (unit_at (contents_of c.args.library.now.tables)) c.units-units.result.now c.args.library.now.units c.loop-n.n c.index-units-n.result c.units-units.ensures.value c.index-units-n.is c.loop-n-test.true)
    c.loop-n.invariant (sym c.in_ok-has_printed.ensures ∙ c.if-branch.true)

pub loop-n-preserved : goal.loop-n-preserved
loop-n-preserved c = passes_at c.args.text.now (library_of c.args.library.now) c.loop-n.n (unit_at (contents_of c.args.library.now.tables) c.index-units-n.result)
    (unit_lent (unit_at (contents_of c.args.library.now.tables)) c.units-units.result.now c.args.library.now.units c.loop-n.n c.index-units-n.result c.units-units.ensures.value c.index-units-n.is c.loop-n-test.true)
    c.loop-n.invariant (sym c.in_ok-has_printed.ensures ∙ c.if-branch.false)
