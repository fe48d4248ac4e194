use Rattle.std.proofs.Common.{◌≡◌, length, ◌∙◌, arith}
use Rattle.lk_store.specs.Store.{contents_of}
use Rattle.lk_env.specs.Scan.{AreFlaws}
use Rattle.lk_env.specs.Units.{AreUnitsIn}
use Rattle.lk_env.proofs.Grown.{index_before, library_joined}
use Rattle.lk_env.proofs.library.Library.add_units.Goals as goal

pub note_units-requires-clause-before : goal.note_units-requires-clause-before
note_units-requires-clause-before c =
    let s = c.self.inside in
    let at = contents_of s.base in
    let one_each : length c.grow_cells.new.cells.items ≡ length at.names = c.in_ok-grow_cells.ensures.one_each ∙ c.count_names-count.ensures.count in
    let first : c.len-first.result ≡ length s.units.items = omega (arith, s.units.ok.0) in
    rw (c.deref-3.ensures.value, c.in_ok-extend.ensures.units, first)
    (index_before at s.units.items c.args.units.items s.cells.items c.self.invariant.1 c.grow_cells.new.cells.items one_each c.grow_cells.ensures.same)

pub invariant_of-self-2 : goal.invariant_of-self-2
invariant_of-self-2 c =
    let s = c.self.inside in
    let i = c.self.invariant in
    let at = contents_of s.base in
    let more : AreUnitsIn at c.args.units.items = rw (← c.self.view_is) at c.requires.units in
    let flaws : AreFlaws at c.args.units.items c.in_ok-flaws.flaws.items = rw c.deref-2.ensures.value at c.in_ok-flaws.ensures in
    library_joined at s.units.items c.args.units.items c.extend.new.units.items s.budgets.items c.note_units.new.cells.items s.flaws.items c.in_ok-flaws.flaws.items c.extend.new.flaws.items s.limits.items
    c.in_ok-extend.ensures.units c.in_ok-extend.ensures.flaws (rw (← c.self.view_is) at c.requires.budgets) i.0 more (rw c.deref-3.ensures.value at c.note_units.ensures) i.2 flaws i.3 i.4
