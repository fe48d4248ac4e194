use Rattle.lk_store.specs.Store.{contents_of}
use Rattle.lk_env.proofs.Grown.{library_grown}
use Rattle.lk_env.proofs.growing.LibraryTerms.make_text.Goals as goal

pub invariant_of-self : goal.invariant_of-self
invariant_of-self c =
    let s = c.self.inside in
    let i = c.self.invariant in
    library_grown (contents_of s.base) (contents_of c.make_text-made.new.self) c.make_text-made.ensures.keeps c.count_names-names.ensures.apart s.units.items i.0 s.budgets.items s.cells.items s.flaws.items s.limits.items i.1 i.2 i.3 i.4
