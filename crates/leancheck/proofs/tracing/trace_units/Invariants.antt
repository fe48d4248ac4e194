use Rattle.std.specs.Prelude.{◌≡◌}
use Rattle.lk_env.specs.Units.{library_of}
use Rattle.lk_book.specs.File.{export_at}
use Rattle.leancheck.specs.Drawn.{unit_budget}
use Rattle.leancheck.specs.Traces.{all_kept, lacks_below}
use Rattle.leancheck.specs.Derived.{AreTraced}
use Rattle.leancheck.proofs.tracing.trace_units.Given as goal

abbrev pub invariant-loop-n : goal.invariant-loop-n
invariant-loop-n g l =
    (l.engine.scope.library ≡ l.library)
    × (g.D.Tracer.library (g.D.Looks.sight (g.D.Terms.rest l.deriver.derives)).basis.beside ≡ l.library)
    × AreTraced (library_of l.library) (unit_budget l.library l.steps) (g.D.Terms.contents l.deriver.derives) (all_kept (export_at l.library)) l.n l.trace
    × (l.lacks ≡ lacks_below (library_of l.library) (unit_budget l.library l.steps) l.n)
