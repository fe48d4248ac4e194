use Rattle.std.proofs.Common.{subst}
use Rattle.lk_store.specs.Sizes.{sizes_of}
use Rattle.lk_store.specs.Layers.{Layers}
use Rattle.lk_ask.specs.Outlook.{Outlook}
use Rattle.lk_engine.specs.Lookouts.{row_count, IsBounded}
use Rattle.lk_engine.proofs.Standing.{restart_bounded}
use Rattle.lk_engine.proofs.engine.Engine.start.Goals as goal

pub returns-clause-bounded : goal.returns-clause-bounded
returns-clause-bounded g c =
    subst (λ (s : Outlook Layers). IsBounded (row_count (sizes_of c.begin.new.self.terms.own))
    (row_count (sizes_of s.scope.library.tables))) c.self.view_is
    (restart_bounded c.may_stay-stays.result c.begin.ensures.restarts
    c.self.invariant.base c.may_stay-stays.ensures)
