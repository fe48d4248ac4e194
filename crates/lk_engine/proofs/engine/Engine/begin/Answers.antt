use Rattle.std.proofs.Common.{subst}
use Rattle.lk_store.specs.Contents.{Extends}
use Rattle.lk_store.specs.Store.{contents_of}
use Rattle.lk_store.specs.Layers.{layers_contents, Layers}
use Rattle.lk_ask.specs.Outlook.{Outlook}
use Rattle.lk_engine.specs.Lookouts.{BeginsUnit}
use Rattle.lk_engine.proofs.Standing.{restart_stands, restart_over}
use Rattle.lk_engine.proofs.engine.Engine.begin.Goals as goal

pub invariant_of-self : goal.invariant_of-self
invariant_of-self g c = rw c.start_unit.ensures.share (restart_stands c.restart.ensures
    c.self.invariant
    (subst (λ n. BeginsUnit (g.K.Knows.memo c.self.inside.knowledge.now)
    (g.K.Knows.memo c.start_unit.new.self) c.args.unit n
    c.args.stays) c.len-terms.ensures c.start_unit.ensures.begins))

pub returns-clause-contents : goal.returns-clause-contents
returns-clause-contents g c =
    subst (λ (s : Outlook Layers). Extends (contents_of s.scope.library.tables)
    (layers_contents c.restart.new.lookout.terms)) c.self.view_is
    (restart_over c.restart.ensures c.self.invariant.base)
