use Rattle.std.proofs.Common.{sym, subst}
use Rattle.std.specs.Prelude.{IfSome}
use Rattle.lk_store.proofs.Extending.{Extends-trans}
use Rattle.lk_store.specs.Layers.{layers_contents}
use Rattle.lk_desk.specs.Seats.{job}
use Rattle.lk_desk.specs.Truth.{IsTablesOf}
use Rattle.lk_engine.specs.Shares.{IsShared}
use Rattle.lk_engine.proofs.Shared.{look_shared}
use Rattle.lk_engine.proofs.share.Share.look.Goals as goal
use Rattle.lk_engine.proofs.share.Share.look.Goals.{in-Ok, in-Err}

pub returns-clause-found : goal.returns-clause-found
returns-clause-found c =
    let t = c.args.terms.now.base in
    let now = layers_contents c.look.new.terms in
    elim c.match-look.branch [
      | in-Ok w ↦ rw w.result-is (subst (λ s. IfSome w.in-Ok.found (IsShared s now c.args.query))
          c.self.view_is (look_shared t now
          (Extends-trans _ _ _ c.requires.over c.look.ensures.keeps) c.args.query c.key_of.result
          c.key_of.ensures (job c.self.inside.answers.now.desk)
          (subst (λ s. IsTablesOf s.job t) (sym c.self.view_is) c.requires.tables)
          c.self.inside.unit c.in_ok-unit.unit c.in_ok-unit.was w.in-Ok.found w.in-Ok.ensures.some))
      | in-Err w ↦ rw w.result-is tt
    ]
