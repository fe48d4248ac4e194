use Rattle.std.proofs.Common.{refl, ◌∙◌}
use Rattle.lk_store.proofs.Made.{Extends-self}
use Rattle.lk_ask.proofs.Steps.{wrapped}
use Rattle.lk_engine.proofs.steps.begin.Goals as goal

pub returns-in_ok-begin-in-Same : goal.returns-in_ok-begin-in-Same
returns-in_ok-begin-in-Same g c = rw c.in-Same.is
    (wrapped c.of_same.ensures c.in_ok-begin-in-Same.ensures)

pub returns-in-Whnf : goal.returns-in-Whnf
returns-in-Whnf g c =
    let known = rw c.in-Whnf.is at c.requires.query_in in
    rw c.in-Whnf.is (record {
      keeps = Extends-self _;
      stays = refl;
      known = c.of_core.ensures.known _ (c.begin.ensures.known _ known);
      steps = c.of_core.ensures.steps _ _ _ ∙ c.begin.ensures.steps _ _ _;
    })
