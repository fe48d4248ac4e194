use Rattle.std.proofs.Common.{refl}
use Rattle.lk_store.proofs.Made.{Extends-self}
use Rattle.lk_ask.proofs.Steps.{same_steps}
use Rattle.lk_same.proofs.lines.parted.Goals as goal

pub returns-in-Some : goal.returns-in-Some
returns-in-Some g c =
    let h = rw c.in-Some.is at c.in_ok-next.ensures in
    record {
      keeps = Extends-self _;
      stays = refl;
      known = h.known;
      steps = h.goes _ _;
    }

pub returns-in-None : goal.returns-in-None
returns-in-None g c = same_steps ((rw c.in-None.is at c.in_ok-next.ensures).goes _ _) c.eta.ensures
