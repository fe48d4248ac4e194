use Rattle.std.proofs.Common.{refl}
use Rattle.lk_store.proofs.Made.{Extends-self}
use Rattle.lk_same.specs.Sames.{no_other}
use Rattle.lk_same.proofs.Giving.{line_then}
use Rattle.lk_same.proofs.lines.texts.Goals as goal

pub returns : goal.returns
returns g c =
    let h = c.in_ok-line.ensures in
    line_then no_other h (record {
      keeps = Extends-self _;
      stays = refl;
      known = c.of_texts.ensures.known _ h.known;
      steps = c.of_texts.ensures.steps _ _ _;
    })
