use Rattle.std.proofs.Common.{◌∙◌}
use Rattle.lk_same.specs.Sames.{then_texts}
use Rattle.lk_same.proofs.Giving.{line_then}
use Rattle.lk_same.proofs.same.resume_truth.Goals as goal

pub returns-in_ok-next-in-Lazy : goal.returns-in_ok-next-in-Lazy
returns-in_ok-next-in-Lazy g c =
    let h = c.in_ok-next-in-Lazy.ensures in
    record {
      keeps = h.keeps;
      stays = h.stays;
      known = c.of_lazy.ensures.known _ h.known;
      steps = rw c.in-Lazy.is (c.of_lazy.ensures.steps _ _ _ ∙ h.steps);
    }

pub returns-in_ok-line-in-Eta : goal.returns-in_ok-line-in-Eta
returns-in_ok-line-in-Eta g c =
    rw c.in-Eta.is (line_then then_texts c.in_ok-line-in-Eta.ensures c.of_eta.ensures)
