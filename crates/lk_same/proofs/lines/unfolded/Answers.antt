use Rattle.std.proofs.Common.{◌∙◌}
use Rattle.lk_store.specs.Contents.{tree_at}
use Rattle.lk_same.specs.Sames.{then_parts}
use Rattle.lk_same.proofs.Giving.{behind_trees}
use Rattle.lk_same.proofs.lines.unfolded.Goals as goal

pub returns-in-Some : goal.returns-in-Some
returns-in-Some g c =
    let t = tree_at (g.L.Terms.contents c.args.looks.now) in
    let h = rw c.in-Some.is at c.in_ok-next.ensures in
    record {
      keeps = h.keeps;
      stays = h.stays;
      known = c.of_lazy.ensures.known _ h.known;
      steps = c.of_lazy.ensures.steps _ _ _ ∙ h.goes (then_parts (t c.args.a) (t c.args.b));
    }

pub returns-in-None : goal.returns-in-None
returns-in-None g c =
    let h = rw c.in-None.is at c.in_ok-next.ensures in
    let a = h.keeps.trees.same c.args.a c.requires.a_in in
    let b = h.keeps.trees.same c.args.b c.requires.b_in in
    behind_trees then_parts c.args.a c.args.b a b h c.parted.ensures
