use Rattle.std.proofs.Common.{rules, ◌-◌, length, refl, ◌∙◌}
use Rattle.lk_store.specs.Contents.{tree_at}
use Rattle.lk_store.proofs.Extending.{Extends-trans}
use Rattle.lk_type.specs.Lambdas.{EndsIn}
use Rattle.lk_type.proofs.ClosedRuns.{run_shorter, closing_first, closing_on}
use Rattle.lk_type.proofs.lambdas.close_all.Goals as goal

pub runs-init : goal.runs-init
runs-init g c = record {
  keeps = search rules;
  stays = refl;
  made_in = c.requires;
  closing = closing_first c.args.numbers.now (tree_at (g.L.Terms.contents c.args.looks.now) c.args.ty);
}

pub runs-smaller : goal.runs-smaller
runs-smaller g c =
    let ends : EndsIn c.runs.left.now c.in-Some.run' c.in-Some.others.now = search rules in
    run_shorter c.runs.left.now c.in-Some.others.now c.in-Some.run' ends

pub runs-preserved : goal.runs-preserved
runs-preserved g c =
    let inv = c.runs.invariant in
    let made = c.in_ok-made.ensures in
    let ends : EndsIn c.runs.left.now c.in-Some.run' c.in-Some.others.now = search rules in
    record {
      keeps = Extends-trans _ _ _ inv.keeps made.keeps;
      stays = made.stays ∙ inv.stays;
      made_in = search rules;
      closing = closing_on c.args.numbers.now c.runs.left.now c.in-Some.others.now c.in-Some.run' (length c.args.numbers.now - length c.runs.left.now)
          (tree_at (g.L.Terms.contents c.runs.looks) c.runs.made) _ _ ends refl (search rules) inv.closing;
    }
