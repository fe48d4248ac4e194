use Rattle.std.proofs.Common.{Some, None, refl, ◌∙◌}
use Rattle.lk_store.specs.Contents.{tree_at}
use Rattle.lk_restore.specs.Marks.{marks_at}
use Rattle.lk_restore.proofs.Steps.{application_step, constant_step}
use Rattle.lk_restore.proofs.restoring.RestoringRewrite.step.Goals as goal

pub returns-in-App-clause-made : goal.returns-in-App-clause-made
returns-in-App-clause-made g c =
    let s = g.T.Terms.contents c.args.terms.now in
    application_step s (marks_at s c.args.self.now.originals.now) c.args.depth c.args.e c.in-App.field-0 c.in-App.field-1 c.instead.result c.in-App.ensures.tree c.instead.ensures.known c.instead.ensures.is

pub returns-in-Some-clause-made : goal.returns-in-Some-clause-made
returns-in-Some-clause-made g c =
    let s = g.T.Terms.contents c.args.terms.now in
    let ms = marks_at s c.args.self.now.originals.now in
    record {
      known = c.in-Some.ensures.known;
      is = constant_step s ms c.args.e c.in-Const.name c.in-Const.levels (Some (tree_at s c.in-Some.r)) (tree_at s c.in-Some.r) c.in-Const.ensures.tree c.in-Some.ensures.is refl;
    }

pub returns-in_ok-r-in-Const-clause-made : goal.returns-in_ok-r-in-Const-clause-made
returns-in_ok-r-in-Const-clause-made g c =
    let s = g.T.Terms.contents c.args.terms.now in
    let ms = marks_at s c.args.self.now.originals.now in
    let made = c.in_ok-r-in-Const.ensures.ok in
    record {
      known = made.known;
      is = made.is ∙ constant_step s ms c.args.e c.in-Const.name c.in-Const.levels None _ c.in-Const.ensures.tree c.in_default.ensures.is refl;
    }
