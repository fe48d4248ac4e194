use Rattle.lk_questions.specs.Program.{Program}
use Rattle.lk_tree.specs.Tree.{Tree}
use Rattle.lk_store.specs.Contents.{tree_at}
use Rattle.lk_core.specs.Forms.{Begins}
use Rattle.lk_core.proofs.Rows.{app_row_is}
use Rattle.lk_core.proofs.core_form.begin.Goals as goal

pub returns-in-App : goal.returns-in-App
returns-in-App g c =
    app_row_is (λ (p : Program Tree). Begins g.L.Terms.contents g.L.Terms.rest g.L.Looks.sight
    c.args.looks.now c.applied.new.looks c.applied.result c.args.e p)
    (tree_at (g.L.Terms.contents c.args.looks.now) c.args.e) _ _ c.in-App.ensures.tree
    c.applied.ensures
