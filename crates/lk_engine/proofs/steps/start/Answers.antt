use Rattle.std.proofs.Common.{ap, ◌∙◌}
use Rattle.lk_questions.specs.Erased.{run_steps, out_of}
use Rattle.lk_questions.specs.Table.{steps}
use Rattle.lk_store.specs.Contents.{tree_at}
use Rattle.lk_engine.proofs.steps.start.Goals as goal

pub returns-in-Some : goal.returns-in-Some
returns-in-Some g c =
    let contents = g.L.Terms.contents in
    let place = (g.L.Looks.sight (g.L.Terms.rest c.args.looks.now)).basis.place in
    let h = c.in_ok-begin_binders.ensures in
    let told = c.of_type.ensures.steps place (tree_at (contents c.begin_binders.new.looks))
    (g.L.Looks.sight (g.L.Terms.rest c.begin_binders.new.looks)).last in
    rw c.in-Infer.is (record {
      keeps = h.keeps;
      stays = h.stays;
      known = c.of_type.ensures.known _ h.known;
      runs = λ budget. ap (λ s. run_steps (out_of steps place) s budget) told ∙ h.runs budget;
    })
