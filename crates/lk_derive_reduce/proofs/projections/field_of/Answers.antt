use Rattle.std.proofs.Common.{ap, ◌∙◌}
use Rattle.std.specs.Prelude.{None, option_map}
use Rattle.lk_questions.specs.Erased.{a_tree, with_tree, erased}
use Rattle.lk_rulebook.specs.Place.{Place}
use Rattle.lk_proj.specs.Reductions.{subject_rest, core_rest}
use Rattle.lk_proj.specs.Sheets.{map_core}
use Rattle.lk_store.specs.Contents.{tree_at}
use Rattle.lk_step.proofs.Nexts.{core_asked_is}
use Rattle.lk_derive_reduce.proofs.projections.field_of.Goals as goal

pub returns-clause-is : goal.returns-clause-is
returns-clause-is g c =
    let t = tree_at (g.D.Terms.contents c.args.derives.now) in
    let u = tree_at (g.D.Terms.contents c.resume_term.new.looks) in
    let w : Place = (g.D.Looks.sight (g.D.Terms.rest c.args.derives.now)).basis.place in
    ap (option_map u) c.core_of_next.ensures
    ∙ core_asked_is (λ s. with_tree (core_rest w None (map_core u s))) u (g.D.Looks.sight (g.D.Terms.rest c.resume_term.new.looks)).last c.in_ok-next.next
    (erased w a_tree (g.D.Looks.sight (g.D.Terms.rest c.args.derives.now)).last (subject_rest (t c.args.e) (t c.args.form))) c.in_ok-next.ensures.steps
