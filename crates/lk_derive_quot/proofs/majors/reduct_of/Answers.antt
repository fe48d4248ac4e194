use Rattle.std.proofs.Common.{ap, ◌∙◌}
use Rattle.std.specs.Prelude.{None, option_map}
use Rattle.lk_questions.specs.Erased.{a_tree, erased}
use Rattle.lk_rulebook.specs.Place.{Place}
use Rattle.lk_quot.specs.Cores.{quot_rest}
use Rattle.lk_quot.specs.Sheets.{map_quot_sheet}
use Rattle.lk_quot.specs.Redexes.{redex_in, form_rest}
use Rattle.lk_store.specs.Contents.{tree_at}
use Rattle.lk_step.proofs.Nexts.{core_asked_is}
use Rattle.lk_derive_quot.proofs.majors.reduct_of.Goals as goal

pub returns-clause-is : goal.returns-clause-is
returns-clause-is g c =
    let t = tree_at (g.D.Terms.contents c.args.derives.now) in
    let u = tree_at (g.D.Terms.contents c.resume_term.new.looks) in
    let w : Place = (g.D.Looks.sight (g.D.Terms.rest c.args.derives.now)).basis.place in
    ap (option_map u) c.core_of_next.ensures
    ∙ core_asked_is (λ s. quot_rest w None (map_quot_sheet u s)) u (g.D.Looks.sight (g.D.Terms.rest c.resume_term.new.looks)).last c.in_ok-next.next
    (erased w a_tree (g.D.Looks.sight (g.D.Terms.rest c.args.derives.now)).last (form_rest (t c.args.e) (redex_in (t c.args.e)) (t c.args.form))) c.in_ok-next.ensures.steps
