use Rattle.std.proofs.Common.{false, ap, ◌∙◌}
use Rattle.std.specs.Prelude.{option_map}
use Rattle.lk_questions.specs.Program.{done}
use Rattle.lk_questions.specs.Erased.{truth, erased}
use Rattle.lk_rulebook.specs.Place.{Place}
use Rattle.lk_store.specs.Contents.{tree_at}
use Rattle.lk_ask.specs.Sheets.{map_pair}
use Rattle.lk_derive_eta.specs.Texts.{texts_alone}
use Rattle.lk_derive_eta.proofs.TextLine.{line_pair}
use Rattle.lk_derive_eta.proofs.texts.expanded_pair.Goals as goal

pub returns-clause-is : goal.returns-clause-is
returns-clause-is g c =
    let t = tree_at (g.D.Terms.contents c.args.derives.now) in
    let u = tree_at (g.D.Terms.contents c.begin.new.looks) in
    let w : Place = (g.D.Looks.sight (g.D.Terms.rest c.args.derives.now)).basis.place in
    ap (option_map (map_pair u)) c.pair_of_line.ensures
    ∙ line_pair u w (g.D.Looks.sight (g.D.Terms.rest c.begin.new.looks)).last c.in_ok-line.line
    (erased w truth (g.D.Looks.sight (g.D.Terms.rest c.args.derives.now)).last (texts_alone (t c.args.a) (t c.args.b)))
    (c.in_ok-line.ensures.steps (λ a b. done false))
