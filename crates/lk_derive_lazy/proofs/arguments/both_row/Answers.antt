use Rattle.std.proofs.Common.{ap, ◌∙◌}
use Rattle.std.specs.Prelude.{option_map}
use Rattle.lk_tree.specs.Tree.{Tree}
use Rattle.lk_rulebook.specs.Place.{Place}
use Rattle.lk_questions.specs.Erased.{truth, erased}
use Rattle.lk_questions.specs.Unfolding.{by_unfolding}
use Rattle.lk_store.specs.Contents.{Contents, tree_at}
use Rattle.lk_ask.specs.Sheets.{map_pair}
use Rattle.lk_lazy.specs.Lazies.{unfold_again}
use Rattle.lk_step.specs.Told.{Leaves}
use Rattle.lk_step.proofs.Moving.{moved2}
use Rattle.lk_derive_lazy.specs.Turns.{Turns}
use Rattle.lk_derive_lazy.proofs.Telling.{pair_is, leaves_basis}
use Rattle.lk_derive_lazy.proofs.arguments.both_row.Goals as goal

pub turned_row-requires-clause-turns : goal.turned_row-requires-clause-turns
turned_row-requires-clause-turns g c =
    let d : Contents = g.D.Terms.contents c.args.derives.now in
    let n : Contents = g.D.Terms.contents c.resume.new.looks in
    let before = g.D.Looks.sight (g.D.Terms.rest c.args.derives.now) in
    let after = g.D.Looks.sight (g.D.Terms.rest c.resume.new.looks) in
    let w : Place = before.basis.place in
    let a : Tree = tree_at d c.args.a in
    let b : Tree = tree_at d c.args.b in
    let l : Leaves g.D.Terms.contents g.D.Terms.rest g.D.Looks.sight c.args.derives.now c.resume.new.looks = leaves_basis g.D.Terms.contents g.D.Terms.rest g.D.Looks.sight c.args.derives.now c.resume.new.looks c.in_ok-next.ensures.keeps c.in_ok-next.ensures.stays in
    let pair = option_map (map_pair (tree_at n)) c.next_pair.result in
    let turned : Turns w (by_unfolding a b) a b pair = c.requires.again pair before.last
    (ap (option_map (map_pair (tree_at n))) c.next_pair.ensures ∙ pair_is w (tree_at n) after.last c.in_ok-next.next (erased w truth before.last (unfold_again w a b)) c.in_ok-next.ensures.steps) in
    moved2 l (λ w e f. Turns w (by_unfolding e f) e f pair) c.args.a c.args.b c.requires.a_in c.requires.b_in turned
