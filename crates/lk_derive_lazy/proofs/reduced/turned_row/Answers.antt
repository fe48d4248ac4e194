use Rattle.std.proofs.Common.{subst}
use Rattle.std.specs.Prelude.{option_map}
use Rattle.std.proofs.lemmas.Result.{IfOk-weaker}
use Rattle.lk_tree.specs.Tree.{Tree}
use Rattle.lk_rulebook.specs.Place.{Place}
use Rattle.lk_rulebook.specs.Claims.{equals}
use Rattle.lk_questions.specs.Unfolding.{by_unfolding}
use Rattle.lk_store.specs.Contents.{Contents, tree_at}
use Rattle.lk_ask.specs.Sheets.{map_pair}
use Rattle.lk_derive_lazy.specs.Turns.{TurnsTo, Turns, Bears}
use Rattle.lk_derive_lazy.proofs.Stating.{turned_bears}
use Rattle.lk_derive_lazy.proofs.reduced.turned_row.Goals as goal

pub returns : goal.returns
returns g c =
    let d : Contents = g.L.Terms.contents c.args.looks.now in
    let w : Place = (g.L.Looks.sight (g.L.Terms.rest c.args.looks.now)).basis.place in
    let a : Tree = tree_at d c.args.a in
    let b : Tree = tree_at d c.args.b in
    let turned : TurnsTo w (by_unfolding a b) a b (map_pair (tree_at d) c.in-Some.found) = subst (λ o. Turns w (by_unfolding a b) a b (option_map (map_pair (tree_at d)) o)) c.in-Some.is c.requires.turns in
    IfOk-weaker c.reduced_row.result _ (Bears w d (by_unfolding a b) (equals a b))
    (λ r f. turned_bears w d (by_unfolding a b) a b (tree_at d c.in-Some.found.left) (tree_at d c.in-Some.found.right) r (λ n h. f w n c.requires.two turned.left turned.right h) turned.asks)
    c.reduced_row.ensures
