use Rattle.std.proofs.Common.{◌≡◌, length, nat_eq, true, Some, None, sym, subst, ap}
use Rattle.lk_tree.specs.Tree.{Tree}
use Rattle.lk_tree.specs.Spine.{args}
use Rattle.lk_rulebook.specs.Place.{Place}
use Rattle.lk_rulebook.specs.WellStated.{WellStated}
use Rattle.lk_store.specs.Contents.{Contents, tree_at, list_at}
use Rattle.lk_ask.specs.Constants.{IsUnfolded}
use Rattle.lk_derive_reduce.proofs.FormRows.{delta_run, count_of}
use Rattle.lk_derive_reduce.proofs.values.by_value.Goals as goal

pub unfolded_once-requires-clause-run : goal.unfolded_once-requires-clause-run
unfolded_once-requires-clause-run g c =
    let old : Contents = g.D.Terms.contents c.args.derives.now in
    let d : Contents = g.D.Terms.contents c.unfold.new.looks in
    let w : Place = (g.D.Looks.sight (g.D.Terms.rest c.args.derives.now)).basis.place in
    let w' : Place = (g.D.Looks.sight (g.D.Terms.rest c.unfold.new.looks)).basis.place in
    let u = c.requires.unfolds in
    let v : Tree = tree_at old c.args.value in
    let ls = list_at old c.args.levels in
    let made : IsUnfolded d u.plain.levels ls v (args (tree_at old c.args.core)) (Some c.in-Some.next) =
    subst (λ o. IsUnfolded d u.plain.levels ls v (args (tree_at old c.args.core)) o) c.in-Some.is (c.in_ok-made.ensures.ok u.plain u.is) in
    let kept = c.unfold.ensures.keeps.trees.same in
    delta_run w w' c.args.enough old d c.args.row.now (tree_at old c.args.e) (tree_at d c.args.e) (tree_at old c.args.core) (tree_at d c.args.core) v (tree_at d c.in-Some.next) u.plain ls
    (ap (λ z. (g.D.Looks.sight z).basis.place) c.unfold.ensures.rest) (kept c.args.e c.requires.e_in) (kept c.args.core c.requires.core_in) made.1.is c.requires.stated c.unfold.ensures.keeps
    (c.requires.value_is u.plain u.is) u.unfolds

pub unreachable-requires : goal.unreachable-requires
unreachable-requires g c =
    let old : Contents = g.D.Terms.contents c.args.derives.now in
    let d : Contents = g.D.Terms.contents c.unfold.new.looks in
    let w : Place = (g.D.Looks.sight (g.D.Terms.rest c.args.derives.now)).basis.place in
    let u = c.requires.unfolds in
    let v : Tree = tree_at old c.args.value in
    let ls = list_at old c.args.levels in
    let none : IsUnfolded d u.plain.levels ls v (args (tree_at old c.args.core)) None =
    subst (λ o. IsUnfolded d u.plain.levels ls v (args (tree_at old c.args.core)) o) c.in-None.is (c.in_ok-made.ensures.ok u.plain u.is) in
    let count : nat_eq (length ls) (length u.plain.levels) ≡ true = count_of w c.args.enough old c.args.row.now (tree_at old c.args.e) (tree_at old c.args.core) v u.plain ls (c.requires.value_is u.plain u.is) u.unfolds in
    absurd cc

pub unfolded_once-requires-clause-stated : goal.unfolded_once-requires-clause-stated
unfolded_once-requires-clause-stated g c = subst (λ r. WellStated (g.D.Looks.sight r).basis.place) (sym c.unfold.ensures.rest) c.requires.stated
