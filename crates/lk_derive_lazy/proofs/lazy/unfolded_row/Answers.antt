use Rattle.std.proofs.Common.{subst}
use Rattle.std.specs.Prelude.{option_map}
use Rattle.lk_rulebook.specs.Place.{Place}
use Rattle.lk_store.specs.Contents.{Contents, tree_at}
use Rattle.lk_ask.specs.Sheets.{map_pair}
use Rattle.lk_derive_lazy.specs.Alike.{AreAlikeIf}
use Rattle.lk_derive_lazy.proofs.Turning.{turns_first}
use Rattle.lk_derive_lazy.proofs.lazy.unfolded_row.Goals as goal

pub turned_row-requires-clause-turns : goal.turned_row-requires-clause-turns
turned_row-requires-clause-turns g c =
    let w : Place = (g.D.Looks.sight (g.D.Terms.rest c.args.derives.now)).basis.place in
    let d : Contents = g.D.Terms.contents c.args.derives.now in
    let two = c.requires.two in
    turns_first w two.stated (tree_at d c.args.a) (tree_at d c.args.b) two.left two.right (option_map (map_pair (tree_at d)) c.args.pair) c.args.enough c.requires.first c.requires.yes
    (subst (λ o. AreAlikeIf d c.args.a c.args.b o) c.in-None.is c.in_ok-likeness.ensures)
