use Rattle.std.proofs.Common.{◌≡◌, sym, ◌∙◌, ap}
use Rattle.std.specs.Prelude.{option_map}
use Rattle.lk_rulebook.specs.Place.{Place}
use Rattle.lk_rulebook.specs.Claims.{equals}
use Rattle.lk_store.specs.Contents.{Contents, tree_at}
use Rattle.lk_ask.specs.Sheets.{map_pair}
use Rattle.lk_step.proofs.Moving.{tree_stays}
use Rattle.lk_step.proofs.Bases.{basis_made}
use Rattle.lk_derive_eta.proofs.TextLine.{text_some, text_basis}
use Rattle.lk_derive_eta.proofs.texts.by_texts.Goals as goal

pub unreachable-requires : goal.unreachable-requires
unreachable-requires g c =
    let w : Place = (g.D.Looks.sight (g.D.Terms.rest c.args.derives.now)).basis.place in
    let d : Contents = g.D.Terms.contents c.args.derives.now in
    let n : Contents = g.D.Terms.contents c.expanded_pair.new.derives in
    text_some w (tree_at d c.args.a) (tree_at d c.args.b) c.args.enough (g.D.Looks.sight (g.D.Terms.rest c.args.derives.now)).last c.requires.pair c.requires.says
    (ap (option_map (map_pair (tree_at n))) (sym c.in-None.is) ∙ c.in_ok-found.ensures.is)

pub returns-clause-rests : goal.returns-clause-rests
returns-clause-rests g c =
    let w : Place = (g.D.Looks.sight (g.D.Terms.rest c.args.derives.now)).basis.place in
    let d : Contents = g.D.Terms.contents c.args.derives.now in
    let n : Contents = g.D.Terms.contents c.expanded_pair.new.derives in
    let l = c.in_ok-found.ensures.leaves in
    let p = c.in-Some.pair in
    let a_same : tree_at n c.args.a ≡ tree_at d c.args.a = tree_stays l c.args.a c.requires.a_in in
    let b_same : tree_at n c.args.b ≡ tree_at d c.args.b = tree_stays l c.args.b c.requires.b_in in
    λ cost h. basis_made w n (equals (tree_at d c.args.a) (tree_at d c.args.b)) cost _ _ c.in_ok-row-in-Some.row c.in_ok-row-in-Some.ensures.row
    (rw (a_same, b_same)
    (text_basis w (tree_at d c.args.a) (tree_at d c.args.b) (g.D.Looks.sight (g.D.Terms.rest c.args.derives.now)).last c.requires.pair (map_pair (tree_at n) p)
    (ap (option_map (map_pair (tree_at n))) (sym c.in-Some.is) ∙ c.in_ok-found.ensures.is) cost h))
