use Rattle.std.proofs.Common.{◌≡◌, Option, Some, None, refl, sym, subst, ap, ◌∙◌}
use Rattle.std.specs.Prelude.{ℕ, option_map}
use Rattle.lk_tree.specs.Tree.{Tree, const}
use Rattle.lk_rulebook.specs.Place.{Place}
use Rattle.lk_rulebook.specs.WellStated.{WellStated}
use Rattle.lk_store.specs.Contents.{Contents, name_at, tree_at}
use Rattle.lk_derive_quot.specs.Quotients.{major_at, AtMajor}
use Rattle.lk_derive_quot.proofs.QuotientRows.{stays_whole, major_there, major_moved}
use Rattle.lk_derive_quot.proofs.rows.fill_row.Goals as goal

pub major_of-requires-clause-named : goal.major_of-requires-clause-named
major_of-requires-clause-named g c =
    let h = c.requires.head in
    record { levels = h.levels; head_is = h.head_is ∙ ap (λ z. const z h.levels) (sym (c.head_name-name.ensures.is h.name h.levels h.head_is)) }

pub major_row-requires-clause-stated : goal.major_row-requires-clause-stated
major_row-requires-clause-stated g c = subst WellStated (sym c.major_of.ensures.leaves.place) c.requires.stated

pub major_row-requires-clause-at : goal.major_row-requires-clause-at
major_row-requires-clause-at g c =
    let old : Contents = g.D.Terms.contents c.args.derives.now in
    let d : Contents = g.D.Terms.contents c.major_of.new.derives in
    let w : Place = (g.D.Looks.sight (g.D.Terms.rest c.args.derives.now)).basis.place in
    let w2 : Place = (g.D.Looks.sight (g.D.Terms.rest c.major_of.new.derives)).basis.place in
    let last : Option ℕ = (g.D.Looks.sight (g.D.Terms.rest c.args.derives.now)).last in
    let h = c.requires.head in
    let e : Tree = tree_at old c.args.e in
    let m : Tree = tree_at d c.in-Some.major in
    let named : name_at old c.head_name-name.result ≡ h.name = c.head_name-name.ensures.is h.name h.levels h.head_is in
    let there : major_at w last h.name e ≡ Some m = sym (ap (option_map (tree_at d)) (sym c.in-Some.is) ∙ c.in_ok-major.ensures.is ∙ ap (λ z. major_at w last z e) named) in
    let a : AtMajor w c.args.enough h.name e m = major_there w c.args.enough e m last h c.requires.claimed there in
    major_moved w w2 c.args.enough h.name (name_at d c.head_name-name.result) e (tree_at d c.args.e) m m c.major_of.ensures.leaves.place
    (c.major_of.ensures.leaves.keeps.names.same c.head_name-name.result c.head_name-name.ensures.known ∙ named) (c.major_of.ensures.leaves.keeps.trees.same c.args.e c.requires.e_in) refl a

pub returns-in-None-clause-whole : goal.returns-in-None-clause-whole
returns-in-None-clause-whole g c =
    let old : Contents = g.D.Terms.contents c.args.derives.now in
    let d : Contents = g.D.Terms.contents c.major_of.new.derives in
    let w : Place = (g.D.Looks.sight (g.D.Terms.rest c.args.derives.now)).basis.place in
    let last : Option ℕ = (g.D.Looks.sight (g.D.Terms.rest c.args.derives.now)).last in
    let h = c.requires.head in
    let e : Tree = tree_at old c.args.e in
    let named : name_at old c.head_name-name.result ≡ h.name = c.head_name-name.ensures.is h.name h.levels h.head_is in
    let none : major_at w last h.name e ≡ None = sym (ap (option_map (tree_at d)) (sym c.in-None.is) ∙ c.in_ok-major.ensures.is ∙ ap (λ z. major_at w last z e) named) in
    stays_whole w c.args.enough d c.args.row.now e last h c.requires.empty c.requires.claimed none
