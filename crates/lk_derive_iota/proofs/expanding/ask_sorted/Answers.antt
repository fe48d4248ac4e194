use Rattle.std.proofs.Common.{sym, subst}
use Rattle.lk_tree.specs.Tree.{Tree}
use Rattle.lk_rulebook.specs.Place.{Place}
use Rattle.lk_store.specs.Contents.{Contents, tree_at}
use Rattle.lk_store.proofs.Extending.{Extends-trans}
use Rattle.lk_derive_iota.specs.Taken.{IsTypedWithin, AsksTyped}
use Rattle.lk_derive_iota.specs.Expanding.{IsExpansionAsked}
use Rattle.lk_derive_iota.proofs.SSteps.{s_asked, s_type_within, s_sort_within}
use Rattle.lk_derive_iota.proofs.expanding.ask_sorted.Goals as goal

pub ask_typed-requires-clause-typed : goal.ask_typed-requires-clause-typed
ask_typed-requires-clause-typed g c = s_type_within c.requires.expanded

pub ask_typed-requires-2-clause-typed : goal.ask_typed-requires-2-clause-typed
ask_typed-requires-2-clause-typed g c =
    let m : Contents = g.D.Terms.contents c.ask_typed.new.derives in
    let T : Tree = tree_at m c.in_ok-typed.typed.form in
    let a = c.in_ok-typed.ensures.asks in
    subst (λ z. IsTypedWithin z T c.args.enough) (sym c.ask_typed.ensures.leaves.place) (s_sort_within c.requires.expanded a.first a.second a.typed a.formed)

pub returns-clause-asked : goal.returns-clause-asked
returns-clause-asked g c =
    let w : Place = (g.D.Looks.sight (g.D.Terms.rest c.args.derives.now)).basis.place in
    let l = (g.D.Looks.sight (g.D.Terms.rest c.args.derives.now)).basis.library in
    let old : Contents = g.D.Terms.contents c.args.derives.now in
    let m : Contents = g.D.Terms.contents c.ask_typed.new.derives in
    let d : Contents = g.D.Terms.contents c.ask_typed-2.new.derives in
    let keeps = c.ask_typed-2.ensures.leaves.keeps in
    let M : Tree = tree_at old c.args.m in
    let X : Tree = tree_at old c.args.x in
    let S : Tree = tree_at m c.in_ok-typed.typed.ty in
    let T : Tree = tree_at m c.in_ok-typed.typed.form in
    let U : Tree = tree_at d c.in_ok-sorted.sorted.ty in
    let V : Tree = tree_at d c.in_ok-sorted.sorted.form in
    let r3 = c.ask_typed-2.new.row in
    let b : AsksTyped w m d c.ask_typed.new.row r3 T U V = subst (λ z. AsksTyped z m d c.ask_typed.new.row r3 T U V) c.ask_typed.ensures.leaves.place c.in_ok-sorted.ensures.asks in
    subst (λ z. IsExpansionAsked w l d r3 c.args.enough c.args.redex.now M X z (tree_at d c.in_ok-typed.typed.form) U V) (sym (keeps.trees.same c.in_ok-typed.typed.ty c.in_ok-typed.ensures.ty_in))
    (subst (λ z. IsExpansionAsked w l d r3 c.args.enough c.args.redex.now M X S z U V) (sym (keeps.trees.same c.in_ok-typed.typed.form c.in_ok-typed.ensures.form_in))
    (s_asked c.requires.expanded c.requires.stated (Extends-trans _ _ _ c.ask_typed.ensures.leaves.keeps keeps) c.in_ok-typed.ensures.asks b))
