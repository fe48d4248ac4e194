use Rattle.std.proofs.Common.{◌≡◌, ap, sym, subst}
use Rattle.lk_tree.specs.Tree.{Tree}
use Rattle.lk_rulebook.specs.Place.{Place}
use Rattle.lk_questions.specs.Query.{infer}
use Rattle.lk_store.specs.Contents.{Contents, tree_at}
use Rattle.lk_store.proofs.Extending.{Extends-trans}
use Rattle.lk_step.specs.Parts.{AsksType, AsksSame}
use Rattle.lk_derive_iota.specs.Taken.{IsTypedWithin, AsksTyped, IsAskedFor}
use Rattle.lk_derive_iota.proofs.Growing.{within_at}
use Rattle.lk_derive_iota.proofs.KSteps.{k_typed_within, k_own_within, k_asked}
use Rattle.lk_derive_iota.proofs.taking.ask_compared.Goals as goal

pub ask_typed-requires-clause-e_in : goal.ask_typed-requires-clause-e_in
ask_typed-requires-clause-e_in g c = c.requires.taken.under.redex.major_is.known

pub ask_typed-requires-clause-typed : goal.ask_typed-requires-clause-typed
ask_typed-requires-clause-typed g c =
    let w : Place = (g.D.Looks.sight (g.D.Terms.rest c.args.derives.now)).basis.place in
    subst (λ z. IsTypedWithin w z c.args.enough) (sym c.requires.taken.under.redex.major_is.is) (k_typed_within c.requires.taken)

pub ask_type-requires-clause-answered : goal.ask_type-requires-clause-answered
ask_type-requires-clause-answered g c =
    within_at {most = c.args.enough} {q = infer (tree_at (g.D.Terms.contents c.args.derives.now) c.args.d)} c.ask_typed.ensures.leaves.place (ap infer (c.ask_typed.ensures.leaves.keeps.trees.same c.args.d c.requires.d_in)) (k_own_within c.requires.taken)

pub returns-clause-asked : goal.returns-clause-asked
returns-clause-asked g c =
    let w : Place = (g.D.Looks.sight (g.D.Terms.rest c.args.derives.now)).basis.place in
    let old : Contents = g.D.Terms.contents c.args.derives.now in
    let m : Contents = g.D.Terms.contents c.ask_typed.new.derives in
    let d : Contents = g.D.Terms.contents c.ask_type.new.derives in
    let r0 = c.args.row.now in
    let r1 = c.ask_typed.new.row in
    let r2 = c.ask_type.new.row in
    let r3 = c.ask_same.new.row in
    let h = c.requires.taken in
    let keeps = c.ask_type.ensures.leaves.keeps in
    let S : Tree = tree_at m c.in_ok-typed.typed.ty in
    let T : Tree = tree_at m c.in_ok-typed.typed.form in
    let D : Tree = tree_at d c.in_ok-own.own in
    let t : Tree = tree_at old c.args.d in
    let ty : tree_at d c.in_ok-typed.typed.ty ≡ S = keeps.trees.same c.in_ok-typed.typed.ty c.in_ok-typed.ensures.ty_in in
    let form : tree_at d c.in_ok-typed.typed.form ≡ T = keeps.trees.same c.in_ok-typed.typed.form c.in_ok-typed.ensures.form_in in
    let a : AsksTyped w old m r0 r1 h.under.first S T = subst (λ z. AsksTyped w old m r0 r1 z S T) h.under.redex.major_is.is c.in_ok-typed.ensures.asks in
    let b : AsksType w m d r1 r2 t D = subst (λ z. AsksType z m d r1 r2 t D) c.ask_typed.ensures.leaves.place
    (subst (λ z. AsksType (g.D.Looks.sight (g.D.Terms.rest c.ask_typed.new.derives)).basis.place m d r1 r2 z D) (c.ask_typed.ensures.leaves.keeps.trees.same c.args.d c.requires.d_in) c.in_ok-own.ensures.asks) in
    let e : AsksSame d r2 r3 T D = subst (λ z. AsksSame d r2 r3 z D) form c.in_ok-ask_same.ensures in
    let l = (g.D.Looks.sight (g.D.Terms.rest c.args.derives.now)).basis.library in
    let mj : Tree = tree_at old c.args.redex.now.major in
    subst (λ z. IsAskedFor w l d r3 c.args.enough c.args.redex.now mj t z (tree_at d c.in_ok-typed.typed.form) D) (sym ty)
    (subst (λ z. IsAskedFor w l d r3 c.args.enough c.args.redex.now mj t S z D) (sym form)
    (k_asked h c.requires.stated (Extends-trans _ _ _ c.ask_typed.ensures.leaves.keeps keeps) a b e))
