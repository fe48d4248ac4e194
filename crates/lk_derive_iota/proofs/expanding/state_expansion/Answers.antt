use Rattle.std.proofs.Common.{◌≡◌, ap, ◌∙◌}
use Rattle.lk_tree.specs.Tree.{Tree, app}
use Rattle.lk_rulebook.specs.Place.{Place}
use Rattle.lk_rulebook.specs.Structures.{on_major}
use Rattle.lk_rulebook.specs.Claims.{types, reduces}
use Rattle.std.specs.Prelude.{[], ◌∷◌}
use Rattle.lk_step.specs.MajorSteps.{expand_claims}
use Rattle.lk_store.specs.Contents.{Contents, tree_at}
use Rattle.lk_store.proofs.Extending.{Extends-trans}
use Rattle.lk_derive_iota.proofs.Growing.{chains_at}
use Rattle.lk_derive_iota.proofs.SSteps.{s_stated}
use Rattle.lk_derive_iota.proofs.expanding.state_expansion.Goals as goal

pub returns-clause-at : goal.returns-clause-at
returns-clause-at g c =
    let w : Place = (g.D.Looks.sight (g.D.Terms.rest c.args.derives.now)).basis.place in
    let old : Contents = g.D.Terms.contents c.args.derives.now in
    let d1 : Contents = g.D.Terms.contents c.make.new.self in
    let d : Contents = g.D.Terms.contents c.make-2.new.self in
    let m : Tree = tree_at old c.args.m in
    let x : Tree = tree_at old c.args.x in
    let a = c.args.asked in
    let S : Tree = tree_at old a.typed.ty in
    let T : Tree = tree_at old a.typed.form in
    let U : Tree = tree_at old a.sorted.ty in
    let V : Tree = tree_at old a.sorted.form in
    let k1 = c.make.ensures.keeps in
    let k2 = c.make-2.ensures.keeps in
    let keeps = Extends-trans _ _ _ k1 k2 in
    let u = c.args.redex.now in
    let same_m : tree_at d c.args.m ≡ m = keeps.trees.same c.args.m c.requires.m_in in
    let same_S : tree_at d a.typed.ty ≡ S = keeps.trees.same a.typed.ty c.requires.ty_in in
    let same_T : tree_at d a.typed.form ≡ T = keeps.trees.same a.typed.form c.requires.form_in in
    let same_U : tree_at d a.sorted.ty ≡ U = keeps.trees.same a.sorted.ty c.requires.own_in in
    let same_V : tree_at d a.sorted.form ≡ V = keeps.trees.same a.sorted.form c.requires.sort_in in
    s_stated d c.state_step.new.row c.chain.new.row c.requires.asked keeps (λ R f n sort_is r_at f_at holds.
    let before : tree_at d c.in_ok-before.before ≡ on_major R m = k2.trees.same c.in_ok-before.before c.in_ok-before.ensures.ok.known ∙ c.in_ok-before.ensures.ok.is ∙ ap (λ z. app z m) f_at.is in
    let next : tree_at d c.in_ok-next.next ≡ on_major R x = c.in_ok-next.ensures.ok.is ∙ ap (λ z. app z (tree_at d1 c.args.x)) (k1.trees.same u.front f_at.known ∙ f_at.is) ∙ ap (λ z. on_major R z) (k1.trees.same c.args.x c.requires.x_in) in (
      c.in_ok-state_step.ensures w (on_major R m) (on_major R x) (expand_claims m S T U n) before next
          (c.in_ok-premises.ensures.are d
          ∙ ap (λ z. types z (tree_at d a.typed.ty) ∷ reduces (tree_at d a.typed.ty) (tree_at d a.typed.form) ∷ types (tree_at d a.typed.form) (tree_at d a.sorted.ty) ∷ reduces (tree_at d a.sorted.ty) (tree_at d a.sorted.form) ∷ []) same_m
          ∙ ap (λ z. types m z ∷ reduces z (tree_at d a.typed.form) ∷ types (tree_at d a.typed.form) (tree_at d a.sorted.ty) ∷ reduces (tree_at d a.sorted.ty) (tree_at d a.sorted.form) ∷ []) same_S
          ∙ ap (λ z. types m S ∷ reduces S z ∷ types z (tree_at d a.sorted.ty) ∷ reduces (tree_at d a.sorted.ty) (tree_at d a.sorted.form) ∷ []) same_T
          ∙ ap (λ z. types m S ∷ reduces S T ∷ types T z ∷ reduces z (tree_at d a.sorted.form) ∷ []) same_U
          ∙ ap (λ z. types m S ∷ reduces S T ∷ types T U ∷ reduces U z ∷ []) (same_V ∙ sort_is)) holds,
      chains_at (keeps.trees.same u.reached r_at.known ∙ r_at.is) before next c.in_ok-chain.ensures,
    ))
