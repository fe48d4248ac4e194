use Rattle.std.proofs.Common.{◌≡◌, ap, ◌∙◌}
use Rattle.lk_tree.specs.Tree.{Tree, app}
use Rattle.lk_rulebook.specs.Place.{Place}
use Rattle.lk_rulebook.specs.Structures.{on_major}
use Rattle.lk_step.specs.MajorSteps.{k_claims}
use Rattle.lk_store.specs.Contents.{Contents, tree_at}
use Rattle.lk_derive_iota.proofs.KSteps.{k_stated}
use Rattle.lk_derive_iota.proofs.taking.state_candidate.Goals as goal

pub returns-clause-at : goal.returns-clause-at
returns-clause-at g c =
    let w : Place = (g.D.Looks.sight (g.D.Terms.rest c.args.derives.now)).basis.place in
    let old : Contents = g.D.Terms.contents c.args.derives.now in
    let d : Contents = g.D.Terms.contents c.make.new.self in
    let t : Tree = tree_at old c.args.d in
    let S : Tree = tree_at old c.args.compared.ty in
    let T : Tree = tree_at old c.args.compared.form in
    let D : Tree = tree_at old c.args.compared.own in
    let keeps = c.make.ensures.keeps in
    let u = c.args.redex.now in
    let ty : tree_at d c.args.compared.ty ≡ S = keeps.trees.same c.args.compared.ty c.requires.ty_in in
    let form : tree_at d c.args.compared.form ≡ T = keeps.trees.same c.args.compared.form c.requires.form_in in
    let own : tree_at d c.args.compared.own ≡ D = keeps.trees.same c.args.compared.own c.requires.own_in in
    let made : tree_at d c.args.d ≡ t = keeps.trees.same c.args.d c.requires.d_in in
    k_stated d c.state_step.new.row c.requires.asked keeps (λ R f r_at f_at m_at holds.
    c.in_ok-state_step.ensures w (on_major R f) (on_major R t) (k_claims f S T t D) (keeps.trees.same u.reached r_at.known ∙ r_at.is) (c.in_ok-next.ensures.ok.is ∙ ap (λ z. app z t) f_at.is)
    (c.in_ok-premises.ensures.are d
    ∙ ap (λ z. k_claims z (tree_at d c.args.compared.ty) (tree_at d c.args.compared.form) (tree_at d c.args.d) (tree_at d c.args.compared.own)) (keeps.trees.same u.major m_at.known ∙ m_at.is)
    ∙ ap (λ z. k_claims f z (tree_at d c.args.compared.form) (tree_at d c.args.d) (tree_at d c.args.compared.own)) ty
    ∙ ap (λ z. k_claims f S z (tree_at d c.args.d) (tree_at d c.args.compared.own)) form
    ∙ ap (λ z. k_claims f S T z (tree_at d c.args.compared.own)) made ∙ ap (k_claims f S T t) own) holds)
