use Rattle.std.proofs.Common.{◌≡◌, ap, ◌∙◌}
use Rattle.lk_tree.specs.Tree.{Tree, app}
use Rattle.lk_rulebook.specs.Place.{Place}
use Rattle.lk_rulebook.specs.Structures.{on_major}
use Rattle.lk_rulebook.specs.Claims.{reduces}
use Rattle.std.specs.Prelude.{[], ◌∷◌}
use Rattle.lk_store.specs.Contents.{Contents, tree_at}
use Rattle.lk_derive_iota.proofs.MajorRuns.{major_stated}
use Rattle.lk_derive_iota.proofs.majors.state_major.Goals as goal

pub returns-clause-at : goal.returns-clause-at
returns-clause-at g c =
    let w : Place = (g.D.Looks.sight (g.D.Terms.rest c.args.derives.now)).basis.place in
    let old : Contents = g.D.Terms.contents c.args.derives.now in
    let d : Contents = g.D.Terms.contents c.make.new.self in
    let n : Tree = tree_at old c.args.read in
    let W : Tree = tree_at old c.args.form in
    let keeps = c.make.ensures.keeps in
    let u = c.args.redex.now in
    let form : tree_at d c.args.form ≡ W = keeps.trees.same c.args.form c.requires.form_in in
    major_stated d c.state_step.new.row c.requires.reads keeps (λ R f r_at f_at m_at holds.
    c.in_ok-state_step.ensures w (on_major R f) (on_major R n) (reduces f W ∷ []) (keeps.trees.same u.reached r_at.known ∙ r_at.is) (c.in_ok-next.ensures.ok.is ∙ ap (λ z. app z n) f_at.is)
    (c.in_ok-premises.ensures.are d ∙ ap (λ z. reduces z (tree_at d c.args.form) ∷ []) (keeps.trees.same u.major m_at.known ∙ m_at.is) ∙ ap (λ z. reduces f z ∷ []) form) holds)
