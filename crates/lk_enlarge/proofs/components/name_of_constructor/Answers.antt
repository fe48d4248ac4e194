use Rattle.std.proofs.Common.{◌≡◌, ◌++◌, IfOk, ap, subst, ◌∙◌}
use Rattle.lk_tree.specs.Tree.{Name}
use Rattle.lk_store.specs.Contents.{name_at, IsName}
use Rattle.lk_inductive.specs.Enlarged.{aux_ctor}
use Rattle.lk_enlarge.specs.Components.{behind}
use Rattle.lk_auxiliary.specs.Naming.{marked}
use Rattle.lk_enlarge.proofs.Behind.{behind_stays}
use Rattle.lk_enlarge.proofs.components.name_of_constructor.Goals as goal

pub returns-clause-ok : goal.returns-clause-ok
returns-clause-ok g c =
    let before = g.T.Terms.contents c.args.terms.now in
    let mid = g.T.Terms.contents c.marked.new.terms in
    let after = g.T.Terms.contents c.with_components.new.terms in
    let i = c.args.number in
    let parts = c.in_ok-parts.parts.items in
    let rest = behind mid c.deref.result.now in
    let is : name_at mid c.in_ok-front.front ++ rest ≡ aux_ctor i (name_at before c.args.name) =
    ap (λ x. x ++ rest) c.in_ok-front.ensures.ok.is
    ∙ ap (λ b. marked b i ++ rest) c.in_ok-bytes.ensures.items
    ∙ ap (aux_ctor i) (ap (behind mid) c.deref.ensures.value ∙ behind_stays before mid c.in_ok-front.ensures.keeps parts c.in_ok-parts.ensures.known ∙ c.in_ok-parts.ensures.name) in
    subst (λ (x : Name). IfOk c.with_components.result (λ n. IsName after n x)) is c.with_components.ensures.ok
