use Rattle.std.proofs.Common.{◌&&◌, true, ap, sym, ◌∙◌}
use Rattle.lk_store.specs.Contents.{tree_at}
use Rattle.lk_store.specs.Store.{contents_of}
use Rattle.lk_scan.proofs.Passed.{tree_without}
use Rattle.lk_scan.proofs.trees.body_has_params.Goals as goal

pub returns-in-Theorem : goal.returns-in-Theorem
returns-in-Theorem c = λ h ps. rw c.in-Theorem.is
    (ap (λ b. b && true) (tree_without ps (tree_at (contents_of c.args.base.now) c.in-Theorem.proof) (sym (rw c.from-in-Theorem.ensures at c.has_params-in-Theorem.ensures) ∙ h)))

pub returns-in-Opaque : goal.returns-in-Opaque
returns-in-Opaque c = λ h ps. rw c.in-Opaque.is
    (ap (λ b. b && true) (tree_without ps (tree_at (contents_of c.args.base.now) c.in-Opaque.value) (sym (rw c.from-in-Opaque.ensures at c.has_params-in-Opaque.ensures) ∙ h)))

pub returns-in-Definition : goal.returns-in-Definition
returns-in-Definition c = λ h ps. rw c.in-Definition.is
    (ap (λ b. b && true) (tree_without ps (tree_at (contents_of c.args.base.now) c.in-Definition.value) (sym (rw c.from.ensures at c.has_params.ensures) ∙ h)))
