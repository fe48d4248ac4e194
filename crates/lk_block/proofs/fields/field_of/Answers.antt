use Rattle.std.proofs.Common.{suc, refl, ap, subst}
use Rattle.std.proofs.lemmas.Result.{err_from_is_err_and}
use Rattle.lk_tree.specs.Tree.{Tree}
use Rattle.lk_questions.specs.Program.{done}
use Rattle.lk_inductive.specs.Block.{FieldKind, Field}
use Rattle.lk_store.specs.Contents.{tree_at}
use Rattle.lk_declaration.specs.Courses.{Goes, Halts}
use Rattle.lk_block.specs.Frames.{frame_at}
use Rattle.lk_block.specs.Shapes.{kind_at}
use Rattle.lk_block.specs.Fields.{kind_form}
use Rattle.lk_declaration.proofs.Running.{halts_first, ends_at}
use Rattle.lk_block.proofs.fields.field_of.Goals as goal

pub returns-clause-outcome : goal.returns-clause-outcome
returns-clause-outcome g c fuel enough =
    let before = g.A.Terms.contents c.args.asks.now in
    let after = g.A.Terms.contents c.kind_of_field.new.asks in
    let F = frame_at before c.args.frame.now in
    let A = tree_at before c.args.domain in
    let start = g.A.Asks.left c.args.asks.now in
    let end = g.A.Asks.left c.kind_of_field.new.asks in
    let k = kind_at after c.in_ok-kind.kind in
    let made : Tree → Field = λ L. record { variable = L; kind = k } in
    ends_at (g.A.Asks.standing c.args.asks.now) (kind_form fuel F (suc c.args.number) A) (λ (q : FieldKind). done (let f : Field = record { variable = tree_at before c.args.variable; kind = q } in f)) start end end k
    (made (tree_at before c.args.variable)) (made (tree_at after c.args.variable))
    (subst (λ n. Goes (g.A.Asks.standing c.args.asks.now) (kind_form fuel F n A) start k end) c.in_ok-next.ensures (c.in_ok-kind.ensures.outcome fuel enough))
    refl (ap made (c.in_ok-kind.ensures.keeps.trees.same c.args.variable c.requires.variable_in)) refl

pub returns-in_err-kind-clause-outcome : goal.returns-in_err-kind-clause-outcome
returns-in_err-kind-clause-outcome g c fuel enough =
    let before = g.A.Terms.contents c.args.asks.now in
    let F = frame_at before c.args.frame.now in
    let A = tree_at before c.args.domain in
    let p = err_from_is_err_and c.from_residual-in_err-kind.result c.from_residual-in_err-kind.ensures.1 in
    rw (p.1, p.2) (halts_first (g.A.Asks.standing c.args.asks.now) (kind_form fuel F (suc c.args.number) A) (λ (q : FieldKind). done (let f : Field = record { variable = tree_at before c.args.variable; kind = q } in f)) (g.A.Asks.left c.args.asks.now) c.in_err-kind.field-0.0
    (subst (λ n. Halts (g.A.Asks.standing c.args.asks.now) (kind_form fuel F n A) (g.A.Asks.left c.args.asks.now) c.in_err-kind.field-0.0) c.in_ok-next.ensures (c.in_err-kind.ensures.outcome fuel enough)))
