use Rattle.std.proofs.Common.{ap, subst, ◌∙◌, arith}
use Rattle.std.proofs.lemmas.Result.{err_from_is_err_and}
use Rattle.lk_tree.specs.Tree.{Tree, local}
use Rattle.lk_tree.specs.Bind.{opened}
use Rattle.lk_questions.specs.Program.{done, ◌>>=◌}
use Rattle.lk_store.specs.Contents.{tree_at}
use Rattle.lk_store.proofs.Extending.{Extends-trans}
use Rattle.lk_declaration.specs.Courses.{Goes, Halts}
use Rattle.lk_block.specs.Forms.{pi_form}
use Rattle.lk_block.specs.Frames.{frame_at}
use Rattle.lk_block.specs.Shapes.{field_at}
use Rattle.lk_block.specs.Fields.{field_form}
use Rattle.lk_declaration.proofs.Running.{halts_first}
use Rattle.lk_block.proofs.Frames.{frame-steady}
use Rattle.lk_declaration.proofs.Within.{goes_within}
use Rattle.lk_block.proofs.EachField.{field_kept, field_goes, field_halts}
use Rattle.lk_block.proofs.fields.next_field.Goals as goal

pub returns-in_err-parts-clause-outcome : goal.returns-in_err-parts-clause-outcome
returns-in_err-parts-clause-outcome g c fuel enough =
    let before = g.A.Terms.contents c.args.asks.now in
    let F = frame_at before c.args.frame.now in
    let p = err_from_is_err_and c.from_residual.result c.from_residual.ensures.1 in
    rw (p.1, p.2) (halts_first (g.A.Asks.standing c.args.asks.now) (pi_form (tree_at before c.args.e)) (λ (p : Tree × Tree). field_form fuel F c.args.number p.0 (local c.args.number p.0) >>= λ f. done (f, opened p.1 (local c.args.number p.0)))
    (g.A.Asks.left c.args.asks.now) c.in_err-parts.field-0.0 c.in_err-parts.ensures.outcome)

pub returns-clause-outcome : goal.returns-clause-outcome
returns-clause-outcome g c fuel enough =
    let before = g.A.Terms.contents c.args.asks.now in
    let between = g.A.Terms.contents c.pi_of.new.asks in
    let made = g.A.Terms.contents c.open_local.new.asks in
    let after = g.A.Terms.contents c.field_of.new.asks in
    let F = frame_at before c.args.frame.now in
    let r = tree_at before c.args.e in
    let A = tree_at between c.in_ok-parts.parts.0 in
    let B = tree_at between c.in_ok-parts.parts.1 in
    let start = g.A.Asks.left c.args.asks.now in
    let middle = g.A.Asks.left c.pi_of.new.asks in
    let end = g.A.Asks.left c.field_of.new.asks in
    let less = goes_within (g.A.Asks.standing c.args.asks.now) (pi_form r) start (A, B) middle c.in_ok-parts.ensures.outcome in
    let unspent = c.open_local.ensures.left in
    let field = field_at after c.in_ok-field.field in
    let same_frame = frame-steady before made c.args.frame.now (Extends-trans before between made c.in_ok-parts.ensures.keeps c.open_local.ensures.keeps) c.requires.frame_in in
    let same_form = field_kept fuel (frame_at made c.args.frame.now) F c.args.number (tree_at made c.in_ok-parts.parts.0) A (tree_at made c.in_ok-opened.opened.0) (local c.args.number A) same_frame (c.open_local.ensures.keeps.trees.same c.in_ok-parts.parts.0 c.in_ok-parts.ensures.known.0) c.in_ok-opened.ensures.made.is in
    field_goes (g.A.Asks.standing c.args.asks.now) (g.A.Asks.standing c.open_local.new.asks) (c.open_local.ensures.stays ∙ c.in_ok-parts.ensures.stays)
    fuel F c.args.number r A B start middle c.in_ok-parts.ensures.outcome field (field, tree_at after c.in_ok-opened.opened.1) end
    (subst (λ n. Goes (g.A.Asks.standing c.open_local.new.asks) (field_form fuel F c.args.number A (local c.args.number A)) n field end) unspent
    (subst (λ p. Goes (g.A.Asks.standing c.open_local.new.asks) p (g.A.Asks.left c.open_local.new.asks) field end) same_form (c.in_ok-field.ensures.outcome fuel (omega arith))))
    (ap (λ v. (field, v)) (c.in_ok-field.ensures.keeps.trees.same c.in_ok-opened.opened.1 c.in_ok-opened.ensures.opened.known ∙ c.in_ok-opened.ensures.opened.is))

pub returns-in_err-field-clause-outcome : goal.returns-in_err-field-clause-outcome
returns-in_err-field-clause-outcome g c fuel enough =
    let before = g.A.Terms.contents c.args.asks.now in
    let between = g.A.Terms.contents c.pi_of.new.asks in
    let made = g.A.Terms.contents c.open_local.new.asks in
    let F = frame_at before c.args.frame.now in
    let r = tree_at before c.args.e in
    let A = tree_at between c.in_ok-parts.parts.0 in
    let B = tree_at between c.in_ok-parts.parts.1 in
    let start = g.A.Asks.left c.args.asks.now in
    let middle = g.A.Asks.left c.pi_of.new.asks in
    let less = goes_within (g.A.Asks.standing c.args.asks.now) (pi_form r) start (A, B) middle c.in_ok-parts.ensures.outcome in
    let unspent = c.open_local.ensures.left in
    let same_frame = frame-steady before made c.args.frame.now (Extends-trans before between made c.in_ok-parts.ensures.keeps c.open_local.ensures.keeps) c.requires.frame_in in
    let same_form = field_kept fuel (frame_at made c.args.frame.now) F c.args.number (tree_at made c.in_ok-parts.parts.0) A (tree_at made c.in_ok-opened.opened.0) (local c.args.number A) same_frame (c.open_local.ensures.keeps.trees.same c.in_ok-parts.parts.0 c.in_ok-parts.ensures.known.0) c.in_ok-opened.ensures.made.is in
    let p = err_from_is_err_and c.from_residual-in_err-field.result c.from_residual-in_err-field.ensures.1 in
    rw (p.1, p.2) (field_halts (g.A.Asks.standing c.args.asks.now) (g.A.Asks.standing c.open_local.new.asks) (c.open_local.ensures.stays ∙ c.in_ok-parts.ensures.stays)
    fuel F c.args.number r A B start middle c.in_ok-parts.ensures.outcome c.in_err-field.field-0.0
    (subst (λ n. Halts (g.A.Asks.standing c.open_local.new.asks) (field_form fuel F c.args.number A (local c.args.number A)) n c.in_err-field.field-0.0) unspent
    (subst (λ p. Halts (g.A.Asks.standing c.open_local.new.asks) p (g.A.Asks.left c.open_local.new.asks) c.in_err-field.field-0.0) same_form (c.in_err-field.ensures.outcome fuel (omega arith)))))
