use Rattle.std.proofs.Common.{Bool, subst, arith}
use Rattle.std.proofs.lemmas.Result.{err_from_is_err_and}
use Rattle.lk_tree.specs.declared.rule.Rule.TheVariants.{FieldUniverse}
use Rattle.lk_questions.specs.Steps.{given}
use Rattle.lk_inductive.specs.BlockSteps.{fits_in, walk}
use Rattle.lk_store.specs.Contents.{tree_at}
use Rattle.lk_declaration.specs.Courses.{ComesTo}
use Rattle.lk_block.specs.Frames.{frame_at}
use Rattle.lk_block.specs.Shapes.{kind_at}
use Rattle.lk_declaration.proofs.Running.{halts_first}
use Rattle.lk_block.proofs.Frames.{frame-steady}
use Rattle.lk_declaration.proofs.Within.{goes_within}
use Rattle.lk_block.proofs.EachField.{walk_kept, kind_gives, kind_differs}
use Rattle.lk_block.proofs.fields.kind_of_field.Goals as goal

pub returns-then-branch-clause-outcome : goal.returns-then-branch-clause-outcome
returns-then-branch-clause-outcome g c fuel enough =
    let before = g.A.Terms.contents c.args.asks.now in
    let between = g.A.Terms.contents c.fits_in.new.asks in
    let after = g.A.Terms.contents c.walk.new.asks in
    let F = frame_at before c.args.frame.now in
    let A = tree_at before c.args.domain in
    let start = g.A.Asks.left c.args.asks.now in
    let left = g.A.Asks.left c.fits_in.new.asks in
    let end = g.A.Asks.left c.walk.new.asks in
    let less = goes_within (g.A.Asks.standing c.args.asks.now) (fits_in F.sort A) start c.in_ok-fits_in.field-0 left c.in_ok-fits_in.ensures.outcome in
    kind_gives (g.A.Asks.standing c.args.asks.now) (g.A.Asks.standing c.fits_in.new.asks) c.in_ok-fits_in.ensures.stays
    fuel F c.args.number A start left c.in_ok-fits_in.field-0 c.in_ok-fits_in.ensures.outcome end (kind_at after) c.walk.result c.if-branch.true
    (subst (λ p. ComesTo (g.A.Asks.standing c.fits_in.new.asks) p left (kind_at after) end c.walk.result)
    (walk_kept fuel (frame_at between c.args.frame.now) F c.args.number (tree_at between c.args.domain) A (frame-steady before between c.args.frame.now c.in_ok-fits_in.ensures.keeps c.requires.frame_in) (c.in_ok-fits_in.ensures.keeps.trees.same c.args.domain c.requires.domain_in))
    (c.walk.ensures.outcome fuel (omega arith)))

pub returns-else-branch-clause-outcome : goal.returns-else-branch-clause-outcome
returns-else-branch-clause-outcome g c fuel enough =
    let before = g.A.Terms.contents c.args.asks.now in
    kind_differs (g.A.Asks.standing c.args.asks.now) (g.A.Asks.standing c.fits_in.new.asks) c.in_ok-fits_in.ensures.stays
    fuel (frame_at before c.args.frame.now) c.args.number (tree_at before c.args.domain) (g.A.Asks.left c.args.asks.now) (g.A.Asks.left c.fits_in.new.asks) c.in_ok-fits_in.field-0 c.in_ok-fits_in.ensures.outcome c.if-branch.false

pub returns-in_err-fits_in-clause-outcome : goal.returns-in_err-fits_in-clause-outcome
returns-in_err-fits_in-clause-outcome g c fuel enough =
    let before = g.A.Terms.contents c.args.asks.now in
    let F = frame_at before c.args.frame.now in
    let A = tree_at before c.args.domain in
    let p = err_from_is_err_and c.from_residual.result c.from_residual.ensures.1 in
    rw (p.1, p.2) (halts_first (g.A.Asks.standing c.args.asks.now) (fits_in F.sort A) (λ (allowed : Bool). given allowed FieldUniverse (walk fuel F c.args.number A)) (g.A.Asks.left c.args.asks.now) c.in_err-fits_in.field-0.0 c.in_err-fits_in.ensures.outcome)
