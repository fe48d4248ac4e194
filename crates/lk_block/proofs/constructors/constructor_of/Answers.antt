use Rattle.std.proofs.Common.{subst, arith}
use Rattle.std.proofs.lemmas.Result.{err_from_is_err_and}
use Rattle.lk_tree.specs.Tree.{Tree}
use Rattle.lk_inductive.specs.BlockSteps.{over}
use Rattle.lk_store.specs.Contents.{name_at, tree_at}
use Rattle.lk_declaration.specs.Courses.{ComesTo}
use Rattle.lk_block.specs.Frames.{frame_at}
use Rattle.lk_block.specs.Shapes.{constructor_shape_at}
use Rattle.lk_block.specs.Constructors.{rest_form}
use Rattle.lk_declaration.proofs.Running.{halts_first, gives_on}
use Rattle.lk_block.proofs.Frames.{frame-steady}
use Rattle.lk_declaration.proofs.Within.{goes_within}
use Rattle.lk_block.proofs.EachConstructor.{rest_kept}
use Rattle.lk_block.proofs.constructors.constructor_of.Goals as goal

pub returns-clause-outcome : goal.returns-clause-outcome
returns-clause-outcome g c fuel enough =
    let before = g.A.Terms.contents c.args.asks.now in
    let between = g.A.Terms.contents c.over.new.asks in
    let after = g.A.Terms.contents c.rest_of.new.asks in
    let F = frame_at before c.args.frame.now in
    let T = name_at before c.args.parent in
    let n = name_at before c.args.stated.now.name in
    let A = tree_at before c.args.stated.now.ty in
    let r = tree_at between c.in_ok-rest.rest in
    let start = g.A.Asks.left c.args.asks.now in
    let middle = g.A.Asks.left c.over.new.asks in
    let end = g.A.Asks.left c.rest_of.new.asks in
    let less = goes_within (g.A.Asks.standing c.args.asks.now) (over F.params A) start r middle c.in_ok-rest.ensures.outcome in
    gives_on (g.A.Asks.standing c.args.asks.now) (g.A.Asks.standing c.over.new.asks) c.in_ok-rest.ensures.stays
    (over F.params A) (λ (r : Tree). rest_form fuel F T n c.args.stated.now.fields r) start middle end r (constructor_shape_at after) c.rest_of.result c.in_ok-rest.ensures.outcome
    (subst (λ p. ComesTo (g.A.Asks.standing c.over.new.asks) p middle (constructor_shape_at after) end c.rest_of.result)
    (rest_kept fuel (frame_at between c.args.frame.now) F (name_at between c.args.parent) T (name_at between c.args.stated.now.name) n c.args.stated.now.fields r
    (frame-steady before between c.args.frame.now c.in_ok-rest.ensures.keeps c.requires.frame_in) (c.in_ok-rest.ensures.keeps.names.same c.args.parent c.requires.parent_in) (c.in_ok-rest.ensures.keeps.names.same c.args.stated.now.name c.requires.name_in))
    (c.rest_of.ensures.outcome fuel (omega arith)))

pub returns-in_err-rest-clause-outcome : goal.returns-in_err-rest-clause-outcome
returns-in_err-rest-clause-outcome g c fuel enough =
    let before = g.A.Terms.contents c.args.asks.now in
    let F = frame_at before c.args.frame.now in
    let p = err_from_is_err_and c.from_residual.result c.from_residual.ensures.1 in
    rw (p.1, p.2) (halts_first (g.A.Asks.standing c.args.asks.now) (over F.params (tree_at before c.args.stated.now.ty)) (λ (r : Tree). rest_form fuel F (name_at before c.args.parent) (name_at before c.args.stated.now.name) c.args.stated.now.fields r)
    (g.A.Asks.left c.args.asks.now) c.in_err-rest.field-0.0 c.in_err-rest.ensures.outcome)
