use Rattle.std.proofs.lemmas.Result.{err_from_is_err_and}
use Rattle.lk_tree.specs.Tree.{Tree, local}
use Rattle.lk_tree.specs.Bind.{opened}
use Rattle.lk_questions.specs.Program.{done}
use Rattle.lk_store.specs.Contents.{tree_at}
use Rattle.lk_block.specs.Forms.{pi_form}
use Rattle.lk_declaration.proofs.Running.{halts_first}
use Rattle.lk_block.proofs.Telescopes.{local_goes}
use Rattle.lk_block.proofs.telescope.next_local.Goals as goal

pub returns-in_err-parts-clause-outcome : goal.returns-in_err-parts-clause-outcome
returns-in_err-parts-clause-outcome g c =
    let p = err_from_is_err_and c.from_residual.result c.from_residual.ensures.1 in
    rw (p.1, p.2) (halts_first (g.A.Asks.standing c.args.asks.now) (pi_form (tree_at (g.A.Terms.contents c.args.asks.now) c.args.e)) (λ (p : Tree × Tree). done (local c.args.number p.0, opened p.1 (local c.args.number p.0)))
    (g.A.Asks.left c.args.asks.now) c.in_err-parts.field-0.0 c.in_err-parts.ensures.outcome)

pub returns-clause-outcome : goal.returns-clause-outcome
returns-clause-outcome g c =
    let before = g.A.Terms.contents c.args.asks.now in
    let between = g.A.Terms.contents c.pi_of.new.asks in
    let after = g.A.Terms.contents c.open_local.new.asks in
    local_goes (g.A.Asks.standing c.args.asks.now) c.args.number (tree_at before c.args.e) (tree_at between c.in_ok-parts.parts.0) (tree_at between c.in_ok-parts.parts.1)
    (tree_at after c.in_ok-open_local.field-0.0) (tree_at after c.in_ok-open_local.field-0.1) (g.A.Asks.left c.args.asks.now) (g.A.Asks.left c.pi_of.new.asks) (g.A.Asks.left c.open_local.new.asks)
    c.in_ok-parts.ensures.outcome c.open_local.ensures.left c.in_ok-open_local.ensures.made.is c.in_ok-open_local.ensures.opened.is
