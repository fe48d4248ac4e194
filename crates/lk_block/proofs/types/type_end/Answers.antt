use Rattle.std.proofs.Common.{map}
use Rattle.std.proofs.lemmas.Result.{err_from_is_err_and}
use Rattle.lk_store.specs.Contents.{level_at, tree_at}
use Rattle.lk_subst.specs.Numbers.{trees-steady}
use Rattle.lk_block.proofs.Ends.{end_halts, end_halts_later, end_goes}
use Rattle.lk_block.proofs.types.type_end.Goals as goal

pub returns-in_err-opened-clause-outcome : goal.returns-in_err-opened-clause-outcome
returns-in_err-opened-clause-outcome g c =
    let t = g.A.Asks.standing c.args.asks.now in
    let p = err_from_is_err_and c.from_residual.result c.from_residual.ensures.1 in
    rw (p.1, p.2) (end_halts t (g.A.Asks.standing c.telescope.new.asks) c.in_err-opened.ensures.stays c.args.first c.args.count (tree_at (g.A.Terms.contents c.args.asks.now) c.args.e) (g.A.Asks.left c.args.asks.now)
    c.in_err-opened.field-0.0 c.in_err-opened.ensures.outcome)

pub returns-in_err-level-clause-outcome : goal.returns-in_err-level-clause-outcome
returns-in_err-level-clause-outcome g c =
    let t = g.A.Asks.standing c.args.asks.now in
    let between = g.A.Terms.contents c.telescope.new.asks in
    let p = err_from_is_err_and c.from_residual-in_err-level.result c.from_residual-in_err-level.ensures.1 in
    rw (p.1, p.2) (end_halts_later t (g.A.Asks.standing c.telescope.new.asks) c.in_ok-opened.ensures.stays c.args.first c.args.count (tree_at (g.A.Terms.contents c.args.asks.now) c.args.e) (g.A.Asks.left c.args.asks.now)
    (map (tree_at between) c.in_ok-opened.opened.0.items) (tree_at between c.in_ok-opened.opened.1) (g.A.Asks.left c.telescope.new.asks) c.in_err-level.field-0.0 c.in_ok-opened.ensures.outcome c.in_err-level.ensures.outcome)

pub returns-clause-outcome : goal.returns-clause-outcome
returns-clause-outcome g c =
    let t = g.A.Asks.standing c.args.asks.now in
    let between = g.A.Terms.contents c.telescope.new.asks in
    let after = g.A.Terms.contents c.level_of.new.asks in
    end_goes t (g.A.Asks.standing c.telescope.new.asks) c.in_ok-opened.ensures.stays c.args.first c.args.count (tree_at (g.A.Terms.contents c.args.asks.now) c.args.e) (g.A.Asks.left c.args.asks.now)
    (map (tree_at between) c.in_ok-opened.opened.0.items) (map (tree_at after) c.in_ok-opened.opened.0.items) (tree_at between c.in_ok-opened.opened.1) (level_at after c.in_ok-level.level) (g.A.Asks.left c.telescope.new.asks) (g.A.Asks.left c.level_of.new.asks)
    c.in_ok-opened.ensures.outcome c.in_ok-level.ensures.outcome (trees-steady between after c.in_ok-opened.opened.0.items c.in_ok-level.ensures.keeps c.in_ok-opened.ensures.locals_known)
