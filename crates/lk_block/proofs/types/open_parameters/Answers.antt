use Rattle.std.proofs.Common.{map, ap, ◌∙◌}
use Rattle.lk_store.specs.Contents.{level_at, tree_at}
use Rattle.lk_subst.specs.Numbers.{trees-steady}
use Rattle.std.specs.declared.alloc.Global.{Global}
use Rattle.std.specs.Prelude.{ℕ, Vec}
use Rattle.std.proofs.lemmas.Result.{err_from_is_err_and}
use Rattle.lk_block.specs.Parts.{lists_at, parts_at}
use Rattle.lk_block.proofs.Firsts.{open_halts, open_halts_later, open_goes, parts_are}
use Rattle.lk_block.proofs.types.open_parameters.Goals as goal

pub returns-in_err-opened-clause-outcome : goal.returns-in_err-opened-clause-outcome
returns-in_err-opened-clause-outcome g c =
    let before = g.A.Terms.contents c.args.asks.now in
    let p = err_from_is_err_and c.from_residual.result c.from_residual.ensures.1 in
    rw (p.1, p.2) (open_halts (g.A.Asks.standing c.args.asks.now) (g.A.Asks.standing c.telescope.new.asks) c.in_err-opened.ensures.stays
    c.args.parameters c.args.indices (tree_at before c.args.ty) (g.A.Asks.left c.args.asks.now) c.in_err-opened.field-0.0 c.in_err-opened.ensures.outcome)

pub returns-in_err-end-clause-outcome : goal.returns-in_err-end-clause-outcome
returns-in_err-end-clause-outcome g c =
    let before = g.A.Terms.contents c.args.asks.now in
    let between = g.A.Terms.contents c.telescope.new.asks in
    let p = err_from_is_err_and c.from_residual-in_err-end.result c.from_residual-in_err-end.ensures.1 in
    rw (p.1, p.2) (open_halts_later (g.A.Asks.standing c.args.asks.now) (g.A.Asks.standing c.telescope.new.asks) c.in_ok-opened.ensures.stays
    c.args.parameters c.args.indices (tree_at before c.args.ty) (g.A.Asks.left c.args.asks.now)
    (map (tree_at between) c.in_ok-opened.opened.0.items) (tree_at between c.in_ok-opened.opened.1) (g.A.Asks.left c.telescope.new.asks) c.in_err-end.field-0.0 c.in_ok-opened.ensures.outcome c.in_err-end.ensures.outcome)

pub returns-clause-outcome : goal.returns-clause-outcome
returns-clause-outcome g c =
    let before = g.A.Terms.contents c.args.asks.now in
    let between = g.A.Terms.contents c.telescope.new.asks in
    let after = g.A.Terms.contents c.end_with_itself.new.asks in
    let made = c.in_ok-parts_of.ensures in
    let end = c.in_ok-end.end in
    let ps = map (tree_at between) c.in_ok-opened.opened.0.items in
    let same = trees-steady between after c.in_ok-opened.opened.0.items c.in_ok-end.ensures.keeps c.in_ok-opened.ensures.locals_known in
    open_goes (g.A.Asks.standing c.args.asks.now) (g.A.Asks.standing c.telescope.new.asks) c.in_ok-opened.ensures.stays
    c.args.parameters c.args.indices (tree_at before c.args.ty) (g.A.Asks.left c.args.asks.now)
    ps (tree_at between c.in_ok-opened.opened.1) (g.A.Asks.left c.telescope.new.asks) (g.A.Asks.left c.end_with_itself.new.asks) (map (tree_at after) end.0.items, level_at after end.1) (parts_at after c.in_ok-parts_of.field-0)
    c.in_ok-opened.ensures.outcome c.in_ok-end.ensures.outcome
    (parts_are after c.in_ok-parts_of.field-0 ps (map (tree_at after) end.0.items) (level_at after end.1) (ap (λ (v : Vec ℕ Global). map (tree_at after) v.items) made.parameters ∙ same) (ap (lists_at after) made.indices) (ap (level_at after) made.sort))
