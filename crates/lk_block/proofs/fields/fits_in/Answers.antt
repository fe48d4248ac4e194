use Rattle.std.proofs.Common.{Bool, sym, subst}
use Rattle.lk_store.specs.Contents.{level_at, tree_at}
use Rattle.lk_declaration.specs.Courses.{ComesTo}
use Rattle.lk_block.proofs.EachField.{fits_above}
use Rattle.lk_block.proofs.fields.fits_in.Goals as goal

pub returns-else-level_is_zero-clause-outcome : goal.returns-else-level_is_zero-clause-outcome
returns-else-level_is_zero-clause-outcome g c =
    let before = g.A.Terms.contents c.args.asks.now in
    subst (λ p. ComesTo (g.A.Asks.standing c.args.asks.now) p (g.A.Asks.left c.args.asks.now) (λ (r : Bool). r) (g.A.Asks.left c.fits.new.asks) c.fits.result)
    (sym (fits_above (level_at before c.args.level) (tree_at before c.args.domain) c.level_is_zero.result c.level_is_zero.ensures c.if-level_is_zero.false)) c.fits.ensures.outcome
