use Rattle.std.proofs.Common.{◌≡◌, Some, sym, subst, ◌∙◌}
use Rattle.lk_store.specs.Store.{contents_of}
use Rattle.lk_env.specs.Entries.{plain_entry}
use Rattle.lk_eta.proofs.UnitLike.{unit_counted, no_unit}
use Rattle.lk_eta.proofs.unit.is_unit_like.Goals as goal

pub returns-in-Some : goal.returns-in-Some
returns-in-Some g c e h =
    let here = subst (λ l. plain_entry (contents_of l.tables) l.units c.args.entry ≡ Some e) (sym c.scope.ensures.is) h in
    c.has_arguments.ensures ∙ unit_counted e.kind _ c.in-Some.count (sym c.in-Some.is ∙ c.in_ok-count.ensures e here)

pub returns-in-None : goal.returns-in-None
returns-in-None g c e h =
    let here = subst (λ l. plain_entry (contents_of l.tables) l.units c.args.entry ≡ Some e) (sym c.scope.ensures.is) h in
    no_unit e.kind _ (sym c.in-None.is ∙ c.in_ok-count.ensures e here)
