use Rattle.std.proofs.Common.{◌≡◌, length, ap, sym, subst, ◌∙◌}
use Rattle.std.proofs.lemmas.List.{length-map}
use Rattle.std.specs.Prelude.{Some}
use Rattle.lk_store.specs.Contents.{name_at}
use Rattle.lk_store.specs.Store.{contents_of}
use Rattle.lk_env.specs.Entries.{plain_entry}
use Rattle.lk_lit.proofs.shapes.count_levels.Goals as goal

pub returns : goal.returns
returns g c e is =
    let l = (g.L.Scope.Lends.lent c.scope.result.now) in
    let b = contents_of l.tables in
    let there = subst (λ k. plain_entry (contents_of k.tables) k.units c.args.entry ≡ Some e) (sym c.scope.ensures.is) is in
    sym (length-map c.levels_of.result.now (name_at b)) ∙ ap length (sym (c.levels_of.ensures.value e there))
