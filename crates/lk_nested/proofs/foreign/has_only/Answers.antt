use Rattle.std.proofs.Common.{map, sym, ap, ◌∙◌}
use Rattle.std.specs.Prelude.{not}
use Rattle.lk_store.specs.Contents.{tree_at}
use Rattle.lk_nested.proofs.Only.{only_is}
use Rattle.lk_nested.proofs.foreign.has_only.Goals as goal

pub returns-clause-only : goal.returns-clause-only
returns-clause-only g c =
    let s = g.T.Terms.contents c.args.terms.now in
    ap not (sym c.in_ok-found.ensures.found) ∙ sym (only_is (map (tree_at s) c.args.parameters.now) (tree_at s c.args.e))
