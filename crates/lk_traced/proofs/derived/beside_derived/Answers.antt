use Rattle.std.proofs.Common.{sym, ◌∙◌}
use Rattle.lk_store.specs.Contents.{tree_at}
use Rattle.lk_traced.proofs.Derive.{place_rule, with_local, with_nothing}
use Rattle.lk_traced.proofs.derived.beside_derived.Goals as goal

pub returns-in-Place-clause-made : goal.returns-in-Place-clause-made
returns-in-Place-clause-made g c k s mean n same =
    rw (place_rule c.args.tag (sym c.beside.ensures ∙ c.in-Place.is), ← c.widened.ensures) (c.iota_derived.ensures.made k s mean same)

pub returns-in-Local-clause-made : goal.returns-in-Local-clause-made
returns-in-Local-clause-made g c k s mean n same =
    rw (with_local s mean c.args.tag (tree_at k c.args.left) (tree_at k c.args.right) (g.N.FileNumber.view.value c.args.beside) (g.N.FileNumber.view.values c.args.premises.now) (sym c.beside.ensures ∙ c.in-Local.is))
    (c.local_derived.ensures.made k s mean n same)

pub returns-in-Nothing-clause-made : goal.returns-in-Nothing-clause-made
returns-in-Nothing-clause-made g c k s mean n same =
    rw (with_nothing s mean c.args.tag (tree_at k c.args.left) (tree_at k c.args.right) (g.N.FileNumber.view.value c.args.beside) (g.N.FileNumber.view.values c.args.premises.now) (sym c.beside.ensures ∙ c.in-Nothing.is))
    (c.local_derived-in-Nothing.ensures.made k s mean n same)
