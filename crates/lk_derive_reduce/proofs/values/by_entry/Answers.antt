use Rattle.std.proofs.Common.{◌≡◌, Some, None, sym, ap, ◌∙◌}
use Rattle.lk_questions.specs.Steps.{value_of}
use Rattle.lk_store.specs.Contents.{Contents, tree_at, list_at}
use Rattle.lk_store.specs.Store.{contents_of}
use Rattle.lk_derive_reduce.proofs.FormRows.{no_value_whole}
use Rattle.lk_derive_reduce.proofs.values.by_entry.Goals as goal

pub by_value-requires-clause-value_is : goal.by_value-requires-clause-value_is
by_value-requires-clause-value_is g c y there =
    let s = g.D.Looks.sight (g.D.Terms.rest c.args.derives.now) in
    let base = contents_of s.basis.library.tables in
    let v = c.in-Some.value in
    let over = c.requires.over.trees.same v (c.in-Some.ensures.known base c.requires.known) in
    c.in-Some.ensures.value base s.basis.library.units y there ∙ ap Some (sym over)

pub returns-in-None-clause-whole : goal.returns-in-None-clause-whole
returns-in-None-clause-whole g c =
    let old : Contents = g.D.Terms.contents c.args.derives.now in
    let s = g.D.Looks.sight (g.D.Terms.rest c.args.derives.now) in
    let base = contents_of s.basis.library.tables in
    let u = c.requires.unfolds in
    let none : value_of u.plain.kind ≡ None = c.in-None.ensures.value base s.basis.library.units u.plain u.is in
    no_value_whole s.basis.place c.args.enough old c.args.row.now (tree_at old c.args.e) (tree_at old c.args.core) u.plain (list_at old c.args.levels) none u.unfolds
