use Rattle.std.proofs.Common.{rules, ◌≡◌, Some, sym, ap, ◌∙◌}
use Rattle.lk_questions.specs.Steps.{value_of}
use Rattle.lk_store.specs.Store.{contents_of}
use Rattle.lk_store.specs.Contents.{tree_at}
use Rattle.lk_replay_reduce.proofs.unfolding.is_unfolded.Goals as goal

pub returns-in-Some : goal.returns-in-Some
returns-in-Some g c y there =
    let t = tree_at (g.L.Terms.contents c.args.looks.now) in
    let s = g.L.Looks.sight (g.L.Terms.rest c.args.looks.now) in
    let base = contents_of s.basis.library.tables in
    let v = c.in-Some.value in
    let over = c.requires.over.trees.same v (c.in-Some.ensures.known base c.requires.entry_in) in
    let value : value_of y.kind ≡ Some (t v) =
    c.in-Some.ensures.value base s.basis.library.units y there ∙ ap Some (sym over) in
    rw value (c.is_value.ensures y there)

pub returns-in-None : goal.returns-in-None
returns-in-None g c y there =
    let s = g.L.Looks.sight (g.L.Terms.rest c.args.looks.now) in
    let base = contents_of s.basis.library.tables in
    rw (c.in-None.ensures.value base s.basis.library.units y there)
    (record { keeps = search rules; stays = search rules; ok = search rules })
