use Rattle.std.proofs.Common.{length}
use Rattle.lk_store.specs.Contents.{tree_at}
use Rattle.lk_ask.proofs.Steps.{gives_now}
use Rattle.lk_proj.proofs.parameters.put_parameters.Goals as goal

pub returns-else-applied-eq0 : goal.returns-else-applied-eq0
returns-else-applied-eq0 g c =
    let before = g.L.Terms.contents c.args.looks.now in
    let sight = g.L.Looks.sight (g.L.Terms.rest c.args.looks.now) in
    let next = c.next_parameter in
    gives_now c.args.looks.now next.result _
    (next.ensures.known (length before.trees) c.requires.applied_in c.requires.ty_in)
    (next.ensures.steps sight.basis.place (tree_at before) sight.last)
