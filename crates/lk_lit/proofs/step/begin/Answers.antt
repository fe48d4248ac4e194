use Rattle.std.proofs.Common.{refl}
use Rattle.lk_questions.specs.Literals.{literal_step}
use Rattle.lk_store.specs.Contents.{name_at, list_at}
use Rattle.lk_store.specs.Store.{contents_of}
use Rattle.lk_lit.specs.Operations.{operation_at}
use Rattle.lk_lit.proofs.Parts.{part_now, nothing, no_operation, operation_step, head_names}
use Rattle.lk_lit.proofs.step.begin.Goals as goal

pub returns-in-Some : goal.returns-in-Some
returns-in-Some g c e there at_head =
    let t = g.L.Terms.contents c.args.looks.now in
    let f = name_at t c.args.name in
    let ls = list_at t c.args.levels in
    let l = (g.L.Looks.sight (g.L.Terms.rest c.args.looks.now)).basis.library in
    let op = operation_at c.in-Some.operation in
    let is = c.in-Some.ensures (contents_of l.tables) l.units c.args.entry e refl there in
    part_now c.args.e (λ t. literal_step (t c.args.e) f ls e) (operation_step _ f ls e op is)
    (c.begin_applied.ensures (head_names _ f ls e op is at_head))

pub returns-in-None : goal.returns-in-None
returns-in-None g c e there at_head =
    let t = g.L.Terms.contents c.args.looks.now in
    let f = name_at t c.args.name in
    let ls = list_at t c.args.levels in
    let l = (g.L.Looks.sight (g.L.Terms.rest c.args.looks.now)).basis.library in
    let none = c.in-None.ensures (contents_of l.tables) l.units c.args.entry e refl there in
    part_now c.args.e (λ t. literal_step (t c.args.e) f ls e) (no_operation _ f ls e none) (nothing c.args.e c.requires.e_in)
