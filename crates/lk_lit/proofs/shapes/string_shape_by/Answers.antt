use Rattle.std.proofs.Common.{refl}
use Rattle.lk_tree.specs.declared.rule.Rule.TheVariants.{BuiltinShape}
use Rattle.lk_questions.specs.Program.{done}
use Rattle.lk_questions.specs.Steps.{given}
use Rattle.lk_lit.proofs.Settling.{settles_now, settles_on, settles_not}
use Rattle.lk_lit.proofs.shapes.string_shape_by.Goals as goal

pub returns-in-Ok : goal.returns-in-Ok
returns-in-Ok g c e is =
    let seen = g.L.Looks.sight (g.L.Terms.rest c.has_string_shape.new.looks) in
    settles_on (λ _. given c.in-Ok.has BuiltinShape (done tt)) (λ has. given has BuiltinShape (done tt))
    (rw c.in-Ok.is at (c.in_ok-has.ensures.settles e is)) refl refl
    (settles_now c.has_string_shape.new.looks c.required.result (c.required.ensures seen.basis.place seen.last))

pub returns-in-Err : goal.returns-in-Err
returns-in-Err g c e is =
    settles_not (λ has. given has BuiltinShape (done tt)) (rw c.in-Err.is at (c.in_ok-has.ensures.settles e is)) refl
