use Rattle.lk_lit.specs.Values.{value_program}
use Rattle.lk_lit.proofs.Parts.{value_comes, value_refused}
use Rattle.lk_lit.proofs.step.compute.Goals as goal

pub returns-in-Ok : goal.returns-in-Ok
returns-in-Ok g c o is =
    value_comes c.args.e c.requires.e_in (value_program o) (rw c.in-Ok.is at c.in_ok-value.ensures.known)
    (rw c.in-Ok.is at (c.in_ok-value.ensures.settles o is))

pub returns-in-Err : goal.returns-in-Err
returns-in-Err g c o is =
    value_refused c.args.e c.requires.e_in (value_program o) (rw c.in-Err.is at (c.in_ok-value.ensures.settles o is))
