use Rattle.std.proofs.Common.{refl}
use Rattle.lk_structure.proofs.Structured.{with_ctor}
use Rattle.lk_structure.proofs.structure.structure_by.Goals as goal

pub returns-in-Some-clause-is : goal.returns-in-Some-clause-is
returns-in-Some-clause-is c l e g b h is kind unit = with_ctor l e g b c.args.ty.now c.args.number h
    is c.in-Some.constructor.now _
    (rw c.deref.ensures.value at c.in-Some.ensures) kind refl unit refl refl refl refl
