use Rattle.std.proofs.Common.{refl}
use Rattle.lk_rulebook.specs.Names.{named, nat}
use Rattle.lk_questions.specs.Program.{done}
use Rattle.lk_questions.specs.Erased.{a_tree}
use Rattle.lk_ask.proofs.Settles.{refused_behind}
use Rattle.lk_type.proofs.literals.number_type.Goals as goal

pub returns-in-Err : goal.returns-in-Err
returns-in-Err g c = refused_behind a_tree (λ u. done (named nat)) c.in-Err.rule
    (λ w t last. refl) (rw c.in-Err.is at c.in_ok-nat_shape.ensures)
