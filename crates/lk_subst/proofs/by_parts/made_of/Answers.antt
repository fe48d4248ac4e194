use Rattle.lk_subst.specs.declared.parts.Met.{Met}
use Rattle.lk_subst.proofs.by_parts.made_of.Goals as goal

pub returns-in-Some : goal.returns-in-Some
returns-in-Some g c =
    let d : Met = record { level = 0 } in
    rw (c.in-Some.ensures.present d) at (c.requires.made.each c.in-Some.i d c.if-i-made.true)
