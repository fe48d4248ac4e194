use Rattle.lk_ask.proofs.instances.Instances.keep.Goals as goal

pub returns-in-Ok : goal.returns-in-Ok
returns-in-Ok c = λ k one all.
    c.add.ensures k (rw (c.in-Ok.ensures.params, c.in-Ok.ensures.tree, c.in-Ok.ensures.made) one)
    (c.make_room.ensures k all)

pub returns-in_default : goal.returns-in_default
returns-in_default c = λ k one all. c.make_room.ensures k all
