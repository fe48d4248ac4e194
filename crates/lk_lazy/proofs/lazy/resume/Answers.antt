use Rattle.lk_lazy.proofs.lazy.resume.Goals as goal

pub returns-else-yes : goal.returns-else-yes
returns-else-yes g c = rw (c.in-Arguments.is, c.if-yes.false) c.after_arguments.ensures
