use Rattle.std.proofs.Common.{◌∙◌}
use Rattle.lk_traced.proofs.Followed.{library_goes, library_stops}
use Rattle.lk_traced.proofs.before.take_library.Goals as goal

pub returns-in-Ok-clause-follows : goal.returns-in-Ok-clause-follows
returns-in-Ok-clause-follows g c = λ d h.
    library_goes d c.args.statement c.requires.library c.args.number (c.requires.number ∙ h.number) _ _ (c.in-Ok.ensures.follows d h)

pub returns-in-Err-clause-follows : goal.returns-in-Err-clause-follows
returns-in-Err-clause-follows g c = λ d h.
    library_stops d c.args.statement c.requires.library c.args.number (c.requires.number ∙ h.number) c.in-Err.error (c.in-Err.ensures.follows d h)
