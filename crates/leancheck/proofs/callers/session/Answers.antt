use Rattle.std.proofs.Common.{◌≡◌, ◌∙◌, subst, sym, List, ℕ}
use Rattle.std.specs.Prelude.{Vec}
use Rattle.std.specs.declared.alloc.Global.{Global}
use Rattle.lk_book.specs.Texts.{text_of}
use Rattle.lk_session.specs.Texts.{AreFaultless}
use Rattle.lk_callers.specs.Owned.{bytes_in}
use Rattle.leancheck.specs.Ends.{TellsSession, SessionPrefix}
use Rattle.leancheck.proofs.Files.{of_texts}
use Rattle.leancheck.proofs.Sessions.{read_faultless}
use Rattle.leancheck.proofs.callers.session.Goals as goal

pub tell_texts-requires-clause-faultless : goal.tell_texts-requires-clause-faultless
tell_texts-requires-clause-faultless g c κs callers = subst (λ (ts : List (Vec ℕ Global)). AreFaultless text_of (bytes_in ts)) (sym c.deref.ensures.value) (read_faultless c.in-Ok.texts c.in-Ok.ensures.some)
