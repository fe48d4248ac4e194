use Rattle.lk_session.proofs.Opening.{opened}
use Rattle.lk_session.proofs.session.Opened.new.Goals as goal

pub of_words-requires : goal.of_words-requires
of_words-requires c = opened
