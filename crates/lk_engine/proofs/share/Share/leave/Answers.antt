use Rattle.std.proofs.Common.{sym, subst}
use Rattle.lk_desk.specs.Seats.{job}
use Rattle.lk_desk.specs.Truth.{IsTablesOf}
use Rattle.lk_engine.specs.Shares.{LastsAt}
use Rattle.lk_engine.proofs.Shared.{leave_true}
use Rattle.lk_store.specs.Layers.{layers_contents}
use Rattle.lk_engine.proofs.share.Share.leave.Goals as goal

pub leave-left-requires-clause-true_entry : goal.leave-left-requires-clause-true_entry
leave-left-requires-clause-true_entry c =
    let t = c.args.terms.now.base in
    let now = layers_contents c.args.terms.now in
    leave_true t now c.requires.over c.args.query c.key_of-key.result c.key_of-key.ensures
    (job c.self.inside.answers.now.desk)
    (subst (λ s. IsTablesOf s.job t) (sym c.self.view_is) c.requires.tables)
    c.args.kept c.in-Ok.entry c.requires.query_in c.in-Ok.ensures.spelled c.in-Ok.ensures.made
    (subst (λ s. LastsAt s.job now c.args.query c.args.kept) (sym c.self.view_is) c.requires.lasts)
