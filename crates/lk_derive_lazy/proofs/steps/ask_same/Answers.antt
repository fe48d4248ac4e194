use Rattle.lk_derive_lazy.proofs.Stating.{same_asked}
use Rattle.lk_derive_lazy.proofs.steps.ask_same.Goals as goal

pub returns : goal.returns
returns g c = λ w n f h.
    same_asked w (g.T.Terms.contents c.args.terms.now) c.args.row.now c.push_question.new.row c.args.x c.args.y n c.requires.x_in c.requires.y_in c.in_ok-push_question.ensures.asks c.in_ok-push_question.ensures.steps f h
