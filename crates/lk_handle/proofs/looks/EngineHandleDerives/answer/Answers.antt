use Rattle.std.proofs.Common.{sym, subst}
use Rattle.lk_step.specs.Told.{Answers, MayAsk}
use Rattle.lk_step.specs.Calls.{contents_from, rest_from, sight_from}
use Rattle.lk_handle.proofs.looks.EngineHandleDerives.answer.Goals as goal

pub answer-requires : goal.answer-requires
answer-requires g c =
    subst (λ s. MayAsk contents_from rest_from sight_from s c.args.query c.args.enough)
    (sym c.self.view_is) c.requires

pub returns : goal.returns
returns g c =
    subst (λ s. Answers contents_from rest_from sight_from s (g.E.EngineCalls.outlook c.answer.new.self)
    c.args.query c.answer.result) c.self.view_is c.answer.ensures
