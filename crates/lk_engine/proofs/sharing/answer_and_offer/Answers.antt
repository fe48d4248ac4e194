use Rattle.lk_engine.proofs.Shared.{offered_base, offered_over, offered_shares, offered_true}
use Rattle.lk_engine.proofs.sharing.answer_and_offer.Goals as goal

pub offer-requires-clause-base : goal.offer-requires-clause-base
offer-requires-clause-base c = offered_base c.requires.stands c.answer_alone-result.ensures.answers

pub offer-requires-clause-over : goal.offer-requires-clause-over
offer-requires-clause-over c = offered_over c.requires.stands c.answer_alone-result.ensures.answers

pub offer-requires-clause-shares : goal.offer-requires-clause-shares
offer-requires-clause-shares c =
    offered_shares c.requires.stands c.answer_alone-result.ensures.answers

pub offer-requires-clause-worked : goal.offer-requires-clause-worked
offer-requires-clause-worked c = rw c.left.ensures (offered_true c.requires.query_in
    c.answer_alone-result.result c.answer_alone-result.ensures.answers)
