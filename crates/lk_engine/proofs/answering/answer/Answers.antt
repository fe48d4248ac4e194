use Rattle.lk_engine.proofs.Lookouts.{repeat_answers, repeat_has_memory}
use Rattle.lk_engine.proofs.answering.answer.Goals as goal

pub returns-in-Some-clause-answers : goal.returns-in-Some-clause-answers
returns-in-Some-clause-answers g c = repeat_answers c.repeat.ensures c.in-Some.ensures.kept c.known.ensures.entries

pub returns-in-Some-clause-kept : goal.returns-in-Some-clause-kept
returns-in-Some-clause-kept g c = record {
  turns = λ k h. c.repeat.ensures.turns;
  memory = λ k h.
      repeat_has_memory c.repeat.ensures;
}

pub returns-in-None-clause-kept : goal.returns-in-None-clause-kept
returns-in-None-clause-kept g c =
    let none = c.known.ensures.none c.in-None.is in
    record {
      turns = λ k h. absurd (cc);
      memory = λ k h. absurd (cc);
    }
