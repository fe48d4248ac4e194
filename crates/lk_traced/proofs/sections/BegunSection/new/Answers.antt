use Rattle.std.proofs.Common.{refl}
use Rattle.std.proofs.lemmas.List.Elements.{All-nil}
use Rattle.lk_trace.specs.Meaning.{IsLineIn}
use Rattle.lk_traced.proofs.sections.BegunSection.new.Goals as goal

pub returns-clause-holds : goal.returns-clause-holds
returns-clause-holds c k = record {
  number = refl;
  unit = refl;
  lines = rw c.new-2.ensures.items refl;
  places = λ q. c.new-3.ensures q;
}

pub returns-clause-known : goal.returns-clause-known
returns-clause-known c k = record {
  lines_in = rw c.new.ensures.items (All-nil (IsLineIn k));
  numbered = rw (c.new.ensures.items, c.new-2.ensures.items) refl;
}
