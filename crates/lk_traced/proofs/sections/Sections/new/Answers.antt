use Rattle.std.proofs.Common.{refl}
use Rattle.std.proofs.lemmas.List.Elements.{All-nil}
use Rattle.lk_traced.proofs.sections.Sections.new.Goals as goal

pub returns-clause-known : goal.returns-clause-known
returns-clause-known c = λ k. record {
  ended_in = rw c.new.ensures.items (All-nil _);
  begun_in = tt;
  ordered = record { rising = rw c.new.ensures.items tt; below = rw c.new.ensures.items (All-nil _); alone = rw c.new.ensures.items (All-nil _) };
}
