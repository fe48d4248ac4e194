use Rattle.std.proofs.Common.{◌<◌, ◌+◌, length}
use Rattle.std.specs.Prelude.{◌^◌, Option}
use Rattle.lk_store.specs.Contents.{Contents, name_at, Extends}
use Rattle.lk_env.specs.declared.entry.Entry.{Entry}
use Rattle.lk_env.specs.Units.{AreUnitsIn}
use Rattle.lk_env.specs.Scopes.{AreAlone, AnswersAmong}
use Rattle.lk_env.proofs.scope.named_among.Given as goal

abbrev pub invariant-units : goal.invariant-units
invariant-units g l =
    let c = g.T.Terms.contents l.fn.terms in
    let x = name_at c l.fn.name in
    record {
      units_in : AreUnitsIn c l.rest;
      alone : AreAlone l.rest;
      fits : l.number + length l.rest < 2 ^ 32;
      rest_known : (d : Contents) → AreUnitsIn d l.fn.auxiliary → AreUnitsIn d l.rest;
      -- what is found in the rest is found in all
      leads : (d : Contents) → Extends d c → AreUnitsIn d l.fn.auxiliary → (o : Option Entry) → AnswersAmong d l.number l.rest x o → AnswersAmong d l.fn.first l.fn.auxiliary x o;
    }

abbrev pub decreases-units : goal.decreases-units
decreases-units g l = length l.rest
