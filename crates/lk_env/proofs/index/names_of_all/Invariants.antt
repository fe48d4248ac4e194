use Rattle.std.proofs.Common.{ℕ, ◌<◌, ◌^◌, length, take, Vec}
use Rattle.std.specs.Prelude.{All}
use Rattle.std.specs.declared.alloc.Global.{Global}
use Rattle.lk_env.specs.Index.{AreNames}
use Rattle.lk_env.proofs.index.names_of_all.Given as goal

abbrev pub invariant-loop-unit : goal.invariant-loop-unit
invariant-loop-unit l = record {
  names : AreNames l.names.items (take l.unit-index l.units);
  few : All (λ (v : Vec ℕ Global). length v.items < 2 ^ 32) l.names.items;
}
