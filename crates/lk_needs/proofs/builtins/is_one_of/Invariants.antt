use Rattle.std.proofs.Common.{map, take}
use Rattle.lk_uses.specs.Closure.{IsIn}
use Rattle.lk_store.specs.Contents.{name_at}
use Rattle.lk_store.specs.Store.{contents_of}
use Rattle.lk_needs.specs.Builtins.{spelled}
use Rattle.lk_needs.proofs.builtins.is_one_of.Given as goal

abbrev pub invariant-loop-spelling : goal.invariant-loop-spelling
invariant-loop-spelling l = IsIn (name_at (contents_of l.base) l.name) (map spelled (take l.spelling-index l.spellings)) → ⊥
