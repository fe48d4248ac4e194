use Rattle.std.proofs.Common.{◌≡◌, ◌++◌, length, All}
use Rattle.lk_store.specs.Contents.{Contents}
use Rattle.lk_inductive.specs.Nested.{aux_indices}
use Rattle.lk_auxiliary.specs.Auxiliaries.{auxs_at, IsAuxiliaryIn}
use Rattle.lk_block.specs.Parts.{lists_at, AreListsIn}
use Rattle.leancheck.proofs.larger.larger_parts.Given as goal

abbrev pub invariant-stand : goal.invariant-stand
invariant-stand l = record {
  leads : (c : Contents) → lists_at c l.indices.items ++ aux_indices (auxs_at c l.rest) ≡ lists_at c l.fn.parts.indices.items ++ aux_indices (auxs_at c l.fn.stand);
  indices_in : (c : Contents) → AreListsIn c l.fn.parts.indices.items → All (IsAuxiliaryIn c) l.fn.stand → AreListsIn c l.indices.items;
  rest_in : (c : Contents) → All (IsAuxiliaryIn c) l.fn.stand → All (IsAuxiliaryIn c) l.rest;
}

abbrev pub decreases-stand : goal.decreases-stand
decreases-stand l = length l.rest
