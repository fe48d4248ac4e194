-- What the checks of the types found out stands for what it stood for, once a store has grown.
use Rattle.std.proofs.Common.{◌≡◌, refl, arith}
use Rattle.lk_store.specs.Contents.{Contents, Extends}
use Rattle.lk_subst.specs.Numbers.{trees-steady, trees-known}
use Rattle.lk_block.specs.declared.types.TypeParts.{TypeParts}
use Rattle.lk_block.specs.Parts.{parts_at, ArePartsIn}
use Rattle.lk_block.proofs.Firsts.{lists-steady, lists-known}

pub parts_stay : (c d : Contents) → Extends c d → (p : TypeParts) → ArePartsIn c p → parts_at d p ≡ parts_at c p
parts_stay c d x p h =
    rw (trees-steady c d p.parameters.items x h.parameters_in, x.levels.same p.sort h.sort_in, lists-steady c d p.indices.items x h.indices_in) refl

pub parts_in_stay : (c d : Contents) → Extends c d → (p : TypeParts) → ArePartsIn c p → ArePartsIn d p
parts_in_stay c d x p h = record {
  parameters_in = trees-known c d p.parameters.items x h.parameters_in;
  sort_in = let small = h.sort_in in let longer = x.levels.longer in omega arith;
  indices_in = lists-known c d p.indices.items x h.indices_in;
}
