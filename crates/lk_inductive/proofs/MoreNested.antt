-- A block with nested occurrences that is derived stays derived where more is given.
use Rattle.std.proofs.Common.{ℕ, List, []}
use Rattle.lk_tree.specs.Tree.{Name}
use Rattle.lk_rulebook.specs.Place.{Place, Block, BlockType, BlockRecursor}
use Rattle.lk_rulebook.specs.Units.{Members}
use Rattle.lk_inductive.specs.Grows.{IsWithin}
use Rattle.lk_inductive.specs.Block.{Shape}
use Rattle.lk_inductive.specs.Enlarged.{Aux, Setting, Larger, larger_block, setting_of}
use Rattle.lk_inductive.specs.Recursors.{recursors_by}
use Rattle.lk_inductive.specs.Restore.{Original, restoring_of}
use Rattle.lk_inductive.specs.Whole.{partial_types}
use Rattle.lk_inductive.specs.NestedRelation.{IsFrom, IsAux, AuxTypes, no_aux, aux_more, IsEnlarged, middle_half, last_half, NestedDerived}
use Rattle.lk_inductive.proofs.More.{type_kept}
use Rattle.lk_inductive.proofs.MoreBlocks.{more_block, more_recs, more_types_sorted, more_all_sorted}

more_from : (w w' : Place) → IsWithin w w' → (s : Setting) (a : Aux) → IsFrom w s a → IsFrom w' s a
more_from w w' i s a h = record {
  J = h.J;
  entry = h.entry;
  block = h.block;
  type = h.type;
  given = type_kept w w' i h.J h.entry h.block h.type h.given h.kind;
  kind = h.kind;
  earlier = h.earlier;
  own = h.own;
  parameters = h.parameters;
  args = h.args;
  levels = h.levels;
}

more_aux : (w w' : Place) → IsWithin w w' → {s : Setting} {ms : List (Name × Original)} {n : ℕ} {a : Aux} {t : BlockType} → IsAux w s ms n a t → IsAux w' s ms n a t
more_aux w w' i {s = s} {a = a} h = record {
  from = more_from w w' i s a h.from;
  name = h.name;
  levels = h.levels;
  parameters = h.parameters;
  indices = h.indices;
  instance = h.instance;
  type = h.type;
  ctors = h.ctors;
}

more_auxs : (w w' : Place) → IsWithin w w' → {s : Setting} {ms : List (Name × Original)} {auxs : List Aux} {n : ℕ} {ts : List BlockType} → AuxTypes w s ms auxs n ts → AuxTypes w' s ms auxs n ts
more_auxs w w' i (no_aux e) = no_aux e
more_auxs w w' i (aux_more e h k) = aux_more e (more_aux w w' i h) (more_auxs w w' i k)

-- at places each of which gives all that the other's does, where what stands for the block may be looked at
pub more_nested : (places later : Members → Place) (b : Block) (stated : List BlockRecursor) (s : Shape) →
    IsWithin (places []) (later []) → IsWithin (places (partial_types b)) (later (partial_types b)) →
    ((lg : Larger) → IsEnlarged (places (partial_types b)) (setting_of b s.params) b lg →
    IsWithin (places (middle_half b lg)) (later (middle_half b lg)) × IsWithin (places (last_half b stated lg)) (later (last_half b stated lg))) →
    NestedDerived places b stated s → NestedDerived later b stated s
more_nested places later b stated s i j k g =
    let lg : Larger = g.larger in
    let c = k lg g.enlarged in
    record {
      counts = g.counts;
      types_sorted = more_types_sorted (places []) (later []) i b.types g.types_sorted;
      ctors_sorted = more_all_sorted (places (partial_types b)) (later (partial_types b)) j b.types g.ctors_sorted;
      larger = lg;
      enlarged = record { own = g.enlarged.own; aux = more_auxs (places (partial_types b)) (later (partial_types b)) j g.enlarged.aux };
      block = more_block (places []) (later []) (places (middle_half b lg)) (later (middle_half b lg)) i c.0 (larger_block lg) s g.block;
      recs = more_recs (places (last_half b stated lg)) (later (last_half b stated lg)) c.1 (recursors_by (restoring_of b (setting_of b s.params) lg) s) stated g.recs;
    }
