-- The whole check of a block keeps to a set of names that has those of auxiliary things.
use Rattle.std.proofs.Common.{ℕ, suc, ◌≡◌, true, ◌++◌, List, [], ◌∷◌}
use Rattle.lk_tree.specs.Tree.{Name, Tree}
use Rattle.lk_rulebook.specs.Place.{Block, BlockType, BlockRecursor, RecRule}
use Rattle.lk_rulebook.specs.Units.{of_block, trees_of, all_bound, rule_trees, rec_trees, type_trees, all_ctor_trees}
use Rattle.lk_inductive.specs.Block.{parameters_of, counts_of, Shape}
use Rattle.lk_inductive.specs.BlockSteps.{TypeParts, counts_steps, types_steps, all_ctor_sorts, shape_steps}
use Rattle.lk_inductive.specs.Recursors.{recursors_by}
use Rattle.lk_inductive.specs.Compare.{rec_entries, compare_steps}
use Rattle.lk_inductive.specs.Nested.{Aux, Setting, Larger, larger_block, enlarge, aux_sorts, aux_indices, bare_entries}
use Rattle.lk_inductive.specs.Restore.{first_name, rec_numbered}
use Rattle.lk_inductive.specs.Task.{done_with, here}
use Rattle.lk_inductive.specs.NestedTask.{setting_of, restoring_of, nested_recs, nested_shape, whole_task}
use Rattle.lk_closure.proofs.Names.{TypesOver}
use Rattle.lk_closure.proofs.Over.{TreesOver, TypesGive, UnitOver}
use Rattle.lk_closure.proofs.Pieces.{Any}
use Rattle.lk_closure.proofs.Entries.{MembersOver, members_append, trees_split, block_over, type_entries_over, all_ctor_entries_over}
use Rattle.lk_closure.proofs.Tasks.{WithinTask, within_here, within_then_task}
use Rattle.lk_closure.proofs.Shapes.{ListsOver, PartsOver, ListedOver, ShapeOver, within_counts, within_types, within_all_ctor_sorts, within_shape}
use Rattle.lk_closure.proofs.Nests.{HasMarked, AuxsOver, LargerOver, within_enlarge, within_aux_sorts}
use Rattle.lk_closure.proofs.Recs.{ValuesOver, RecTreesOver, over_recursors, within_compare}

types_append : (P : Name → Type 0) (xs ys : List BlockType) → TypesOver P xs → TypesOver P ys → TypesOver P (xs ++ ys)
types_append P [] ys h i = i
types_append P (x ∷ xs) ys h i = (h.0, types_append P xs ys h.1 i)

listed : (P : Name → Type 0) (ts : List BlockType) → TypesOver P ts → TypesGive P ts → ListedOver P (counts_of ts)
listed P [] h g = tt
listed P (t ∷ ts) h g = ((h.0.0, g.0), listed P ts h.1 g.1)

gives_append : (P : Name → Type 0) (xs ys : List BlockType) → TypesGive P xs → TypesGive P ys → TypesGive P (xs ++ ys)
gives_append P [] ys h i = i
gives_append P (x ∷ xs) ys h i = (h.0, gives_append P xs ys h.1 i)

lists_append : (P : Name → Type 0) (xs ys : List (List Tree)) → ListsOver P xs → ListsOver P ys → ListsOver P (xs ++ ys)
lists_append P [] ys h i = i
lists_append P (x ∷ xs) ys h i = (h.0, lists_append P xs ys h.1 i)

aux_lists : (P : Name → Type 0) (as_ : List Aux) → AuxsOver P as_ → ListsOver P (aux_indices as_)
aux_lists P [] h = tt
aux_lists P (a ∷ as_) h = (h.0.1.1.1.0, aux_lists P as_ h.1)

bare_over : (P : Name → Type 0) (ts : List BlockType) → TypesOver P ts → MembersOver P (bare_entries ts)
bare_over P [] h = tt
bare_over P (t ∷ ts) h = ((h.0.1.0, ((h.0.0, (h.0.1.0, tt)), ((h.0.0, (h.0.1.0, tt)), tt))), bare_over P ts h.1)

rec_entries_over : (P : Name → Type 0) (rs : List BlockRecursor) → RecTreesOver P rs → MembersOver P (rec_entries rs)
rec_entries_over P [] h = tt
rec_entries_over P (r ∷ rs) h = ((h.0.0, tt), rec_entries_over P rs h.1)

values_over : (P : Name → Type 0) (ps : List Name) (rs : List RecRule) → TreesOver P (rule_trees ps rs) → ValuesOver P rs
values_over P ps [] h = tt
values_over P ps (r ∷ rs) h = (h.0, values_over P ps rs h.1)

recs_over : (P : Name → Type 0) (rs : List BlockRecursor) → TreesOver P (rec_trees rs) → RecTreesOver P rs
recs_over P [] h = tt
recs_over P (r ∷ rs) h =
    let s : TreesOver P (rule_trees r.levels r.recursor.rules) × TreesOver P (rec_trees rs) = trees_split P (rule_trees r.levels r.recursor.rules) (rec_trees rs) h.1 in
    ((h.0, values_over P r.levels r.recursor.rules s.0), recs_over P rs s.1)

within_nested_recs : (P : Name → Type 0) (b : Block) (stated : List BlockRecursor) (s : Setting) (lg : Larger) (shape : Shape) → TypesOver P b.types → RecTreesOver P stated → ((k : ℕ) → P (rec_numbered (first_name b.types) (suc k))) →
    LargerOver P lg → ShapeOver P shape → WithinTask P (nested_recs b stated s lg shape) Any
within_nested_recs P b stated s lg shape ot os n ol oh = (
  members_append P _ (rec_entries stated) (all_ctor_entries_over P b b.types ot) (rec_entries_over P stated os),
  within_then_task P (here (compare_steps (recursors_by (restoring_of b s lg) shape) stated)) (λ y. done_with shape) Any Any
      (within_here P (compare_steps (recursors_by (restoring_of b s lg) shape) stated) Any
      (within_compare P (recursors_by (restoring_of b s lg) shape) stated (over_recursors P (first_name b.types) lg.auxs s shape n ol.1.1 oh) os)) (λ y a. tt),
)

within_nested_shape : (P : Name → Type 0) (fuel : ℕ) (b : Block) (stated : List BlockRecursor) (ts : TypeParts) (lg : Larger) → TypesOver P b.types → RecTreesOver P stated → ((k : ℕ) → P (rec_numbered (first_name b.types) (suc k))) →
    PartsOver P ts → LargerOver P lg → WithinTask P (nested_shape fuel b stated ts lg) Any
within_nested_shape P fuel b stated ts lg ot os n op ol = (
  bare_over P lg.aux ol.1.0.0,
  within_then_task P (here (shape_steps fuel (larger_block lg) (record ts { indices = ts.indices ++ aux_indices lg.auxs }))) (λ shape. nested_recs b stated (setting_of b ts.params) lg shape) (ShapeOver P) Any
      (within_here P (shape_steps fuel (larger_block lg) (record ts { indices = ts.indices ++ aux_indices lg.auxs })) (ShapeOver P)
      (within_shape P fuel (larger_block lg) (record ts { indices = ts.indices ++ aux_indices lg.auxs })
      (listed P (lg.own ++ lg.aux) (types_append P lg.own lg.aux ol.0.0 ol.1.0.0) (gives_append P lg.own lg.aux ol.0.1 ol.1.0.1)) (types_append P lg.own lg.aux ol.0.0 ol.1.0.0)
      (op.0, lists_append P ts.indices (aux_indices lg.auxs) op.1 (aux_lists P lg.auxs ol.1.1))))
      (λ shape oh. within_nested_recs P b stated (setting_of b ts.params) lg shape ot os n ol oh),
)

pub within_whole : (P : Name → Type 0) → HasMarked P → (fuel : ℕ) (b : Block) (stated : List BlockRecursor) → TypesOver P b.types → RecTreesOver P stated → TypesGive P b.types →
    ((k : ℕ) → P (rec_numbered (first_name b.types) (suc k))) → WithinTask P (whole_task fuel b stated) Any
within_whole P m fuel b stated ot os g n =
    within_then_task P (here (counts_steps b)) _ Any Any (within_here P (counts_steps b) Any (within_counts P b))
    (λ y a. within_then_task P (here (types_steps (parameters_of b) b.types)) _ (PartsOver P) Any (within_here P (types_steps (parameters_of b) b.types) (PartsOver P) (within_types P (parameters_of b) b.types ot))
    (λ ts op. (
      type_entries_over P b b.types ot ot,
      within_then_task P (here (all_ctor_sorts b.types)) _ Any Any (within_here P (all_ctor_sorts b.types) Any (within_all_ctor_sorts P b.types ot))
          (λ ls x. within_then_task P (here (enlarge (setting_of b ts.params) b.types)) _ (LargerOver P) Any
          (within_here P (enlarge (setting_of b ts.params) b.types) (LargerOver P) (within_enlarge P m (setting_of b ts.params) b.types op.0 ot g))
          (λ lg ol. within_then_task P (here (aux_sorts ts.sort lg.auxs)) _ Any Any (within_here P (aux_sorts ts.sort lg.auxs) Any (within_aux_sorts P ts.sort lg.auxs))
          (λ z w. within_nested_shape P fuel b stated ts lg ot os n op ol))),
    )))

pub within_block : (P : Name → Type 0) → HasMarked P → (fuel : ℕ) (b : Block) (stated : List BlockRecursor) → all_bound (trees_of (of_block b stated)) ≡ true → UnitOver P (of_block b stated) → WithinTask P (whole_task fuel b stated) Any
within_block P m fuel b stated ab h =
    let x : TreesOver P (type_trees b.types) × TreesOver P (all_ctor_trees b.types ++ rec_trees stated) = trees_split P (type_trees b.types) (all_ctor_trees b.types ++ rec_trees stated) (h.trees ab) in
    let y : TreesOver P (all_ctor_trees b.types) × TreesOver P (rec_trees stated) = trees_split P (all_ctor_trees b.types) (rec_trees stated) x.1 in
    within_whole P m fuel b stated (block_over P b stated ab h) (recs_over P stated y.1) h.recursors.0 h.recursors.1
