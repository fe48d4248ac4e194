-- What all recursors of a block share, by the numbers of a store.
use Rattle.std.specs.Prelude.{List, ◌≡◌, ◌<◌, ◌+◌, length, map, All, IfSome}
use Rattle.lk_tree.specs.Tree.{param}
use Rattle.lk_store.specs.Contents.{Contents, name_at, IsList}
use Rattle.lk_spine.specs.Reading.{AreTrees}
use Rattle.lk_inductive.specs.Recursors.{Restoring, BlockRecursor, shape_bound, rec_params, motives, minors, recursors_by}
use Rattle.lk_block.specs.declared.shape.Shape.{Shape}
use Rattle.lk_block.specs.Shapes.{shape_at}
use Rattle.lk_restore.specs.Originals.{AreOriginals, restoring_at}
use Rattle.lk_recursor.specs.declared.heads.Heads.{Heads}
use Rattle.lk_recursor.specs.declared.front.Front.{Front}
use Rattle.lk_recursor.specs.Telescopes.{IsFrontTelescope}

pub record AreHeads (c : Contents) (s : Shape) (h : Heads) : Type 0 where
  pub own_levels_are : IsList c h.own_levels (map param (shape_at c s).levels)
  pub motives_are : AreTrees c h.motives.items (motives (shape_at c s))

pub record IsFront (c : Contents) (s : Shape) (f : Front) : Type 0 where
  pub heads_are : AreHeads c s f.heads
  pub names_in : All (λ n. n < length c.names) f.names.items
  pub names_are : map (name_at c) f.names.items ≡ rec_params (shape_at c s)
  pub levels_are : IsList c f.levels (map param (rec_params (shape_at c s)))
  pub minors_are : AreTrees c f.minors.items (minors (shape_at c s))
  pub originals_are : AreOriginals c (shape_at c s) f.originals.now
  pub telescope_is : IfSome f.telescope (IsFrontTelescope c (shape_at c s) f.originals.now)
  pub major_is : f.major ≡ shape_bound (shape_at c s) + (length (shape_at c s).types + length (minors (shape_at c s)))

-- how names and trees are read back
abbrev pub read_by : Contents → Shape → Front → Restoring
read_by c s f = restoring_at c f.originals.now (shape_at c s)

abbrev pub own_recursors : Contents → Shape → Front → List BlockRecursor
own_recursors c s f = recursors_by (read_by c s f) (shape_at c s)
