-- A projection by numbers.
use Rattle.std.specs.Prelude.{◌<◌, length}
use Rattle.lk_store.specs.Contents.{Contents, name_at, tree_at}
use Rattle.lk_replay_types.specs.Subjects as plain
use Rattle.lk_replay_types.specs.declared.projections.Projection.{Projection}

abbrev pub projection_at : Contents → Projection → plain.Projection
projection_at c p = record {
  structure = name_at c p.structure;
  field = p.field;
  subject = tree_at c p.subject;
}

-- its name and its tree are numbers of the store
pub record IsProjectionIn (c : Contents) (p : Projection) : Type 0 where
  pub structure_in : p.structure < length c.names
  pub subject_in : p.subject < length c.trees
