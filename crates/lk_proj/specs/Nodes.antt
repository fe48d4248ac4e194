-- A projection, by the numbers of its parts.
use Rattle.std.specs.Prelude.{◌≡◌, ◌<◌, ℕ, length}
use Rattle.lk_tree.specs.Tree.{Name, Tree, proj}
use Rattle.lk_tree.specs.declared.rule.Rule.TheVariants.{BadProjection}
use Rattle.lk_questions.specs.Program.{Program, refuse}
use Rattle.lk_store.specs.Contents.{Contents, name_at, tree_at}
use Rattle.lk_proj.specs.declared.node.Projection.{Projection}

-- what is asked of a projection; of any other tree nothing is
abbrev pub of_proj : Tree → (Name → ℕ → Tree → Program Tree) → Program Tree
of_proj (proj S i s) k = k S i s
of_proj e k = refuse BadProjection

-- the numbers are those of the store, and the whole is the projection of its parts
pub record IsProjection (c : Contents) (p : Projection) : Type 0 where
  pub whole_in : p.whole < length c.trees
  pub structure_in : p.structure < length c.names
  pub subject_in : p.subject < length c.trees
  pub is : tree_at c p.whole ≡ proj (name_at c p.structure) p.field (tree_at c p.subject)
