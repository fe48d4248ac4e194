-- Binders whose domains are closed.
use Rattle.std.specs.Prelude.{◌≡◌, ◌<◌, List, [], length, map, All}
use Rattle.lk_tree.specs.Tree.{Tree}
use Rattle.lk_store.specs.Contents.{Contents, tree_at}
use Rattle.lk_inductive.specs.Block as plain
use Rattle.lk_inductive.specs.Recursors.{front}
use Rattle.lk_restore.specs.declared.originals.Original.{Original}
use Rattle.lk_recursor.specs.declared.binders.Binder.{Binder}
use Rattle.lk_recursor.specs.declared.telescope.Telescope.{Telescope}
use Rattle.lk_recursor.specs.Binders.{bound_by, over_domains}
use Rattle.lk_subst.specs.Runs.{close_in}

-- a tree in which the Locals are closed, under the binders
abbrev pub over_telescope : Contents → Telescope → Binder → Tree → Tree
over_telescope c t b e = over_domains b (map (tree_at c) t.domains.items) (close_in 0 t.runs e)

-- it binds each tree as these Locals do, one after another
pub record IsTelescope (c : Contents) (xs : List Tree) (t : Telescope) : Type 0 where
  pub domains_in : All (λ e. e < length c.trees) t.domains.items
  pub binds : (b : Binder) (e : Tree) → bound_by b xs e ≡ over_telescope c t b e

-- the parameters, the motives and the minor premises of a block where nothing is read back
pub record IsFrontTelescope (c : Contents) (p : plain.Shape) (os : List Original) (t : Telescope) : Type 0 where
  pub none_read_back : os ≡ []
  pub is : IsTelescope c (front p) t
