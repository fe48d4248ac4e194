-- Applications taken apart.
use Rattle.std.specs.Prelude.{Option, Some, None}
use Rattle.lk_tree.specs.Tree.{Name, Tree, const, app}
use Rattle.lk_store.specs.Contents.{Contents, tree_at}
use Rattle.lk_replay_reduce.specs.declared.applications.Parts.{Parts}

abbrev pub as_app : Tree → Option (Tree × Tree)
as_app (app f x) = Some (f, x)
as_app _ = None

abbrev pub constant_name : Tree → Option Name
constant_name (const c ls) = Some c
constant_name _ = None

abbrev pub parts_at : Contents → Parts → Tree × Tree
parts_at c p = (tree_at c p.function, tree_at c p.argument)
