-- Names that may be there, by the numbers of a store.
use Rattle.std.specs.Prelude.{ℕ, Option, Some, None}
use Rattle.lk_tree.specs.Tree.{Name}
use Rattle.lk_store.specs.Contents.{Contents, name_at}

abbrev pub named_at : Contents → Option ℕ → Option Name
named_at c (Some n) = Some (name_at c n)
named_at c None = None
