-- What is read of premises by which a tree is a type or a function type.
use Rattle.lk_tree.specs.Tree.{Level, Tree}
use Rattle.lk_written.specs.Premises.{Left}
use Rattle.lk_store.specs.Contents.{Contents, level_at, tree_at}
use Rattle.lk_premises.specs.declared.sorts.SortRead.{SortRead}
use Rattle.lk_premises.specs.declared.sorts.PiRead.{PiRead}

abbrev pub sort_read_at : Contents → SortRead → Level × Left
sort_read_at c r = (level_at c r.level, r.after.now)

abbrev pub pi_read_at : Contents → PiRead → (Tree × Tree) × Left
pi_read_at c r = ((tree_at c r.domain, tree_at c r.body), r.after.now)
