-- A tree by its number, and the name in its node.
use Rattle.std.specs.Prelude.{ℕ, List, Bool, false}
use Rattle.lk_tree.specs.Mentions.{is_one_of}
use Rattle.lk_store.specs.Contents.{Contents, name_at}
use Rattle.lk_store.specs.Hashes.{hash_of_pair}
use Rattle.lk_store.specs.declared.node.Node.{Node}
use Rattle.lk_store.specs.declared.node.Node.TheVariants as node
use Rattle.lk_mentions.specs.Names.{names_at}

abbrev pub hash_of_tree : ℕ → ℕ → ℕ
hash_of_tree seed e = hash_of_pair seed e 0

-- whether the name in the node itself is one of the names
abbrev pub is_named : Contents → List ℕ → Node → Bool
is_named c ks (node.Const n ls) = is_one_of (names_at c ks) (name_at c n)
is_named c ks (node.Proj S i s) = is_one_of (names_at c ks) (name_at c S)
is_named c ks _ = false
