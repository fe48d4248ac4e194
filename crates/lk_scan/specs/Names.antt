-- Whether a name is new.
use Rattle.std.specs.Prelude.{ℕ, Bool, take}
use Rattle.lk_tree.specs.Tree.{Name}
use Rattle.lk_rulebook.specs.Units.{Library, first_giving}
use Rattle.lk_rulebook.specs.Scan.{is_none}
use Rattle.lk_store.specs.Contents.{name_at}
use Rattle.lk_store.specs.Store.{contents_of}
use Rattle.lk_env.specs.Units.{library_of}
use Rattle.lk_env.specs.StoredLibrary.{StoredLibrary}

-- none of the first n units gives the name
abbrev pub is_new : Library → ℕ → Name → Bool
is_new us n c = is_none (first_giving 0 (take n us) c)

-- the same of the name under a number
abbrev pub number_is_new : StoredLibrary → ℕ → ℕ → Bool
number_is_new l n name = is_new (library_of l) n (name_at (contents_of l.tables) name)
