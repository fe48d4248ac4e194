-- A name that means something.
use Rattle.std.specs.Prelude.{◌≡◌, Some}
use Rattle.lk_tree.specs.Tree.{Name}
use Rattle.lk_rulebook.specs.Place.{Entry as PlainEntry}
use Rattle.lk_env.specs.declared.entry.Entry.{Entry}
use Rattle.lk_ask.specs.Looks.{Basis, entry_at}

-- the name means what the entry by numbers stands for
pub record IsGiven {B : Type 0} (b : Basis B) (x : Name) (e : Entry) : Type 0 where
  pub entry : PlainEntry
  pub is : entry_at b e ≡ Some entry
  pub means : b.place.means x ≡ Some entry
