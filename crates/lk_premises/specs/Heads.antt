-- The constant at the head of a tree, and what it means.
use Rattle.std.specs.Prelude.{◌≡◌, List, Option, Some}
use Rattle.lk_tree.specs.Tree.{Name, Level, Tree}
use Rattle.lk_tree.specs.Spine.{head}
use Rattle.lk_rulebook.specs.Place.{Place, Entry as PlainEntry}
use Rattle.lk_questions.specs.Tests.{◌>>=◌}
use Rattle.lk_written.specs.Premises.{as_const}
use Rattle.lk_store.specs.Contents.{Contents, name_at, list_at}
use Rattle.lk_ask.specs.Looks.{Basis, entry_at}
use Rattle.lk_premises.specs.declared.heads.Headed.{Headed}

-- its name, its levels, and what it means at w
abbrev pub head_means : Place → Tree → Option ((Name × List Level) × PlainEntry)
head_means w t = do
  c ← as_const (head t)
  g ← w.means c.0
  Some (c, g)

-- the numbers stand for it
pub record IsHeaded {B : Type 0} (b : Basis B) (c : Contents) (t : Tree) (h : Headed)
    : Type 0 where
  pub entry : PlainEntry
  pub is : entry_at b h.entry ≡ Some entry
  pub means : head_means b.place t ≡ Some ((name_at c h.name, list_at c h.levels), entry)
