-- What a constant means at a place, and its trees at levels.
use Rattle.std.specs.Prelude.{◌≡◌, ◌<◌, ℕ, true, false, nat_eq, List, length, map, All, Option, Some, None}
use Rattle.lk_tree.specs.Tree.{Name, Level, Tree}
use Rattle.lk_tree.specs.Levels.{put_levels}
use Rattle.lk_tree.specs.Spine.{apply}
use Rattle.lk_tree.specs.declared.rule.Rule.{Rule}
use Rattle.lk_tree.specs.declared.rule.Rule.TheVariants.{UnknownConstant}
use Rattle.lk_rulebook.specs.Place.{Place, Entry as PlainEntry}
use Rattle.lk_questions.specs.Answer.{later, refusal}
use Rattle.lk_store.specs.Contents.{Contents, level_at, IsTree}
use Rattle.lk_env.specs.declared.entry.Entry.{Entry}
use Rattle.lk_env.specs.StoredLibrary.{StoredLibrary}
use Rattle.lk_env.specs.Entries.{library_entry}

-- the name means this entry, whose unit is looked at
pub record IsFound (l : StoredLibrary) (w : Place) (x : Name) (before : Option ℕ) (e : Entry)
    (last : Option ℕ) : Type 0 where
  pub entry : PlainEntry
  pub is : library_entry l e ≡ Some entry
  pub means : w.means x ≡ Some entry
  pub looked : last ≡ later before (Some (w.origin x))

-- the name means nothing at the place, or what gives it has a flaw; `missing` is the rule where
-- nothing gives it
pub record IsRefusedBy (missing : Rule) (w : Place) (x : Name) (r : Rule) : Type 0 where
  pub means : w.means x ≡ None
  pub rule : r ≡ refusal missing (w.flaw x)

-- the same of a constant of a term
abbrev pub IsRefused : Place → Name → Rule → Type 0
IsRefused = IsRefusedBy UnknownConstant

-- the number stands for the tree at these levels; there is none where the counts differ
abbrev pub IsAtLevels : Contents → List Name → List Level → Tree → Option ℕ → Type 0
IsAtLevels c ps ls t (Some r) =
    (nat_eq (length ls) (length ps) ≡ true) × IsTree c r (put_levels ps ls t)
IsAtLevels c ps ls t None = nat_eq (length ls) (length ps) ≡ false

-- the number stands for the value v at these levels, applied; there is none where the counts differ
abbrev pub IsUnfolded : Contents → List Name → List Level → Tree → List Tree → Option ℕ → Type 0
IsUnfolded c ps ls v xs (Some r) =
    (nat_eq (length ls) (length ps) ≡ true) × IsTree c r (apply (put_levels ps ls v) xs)
IsUnfolded c ps ls v xs None = nat_eq (length ls) (length ps) ≡ false

-- the numbers of these levels
pub record IsLevels (c : Contents) (numbers : List ℕ) (ls : List Level) : Type 0 where
  pub known : All (λ l. l < length c.levels) numbers
  pub are : map (level_at c) numbers ≡ ls
