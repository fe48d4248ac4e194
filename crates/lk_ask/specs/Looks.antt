-- What whoever looks names up leaves as it is, and how far it has come.
use Rattle.std.specs.Prelude.{◌≡◌, ◌<◌, ℕ, length, Option, Some, None, IfOk, IfErr, IfSome, Result}
use Rattle.lk_tree.specs.declared.rule.Rule.{Rule}
use Rattle.lk_store.specs.declared.memory.NoMemory.{NoMemory}
use Rattle.lk_tree.specs.Tree.{Tree}
use Rattle.lk_rulebook.specs.Place.{Place, Entry as PlainEntry}
use Rattle.lk_store.specs.Contents.{Contents, name_at, list_at, tree_at, Extends, IsTree}
use Rattle.lk_store.specs.Store.{contents_of}
use Rattle.lk_env.specs.declared.entry.Entry.{Entry}
use Rattle.lk_env.specs.StoredLibrary.{StoredLibrary}
use Rattle.lk_env.specs.Entries.{library_entry, IsAnswer, IsEntryIn}
use Rattle.lk_ask.specs.Constants.{IsFound, IsRefusedBy, IsAtLevels}

-- what no step changes: the library, what names mean, what is left of the budget, and what else
-- there is
pub record Basis (B : Type 0) : Type 0 where
  pub library : StoredLibrary
  pub place : Place
  pub left : ℕ
  pub beside : B

-- what an entry of the library stands for
abbrev pub entry_at : {B : Type 0} → Basis B → Entry → Option PlainEntry
entry_at b e = library_entry b.library e

-- the same, and the last unit that was looked at
pub record Sight (B : Type 0) : Type 0 where
  pub basis : Basis B
  pub last : Option ℕ

-- what the library has stands under the same numbers
abbrev pub IsOver : {S R B : Type 0} → (S → Contents) → (S → R) → (R → Sight B) → S → Type 0
IsOver contents rest sight s =
    Extends (contents_of (sight (rest s)).basis.library.tables) (contents s)

-- numbers stand for what they stood for, and all else is as it was
pub record Made {S R : Type 0} (contents : S → Contents) (rest : S → R) (old new : S) : Type 0 where
  pub keeps : Extends (contents old) (contents new)
  pub stays : rest new ≡ rest old

-- the same, and the number stands for this tree; t is what numbers stood for
pub record MakesTree {S R : Type 0} (contents : S → Contents) (rest : S → R)
    (old new : S) (result : Result ℕ NoMemory) (tree : (ℕ → Tree) → Tree) : Type 0 where
  pub keeps : Extends (contents old) (contents new)
  pub stays : rest new ≡ rest old
  pub ok : IfOk result (λ e. IsTree (contents new) e (tree (tree_at (contents old))))

-- what a name means was told
pub record IsMeant {S R B : Type 0} (content : S → Contents) (beside : S → R) (sight : R → Sight B)
    (s : S) (name : ℕ) (result : Result Entry Rule) : Type 0 where
  pub over : IsOver content beside sight s
  pub known : IfOk result (IsEntryIn (contents_of (sight (beside s)).basis.library.tables))
  pub answer : IsAnswer (contents_of (sight (beside s)).basis.library.tables)
      (sight (beside s)).basis.library.units (sight (beside s)).basis.place (name_at (content s) name)
      result
  pub refused : IfErr result
      (λ r. (sight (beside s)).basis.place.means (name_at (content s) name) ≡ None)

-- a name was looked up: no more than the last unit that was looked at is another one
pub record IsLookedUp {S R B : Type 0} (content : S → Contents) (beside : S → R)
    (sight : R → Sight B) (old new : S) (name : ℕ) (missing : Rule) (result : Result Entry Rule)
    : Type 0 where
  pub contents : content new ≡ content old
  pub stays : (sight (beside new)).basis ≡ (sight (beside old)).basis
  pub over : IsOver content beside sight old
  pub known : IfOk result (IsEntryIn (contents_of (sight (beside old)).basis.library.tables))
  pub found : IfOk result (λ e. IsFound (sight (beside old)).basis.library
      (sight (beside old)).basis.place (name_at (content old) name)
      (sight (beside old)).last e (sight (beside new)).last)
  pub refused : IfErr result (IsRefusedBy missing (sight (beside old)).basis.place
      (name_at (content old) name))

-- a tree was taken at levels
pub record IsTaken {S R B : Type 0} (content : S → Contents) (beside : S → R) (sight : R → Sight B)
    (old new : S) (entry : Entry) (levels e : ℕ) (result : Result (Option ℕ) NoMemory) : Type 0
  where
    pub keeps : Extends (content old) (content new)
    pub rest : beside new ≡ beside old
    pub known : IfOk result (λ r. IfSome r (λ t. t < length (content new).trees))
    pub ok : IfOk result (λ r. (g : PlainEntry)
        → entry_at (sight (beside old)).basis entry ≡ Some g
        → IsAtLevels (content new) g.levels (list_at (content old) levels)
        (tree_at (content old) e) r)
