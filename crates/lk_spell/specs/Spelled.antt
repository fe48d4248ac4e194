-- What a spelled term stands for over the contents of a library.
use Rattle.std.specs.Prelude.{◌<◌, ◌≤◌, List, [], ◌∷◌, ◌++◌, length, Bool, true, false, count_by}
use Rattle.lk_tree.specs.Tree.{Tree}
use Rattle.lk_store.specs.Contents.{Contents, name_of, level_of, list_of, tree_of, tree_at}
use Rattle.lk_store.specs.Contents.{IsNameIn, IsLevelIn, IsListIn, IsIn}
use Rattle.lk_spell.specs.declared.spelled.OwnNode.{OwnNode}
use Rattle.lk_spell.specs.declared.spelled.OwnNode.TheVariants.{Name, Text, Level, List as Levels, Term}
use Rattle.lk_spell.specs.declared.spelled.Spelled.{Spelled}

-- the contents with what an own node stands for, under the next number of its kind
abbrev pub grown : Contents → OwnNode → Contents
grown c (Name n) = record c { names = c.names ++ name_of c n ∷ [] }
grown c (Text t) = record c { texts = c.texts ++ t ∷ [] }
grown c (Level l) = record c { levels = c.levels ++ level_of c l ∷ [] }
grown c (Levels ls) = record c { lists = c.lists ++ list_of c ls ∷ [] }
grown c (Term e) = record c { trees = c.trees ++ tree_of c e ∷ [] }

-- with one own node after the other
abbrev pub grown_by : Contents → List OwnNode → Contents
grown_by c [] = c
grown_by c (x ∷ xs) = grown_by (grown c x) xs

-- the parts of an own node are there
abbrev pub IsOwnIn : Contents → OwnNode → Type 0
IsOwnIn c (Name n) = IsNameIn c n
IsOwnIn c (Text t) = Unit {0}
IsOwnIn c (Level l) = IsLevelIn c l
IsOwnIn c (Levels ls) = IsListIn c ls
IsOwnIn c (Term e) = IsIn c e

-- the parts of each are the library's, or own nodes before it
abbrev pub AreOwn : Contents → List OwnNode → Type 0
AreOwn c [] = Unit {0}
AreOwn c (x ∷ xs) = IsOwnIn c x × AreOwn (grown c x) xs

-- names, texts and lists are not counted
abbrev pub is_counted : OwnNode → Bool
is_counted (Name n) = false
is_counted (Text t) = false
is_counted (Level l) = true
is_counted (Levels ls) = false
is_counted (Term e) = true

-- the library's contents with all own nodes
abbrev pub spelled_over : Contents → Spelled → Contents
spelled_over c s = grown_by c s.own.items

-- the tree that is spelled
abbrev pub spelled_tree : Contents → Spelled → Tree
spelled_tree c s = tree_at (spelled_over c s) s.root

-- it is well formed over the contents of a library
pub record IsSpelled (c : Contents) (s : Spelled) : Type 0 where
  pub own : AreOwn c s.own.items
  pub root : s.root < length (spelled_over c s).trees
  pub few : count_by is_counted s.own.items ≤ 4096
