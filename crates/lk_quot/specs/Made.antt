-- What is made between look-ups.
use Rattle.std.specs.Prelude.{◌≡◌, ℕ, Option, Some, None, Result, IfOk}
use Rattle.lk_tree.specs.Tree.{Name, Tree}
use Rattle.lk_store.specs.declared.memory.NoMemory.{NoMemory}
use Rattle.lk_store.specs.Contents.{Contents, Extends, IsName, IsTree}

-- numbers stand for what they stood for, all else is as it was, and the number stands for this name
pub record MakesName {S R : Type 0} (contents : S → Contents) (rest : S → R) (old new : S)
    (result : Result ℕ NoMemory) (name : Name) : Type 0 where
  pub keeps : Extends (contents old) (contents new)
  pub stays : rest new ≡ rest old
  pub ok : IfOk result (λ n. IsName (contents new) n name)

-- the number stands for the tree, and there is none where there is no tree
abbrev pub IsTreeIf : Contents → Option ℕ → Option Tree → Type 0
IsTreeIf c (Some e) (Some t) = IsTree c e t
IsTreeIf c None None = Unit {0}
IsTreeIf c _ _ = ⊥
