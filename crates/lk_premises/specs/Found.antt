-- What a call does that runs a program which asks nothing, for its value alone.
use Rattle.std.specs.Prelude.{◌≡◌, ◌<◌, ℕ, List, Option, IfOk, IfSome, Result, length, option_map}
use Rattle.lk_tree.specs.Tree.{Tree}
use Rattle.lk_rulebook.specs.Place.{Place}
use Rattle.lk_questions.specs.Strings.{expansion_of}
use Rattle.lk_questions.specs.Tests.{◌>>=◌, found}
use Rattle.lk_written.specs.Reducing.{tree_in}
use Rattle.lk_store.specs.declared.memory.NoMemory.{NoMemory}
use Rattle.lk_store.specs.Contents.{Contents, tree_at, Extends}

-- numbers stand for what they stood for, what no test changes is as it was, and this is the tree
-- that was found, if there is one
pub record FindsTree {S R : Type 0} (contents : S → Contents) (standing : S → R) (old new : S)
    (result : Result (Option ℕ) NoMemory) (tree : Option Tree) : Type 0 where
  pub keeps : Extends (contents old) (contents new)
  pub stays : standing new ≡ standing old
  pub known : IfOk result (λ o. IfSome o (λ e. e < length (contents new).trees))
  pub ok : IfOk result (λ o. tree ≡ option_map (tree_at (contents new)) o)

-- the expansion of a text at w, where there is one
abbrev pub expanded : Place → List ℕ → Option Tree
expanded w s = do
  o ← found w (expansion_of s)
  tree_in o
