-- Terms of which Infer asks the same, or comes to the same.
use Rattle.std.specs.Prelude.{◌≡◌, ◌<◌, ℕ, Option, Result, IfOk, length}
use Rattle.lk_tree.specs.Tree.{Tree}
use Rattle.lk_rulebook.specs.Place.{Place}
use Rattle.lk_questions.specs.Program.{Program}
use Rattle.lk_questions.specs.Erased.{a_tree, erased, run_steps, out_of}
use Rattle.lk_questions.specs.Infer.{infer_steps}
use Rattle.lk_questions.specs.Table.{steps}
use Rattle.lk_store.specs.declared.memory.NoMemory.{NoMemory}
use Rattle.lk_store.specs.Contents.{Contents, tree_at, Extends}

-- two programs run alike at a place, whatever was looked at before, and under each budget
pub record IsAlike (w : Place) (p q : Program Tree) : Type 0 where
  pub runs : (t : Option ℕ) (b : ℕ) → run_steps (out_of steps w) (erased w a_tree t p) b
      ≡ run_steps (out_of steps w) (erased w a_tree t q) b

-- the number stands for a term whose row runs as that of e, at each place
pub record Replaces {S R : Type 0} (contents : S → Contents) (rest : S → R) (old new : S)
    (result : Result ℕ NoMemory) (e : ℕ) : Type 0 where
  pub keeps : Extends (contents old) (contents new)
  pub stays : rest new ≡ rest old
  pub known : IfOk result (λ r. r < length (contents new).trees)
  pub alike : IfOk result (λ r. (w : Place) → IsAlike w (infer_steps (tree_at (contents new) r))
      (infer_steps (tree_at (contents old) e)))
