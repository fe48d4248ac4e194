-- How questions are answered, and terms that are made between them.
use Rattle.std.specs.Prelude.{◌≡◌, ℕ, IfOk, Result}
use Rattle.lk_tree.specs.Tree.{Tree}
use Rattle.lk_rulebook.specs.Place.{Place}
use Rattle.lk_rulebook.specs.Units.{Members}
use Rattle.lk_questions.specs.Program.{Table}
use Rattle.lk_store.specs.declared.memory.NoMemory.{NoMemory}
use Rattle.lk_store.specs.Contents.{Contents, Extends, IsTree}
use Rattle.lk_env.specs.declared.entry.Partial.{Partial}

-- what whoever answers stands on, which no call changes; what each question does; and what names mean
pub record Standing (B : Type 0) : Type 0 where
  pub basis : B
  pub table : Table
  pub place : Place

-- the same, where so much of the unit at work is partial, and auxiliary types beside
abbrev pub given : {B : Type 0} → (B → Partial → Members → Place) → Standing B → Partial → Members → Standing B
given places s partial aux = record { basis = s.basis; table = s.table; place = places s.basis partial aux }

-- numbers stand for what they stood for, questions are answered as before, under what was left, and the number stands for this
-- tree, of what numbers stood for
pub record BuildsTree {S B : Type 0} (contents : S → Contents) (standing : S → Standing B) (left_of : S → ℕ) (old new : S) (result : Result ℕ NoMemory) (tree : Contents → Tree) : Type 0 where
  pub keeps : Extends (contents old) (contents new)
  pub stays : standing new ≡ standing old
  pub left : left_of new ≡ left_of old
  pub ok : IfOk result (λ e. IsTree (contents new) e (tree (contents old)))
