-- Questions whose answer is at hand.
use Rattle.std.specs.Prelude.{◌≡◌, ◌<◌, ℕ, None, length}
use Rattle.lk_tree.specs.Tree.{Tree, const, app, let_in, proj, local}
use Rattle.lk_store.specs.Contents.{Contents, tree_at}
use Rattle.lk_ask.specs.declared.kept.Kept.{Kept}
use Rattle.lk_ask.specs.declared.query.Answer.TheVariants.{Term}

-- a weak head form, at every place: no step of reduction begins with it
abbrev pub IsForm : Tree → Type 0
IsForm (const c ls) = ⊥
IsForm (app f a) = ⊥
IsForm (let_in A v b) = ⊥
IsForm (proj S i s) = ⊥
IsForm e = Unit {0}

-- it is a Local, and its type is this answer, for one step
pub record IsTypeOf (c : Contents) (e : ℕ) (kept : Kept) : Type 0 where
  pub number : ℕ
  pub type : ℕ
  pub known : type < length c.trees
  pub is_local : tree_at c e ≡ local number (tree_at c type)
  pub answer : kept ≡ record { answer = Term type; cost = 1; top = None }
