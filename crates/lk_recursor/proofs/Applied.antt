-- Terms that are applied, while the store grows.
use Rattle.std.proofs.Common.{◌≡◌, ◌<◌, ℕ, Bool, false, List, ◌∷◌, map, length, All, ap, sym, ◌∙◌}
use Rattle.std.specs.Prelude.{if◌then◌else◌}
use Rattle.lk_tree.specs.Tree.{Name, Tree, app}
use Rattle.lk_tree.specs.Mentions.{same_name}
use Rattle.lk_tree.specs.Spine.{apply}
use Rattle.lk_store.specs.Contents.{Contents, name_at, tree_at, Extends}
use Rattle.lk_subst.specs.Numbers.{trees-steady}
use Rattle.lk_inductive.specs.Block as plain
use Rattle.lk_inductive.specs.Recursors.{motive_in, motive_of, at_params}
use Rattle.lk_block.specs.declared.shape.Shape.{Shape}
use Rattle.lk_block.specs.Shapes.{shape_at, IsShapeIn}
use Rattle.lk_block.proofs.Shaping.{shape-steady}

-- a head that is known, and arguments that are numbers of the store before
pub applied_then : (c d : Contents) (grown : Extends c d) (given arguments : List ℕ) (made head front : Tree) → given ≡ arguments → All (λ e. e < length c.trees) arguments
    → head ≡ front → made ≡ apply head (map (tree_at d) given) → made ≡ apply front (map (tree_at c) arguments)
applied_then c d grown given arguments made head front same known front_is is =
    is
    ∙ ap (λ ys. apply head (map (tree_at d) ys)) same
    ∙ ap (apply head) (trees-steady c d arguments grown known)
    ∙ ap (λ h. apply h (map (tree_at c) arguments)) front_is

-- the first type has another name
pub motive_passed : (ts : List plain.TypeShape) (t : plain.TypeShape) (Cs : List Tree) (C : Tree) (T : Name) (r : Bool) → r ≡ same_name t.name T → r ≡ false → motive_in (t ∷ ts) (C ∷ Cs) T ≡ motive_in ts Cs T
motive_passed ts t Cs C T r test other = ap (λ b. if b then C else motive_in ts Cs T) (sym test ∙ other)

-- A motive and a constant of the block, applied, mean the same once the store has grown.
module _ (c d : Contents) (grown : Extends c d) (s : Shape) (known : IsShapeIn c s) (n : ℕ) (named : n < length c.names) (given arguments : List ℕ) (same : given ≡ arguments) (arguments_in : All (λ e. e < length c.trees) arguments) where
  pub motive_same : (t u : Tree) → t ≡ u
      → app (apply (motive_of (shape_at d s) (name_at d n)) (map (tree_at d) given)) t ≡ app (apply (motive_of (shape_at c s) (name_at c n)) (map (tree_at c) arguments)) u
  motive_same t u e =
      ap (λ (p : plain.Shape). app (apply (motive_of p (name_at d n)) (map (tree_at d) given)) t) (shape-steady c d grown s known)
      ∙ ap (λ (m : Name). app (apply (motive_of (shape_at c s) m) (map (tree_at d) given)) t) (grown.names.same n named)
      ∙ ap (λ ys. app (apply (motive_of (shape_at c s) (name_at c n)) ys) t) (ap (map (tree_at d)) same ∙ trees-steady c d arguments grown arguments_in)
      ∙ ap (app (apply (motive_of (shape_at c s) (name_at c n)) (map (tree_at c) arguments))) e

  pub constant_same : apply (at_params (shape_at d s) (name_at d n)) (map (tree_at d) given) ≡ apply (at_params (shape_at c s) (name_at c n)) (map (tree_at c) arguments)
  constant_same =
      ap (λ (p : plain.Shape). apply (at_params p (name_at d n)) (map (tree_at d) given)) (shape-steady c d grown s known)
      ∙ ap (λ (m : Name). apply (at_params (shape_at c s) m) (map (tree_at d) given)) (grown.names.same n named)
      ∙ ap (apply (at_params (shape_at c s) (name_at c n))) (ap (map (tree_at d)) same ∙ trees-steady c d arguments grown arguments_in)
