-- The parameters of a structure: what is asked, Pi by Pi.
use Rattle.std.proofs.Common.{◌≡◌, ℕ, Bool, length, ap, ◌∙◌}
use Rattle.lk_tree.specs.Tree.{Tree, pi}
use Rattle.lk_tree.specs.Bind.{opened}
use Rattle.lk_store.specs.Contents.{Contents, tree_at, Extends}
use Rattle.lk_proj.specs.declared.sheet.Applied.{Applied}
use Rattle.lk_proj.specs.Sheets.{map_applied, IsKnownApplied}
use Rattle.lk_proj.specs.Infers.{parameters_rest, parameter_rest}
use Rattle.lk_proj.proofs.Sheets.{applied_steady}

-- a Pi for which an argument is put, in a store that has grown meanwhile
module _ (c d : Contents) (x : Extends c d) where
  pub parameter_put : (a : Applied ℕ) (argument form body ty : ℕ) (q : Bool) (A : Tree)
      → IsKnownApplied (length c.trees) a → pi A (tree_at c body) ≡ tree_at c form
      → tree_at d ty ≡ opened (tree_at c body) (tree_at c argument)
      → parameters_rest (map_applied (tree_at d) a) q (tree_at d ty)
      ≡ parameter_rest (map_applied (tree_at c) a) (tree_at c argument) q (tree_at c form)
  parameter_put a argument form body ty q A known is made =
      ap (λ b. parameters_rest b q (tree_at d ty)) (applied_steady x a known)
      ∙ ap (λ t. parameters_rest (map_applied (tree_at c) a) q t) made
      ∙ ap (λ t. parameter_rest (map_applied (tree_at c) a) (tree_at c argument) q t) is
