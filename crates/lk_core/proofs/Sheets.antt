-- What waits for a term stays as it is, and known, while the contents grow.
use Rattle.std.proofs.Common.{◌≡◌, ℕ, length, refl, ap}
use Rattle.lk_store.specs.Contents.{Contents, tree_at, Extends}
use Rattle.lk_ask.proofs.Sheets.{grown}
use Rattle.lk_lit.proofs.Sheets.{lit_steady, lit_known}
use Rattle.lk_core.specs.declared.sheet.CoreSheet.{CoreSheet}
use Rattle.lk_core.specs.declared.sheet.CoreSheet.TheVariants.{Passed, Head, WhnfCore, Literal}
use Rattle.lk_core.specs.Sheets.{map_core, IsKnownCore}

module _ {c d : Contents} (x : Extends c d) where
  pub core_steady : (s : CoreSheet ℕ) → IsKnownCore (length c.trees) s
      → map_core (tree_at d) s ≡ map_core (tree_at c) s
  core_steady Passed h = refl
  core_steady (Head e) h = ap (λ t. Head t) (x.trees.same e h)
  core_steady WhnfCore h = refl
  core_steady (Literal s) h = ap (λ t. Literal t) (lit_steady x s h)

  pub core_known : (s : CoreSheet ℕ) → IsKnownCore (length c.trees) s
      → IsKnownCore (length d.trees) s
  core_known Passed h = tt
  core_known (Head e) h = grown x e h
  core_known WhnfCore h = tt
  core_known (Literal s) h = lit_known x s h
