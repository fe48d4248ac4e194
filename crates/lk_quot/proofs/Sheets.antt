-- What is kept stays as it is, and known, while the contents grow.
use Rattle.std.proofs.Common.{◌≡◌, ℕ, length, refl, ap}
use Rattle.lk_store.specs.Contents.{Contents, tree_at, Extends}
use Rattle.lk_ask.proofs.Sheets.{grown}
use Rattle.lk_quot.specs.declared.sheet.QuotSheet.{QuotSheet}
use Rattle.lk_quot.specs.declared.sheet.QuotSheet.TheVariants.{Passed, Major}
use Rattle.lk_quot.specs.Sheets.{map_quot_sheet, IsKnownQuotSheet}

module _ {c d : Contents} (x : Extends c d) where
  pub quot_steady : (s : QuotSheet ℕ) → IsKnownQuotSheet (length c.trees) s
      → map_quot_sheet (tree_at d) s ≡ map_quot_sheet (tree_at c) s
  quot_steady Passed h = refl
  quot_steady (Major e) h = ap (λ t. Major t) (x.trees.same e h)

  pub quot_known : (s : QuotSheet ℕ) → IsKnownQuotSheet (length c.trees) s
      → IsKnownQuotSheet (length d.trees) s
  quot_known Passed h = tt
  quot_known (Major e) h = grown x e h
