-- What unfolding keeps stands for the same as a store grows, and its numbers stay known.
use Rattle.std.proofs.Common.{◌≡◌, ℕ, length, refl}
use Rattle.lk_store.specs.Contents.{Contents, tree_at, Extends}
use Rattle.lk_ask.proofs.Sheets.{grown, pairs_steady, pairs_known}
use Rattle.lk_lazy.specs.declared.sheet.LazySheet.{LazySheet}
use Rattle.lk_lazy.specs.declared.sheet.LazySheet.TheVariants.{Passed, Arguments}
use Rattle.lk_lazy.specs.Sheets.{map_lazy, IsKnownLazy}

module _ {c d : Contents} (x : Extends c d) where
  pub lazy_steady : (s : LazySheet ℕ) → IsKnownLazy (length c.trees) s
      → map_lazy (tree_at d) s ≡ map_lazy (tree_at c) s
  lazy_steady Passed h = refl
  lazy_steady (Arguments a b ps) h =
      let p = x.trees.same a h.0 in let q = x.trees.same b h.1 in
      let r = pairs_steady x ps h.2 in cc

  pub lazy_known : (s : LazySheet ℕ) → IsKnownLazy (length c.trees) s
      → IsKnownLazy (length d.trees) s
  lazy_known Passed h = tt
  lazy_known (Arguments a b ps) h = (grown x a h.0, grown x b h.1, pairs_known x ps h.2)
