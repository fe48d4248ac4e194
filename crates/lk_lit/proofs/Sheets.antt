-- What the literal step and the lines of literals keep stands for the same as a store grows, and its numbers stay known.
use Rattle.std.proofs.Common.{◌≡◌, ℕ, length, ap}
use Rattle.lk_store.specs.Contents.{Contents, tree_at, Extends}
use Rattle.lk_ask.proofs.Sheets.{grown}
use Rattle.lk_lit.specs.declared.sheet.LitSheet.{LitSheet}
use Rattle.lk_lit.specs.declared.sheet.LitSheet.TheVariants.{First, Second}
use Rattle.lk_lit.specs.declared.sheet.LiteralsSheet.{LiteralsSheet}
use Rattle.lk_lit.specs.declared.sheet.LiteralsSheet.TheVariants.{Left, Right}
use Rattle.lk_lit.specs.Sheets.{map_lit, map_literals, IsKnownLit, IsKnownLiterals}

module _ {c d : Contents} (x : Extends c d) where
  pub lit_steady : (s : LitSheet ℕ) → IsKnownLit (length c.trees) s
      → map_lit (tree_at d) s ≡ map_lit (tree_at c) s
  lit_steady (First e) h = ap (λ t. First t) (x.trees.same e h)
  lit_steady (Second e n) h = ap (λ t. Second t n) (x.trees.same e h)

  pub lit_known : (s : LitSheet ℕ) → IsKnownLit (length c.trees) s
      → IsKnownLit (length d.trees) s
  lit_known (First e) h = grown x e h
  lit_known (Second e n) h = grown x e h

  pub literals_steady : (s : LiteralsSheet ℕ) → IsKnownLiterals (length c.trees) s
      → map_literals (tree_at d) s ≡ map_literals (tree_at c) s
  literals_steady (Left a b s) h =
      let p = x.trees.same a h.0 in let q = x.trees.same b h.1 in
      let r = lit_steady s h.2 in cc
  literals_steady (Right a b s) h =
      let p = x.trees.same a h.0 in let q = x.trees.same b h.1 in
      let r = lit_steady s h.2 in cc

  pub literals_known : (s : LiteralsSheet ℕ) → IsKnownLiterals (length c.trees) s
      → IsKnownLiterals (length d.trees) s
  literals_known (Left a b s) h = (grown x a h.0, grown x b h.1, lit_known s h.2)
  literals_known (Right a b s) h = (grown x a h.0, grown x b h.1, lit_known s h.2)
