-- Sheets stand for the same as a store grows.
use Rattle.std.proofs.Common.{◌≡◌, ℕ, ◌<◌, List, [], ◌∷◌, map, length, refl, ap, arith}
use Rattle.std.specs.Prelude.{All}
use Rattle.std.proofs.lemmas.List.Elements.{All-weaker, All-head, All-tail}
use Rattle.lk_store.specs.Contents.{Contents, tree_at, Extends}
use Rattle.lk_ask.specs.declared.sheet.Pair.{Pair}
use Rattle.lk_ask.specs.declared.sheet.Sheet.{Sheet}
use Rattle.lk_ask.specs.declared.sheet.Sheet.TheVariants.{Term, Truth}
use Rattle.lk_ask.specs.Sheets.{map_sheet, map_pair, IsKnownSheet, IsKnownPair}

module _ {c d : Contents} (x : Extends c d) where
  -- a number that is known stays known
  pub grown : (e : ℕ) → e < length c.trees → e < length d.trees
  grown e h = let l = x.trees.longer in omega arith

  pair_steady : (p : Pair ℕ) → IsKnownPair (length c.trees) p → map_pair (tree_at d) p ≡ map_pair (tree_at c) p
  pair_steady p h = let l = x.trees.same p.left h.left_in in let r = x.trees.same p.right h.right_in in rw (l, r) refl

  pub pairs_steady : (ps : List (Pair ℕ)) → All (IsKnownPair (length c.trees)) ps → map (map_pair (tree_at d)) ps ≡ map (map_pair (tree_at c)) ps
  pairs_steady [] h = refl
  pairs_steady (p ∷ ps) h =
      let first = pair_steady p (All-head (IsKnownPair (length c.trees)) p ps h) in
      let others = pairs_steady ps (All-tail (IsKnownPair (length c.trees)) p ps h) in
      cc

  pair_known : (p : Pair ℕ) → IsKnownPair (length c.trees) p → IsKnownPair (length d.trees) p
  pair_known p h = record { left_in = grown p.left h.left_in; right_in = grown p.right h.right_in }

  pub pairs_known : (ps : List (Pair ℕ)) → All (IsKnownPair (length c.trees)) ps → All (IsKnownPair (length d.trees)) ps
  pairs_known ps h = All-weaker (IsKnownPair (length c.trees)) (IsKnownPair (length d.trees)) pair_known ps h

-- a sheet stays as it is where both kinds do
pub sheet_steady : {T U V W : Type 0} {f g : T → V} {h k : U → W} (term : ℕ → T → Type 0) (truth : ℕ → U → Type 0) (n : ℕ)
    → ((s : T) → term n s → g s ≡ f s) → ((s : U) → truth n s → k s ≡ h s)
    → (s : Sheet T U) → IsKnownSheet term truth n s → map_sheet g k s ≡ map_sheet f h s
sheet_steady term truth n of_term of_truth (Term s) known = ap (λ t. Term t) (of_term s known)
sheet_steady term truth n of_term of_truth (Truth s) known = ap (λ t. Truth t) (of_truth s known)

pub sheet_known : {T U : Type 0} (term : ℕ → T → Type 0) (truth : ℕ → U → Type 0) (m n : ℕ)
    → ((s : T) → term m s → term n s) → ((s : U) → truth m s → truth n s)
    → (s : Sheet T U) → IsKnownSheet term truth m s → IsKnownSheet term truth n s
sheet_known term truth m n of_term of_truth (Term s) known = of_term s known
sheet_known term truth m n of_term of_truth (Truth s) known = of_truth s known
