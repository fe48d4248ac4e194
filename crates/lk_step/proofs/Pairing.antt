-- Stacks of pairs.
use Rattle.std.proofs.Common.{ℕ, ◌≡◌, List, [], ◌∷◌, ◌++◌, map, ◌∙◌, ap}
use Rattle.std.proofs.lemmas.List.{map-append, reverse-append}
use Rattle.lk_tree.specs.Tree.{Tree}
use Rattle.lk_store.specs.Contents.{Contents, tree_at}
use Rattle.lk_ask.specs.declared.sheet.Pair.{Pair}
use Rattle.lk_ask.specs.Lines.{lefts, rights}
use Rattle.lk_ask.specs.Sheets.{map_pair}
use Rattle.lk_step.specs.Pairs.{pairs_at}

lefts_push : (ps : List (Pair Tree)) (p : Pair Tree) → lefts (ps ++ p ∷ []) ≡ p.left ∷ lefts ps
lefts_push ps p = ap (map (λ (q : Pair Tree). q.left)) (reverse-append ps (p ∷ []))

rights_push : (ps : List (Pair Tree)) (p : Pair Tree) → rights (ps ++ p ∷ []) ≡ p.right ∷ rights ps
rights_push ps p = ap (map (λ (q : Pair Tree). q.right)) (reverse-append ps (p ∷ []))

mapped : (c : Contents) (ps : List (Pair ℕ)) (p : Pair ℕ) → pairs_at c (ps ++ p ∷ []) ≡ pairs_at c ps ++ map_pair (tree_at c) p ∷ []
mapped c ps p = map-append (map_pair (tree_at c)) ps (p ∷ [])

pub lefts_top : (c : Contents) (ps : List (Pair ℕ)) (p : Pair ℕ) → lefts (pairs_at c (ps ++ p ∷ [])) ≡ tree_at c p.left ∷ lefts (pairs_at c ps)
lefts_top c ps p = ap lefts (mapped c ps p) ∙ lefts_push (pairs_at c ps) (map_pair (tree_at c) p)

pub rights_top : (c : Contents) (ps : List (Pair ℕ)) (p : Pair ℕ) → rights (pairs_at c (ps ++ p ∷ [])) ≡ tree_at c p.right ∷ rights (pairs_at c ps)
rights_top c ps p = ap rights (mapped c ps p) ∙ rights_push (pairs_at c ps) (map_pair (tree_at c) p)
