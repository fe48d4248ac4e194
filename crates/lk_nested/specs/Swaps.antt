-- Trees that are replaced whole by others, the outermost first.
use Rattle.std.proofs.Common.{◌≡◌, ℕ, List, [], ◌∷◌, refl, ap, arith}
use Rattle.std.specs.Prelude.{Option, Some, None, if◌then◌else◌}
use Rattle.std.proofs.lemmas.List.Elements.{All-head, All-tail, All-weaker}
use Rattle.lk_tree.specs.Tree.{Tree, var, sort, const, app, lam, pi, let_in, proj, lit, wide, str, local}
use Rattle.lk_rulebook.specs.SameTree.{is_same_tree}
use Rattle.lk_store.specs.Contents.{Contents, Extends}
use Rattle.lk_nested.specs.declared.swap.Pair.{Pair}
use Rattle.lk_nested.specs.Pairs.{pair_at, pairs_at, IsPairIn, ArePairsIn}

-- what comes in the place of a tree; of those with the same tree the first pair counts
abbrev pub instead : List (Tree × Tree) → Tree → Option Tree
instead [] e = None
instead (p ∷ ps) e = if is_same_tree e p.0 then Some p.1 else instead ps e

-- that, or else what is made of its parts
abbrev pub or_built : Option Tree → Tree → Tree
or_built (Some r) t = r
or_built None t = t

-- the type of a Local is no part of it
unfoldable pub swapped : List (Tree × Tree) → Tree → Tree
swapped ps (var i) = or_built (instead ps (var i)) (var i)
swapped ps (sort l) = or_built (instead ps (sort l)) (sort l)
swapped ps (const c ls) = or_built (instead ps (const c ls)) (const c ls)
swapped ps (app f a) = or_built (instead ps (app f a)) (app (swapped ps f) (swapped ps a))
swapped ps (lam A b) = or_built (instead ps (lam A b)) (lam (swapped ps A) (swapped ps b))
swapped ps (pi A B) = or_built (instead ps (pi A B)) (pi (swapped ps A) (swapped ps B))
swapped ps (let_in A v b) = or_built (instead ps (let_in A v b)) (let_in (swapped ps A) (swapped ps v) (swapped ps b))
swapped ps (proj S i s) = or_built (instead ps (proj S i s)) (proj S i (swapped ps s))
swapped ps (lit n) = or_built (instead ps (lit n)) (lit n)
swapped ps wide = or_built (instead ps wide) wide
swapped ps (str s) = or_built (instead ps (str s)) (str s)
swapped ps (local k T) = or_built (instead ps (local k T)) (local k T)

-- the same at any depth
abbrev pub swapping : List (Tree × Tree) → ℕ → Tree → Tree
swapping ps depth t = swapped ps t

module _ (c d : Contents) (x : Extends c d) where
  pair-steady : (p : Pair) → IsPairIn c p → pair_at d p ≡ pair_at c p
  pair-steady p h = rw (x.trees.same p.from h.from_in, x.trees.same p.to h.to_in) refl

  pub pairs-steady : (ps : List Pair) → ArePairsIn c ps → pairs_at d ps ≡ pairs_at c ps
  pairs-steady [] h = refl
  pairs-steady (p ∷ ps) h = rw (pair-steady p (All-head (IsPairIn c) p ps h), pairs-steady ps (All-tail (IsPairIn c) p ps h)) refl

module _ (c d : Contents) (ps : List Pair) (x : Extends c d) (h : ArePairsIn c ps) where
  -- what is made of trees stays
  pub swapping-steady : swapping (pairs_at d ps) ≡ swapping (pairs_at c ps)
  swapping-steady = ap swapping (pairs-steady c d x ps h)

  pub pairs-known : ArePairsIn d ps
  pairs-known =
      let longer = x.trees.longer in
      All-weaker (IsPairIn c) (IsPairIn d) (λ p i. record { from_in = (let l = i.from_in in omega arith); to_in = (let l = i.to_in in omega arith) }) ps h
