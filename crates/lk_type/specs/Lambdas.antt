-- Lambdas that were opened one inside the other, and runs of the numbers of their Locals.
use Rattle.std.specs.Prelude.{◌≡◌, ◌<◌, ◌+◌, ◌++◌, ◌∷◌, [], ℕ, zero, suc, List, All, map, length}
use Rattle.lk_store.specs.Contents.{Contents, tree_at}
use Rattle.lk_subst.specs.declared.runs.Run.{Run}
use Rattle.lk_type.specs.Telescopes.{domains_of, numbers_of}

-- so many numbers, from j on
abbrev pub counted : ℕ → ℕ → List ℕ
counted j zero = []
counted j (suc m) = counted j m ++ (j + m) ∷ []

-- numbers end in a run, behind others
pub record EndsIn (numbers : List ℕ) (run : Run) (others : List ℕ) : Type 0 where
  pub some : 0 < run.count
  pub is : numbers ≡ others ++ counted run.first run.count

-- the domains of the lambdas that were opened, and the numbers of their Locals
pub record AreGathered (c : Contents) (e locals : ℕ) (domains numbers : List ℕ) : Type 0 where
  pub known : All (λ x. x < length c.trees) domains
  pub domains_are : map (tree_at c) domains ≡ domains_of (tree_at c e) (tree_at c locals)
  pub numbers_are : numbers ≡ numbers_of (tree_at c e) (tree_at c locals)
