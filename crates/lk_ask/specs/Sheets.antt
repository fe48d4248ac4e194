-- What waits for a term and what waits for yes or no: over other things, with known numbers, and what it goes on with.
use Rattle.std.specs.Prelude.{ℕ, Bool, ◌<◌}
use Rattle.lk_tree.specs.Tree.{Tree}
use Rattle.lk_questions.specs.Erased.{Value, Steps, with_tree, with_truth}
use Rattle.lk_ask.specs.declared.sheet.Pair.{Pair}
use Rattle.lk_ask.specs.declared.sheet.Sheet.{Sheet}
use Rattle.lk_ask.specs.declared.sheet.Sheet.TheVariants.{Term, Truth}

abbrev pub map_sheet : {T U V W : Type 0} → (T → V) → (U → W) → Sheet T U → Sheet V W
map_sheet f g (Term s) = Term (f s)
map_sheet f g (Truth s) = Truth (g s)

-- its numbers are below n
abbrev pub IsKnownSheet : {T U : Type 0} → (ℕ → T → Type 0) → (ℕ → U → Type 0) → ℕ → Sheet T U → Type 0
IsKnownSheet term truth n (Term s) = term n s
IsKnownSheet term truth n (Truth s) = truth n s

-- what it goes on with: an answer of the other kind never comes
abbrev pub sheet_rest : {T U : Type 0} → (T → Tree → Steps) → (U → Bool → Steps) → Sheet T U → Value → Steps
sheet_rest term truth (Term s) = with_tree (term s)
sheet_rest term truth (Truth s) = with_truth (truth s)

abbrev pub map_pair : {X Y : Type 0} → (X → Y) → Pair X → Pair Y
map_pair f p = record { left = f p.left; right = f p.right }

-- its numbers are below n
pub record IsKnownPair (n : ℕ) (p : Pair ℕ) : Type 0 where
  pub left_in : p.left < n
  pub right_in : p.right < n
