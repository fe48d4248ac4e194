-- The only item of a list.
use Rattle.std.specs.Prelude.{◌≡◌, List, [], ◌∷◌, length, Option, Some, None}

-- it is the only one, and there is none where they are not just one
abbrev pub IsOnly : {X : Type 0} → List X → Option X → Type 0
IsOnly xs None = length xs ≡ 1 → ⊥
IsOnly xs (Some x) = xs ≡ x ∷ []
