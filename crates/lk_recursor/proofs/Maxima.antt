-- Bounds that are made from the front of a list.
use Rattle.std.proofs.Common.{◌≡◌, ℕ, List, ◌∷◌, ap, arith}
use Rattle.std.specs.Prelude.{max}

pub bound_more : {X : Type 0} (F : List X → ℕ) (left others : List X) (x : X) (most a next whole : ℕ) → left ≡ x ∷ others → F (x ∷ others) ≡ max a (F others)
    → next ≡ max most a → max most (F left) ≡ whole → max next (F others) ≡ whole
bound_more F left others x most a next whole split one more was =
    let moved = ap F split in
    omega arith

pub max_of_three : (a b c : ℕ) → max a (max b c) ≡ max (max a b) c
max_of_three a b c = omega arith

-- the same, where two numbers come in one after another
pub bound_more_twice : {X : Type 0} (F : List X → ℕ) (left others : List X) (x : X) (most a b between next whole : ℕ) → left ≡ x ∷ others → F (x ∷ others) ≡ max (max a b) (F others)
    → between ≡ max most a → next ≡ max between b → max most (F left) ≡ whole → max next (F others) ≡ whole
bound_more_twice F left others x most a b between next whole split one first second was =
    let moved = ap F split in
    omega arith
