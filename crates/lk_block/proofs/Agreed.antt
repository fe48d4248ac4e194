-- Names, constructors and types that agree, and those that are left.
use Rattle.std.proofs.Common.{◌≡◌, ◌+◌, ℕ, suc, true, List, ◌∷◌, map, ap, ◌∙◌, ◌&&◌, arith}
use Rattle.lk_tree.specs.Tree.{Name}
use Rattle.lk_tree.specs.Mentions.{same_name}
use Rattle.lk_rulebook.specs.Place.{BlockType, Ctor}
use Rattle.lk_inductive.specs.BlockSteps.{same_names, ctor_agrees, ctors_agree, types_agree}
use Rattle.lk_block.specs.Counts.{type_agrees}

-- the first two are equal
pub names_next : (f : ℕ → Name) (left right ms ns : List ℕ) (m n : ℕ) → left ≡ m ∷ ms → right ≡ n ∷ ns → same_name (f m) (f n) ≡ true
    → same_names (map f left) (map f right) ≡ same_names (map f ms) (map f ns)
names_next f left right ms ns m n e g h = rw (e, g) (ap (λ b. b && same_names (map f ms) (map f ns)) h)

-- the first constructor agrees
pub constructors_next : {X : Type 0} (f : X → Ctor) (p : ℕ) (us : List Name) (T : Name) (i : ℕ) (rest more : List X) (x : X) → rest ≡ x ∷ more → ctor_agrees p us T i (f x) ≡ true
    → ctors_agree p us T i (map f rest) ≡ ctors_agree p us T (i + 1) (map f more)
constructors_next f p us T i rest more x e h = rw e (ap (λ b. b && ctors_agree p us T (suc i) (map f more)) h ∙ (let s : suc i ≡ i + 1 = omega arith in ap (λ k. ctors_agree p us T k (map f more)) s))

-- the first type agrees
pub types_next : {X : Type 0} (f : X → BlockType) (p : ℕ) (us : List Name) (rest more : List X) (x : X) → rest ≡ x ∷ more → type_agrees p us (f x) ≡ true
    → types_agree p us (map f rest) ≡ types_agree p us (map f more)
types_next f p us rest more x e h = rw e (ap (λ b. b && types_agree p us (map f more)) h)
