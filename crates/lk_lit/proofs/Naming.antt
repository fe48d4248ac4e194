-- Names compared component by component, the last one first.
use Rattle.std.proofs.Common.{◌≡◌, ℕ, true, false, List, [], ◌∷◌, ◌++◌, refl, sym, ap, ◌∙◌}
use Rattle.lk_tree.specs.Tree.{Name, Part, text, name_discrete}
use Rattle.lk_tree.specs.Mentions.{same_name}

pub never_empty : (p : Name) (x : Part) → [] ≡ p ++ x ∷ [] → ⊥
never_empty [] x e = absurd (cc)
never_empty (y ∷ p) x e = absurd (cc)

-- a name's last component and what is before it are its own
pub snoc_parts : (n p : Name) (x y : Part) → n ++ x ∷ [] ≡ p ++ y ∷ [] → (n ≡ p) × (x ≡ y)
snoc_parts [] [] x y e = (refl, cc)
snoc_parts [] (q ∷ p) x y e = let h : [] ≡ p ++ y ∷ [] = cc in absurd (never_empty p y h)
snoc_parts (m ∷ n) [] x y e = let h : [] ≡ n ++ x ∷ [] = cc in absurd (never_empty n x h)
snoc_parts (m ∷ n) (q ∷ p) x y e =
    let h : n ++ x ∷ [] ≡ p ++ y ∷ [] = cc in
    let i : (n ≡ p) × (x ≡ y) = snoc_parts n p x y h in
    let j : m ≡ q = cc in
    let k : n ≡ p = i.0 in
    (cc, i.1)

pub one_name : (c d : Name) → c ≡ d → same_name c d ≡ true
one_name c d h = go (name_discrete c d)
  where
    go : (r : Dec (c ≡ d)) → elim r [ yes e ↦ true | no f ↦ false ] ≡ true
    go (yes e) = refl
    go (no f) = absurd (f h)

pub two_names : (c d : Name) → (c ≡ d → ⊥) → same_name c d ≡ false
two_names c d h = go (name_discrete c d)
  where
    go : (r : Dec (c ≡ d)) → elim r [ yes e ↦ true | no f ↦ false ] ≡ false
    go (yes e) = absurd (h e)
    go (no f) = refl

pub same_name-sym : (c d : Name) → same_name c d ≡ same_name d c
same_name-sym c d = go (name_discrete d c)
  where
    go : (r : Dec (d ≡ c)) → same_name c d ≡ elim r [ yes e ↦ true | no f ↦ false ]
    go (yes e) = one_name c d (sym e)
    go (no f) = two_names c d (λ e. f (sym e))

-- the last components alike, the names before them decide
pub before_last : (n p : Name) (x : Part) → same_name (n ++ x ∷ []) (p ++ x ∷ []) ≡ same_name n p
before_last n p x = go (name_discrete n p)
  where
    go : (r : Dec (n ≡ p)) → same_name (n ++ x ∷ []) (p ++ x ∷ []) ≡ elim r [ yes e ↦ true | no f ↦ false ]
    go (yes e) = one_name (n ++ x ∷ []) (p ++ x ∷ []) (ap (λ m. m ++ x ∷ []) e)
    go (no f) = two_names (n ++ x ∷ []) (p ++ x ∷ []) (λ e. f (snoc_parts n p x x e).0)

-- a name that ends in the text w has a name before it that decides; another one is none that ends so
pub by_parent : (x n p : Name) (w : List ℕ) → x ≡ n ++ text w ∷ [] → same_name n p ≡ same_name x (p ++ text w ∷ [])
by_parent x n p w e = sym (ap (λ y. same_name y (p ++ text w ∷ [])) e ∙ before_last n p (text w))

pub no_parent : (x p : Name) (w : List ℕ) → ((n : Name) → x ≡ n ++ text w ∷ [] → ⊥) → false ≡ same_name x (p ++ text w ∷ [])
no_parent x p w none = sym (two_names x (p ++ text w ∷ []) (none p))

-- a name that ends in another text does not end in this one
pub other_word : (x n p : Name) (v w : List ℕ) → n ++ text v ∷ [] ≡ x → (v ≡ w → ⊥) → x ≡ p ++ text w ∷ [] → ⊥
other_word x n p v w e apart h =
    let t : text v ≡ text w = (snoc_parts n p (text v) (text w) (e ∙ h)).1 in
    apart cc
