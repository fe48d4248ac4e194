-- Names that are equal, names in lists, and lists that hold no name twice.
use Rattle.std.proofs.Common.{◌≡◌, Bool, true, false, inl, inr, List, [], ◌∷◌, ◌++◌, refl, ap, sym}
use Rattle.std.proofs.Common.{subst, ◌∙◌}
use Rattle.std.specs.Prelude.{◌⊎◌, ◌&&◌, ◌||◌, not}
use Rattle.std.specs.List.{list_any, AllByRecursion}
use Rattle.std.proofs.lemmas.Bool.{false≢true, and_parts, or_left, or_right}
use Rattle.std.proofs.lemmas.Bool.{not-true, false_from_ne_true}
use Rattle.lk_tree.specs.Tree.{Name, name_discrete}
use Rattle.lk_tree.specs.Mentions.{same_name}
use Rattle.lk_members.specs.Lines.{has, same_list, is_distinct}

pub same_itself : (x : Name) → same_name x x ≡ true
same_itself x = go (name_discrete x x)
  where
    go : (d : Dec (x ≡ x)) → elim d [ yes e ↦ true | no f ↦ false ] ≡ true
    go (yes e) = refl
    go (no f) = absurd (f refl)

pub same_is : (x y : Name) → same_name x y ≡ true → x ≡ y
same_is x y same = go (name_discrete x y) same
  where
    go : (d : Dec (x ≡ y)) → elim d [ yes e ↦ true | no f ↦ false ] ≡ true → x ≡ y
    go (yes e) h = e
    go (no f) h = absurd (false≢true h)

pub list_itself : (xs : List Name) → same_list same_name xs xs ≡ true
list_itself [] = refl
list_itself (x ∷ xs) =
    ap (λ b. b && same_list same_name xs xs) (same_itself x) ∙ list_itself xs

pub list_is : (xs ys : List Name) → same_list same_name xs ys ≡ true → xs ≡ ys
list_is [] [] e = refl
list_is [] (y ∷ ys) e = absurd (false≢true e)
list_is (x ∷ xs) [] e = absurd (false≢true e)
list_is (x ∷ xs) (y ∷ ys) e =
    let h = and_parts (same_name x y) (same_list same_name xs ys) e in
    ap (λ z. z ∷ xs) (same_is x y h.0) ∙ ap (λ zs. y ∷ zs) (list_is xs ys h.1)

-- a list has its first name, and the names of the rest
pub has_first : (x : Name) (xs : List Name) → has same_name (x ∷ xs) x ≡ true
has_first x xs = or_left (same_name x x) (has same_name xs x) (same_itself x)

pub has_later : (y : Name) (ys : List Name) (x : Name) → has same_name ys x ≡ true
    → has same_name (y ∷ ys) x ≡ true
has_later y ys x e = or_right (same_name y x) (has same_name ys x) e

-- a name of a list is none that the list lacks
pub differs : (xs : List Name) (x y : Name) → has same_name xs x ≡ true
    → has same_name xs y ≡ false → same_name x y ≡ false
differs xs x y there none = false_from_ne_true (same_name x y) go
  where
    go : same_name x y ≡ true → ⊥
    go e =
        let same : x ≡ y = same_is x y e in
        let other : has same_name xs x ≡ false = ap (has same_name xs) same ∙ none in
        false≢true (sym other ∙ there)

pub differs_back : (xs : List Name) (x y : Name) → has same_name xs x ≡ true
    → has same_name xs y ≡ false → same_name y x ≡ false
differs_back xs x y there none = false_from_ne_true (same_name y x) go
  where
    go : same_name y x ≡ true → ⊥
    go e =
        let same : y ≡ x = same_is y x e in
        let other : has same_name xs x ≡ false = ap (has same_name xs) (sym same) ∙ none in
        false≢true (sym other ∙ there)

-- what no name of a list fulfils
pub none_of : (test : Name → Bool) (xs : List Name)
    → ((x : Name) → has same_name xs x ≡ true → test x ≡ false) → list_any test xs ≡ false
none_of test [] h = refl
none_of test (x ∷ xs) h =
    let one : test x ≡ false = h x (has_first x xs) in
    let more : list_any test xs ≡ false = none_of test xs (λ y e. h y (has_later x xs y e)) in
    ap (λ b. b || list_any test xs) one ∙ more

-- the first of distinct names is not among the others
pub first_apart : (x : Name) (xs : List Name) → is_distinct same_name (x ∷ xs) ≡ true
    → has same_name xs x ≡ false
first_apart x xs e =
    not-true (has same_name xs x)
    (and_parts (not (has same_name xs x)) (is_distinct same_name xs) e).0

pub rest_distinct : (x : Name) (xs : List Name) → is_distinct same_name (x ∷ xs) ≡ true
    → is_distinct same_name xs ≡ true
rest_distinct x xs e = (and_parts (not (has same_name xs x)) (is_distinct same_name xs) e).1

-- one of a list
abbrev pub IsIn : {X : Type 0} → X → List X → Type 0
IsIn x [] = ⊥
IsIn x (y ∷ ys) = (y ≡ x) ⊎ IsIn x ys

-- what holds of each of two lists holds of both in one
pub each_append : {X : Type 0} (P : X → Type 0) (xs ys : List X) → AllByRecursion P xs
    → AllByRecursion P ys → AllByRecursion P (xs ++ ys)
each_append P [] ys a b = b
each_append P (x ∷ xs) ys a b = (a.0, each_append P xs ys a.1 b)

pub each_weaker : {X : Type 0} (P Q : X → Type 0) → ((x : X) → P x → Q x) → (xs : List X)
    → AllByRecursion P xs → AllByRecursion Q xs
each_weaker P Q f [] a = tt
each_weaker P Q f (x ∷ xs) a = (f x a.0, each_weaker P Q f xs a.1)

pub each_always : {X : Type 0} (P : X → Type 0) → ((x : X) → P x) → (xs : List X)
    → AllByRecursion P xs
each_always P f [] = tt
each_always P f (x ∷ xs) = (f x, each_always P f xs)

pub each_at : {X : Type 0} (P : X → Type 0) (xs : List X) (x : X) → AllByRecursion P xs
    → IsIn x xs → P x
each_at P [] x a i = absurd i
each_at P (y ∷ xs) x a (inl e) = subst P e a.0
each_at P (y ∷ xs) x a (inr i) = each_at P xs x a.1 i
