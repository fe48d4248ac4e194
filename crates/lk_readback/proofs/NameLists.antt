-- Lists of names: equal lists, a name in a list, and lists in which no name stands twice.
use Rattle.std.specs.Prelude.{◌≡◌, Bool, true, false, not, ◌||◌, List, [], ◌∷◌, ◌++◌}
use Rattle.std.proofs.Common.{refl, ap, sym, ◌∙◌, subst}
use Rattle.std.proofs.lemmas.Bool.{and_parts, and_from, or_parts, or_from, not-true, not_from_false}
use Rattle.lk_tree.specs.Tree.{Name}
use Rattle.lk_tree.specs.Mentions.{same_name}
use Rattle.lk_tree.proofs.LevelTests.{name_is, name_same}
use Rattle.lk_members.specs.Lines.{has, same_list, is_distinct}

pub list_itself : (us : List Name) → same_list same_name us us ≡ true
list_itself [] = refl
list_itself (u ∷ us) =
    and_from (same_name u u) (same_list same_name us us) (name_same u) (list_itself us)

pub list_is : (us ts : List Name) → same_list same_name us ts ≡ true → us ≡ ts
list_is [] [] e = refl
list_is [] (t ∷ ts) e = absurd cc
list_is (u ∷ us) [] e = absurd cc
list_is (u ∷ us) (t ∷ ts) e =
    let h = and_parts (same_name u t) (same_list same_name us ts) e in
    ap (λ x. x ∷ us) (name_is u t h.0) ∙ ap (λ x. t ∷ x) (list_is us ts h.1)

name_swap : (x y : Name) → same_name x y ≡ false → same_name y x ≡ false
name_swap x y e = go (same_name y x) refl
  where
    go : (b : Bool) → same_name y x ≡ b → same_name y x ≡ false
    go true i =
        let yes : same_name x y ≡ true =
        subst (λ z. same_name x z ≡ true) (sym (name_is y x i)) (name_same x) in
        absurd (let wrong : true ≡ false = sym yes ∙ e in cc)
    go false i = i

pub or_false : (b : Bool) → (b || false) ≡ b
or_false true = refl
or_false false = refl

or_assoc : (a b c : Bool) → (a || (b || c)) ≡ ((a || b) || c)
or_assoc true b c = refl
or_assoc false b c = refl

pub has_append : (xs ys : List Name) (x : Name)
    → has same_name (xs ++ ys) x ≡ (has same_name xs x || has same_name ys x)
has_append [] ys x = refl
has_append (z ∷ xs) ys x =
    ap (λ b. same_name z x || b) (has_append xs ys x)
    ∙ or_assoc (same_name z x) (has same_name xs x) (has same_name ys x)

pub distinct_push : (xs : List Name) (y : Name) → is_distinct same_name xs ≡ true
    → has same_name xs y ≡ false → is_distinct same_name (xs ++ y ∷ []) ≡ true
distinct_push [] y different new = refl
distinct_push (x ∷ xs) y different new =
    let d = and_parts (not (has same_name xs x)) (is_distinct same_name xs) different in
    let n = or_parts (same_name x y) (has same_name xs y) new in
    let other : (same_name y x || false) ≡ false =
    or_false (same_name y x) ∙ name_swap x y n.0 in
    let lacks : has same_name (xs ++ y ∷ []) x ≡ false =
    has_append xs (y ∷ []) x
    ∙ or_from (has same_name xs x) (same_name y x || false)
    (not-true (has same_name xs x) d.0) other in
    and_from (not (has same_name (xs ++ y ∷ []) x)) (is_distinct same_name (xs ++ y ∷ []))
    (not_from_false (has same_name (xs ++ y ∷ []) x) lacks) (distinct_push xs y d.1 n.1)
