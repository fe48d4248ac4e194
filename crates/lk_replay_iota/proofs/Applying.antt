-- What is applied to some arguments.
use Rattle.std.proofs.Common.{◌≡◌, ◌≤◌, ℕ, Bool, true, false, ◌&&◌, nat_le, List, [], ◌∷◌, ◌++◌, map, refl, sym, ap, ◌∙◌, arith}
use Rattle.std.proofs.lemmas.Bool.Decides.{nat_tests}
use Rattle.std.proofs.lemmas.List.{map-append}
use Rattle.lk_tree.specs.Tree.{Tree, app}
use Rattle.lk_tree.specs.Spine.{apply}
use Rattle.lk_tree.proofs.Spines.{apply_append}
use Rattle.lk_questions.specs.Steps.{is_same_tree}
use Rattle.lk_premises.proofs.Comparing.{same_app, one_tree, two_trees}

-- the last argument stands outside
pub front_more : (f : ℕ → Tree) (left others : List ℕ) (last : ℕ) (h : Tree) → left ≡ others ++ last ∷ [] → apply h (map f left) ≡ app (apply h (map f others)) (f last)
front_more f left others last h split =
    ap (λ es. apply h (map f es)) split
    ∙ ap (apply h) (map-append f others (last ∷ []))
    ∙ apply_append h (map f others) (f last ∷ [])

module _ (f : ℕ → Tree) (left others : List ℕ) (last : ℕ) (split : left ≡ others ++ last ∷ []) (t g x : Tree) (is : app g x ≡ t) where
  pub front_goes : (h : Tree) → x ≡ f last → g ≡ apply h (map f others) → t ≡ apply h (map f left)
  front_goes h one e = sym is ∙ ap (app g) one ∙ ap (λ y. app y (f last)) e ∙ sym (front_more f left others last h split)

  pub front_comes : (h : Tree) → t ≡ apply h (map f left) → (g ≡ apply h (map f others)) × (x ≡ f last)
  front_comes h e =
      let whole : app g x ≡ app (apply h (map f others)) (f last) = is ∙ e ∙ front_more f left others last h split in
      (cc, cc)

-- no application is applied to anything
pub no_front : (f : ℕ → Tree) (left others : List ℕ) (last : ℕ) (split : left ≡ others ++ last ∷ []) (t : Tree) → ((g x : Tree) → t ≡ app g x → ⊥) → (h : Tree) → t ≡ apply h (map f left) → ⊥
no_front f left others last split t none h e = none (apply h (map f others)) (f last) (e ∙ front_more f left others last h split)

same_under : (b : Bool) → true ≡ b → (c : Bool) → (b && c) ≡ c
same_under true e c = refl
same_under false e c = absurd (cc)

-- the arguments are the same
pub same_applied : (g h : Tree) (xs : List Tree) → is_same_tree (apply g xs) (apply h xs) ≡ is_same_tree g h
same_applied g h [] = refl
same_applied g h (x ∷ xs) = same_applied (app g x) (app h x) xs ∙ same_app g x h x ∙ same_under (is_same_tree x x) (sym (one_tree x x refl)) (is_same_tree g h)

pub front_tests : (t g h : Tree) (xs : List Tree) → t ≡ apply g xs → is_same_tree g h ≡ is_same_tree t (apply h xs)
front_tests t g h xs e = sym (ap (λ y. is_same_tree y (apply h xs)) e ∙ same_applied g h xs)

pub front_fails : (t h : Tree) (xs : List Tree) → ((g : Tree) → t ≡ apply g xs → ⊥) → false ≡ is_same_tree t (apply h xs)
front_fails t h xs none = sym (two_trees t (apply h xs) (none h))

-- a count that is at most another one
pub at_least : (p n : ℕ) → p ≤ n → nat_le p n ≡ true
at_least p n h = grind (arith, nat_tests)
