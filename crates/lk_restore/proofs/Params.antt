-- Arguments that begin with given ones, and spines.
use Rattle.std.proofs.Common.{◌≡◌, Bool, true, false, List, [], ◌∷◌, ◌++◌, Some, None, refl, sym, ap, ◌∙◌, append_assoc}
use Rattle.std.specs.Prelude.{if◌then◌else◌}
use Rattle.lk_tree.specs.Tree.{Tree, app, tree_discrete}
use Rattle.lk_tree.specs.Spine.{apply, head, args}
use Rattle.lk_rulebook.specs.SameTree.{decided, is_same_tree}
use Rattle.lk_inductive.specs.Arguments.{after_params}

pub apply-push : (h : Tree) (xs : List Tree) (x : Tree) → apply h (xs ++ x ∷ []) ≡ app (apply h xs) x
apply-push h [] x = refl
apply-push h (y ∷ xs) x = apply-push (app h y) xs x

pub head-apply : (h : Tree) (xs : List Tree) → head (apply h xs) ≡ head h
unfolding head
head-apply h [] = refl
head-apply h (x ∷ xs) = head-apply (app h x) xs

pub args-apply : (h : Tree) (xs : List Tree) → args (apply h xs) ≡ args h ++ xs
unfolding args
args-apply h [] = go (args h)
  where
    go : (ys : List Tree) → ys ≡ ys ++ []
    go [] = refl
    go (y ∷ ys) = ap (λ zs. y ∷ zs) (go ys)
args-apply h (x ∷ xs) = args-apply (app h x) xs ∙ append_assoc (args h) (x ∷ []) xs

pub itself : (t : Tree) → is_same_tree t t ≡ true
itself t = go (tree_discrete t t)
  where
    go : (d : Dec (t ≡ t)) → decided d ≡ true
    go (yes e) = refl
    go (no f) = absurd (f refl)

pub after_all : (ps : List Tree) → after_params ps ps ≡ Some []
after_all [] = refl
after_all (p ∷ ps) = ap (λ b. if b then after_params ps ps else None) (itself p) ∙ after_all ps

-- one argument more
pub after_more : (ps zs rest : List Tree) (z : Tree) → after_params ps zs ≡ Some rest → after_params ps (zs ++ z ∷ []) ≡ Some (rest ++ z ∷ [])
after_more [] zs rest z h = let same : zs ≡ rest = cc in ap (λ ys. Some (ys ++ z ∷ [])) same
after_more (p ∷ ps) [] rest z h = absurd cc
after_more (p ∷ ps) (y ∷ zs) rest z h = go (is_same_tree p y) (after_more ps zs rest z) h
  where
    go : (b : Bool) → (after_params ps zs ≡ Some rest → after_params ps (zs ++ z ∷ []) ≡ Some (rest ++ z ∷ [])) → (if b then after_params ps zs else None) ≡ Some rest
        → (if b then after_params ps (zs ++ z ∷ []) else None) ≡ Some (rest ++ z ∷ [])
    go true others i = others i
    go false others i = absurd cc

-- one more, and these are not all of them
pub after_none : (ps zs : List Tree) (z : Tree) → after_params ps zs ≡ None → (zs ++ z ∷ [] ≡ ps → ⊥) → after_params ps (zs ++ z ∷ []) ≡ None
after_none [] zs z h n = absurd cc
after_none (p ∷ []) [] z h n = go (tree_discrete p z)
  where
    go : (d : Dec (p ≡ z)) → (if decided d then after_params [] [] else None) ≡ None
    go (yes e) = absurd (n (ap (λ q. q ∷ []) (sym e)))
    go (no f) = refl
after_none (p ∷ (q ∷ ps)) [] z h n = go (is_same_tree p z)
  where
    go : (b : Bool) → (if b then after_params (q ∷ ps) [] else None) ≡ None
    go true = refl
    go false = refl
after_none (p ∷ ps) (y ∷ zs) z h n = go (tree_discrete p y) (after_none ps zs z) h
  where
    go : (d : Dec (p ≡ y)) → (after_params ps zs ≡ None → (zs ++ z ∷ [] ≡ ps → ⊥) → after_params ps (zs ++ z ∷ []) ≡ None) → (if decided d then after_params ps zs else None) ≡ None
        → (if decided d then after_params ps (zs ++ z ∷ []) else None) ≡ None
    go (yes e) others i = others i (λ same. n (ap (λ x. x ∷ (zs ++ z ∷ [])) (sym e) ∙ ap (λ xs. p ∷ xs) same))
    go (no f) others i = refl
