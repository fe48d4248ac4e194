-- Binders over Locals, taken from the end, and lists that are made from the front.
use Rattle.std.proofs.Common.{◌≡◌, ◌<◌, ℕ, List, [], ◌∷◌, ◌++◌, map, length, All, refl, sym, ap, ◌∙◌, append_assoc}
use Rattle.std.proofs.lemmas.List.{map-append}
use Rattle.std.proofs.lemmas.List.Elements.{All-push, All-same}
use Rattle.lk_tree.specs.Tree.{Tree, app, pi, lam}
use Rattle.lk_tree.specs.Spine.{apply}
use Rattle.lk_tree.specs.Bind.{close}
use Rattle.lk_store.specs.Contents.{Contents, tree_at, Extends}
use Rattle.lk_subst.specs.Numbers.{trees-steady, trees-known}
use Rattle.lk_inductive.specs.Block.{domain}
use Rattle.lk_inductive.specs.Recursors.{number, pis, lams, arrows}
use Rattle.lk_recursor.specs.declared.binders.Binder.{Binder}
use Rattle.lk_recursor.specs.declared.binders.Binder.TheVariants.{Pi, Lam}
use Rattle.lk_recursor.specs.Binders.{bind, bound_by, over_domains}
use Rattle.lk_lists.proofs.Lists.{none_left}
pub use Rattle.lk_lists.proofs.Lists.{all_last, all_others}

pub pis-append : (xs ys : List Tree) (e : Tree) → pis (xs ++ ys) e ≡ pis xs (pis ys e)
pis-append [] ys e = refl
pis-append (x ∷ xs) ys e = ap (λ b. pi (domain x) (close (number x) b)) (pis-append xs ys e)

pub lams-append : (xs ys : List Tree) (e : Tree) → lams (xs ++ ys) e ≡ lams xs (lams ys e)
lams-append [] ys e = refl
lams-append (x ∷ xs) ys e = ap (λ b. lam (domain x) (close (number x) b)) (lams-append xs ys e)

pub over_domains-append : (b : Binder) (As Bs : List Tree) (e : Tree) → over_domains b (As ++ Bs) e ≡ over_domains b As (over_domains b Bs e)
over_domains-append b [] Bs e = refl
over_domains-append b (A ∷ As) Bs e = ap (bind b A) (over_domains-append b As Bs e)

-- arrows are binders whose variables do not occur
pub arrows_are : (As : List Tree) (e : Tree) → over_domains Pi As e ≡ arrows As e
arrows_are [] e = refl
arrows_are (A ∷ As) e = ap (pi A) (arrows_are As e)

pub bound-last : (b : Binder) (xs : List Tree) (x e : Tree) → bound_by b (xs ++ x ∷ []) e ≡ bound_by b xs (bind b (domain x) (close (number x) e))
bound-last Pi xs x e = pis-append xs (x ∷ []) e
bound-last Lam xs x e = lams-append xs (x ∷ []) e

pub bound-none : (b : Binder) (e : Tree) → bound_by b [] e ≡ e
bound-none Pi e = refl
bound-none Lam e = refl

-- one Local more is bound
pub bound_next : (b : Binder) (f : ℕ → Tree) (left others : List ℕ) (x : ℕ) (m n whole : Tree) → left ≡ others ++ x ∷ []
    → n ≡ bind b (domain (f x)) (close (number (f x)) m) → bound_by b (map f left) m ≡ whole → bound_by b (map f others) n ≡ whole
bound_next b f left others x m n whole split is h =
    ap (bound_by b (map f others)) is ∙ sym (bound-last b (map f others) (f x) m) ∙ ap (λ ys. bound_by b ys m) (sym (map-append f others (x ∷ []))) ∙ ap (λ ys. bound_by b (map f ys) m) (sym split) ∙ h

-- one domain more is bound
pub domains_next : (b : Binder) (f : ℕ → Tree) (left others : List ℕ) (x : ℕ) (m n whole : Tree) → left ≡ others ++ x ∷ []
    → n ≡ bind b (f x) m → over_domains b (map f left) m ≡ whole → over_domains b (map f others) n ≡ whole
domains_next b f left others x m n whole split is h =
    ap (over_domains b (map f others)) is
    ∙ sym (over_domains-append b (map f others) (f x ∷ []) m)
    ∙ ap (λ ys. over_domains b ys m) (sym (map-append f others (x ∷ [])))
    ∙ ap (λ ys. over_domains b (map f ys) m) (sym split)
    ∙ h

-- none is left
pub bound_end : (b : Binder) (f : ℕ → Tree) (left : List ℕ) (m whole : Tree) → length left ≡ 0 → bound_by b (map f left) m ≡ whole → m ≡ whole
bound_end b f left m whole none h = sym (bound-none b m) ∙ ap (λ ys. bound_by b ys m) (sym (none_left f left none)) ∙ h

-- a list that is made from the front: what is made, and what is left
pub pushed_more : (c d : Contents) (found more : List ℕ) (x : ℕ) (front rest whole : List Tree) → Extends c d → All (λ e. e < length c.trees) found → more ≡ found ++ x ∷ []
    → map (tree_at c) found ++ front ≡ whole → front ≡ tree_at d x ∷ rest → map (tree_at d) more ++ rest ≡ whole
pushed_more c d found more x front rest whole grown known push was is =
    ap (λ ys. map (tree_at d) ys ++ rest) push
    ∙ ap (λ ys. ys ++ rest) (map-append (tree_at d) found (x ∷ []))
    ∙ append_assoc (map (tree_at d) found) (tree_at d x ∷ []) rest
    ∙ ap (λ ys. ys ++ (tree_at d x ∷ rest)) (trees-steady c d found grown known)
    ∙ ap (λ ys. map (tree_at c) found ++ ys) (sym is)
    ∙ was

pub pushed_known : (c d : Contents) (found more : List ℕ) (x : ℕ) → Extends c d → All (λ e. e < length c.trees) found → more ≡ found ++ x ∷ [] → x < length d.trees → All (λ e. e < length d.trees) more
pushed_known c d found more x grown known push here = All-same (λ e. e < length d.trees) more (found ++ x ∷ []) push (All-push (λ e. e < length d.trees) found x (trees-known c d found grown known) here)

pub bound-append : (b : Binder) (xs ys : List Tree) (e : Tree) → bound_by b (xs ++ ys) e ≡ bound_by b xs (bound_by b ys e)
bound-append Pi xs ys e = pis-append xs ys e
bound-append Lam xs ys e = lams-append xs ys e

pub apply-append : (h : Tree) (xs ys : List Tree) → apply h (xs ++ ys) ≡ apply (apply h xs) ys
apply-append h [] ys = refl
apply-append h (x ∷ xs) ys = apply-append (app h x) xs ys
