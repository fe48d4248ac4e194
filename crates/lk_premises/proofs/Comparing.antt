-- Applications compared from the outside in.
use Rattle.std.proofs.Common.{◌≡◌, Bool, true, false, ◌&&◌, List, [], ◌∷◌, ◌++◌, Option, Some, None, refl, sym, ap, subst, ◌∙◌, append_assoc, if◌then◌else◌}
use Rattle.std.proofs.lemmas.Bool.{and_parts}
use Rattle.lk_tree.specs.Tree.{Tree, app, tree_discrete}
use Rattle.lk_tree.specs.Spine.{apply, args}
use Rattle.lk_tree.proofs.Spines.{apply_append}
use Rattle.lk_questions.specs.Steps.{decided, is_same_tree}
use Rattle.lk_questions.specs.Tests.{◌>>=◌, test, passes}
use Rattle.lk_written.specs.Premises.{Left, Stated, ends, arguments_over}
use Rattle.lk_premises.proofs.Binding.{bind_bind, bind_same}
use Rattle.lk_premises.specs.Applied.{is_applied_as, are_headed, head_after}

pub same_tree : (a b : Tree) → is_same_tree a b ≡ true → a ≡ b
same_tree a b = go (tree_discrete a b)
  where
    go : (d : Dec (a ≡ b)) → decided d ≡ true → a ≡ b
    go (yes e) h = e
    go (no f) h = absurd (cc)

pub one_tree : (a b : Tree) → a ≡ b → is_same_tree a b ≡ true
one_tree a b e = go (tree_discrete a b)
  where
    go : (d : Dec (a ≡ b)) → decided d ≡ true
    go (yes i) = refl
    go (no f) = absurd (f e)

pub two_trees : (a b : Tree) → (a ≡ b → ⊥) → is_same_tree a b ≡ false
two_trees a b f = go (tree_discrete a b)
  where
    go : (d : Dec (a ≡ b)) → decided d ≡ false
    go (yes e) = absurd (f e)
    go (no i) = refl

bool_same : (a b : Bool) → (a ≡ true → b ≡ true) → (b ≡ true → a ≡ true) → a ≡ b
bool_same true b f g = sym (f refl)
bool_same false true f g = g refl
bool_same false false f g = refl

both_true : (a b : Bool) → a ≡ true → b ≡ true → (a && b) ≡ true
both_true true b h k = k
both_true false b h k = absurd (cc)

-- applications are equal where their parts are
pub same_app : (i y g x : Tree) → is_same_tree (app i y) (app g x) ≡ (is_same_tree y x && is_same_tree i g)
same_app i y g x =
    bool_same (is_same_tree (app i y) (app g x)) (is_same_tree y x && is_same_tree i g)
    (λ h. let e : app i y ≡ app g x = same_tree (app i y) (app g x) h in
    let p : y ≡ x = cc in
    let q : i ≡ g = cc in
    both_true (is_same_tree y x) (is_same_tree i g) (one_tree y x p) (one_tree i g q))
    (λ h. let p : (is_same_tree y x ≡ true) × (is_same_tree i g ≡ true) = and_parts (is_same_tree y x) (is_same_tree i g) h in
    let q = same_tree y x p.0 in
    let r = same_tree i g p.1 in
    one_tree (app i y) (app g x) (ap (λ z. app z y) r ∙ ap (app g) q))

-- one argument more
applied_more : (h : Tree) (xs : List Tree) (x : Tree) → apply h (xs ++ x ∷ []) ≡ app (apply h xs) x
applied_more h xs x = apply_append h xs (x ∷ [])

pub applied_is : (h a b : Tree) → is_applied_as h a b ≡ is_same_tree b (apply h (args a))
unfolding args
applied_is h (app f x) (app g y) =
    ap (λ z. is_same_tree y x && z) (applied_is h f g)
    ∙ sym (same_app g y (apply h (args f)) x)
    ∙ ap (is_same_tree (app g y)) (sym (applied_more h (args f) x))
applied_is h (app f x) b = sym (ap (is_same_tree b) (applied_more h (args f) x) ∙ two_trees b (app (apply h (args f)) x) (λ e. absurd (cc)))
applied_is h a b = refl

-- arguments in front of others
over_more : (f a : Tree) (xs : List Tree) → arguments_over f a xs ≡ (arguments_over f a [] >>= λ zs. Some (zs ++ xs))
over_more f (app g x) xs = go (is_same_tree g f) (over_more f g (x ∷ xs)) (over_more f g (x ∷ []))
  where
    go : (b : Bool) → arguments_over f g (x ∷ xs) ≡ (arguments_over f g [] >>= λ zs. Some (zs ++ x ∷ xs))
        → arguments_over f g (x ∷ []) ≡ (arguments_over f g [] >>= λ zs. Some (zs ++ x ∷ []))
        → (if b then Some (x ∷ xs) else arguments_over f g (x ∷ xs)) ≡ ((if b then Some (x ∷ []) else arguments_over f g (x ∷ [])) >>= λ zs. Some (zs ++ xs))
    go true all one = refl
    go false all one =
        all
        ∙ bind_bind (arguments_over f g []) (λ zs. Some (zs ++ x ∷ [])) (λ zs. Some (zs ++ xs)) (λ zs. Some (zs ++ x ∷ xs))
        (λ zs. ap Some (sym (append_assoc zs (x ∷ []) xs)))
        ∙ ap (λ o. o >>= λ zs. Some (zs ++ xs)) (sym one)
over_more f _ xs = refl

-- a test of the last argument comes first
last_first : (o : Option (List Tree)) (p : Bool) (q r : List Tree → Bool) → ((zs : List Tree) → r zs ≡ (p && q zs)) → passes (o >>= λ zs. test (r zs)) ≡ (p && passes (o >>= λ zs. test (q zs)))
last_first None true q r e = refl
last_first None false q r e = refl
last_first (Some zs) p q r e = ap (λ b. passes (test b)) (e zs) ∙ go p (q zs)
  where
    go : (p b : Bool) → passes (test (p && b)) ≡ (p && passes (test b))
    go true b = refl
    go false b = refl

never : (o : Option (List Tree)) (r : List Tree → Bool) → ((zs : List Tree) → r zs ≡ false) → passes (o >>= λ zs. test (r zs)) ≡ false
never None r e = refl
never (Some zs) r e = ap (λ b. passes (test b)) (e zs)

passed : (b : Bool) → passes (test b) ≡ b
passed true = refl
passed false = refl

-- b is g applied to what a has behind f
abbrev on_spine : Tree → Tree → List Tree → Bool
on_spine g b xs = is_same_tree b (apply g xs)

headed_is : (f g a b : Tree) → passes (arguments_over f a [] >>= λ xs. test (on_spine g b xs)) ≡ are_headed f g a b
headed_is f g (app h x) (app i y) = go (is_same_tree h f) (headed_is f g h i)
  where
    go : (c : Bool) → passes (arguments_over f h [] >>= λ xs. test (on_spine g i xs)) ≡ are_headed f g h i
        → passes ((if c then Some (x ∷ []) else arguments_over f h (x ∷ [])) >>= λ xs. test (on_spine g (app i y) xs))
        ≡ (is_same_tree y x && (if c then is_same_tree i g else are_headed f g h i))
    go true inner = passed (is_same_tree (app i y) (app g x)) ∙ same_app i y g x
    go false inner =
        ap (λ o. passes (o >>= λ xs. test (on_spine g (app i y) xs))) (over_more f h (x ∷ []))
        ∙ ap passes (sym (bind_bind (arguments_over f h []) (λ zs. Some (zs ++ x ∷ [])) (λ xs. test (on_spine g (app i y) xs)) (λ zs. test (on_spine g (app i y) (zs ++ x ∷ []))) (λ zs. refl)))
        ∙ last_first (arguments_over f h []) (is_same_tree y x) (on_spine g i) (λ zs. on_spine g (app i y) (zs ++ x ∷ []))
        (λ zs. ap (is_same_tree (app i y)) (applied_more g zs x) ∙ same_app i y (apply g zs) x)
        ∙ ap (λ z. is_same_tree y x && z) inner
headed_is f g (app h x) b = go (is_same_tree h f)
  where
    go : (c : Bool) → passes ((if c then Some (x ∷ []) else arguments_over f h (x ∷ [])) >>= λ xs. test (on_spine g b xs)) ≡ false
    go true = passed (is_same_tree b (app g x)) ∙ two_trees b (app g x) (λ e. absurd (cc))
    go false =
        ap (λ o. passes (o >>= λ xs. test (on_spine g b xs))) (over_more f h (x ∷ []))
        ∙ ap passes (sym (bind_bind (arguments_over f h []) (λ zs. Some (zs ++ x ∷ [])) (λ xs. test (on_spine g b xs)) (λ zs. test (on_spine g b (zs ++ x ∷ []))) (λ zs. refl)))
        ∙ never (arguments_over f h []) (λ zs. on_spine g b (zs ++ x ∷ []))
        (λ zs. ap (is_same_tree b) (applied_more g zs x) ∙ two_trees b (app (apply g zs) x) (λ e. absurd (cc)))
headed_is f g a b = refl

-- no premise is left
pub heads_are : (s : Stated) (a b : Tree) → passes (head_after s a b) ≡ (passes (ends s.after) && are_headed s.left s.right a b)
heads_are s a b = go (ends s.after)
  where
    gone : (k : List Tree → Option (Unit {0})) → ((xs : List Tree) → k xs ≡ None) → (o : Option (List Tree)) → passes (o >>= k) ≡ false
    gone k e None = refl
    gone k e (Some xs) = ap passes (e xs)

    go : (o : Option (Unit {0})) → passes (arguments_over s.left a [] >>= λ xs. o >>= λ u. test (on_spine s.right b xs)) ≡ (passes o && are_headed s.left s.right a b)
    go (Some u) = headed_is s.left s.right a b
    go None = gone (λ xs. None) (λ xs. refl) (arguments_over s.left a [])
