-- The outermost variable occurs in a body where two different values for it give two different
-- terms.
use Rattle.std.proofs.Common.{◌≡◌, ℕ, suc, ◌-◌, ◌<◌, ◌≤◌, Bool, true, false, ◌||◌, not}
use Rattle.std.proofs.Common.{nat_eq, refl, sym, ap, ◌∙◌, arith, if◌then◌else◌}
use Rattle.std.specs.Prelude.{nat_lt, length, IsTrue, ◌↔◌}
use Rattle.std.proofs.lemmas.Bool.Decides.{nat_tests}
use Rattle.lk_tree.specs.Tree.{Tree, var, sort, const, app, lam, pi, let_in, proj, lit, wide}
use Rattle.lk_tree.specs.Tree.{str, local}
use Rattle.lk_tree.specs.Bind.{open_at, open_var, opened, has_var}
use Rattle.lk_tree.specs.Loose.{loose}
use Rattle.lk_store.specs.Contents.{Contents, tree_at, Extends, IsTree}
use Rattle.lk_ask.proofs.Sheets.{grown}
use Rattle.lk_structure.proofs.Looseness.{neither, none_occurs, outermost_occurs}

first_no : (p q : Bool) → (p || q) ≡ false → p ≡ false
first_no false q h = refl
first_no true q h = absurd (cc)

second_no : (p q : Bool) → (p || q) ≡ false → q ≡ false
second_no false q h = h
second_no true q h = absurd (cc)

opened_var : (d i : ℕ) (a : Tree) (r s : Bool) → nat_lt i d ≡ r → nat_eq i d ≡ s
    → open_var d a i ≡ (if r then var i else (if s then a else var (i - 1)))
opened_var d i a r s e f =
    ap (λ (x : Bool). if x then var i else (if nat_eq i d then a else var (i - 1))) e
    ∙ ap (λ (x : Bool). if r then var i else (if x then a else var (i - 1))) f

-- where it does not occur, the value does not matter
unaffected : (d : ℕ) (a b e : Tree) → has_var d e ≡ false → open_at d a e ≡ open_at d b e
unfolding open_at
unaffected d a b (var i) h =
    opened_var d i a (nat_lt i d) false refl h ∙ sym (opened_var d i b (nat_lt i d) false refl h)
unaffected d a b (sort u) h = refl
unaffected d a b (const c ls) h = refl
unaffected d a b (app f x) h =
    let p = unaffected d a b f (first_no (has_var d f) (has_var d x) h) in
    let q = unaffected d a b x (second_no (has_var d f) (has_var d x) h) in cc
unaffected d a b (lam A x) h =
    let p = unaffected d a b A (first_no (has_var d A) (has_var (suc d) x) h) in
    let q = unaffected (suc d) a b x (second_no (has_var d A) (has_var (suc d) x) h) in cc
unaffected d a b (pi A x) h =
    let p = unaffected d a b A (first_no (has_var d A) (has_var (suc d) x) h) in
    let q = unaffected (suc d) a b x (second_no (has_var d A) (has_var (suc d) x) h) in cc
unaffected d a b (let_in A v x) h =
    let rest = second_no (has_var d A) (has_var d v || has_var (suc d) x) h in
    let p = unaffected d a b A (first_no (has_var d A) (has_var d v || has_var (suc d) x) h) in
    let q = unaffected d a b v (first_no (has_var d v) (has_var (suc d) x) rest) in
    let r = unaffected (suc d) a b x (second_no (has_var d v) (has_var (suc d) x) rest) in cc
unaffected d a b (proj S i s) h = let p = unaffected d a b s h in cc
unaffected d a b (lit n) h = refl
unaffected d a b wide h = refl
unaffected d a b (str s) h = refl
unaffected d a b (local k T) h = refl

same_literals : (m n : ℕ) → lit m ≡ lit n → m ≡ n
same_literals m n h = cc

-- where two different literals make no difference, it does not occur
no_difference : (d : ℕ) (e : Tree) → open_at d (lit 0) e ≡ open_at d (lit 1) e
    → has_var d e ≡ false
unfolding open_at
no_difference d (var i) h = go (nat_eq i d) refl
  where
    go : (r : Bool) → nat_eq i d ≡ r → nat_eq i d ≡ false
    go false e = e
    go true e =
        let below : nat_lt i d ≡ false = grind (arith, nat_tests) in
        let differs : lit 0 ≡ lit 1 = sym (opened_var d i (lit 0) false true below e) ∙ h
        ∙ opened_var d i (lit 1) false true below e in
        absurd (omega (arith, same_literals 0 1 differs))
no_difference d (sort u) h = refl
no_difference d (const c ls) h = refl
no_difference d (app f x) h = neither (has_var d f) (has_var d x)
    (no_difference d f (cc)) (no_difference d x (cc))
no_difference d (lam A x) h = neither (has_var d A) (has_var (suc d) x)
    (no_difference d A (cc)) (no_difference (suc d) x (cc))
no_difference d (pi A x) h = neither (has_var d A) (has_var (suc d) x)
    (no_difference d A (cc)) (no_difference (suc d) x (cc))
no_difference d (let_in A v x) h = neither (has_var d A) (has_var d v || has_var (suc d) x)
    (no_difference d A (cc))
    (neither (has_var d v) (has_var (suc d) x)
    (no_difference d v (cc)) (no_difference (suc d) x (cc)))
no_difference d (proj S i s) h = no_difference d s (cc)
no_difference d (lit n) h = refl
no_difference d wide h = refl
no_difference d (str s) h = refl
no_difference d (local k T) h = refl

-- whether they are the same says whether it occurs
occurs_is : (e : Tree) (same : Bool) → (IsTrue same ↔ (opened e (lit 0) ≡ opened e (lit 1)))
    → not same ≡ has_var 0 e
occurs_is e true h = sym (no_difference 0 e (h.0 refl))
occurs_is e false h = go (has_var 0 e) refl
  where
    go : (r : Bool) → has_var 0 e ≡ r → true ≡ has_var 0 e
    go true i = sym i
    go false i = let wrong : false ≡ true = h.1 (unaffected 0 (lit 0) (lit 1) e i) in absurd (cc)

-- the same by numbers, of which each is made after the one before
module _ (c d f g h : Contents) (x : Extends c d) (y : Extends d f) (z : Extends f g)
    (v : Extends g h) (body : ℕ) (body_in : body < length c.trees) where
  pub openings_tell : (low high with_low with_high : ℕ) (same : Bool) → IsTree d low (lit 0)
      → IsTree f high (lit 1)
      → IsTree g with_low (opened (tree_at f body) (tree_at f low))
      → IsTree h with_high (opened (tree_at g body) (tree_at g high))
      → (IsTrue same ↔ (tree_at h with_low ≡ tree_at h with_high))
      → not same ≡ has_var 0 (tree_at c body)
  openings_tell low high with_low with_high same is_low is_high of_low of_high told =
      let e : Tree = tree_at c body in
      let at_d : tree_at d body ≡ e = x.trees.same body body_in in
      let at_f : tree_at f body ≡ e = y.trees.same body (grown x body body_in) ∙ at_d in
      let at_g : tree_at g body ≡ e =
      z.trees.same body (grown y body (grown x body body_in)) ∙ at_f in
      let low_at : tree_at f low ≡ lit 0 = y.trees.same low is_low.known ∙ is_low.is in
      let high_at : tree_at g high ≡ lit 1 = z.trees.same high is_high.known ∙ is_high.is in
      let first : tree_at h with_low ≡ opened e (lit 0) = v.trees.same with_low of_low.known
      ∙ of_low.is ∙ ap (λ t. opened t (tree_at f low)) at_f ∙ ap (opened e) low_at in
      let second : tree_at h with_high ≡ opened e (lit 1) = of_high.is
      ∙ ap (λ t. opened t (tree_at g high)) at_g ∙ ap (opened e) high_at in
      occurs_is e same (λ s. sym first ∙ told.0 s ∙ second, λ s. told.1 (first ∙ s ∙ sym second))

-- where no other variable may be loose, the bound of loose variables says it
pub bounded_is : (e : Tree) → loose e ≤ 1 → nat_eq (loose e) 1 ≡ has_var 0 e
bounded_is e h = go (nat_eq (loose e) 1) refl
  where
    go : (r : Bool) → nat_eq (loose e) 1 ≡ r → nat_eq (loose e) 1 ≡ has_var 0 e
    go true s = s ∙ sym (outermost_occurs 0 e (grind (arith, nat_tests)))
    go false s = s ∙ sym (none_occurs 0 e (grind (arith, nat_tests)))
