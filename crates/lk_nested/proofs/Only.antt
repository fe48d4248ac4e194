-- Loose variables and Locals in arguments.
use Rattle.std.proofs.Common.{◌≡◌, ℕ, suc, ◌<◌, ◌-◌, Bool, true, false, ◌||◌, ◌&&◌, List, ◌∷◌, length, map, refl, sym, ap, ◌∙◌, arith}
use Rattle.std.specs.Prelude.{not, max, nat_lt, slice_index_or}
use Rattle.std.proofs.lemmas.Bool.Decides.{nat_tests}
use Rattle.lk_tree.specs.Tree.{Tree, var, sort, const, app, lam, pi, let_in, proj, lit, wide, str, local}
use Rattle.lk_tree.specs.Loose.{loose}
use Rattle.lk_inductive.specs.BlockSteps.{is_among}
use Rattle.lk_inductive.specs.Nested.{is_loose, has_only, may_nest}
use Rattle.lk_store.specs.Contents.{Contents, tree_at}
use Rattle.lk_mentions.specs.declared.part.Met.{Met}
use Rattle.lk_nested.specs.Foreign.{has_foreign, AreOwn}

not_or : (a b : Bool) → not (a || b) ≡ (not a && not b)
not_or true b = refl
not_or false b = refl

not_twice : (a : Bool) → not (not a) ≡ a
not_twice true = refl
not_twice false = refl

pub only_is : (ps : List Tree) (t : Tree) → has_only ps t ≡ not (has_foreign ps t)
only_is ps (local k T) = sym (not_twice (is_among (local k T) ps))
only_is ps (app f a) = rw (only_is ps f, only_is ps a) (sym (not_or (has_foreign ps f) (has_foreign ps a)))
only_is ps (lam f a) = rw (only_is ps f, only_is ps a) (sym (not_or (has_foreign ps f) (has_foreign ps a)))
only_is ps (pi f a) = rw (only_is ps f, only_is ps a) (sym (not_or (has_foreign ps f) (has_foreign ps a)))
only_is ps (let_in A v b) =
    rw (only_is ps A, only_is ps v, only_is ps b)
    (ap (λ x. not (has_foreign ps A) && x) (sym (not_or (has_foreign ps v) (has_foreign ps b))) ∙ sym (not_or (has_foreign ps A) (has_foreign ps v || has_foreign ps b)))
only_is ps (proj S i s) = only_is ps s
only_is ps (var i) = refl
only_is ps (sort l) = refl
only_is ps (const c ls) = refl
only_is ps (lit n) = refl
only_is ps wide = refl
only_is ps (str s) = refl

lt_max : (n a b : ℕ) → (nat_lt n a || nat_lt n b) ≡ nat_lt n (max a b)
lt_max n a b = go (nat_lt n a) refl (nat_lt n b) refl
  where
    go : (p : Bool) → nat_lt n a ≡ p → (q : Bool) → nat_lt n b ≡ q → (p || q) ≡ nat_lt n (max a b)
    go true e q f = grind (arith, nat_tests)
    go false e true f = grind (arith, nat_tests)
    go false e false f = grind (arith, nat_tests)

lt_under : (n b : ℕ) → nat_lt (suc n) b ≡ nat_lt n (b - 1)
lt_under n b = grind (arith, nat_tests)

pub loose_is : (n : ℕ) (t : Tree) → is_loose n t ≡ nat_lt n (loose t)
loose_is n (var i) = grind (arith, nat_tests)
loose_is n (sort l) = grind (arith, nat_tests)
loose_is n (const c ls) = grind (arith, nat_tests)
loose_is n (app f a) = rw (loose_is n f, loose_is n a) (lt_max n (loose f) (loose a))
loose_is n (lam A b) = rw (loose_is n A, loose_is (suc n) b, lt_under n (loose b)) (lt_max n (loose A) (loose b - 1))
loose_is n (pi A b) = rw (loose_is n A, loose_is (suc n) b, lt_under n (loose b)) (lt_max n (loose A) (loose b - 1))
loose_is n (let_in A v b) =
    rw (loose_is n A, loose_is n v, loose_is (suc n) b, lt_under n (loose b))
    (ap (λ x. nat_lt n (loose A) || x) (lt_max n (loose v) (loose b - 1)) ∙ lt_max n (loose A) (max (loose v) (loose b - 1)))
loose_is n (proj S i s) = loose_is n s
loose_is n (lit k) = grind (arith, nat_tests)
loose_is n wide = grind (arith, nat_tests)
loose_is n (str s) = grind (arith, nat_tests)
loose_is n (local k T) = grind (arith, nat_tests)

-- a tree that was looked through
pub tree_own : (ps : List Tree) (c : Contents) (e : ℕ) (met : List Met) (i : ℕ) → AreOwn ps c met → i < length met → ((d : Met) → (slice_index_or met i d).tree ≡ e) → has_foreign ps (tree_at c e) ≡ false
tree_own ps c e met i own l is = let d : Met = record { tree = e } in sym (ap (λ x. has_foreign ps (tree_at c x)) (is d)) ∙ (own i d l).own

-- one argument after another
module _ (ps : List Tree) (f : ℕ → Tree) (rest more : List ℕ) (x : ℕ) (split : rest ≡ x ∷ more) where
  pub nest_next : (n : ℕ) → n ≡ loose (f x) → n ≡ 0 → has_only ps (f x) ≡ true → may_nest ps (map f rest) ≡ may_nest ps (map f more)
  nest_next n is none only =
      let closed : is_loose 0 (f x) ≡ false = loose_is 0 (f x) ∙ (let e = is in let z = none in grind (arith, nat_tests)) in
      rw split (ap (λ b. (not b && has_only ps (f x)) && may_nest ps (map f more)) closed ∙ ap (λ b. b && may_nest ps (map f more)) only)

  pub nest_loose : (n : ℕ) → n ≡ loose (f x) → (n ≡ 0 → ⊥) → may_nest ps (map f rest) ≡ false
  nest_loose n is some =
      let open_ : is_loose 0 (f x) ≡ true = loose_is 0 (f x) ∙ (let e = is in let z = some in grind (arith, nat_tests)) in
      rw split (ap (λ b. (not b && has_only ps (f x)) && may_nest ps (map f more)) open_)

  pub nest_foreign : (n : ℕ) → n ≡ loose (f x) → n ≡ 0 → has_only ps (f x) ≡ false → may_nest ps (map f rest) ≡ false
  nest_foreign n is none only =
      let closed : is_loose 0 (f x) ≡ false = loose_is 0 (f x) ∙ (let e = is in let z = none in grind (arith, nat_tests)) in
      rw split (ap (λ b. (not b && has_only ps (f x)) && may_nest ps (map f more)) closed ∙ ap (λ b. b && may_nest ps (map f more)) only)
