-- In which bodies of a telescope the variables of its binders occur.
use Rattle.std.proofs.Common.{◌≡◌, ◌≢◌, ℕ, zero, suc, ◌+◌, ◌-◌, ◌<◌, ◌≤◌, ◌⊎◌, inl, inr, Bool, true, false, ◌||◌, nat_eq, List, [], ◌∷◌, ◌++◌, length, set, slice_index_or, Some, None, Result, Ok, Err, refl, ap, sym, subst, ◌∙◌, arith, get_or-set_same, get_or-set_other, length-set}
use Rattle.std.specs.Prelude.{OnOk}
use Rattle.std.proofs.lemmas.Bool.Decides.{nat_tests}
use Rattle.std.proofs.lemmas.List.Elements.{All-push}
use Rattle.std.proofs.lemmas.List.{get_or_append_left, length-append}
use Rattle.std.proofs.Math.Seq.{get_or-append_seam}
use Rattle.lk_tree.specs.Tree.{Tree, var, sort, const, app, lam, pi, let_in, proj, lit, wide, str, local}
use Rattle.lk_tree.specs.Bind.{has_var}
use Rattle.lk_tree.specs.Loose.{loose}
use Rattle.lk_store.specs.Contents.{Contents, tree_at, Extends}
use Rattle.lk_type.specs.declared.sheet.Binders.{Binders}
use Rattle.lk_type.specs.declared.sheet.Binders.TheVariants.{Pis, Lambdas}
use Rattle.lk_type.specs.declared.marking.Subterm.{Subterm}
use Rattle.lk_type.specs.Telescopes.{bound_by}
use Rattle.lk_type.specs.Openings.{IsBinder}
use Rattle.lk_type.specs.Marks.{body_of, body_at, IsMentioned, AreMarks, AreAll, IsSubterm, AreSubterms, Mentions, IsOutermost, IsLeft, Leaves, AreFound, Raises, IsMarked}
use Rattle.lk_type.proofs.Looseness.{outermost_occurs}
use Rattle.lk_type.proofs.Openings.{or_either, or_left, or_right}

pub body_is : (b : Binders) (e A B : Tree) → e ≡ bound_by b A B → body_of b e ≡ B
body_is Pis e A B h = rw h refl
body_is Lambdas e A B h = rw h refl

in_domain : (b : Binders) (v : ℕ) (A B : Tree) → has_var v A ≡ true → has_var v (bound_by b A B) ≡ true
in_domain Pis v A B h = or_left (has_var v A) (has_var (suc v) B) h
in_domain Lambdas v A B h = or_left (has_var v A) (has_var (suc v) B) h

in_body : (b : Binders) (v : ℕ) (A B : Tree) → has_var (suc v) B ≡ true → has_var v (bound_by b A B) ≡ true
in_body Pis v A B h = or_right (has_var v A) (has_var (suc v) B) h
in_body Lambdas v A B h = or_right (has_var v A) (has_var (suc v) B) h

pub ok_then : {A E : Type 0} {P Q : Type 0} (r : Result A E) → (P → Q) → OnOk r P → OnOk r Q
ok_then (Ok v) f h = f h
ok_then (Err e) f h = tt

-- the body of a binder of the telescope
next_body : {c : Contents} {b : Binders} {inside domain body : ℕ} (e : Tree) (n : ℕ) → tree_at c inside ≡ body_at b n e → IsBinder c b inside (domain, body) → tree_at c body ≡ body_at b (suc n) e
next_body {c} {b} {inside} {domain} {body} e n is k =
    sym (ap (body_of b) (sym is) ∙ body_is b (tree_at c inside) (tree_at c domain) (tree_at c body) k.is)

module _ {c : Contents} {b : Binders} {e : Tree} where
  -- the outermost loose variable of a subterm
  pub outermost_is : {p : Subterm} (l n : ℕ) → IsSubterm c b e p → l ≡ loose (tree_at c p.e) → 0 < l → l ≤ p.depth → p.depth < l + p.count → n ≡ p.depth - l → IsMentioned b e n p.count
  outermost_is {p} l n h is some low high n_is =
      let occurs = outermost_occurs (l - 1) (tree_at c p.e) (omega (arith, is, some)) in
      let there = h.occurs (l - 1) (omega (arith, some, low)) (omega (arith, some, high)) occurs in
      let m : p.depth - 1 - (l - 1) ≡ n = omega (arith, some, low, n_is) in
      rw m at there

  pub inside_subterm : {p : Subterm} (q : ℕ) → IsSubterm c b e p → q < length c.trees → ((v : ℕ) → has_var v (tree_at c q) ≡ true → has_var v (tree_at c p.e) ≡ true)
      → IsSubterm c b e (record { e = q; depth = p.depth; count = p.count })
  inside_subterm q h known f = record { known = known; within = h.within; occurs = λ v l m o. h.occurs v l m (f v o) }

  pub body_subterm : {p : Subterm} (q : ℕ) → IsSubterm c b e p → q < length c.trees → ((v : ℕ) → has_var (suc v) (tree_at c q) ≡ true → has_var v (tree_at c p.e) ≡ true)
      → IsSubterm c b e (record { e = q; depth = suc p.depth; count = p.count })
  body_subterm {p} q h known f = record { known = known; within = (let w = h.within in omega arith); occurs = inner }
    where
      inner : (v : ℕ) → v < suc p.depth → suc p.depth ≤ v + p.count → has_var v (tree_at c q) ≡ true → IsMentioned b e (suc p.depth - 1 - v) p.count
      inner zero l m o = let w = h.within in absurd (omega (arith, w, m))
      inner (suc v) l m o =
          let same : p.depth - 1 - v ≡ suc p.depth - 1 - suc v = omega arith in
          rw same at (h.occurs v (omega arith) (omega arith) (f v o))

  -- what occurs in a body does so in those around it too
  around : {inside domain body n : ℕ} → tree_at c inside ≡ body_at b n e → IsSubterm c b e (record { e = inside; depth = n; count = n }) → IsBinder c b inside (domain, body)
      → (v m k : ℕ) → m + v ≡ n → has_var v (tree_at c body) ≡ true → m + k < suc n → has_var k (body_at b (suc (m + k)) e) ≡ true
  around {inside} {domain} {body} {n} is h k v m j at o lt = go v at o (nat_eq j v) refl
    where
      go : (v : ℕ) → m + v ≡ n → has_var v (tree_at c body) ≡ true → (t : Bool) → nat_eq j v ≡ t → has_var j (body_at b (suc (m + j)) e) ≡ true
      go v at o true t =
          let here : j ≡ v = grind (arith, nat_tests) in
          let place : n ≡ m + j = omega arith in
          subst (λ x. has_var j (body_at b (suc x) e) ≡ true) place (ap (has_var j) (sym (next_body e n is k)) ∙ (ap (λ x. has_var x (tree_at c body)) here ∙ o))
      go zero at o false t = absurd (let less : j ≡ 0 = omega (arith, at, lt) in grind (arith, nat_tests))
      go (suc v) at o false t =
          let other : j ≢ suc v = grind (arith, nat_tests) in
          let there = h.occurs v (omega (arith, at)) (omega (arith, at)) (ap (has_var v) k.is ∙ in_body b v (tree_at c domain) (tree_at c body) o) in
          let same : n - 1 - v ≡ m = omega (arith, at) in
          let mentioned : IsMentioned b e m n = rw same at there in
          mentioned j (omega (arith, at, lt, other))

  pub chain_on : {inside domain body n : ℕ} → tree_at c inside ≡ body_at b n e → IsSubterm c b e (record { e = inside; depth = n; count = n }) → IsBinder c b inside (domain, body)
      → IsSubterm c b e (record { e = body; depth = suc n; count = suc n })
  chain_on {inside} {domain} {body} {n} is h k = record {
    known = k.body_in;
    within = omega arith;
    occurs = λ v l m o j lt. around is h k v (suc n - 1 - v) j (omega (arith, l)) o lt;
  }

  pub domain_subterm : {inside domain body n : ℕ} → IsSubterm c b e (record { e = inside; depth = n; count = n }) → IsBinder c b inside (domain, body)
      → IsSubterm c b e (record { e = domain; depth = n; count = n })
  domain_subterm {domain = domain} {body = body} h k = inside_subterm domain h k.domain_in (λ v o. ap (has_var v) k.is ∙ in_domain b v (tree_at c domain) (tree_at c body) o)

  pub one_more : (old new : List Subterm) (p : Subterm) → AreSubterms c b e old → IsSubterm c b e p → new ≡ old ++ p ∷ [] → AreSubterms c b e new
  one_more old new p h k is = rw is (All-push (IsSubterm c b e) old p h k)

unmarked : (marks : List ℕ) (n : ℕ) → slice_index_or (marks ++ 0 ∷ []) n 0 ≡ slice_index_or marks n 0
unmarked [] zero = refl
unmarked [] (suc n) = refl
unmarked (m ∷ marks) zero = refl
unmarked (m ∷ marks) (suc n) = unmarked marks n

pub no_mark_more : (b : Binders) (e : Tree) (old new : List ℕ) → AreMarks b e old → new ≡ old ++ 0 ∷ [] → AreMarks b e new
no_mark_more b e old new h is n k l =
    let same : slice_index_or new n 0 ≡ slice_index_or old n 0 = ap (λ l. slice_index_or l n 0) is ∙ unmarked old n in
    h n k (omega (arith, l, same))

-- what is left, in lists of subterms
pub left_of : (c : Contents) (ps qs : List Subterm) (n : ℕ) → IsLeft c ps n → IsLeft c (ps ++ qs) n
left_of c (p ∷ ps) qs n (inl h) = inl h
left_of c (p ∷ ps) qs n (inr h) = inr (left_of c ps qs n h)
left_of c [] qs n h = absurd h

pub right_of : (c : Contents) (ps qs : List Subterm) (n : ℕ) → IsLeft c qs n → IsLeft c (ps ++ qs) n
right_of c [] qs n h = h
right_of c (p ∷ ps) qs n h = inr (right_of c ps qs n h)

pub left_last : {c : Contents} (ps : List Subterm) (p : Subterm) (n : ℕ) → IsLeft c (ps ++ p ∷ []) n → IsLeft c ps n ⊎ Mentions c n p
left_last [] p n (inl h) = inr h
left_last [] p n (inr h) = absurd h
left_last (q ∷ ps) p n (inl h) = inl (inl h)
left_last (q ∷ ps) p n (inr h) = elim (left_last ps p n h) [ inl g ↦ inl (inr g) | inr g ↦ inr g ]

pub is_last : {c : Contents} (ps : List Subterm) (p : Subterm) (n : ℕ) → Mentions c n p → IsLeft c (ps ++ p ∷ []) n
is_last {c} ps p n h = right_of c ps (p ∷ []) n (inl h)

-- a variable that occurs is below the bound of what is loose
pub has_below : (v : ℕ) (e : Tree) → has_var v e ≡ true → v < loose e
has_below v (var i) h = grind (arith, nat_tests)
has_below v (sort l) h = absurd cc
has_below v (const c ls) h = absurd cc
has_below v (app f a) h = elim (or_either (has_var v f) (has_var v a) h) [
  | inl p ↦ let q = has_below v f p in omega arith
  | inr p ↦ let q = has_below v a p in omega arith
]
has_below v (lam A b) h = elim (or_either (has_var v A) (has_var (suc v) b) h) [
  | inl p ↦ let q = has_below v A p in omega arith
  | inr p ↦ let q = has_below (suc v) b p in omega arith
]
has_below v (pi A b) h = elim (or_either (has_var v A) (has_var (suc v) b) h) [
  | inl p ↦ let q = has_below v A p in omega arith
  | inr p ↦ let q = has_below (suc v) b p in omega arith
]
has_below v (let_in A a b) h = elim (or_either (has_var v A) (has_var v a || has_var (suc v) b) h) [
  | inl p ↦ let q = has_below v A p in omega arith
  | inr r ↦ elim (or_either (has_var v a) (has_var (suc v) b) r) [
    | inl p ↦ let q = has_below v a p in omega arith
    | inr p ↦ let q = has_below (suc v) b p in omega arith
  ]
]
has_below v (proj S i s) h = has_below v s h
has_below v (lit m) h = absurd cc
has_below v wide h = absurd cc
has_below v (str s) h = absurd cc
has_below v (local j T) h = absurd cc

-- subterms of a subterm
abbrev pub subterm_at : Subterm → ℕ → Subterm
subterm_at p q = record { e = q; depth = p.depth; count = p.count }

abbrev pub body_under : Subterm → ℕ → Subterm
body_under p q = record { e = q; depth = suc p.depth; count = p.count }

-- it has no subterms
abbrev pub IsLeaf : Tree → Type 0
IsLeaf (app f a) = ⊥
IsLeaf (lam A b) = ⊥
IsLeaf (pi A b) = ⊥
IsLeaf (let_in A v b) = ⊥
IsLeaf (proj S i s) = ⊥
IsLeaf _ = Unit {0}

module _ {c : Contents} {p : Subterm} where
  -- a subterm without a loose variable leaves what was left
  pub leaves_closed : (ps : List Subterm) → loose (tree_at c p.e) ≡ 0 → Leaves c p ps ps
  leaves_closed ps z n h = elim (left_last ps p n h) [
    | inl g ↦ inl g
    | inr g ↦ let l = has_below g.index (tree_at c p.e) g.occurs in absurd (omega arith)
  ]

  -- a subterm that is a variable
  pub leaves_variable : (ps : List Subterm) (i : ℕ) → tree_at c p.e ≡ var i → Leaves c p ps ps
  leaves_variable ps i is n h = elim (left_last ps p n h) [
    | inl g ↦ inl g
    | inr g ↦ inr (here g)
  ]
    where
      here : Mentions c n p → IsOutermost c n p
      here g =
          let o : nat_eq i g.index ≡ true = ap (has_var g.index) (sym is) ∙ g.occurs in
          let same : i ≡ g.index = grind (arith, nat_tests) in
          let l : loose (tree_at c p.e) ≡ suc i = ap loose is in
          let at = g.at in
          record { among = g.among; some = omega (arith, l); at = omega (arith, l, same, at) }

  -- a subterm that has no subterms
  pub leaves_leaf : (ps : List Subterm) → IsLeaf (tree_at c p.e) → Leaves c p ps ps
  leaves_leaf ps h = go (tree_at c p.e) refl h
    where
      go : (t : Tree) → tree_at c p.e ≡ t → IsLeaf t → Leaves c p ps ps
      go (var i) is k = leaves_variable ps i is
      go (sort l) is k = leaves_closed ps (ap loose is)
      go (const d ls) is k = leaves_closed ps (ap loose is)
      go (app f a) is k = absurd k
      go (lam A b) is k = absurd k
      go (pi A b) is k = absurd k
      go (let_in A v b) is k = absurd k
      go (proj S i s) is k = absurd k
      go (lit n) is k = leaves_closed ps (ap loose is)
      go wide is k = leaves_closed ps (ap loose is)
      go (str s) is k = leaves_closed ps (ap loose is)
      go (local n T) is k = leaves_closed ps (ap loose is)

  -- one subterm more, of the subterm
  pub mentions_subterm : {n : ℕ} (q : ℕ) (g : Mentions c n p) → has_var g.index (tree_at c q) ≡ true → Mentions c n (record { e = q; depth = p.depth; count = p.count })
  mentions_subterm q g o = record { index = g.index; among = g.among; at = g.at; occurs = o }

  pub mentions_body : {n : ℕ} (q : ℕ) (g : Mentions c n p) → has_var (suc g.index) (tree_at c q) ≡ true → Mentions c n (record { e = q; depth = suc p.depth; count = p.count })
  mentions_body {n} q g o = record {
    index = suc g.index;
    among = g.among;
    at = (let at = g.at in omega arith);
    occurs = o;
  }

  pub leaves_subterm : (q : ℕ) (old new : List Subterm) → new ≡ old ++ subterm_at p q ∷ [] → ((v : ℕ) → has_var v (tree_at c p.e) ≡ has_var v (tree_at c q)) → Leaves c p old new
  leaves_subterm q old new is same n h = elim (left_last old p n h) [
    | inl g ↦ inl (rw is (left_of c old (subterm_at p q ∷ []) n g))
    | inr g ↦ inl (rw is (is_last old (subterm_at p q) n (mentions_subterm q g (sym (same g.index) ∙ g.occurs))))
  ]

  pub leaves_both : (q r : ℕ) (old mid new : List Subterm) → mid ≡ old ++ subterm_at p q ∷ [] → new ≡ mid ++ subterm_at p r ∷ []
      → ((v : ℕ) → has_var v (tree_at c p.e) ≡ (has_var v (tree_at c q) || has_var v (tree_at c r))) → Leaves c p old new
  leaves_both q r old mid new is is2 same n h = elim (left_last old p n h) [
    | inl g ↦ inl (rw is2 (left_of c mid (subterm_at p r ∷ []) n (rw is (left_of c old (subterm_at p q ∷ []) n g))))
    | inr g ↦ elim (or_either (has_var g.index (tree_at c q)) (has_var g.index (tree_at c r)) (sym (same g.index) ∙ g.occurs)) [
      | inl o ↦ inl (rw is2 (left_of c mid (subterm_at p r ∷ []) n (rw is (is_last old (subterm_at p q) n (mentions_subterm q g o)))))
      | inr o ↦ inl (rw is2 (is_last mid (subterm_at p r) n (mentions_subterm r g o)))
    ]
  ]

  pub leaves_binder : (q r : ℕ) (old mid new : List Subterm) → mid ≡ old ++ subterm_at p q ∷ [] → new ≡ mid ++ body_under p r ∷ []
      → ((v : ℕ) → has_var v (tree_at c p.e) ≡ (has_var v (tree_at c q) || has_var (suc v) (tree_at c r))) → Leaves c p old new
  leaves_binder q r old mid new is is2 same n h = elim (left_last old p n h) [
    | inl g ↦ inl (rw is2 (left_of c mid (body_under p r ∷ []) n (rw is (left_of c old (subterm_at p q ∷ []) n g))))
    | inr g ↦ elim (or_either (has_var g.index (tree_at c q)) (has_var (suc g.index) (tree_at c r)) (sym (same g.index) ∙ g.occurs)) [
      | inl o ↦ inl (rw is2 (left_of c mid (body_under p r ∷ []) n (rw is (is_last old (subterm_at p q) n (mentions_subterm q g o)))))
      | inr o ↦ inl (rw is2 (is_last mid (body_under p r) n (mentions_body r g o)))
    ]
  ]

  pub leaves_let : (q r s : ℕ) (old mid more new : List Subterm) → mid ≡ old ++ subterm_at p q ∷ [] → more ≡ mid ++ subterm_at p r ∷ [] → new ≡ more ++ body_under p s ∷ []
      → ((v : ℕ) → has_var v (tree_at c p.e) ≡ (has_var v (tree_at c q) || (has_var v (tree_at c r) || has_var (suc v) (tree_at c s)))) → Leaves c p old new
  leaves_let q r s old mid more new is is2 is3 same n h = elim (left_last old p n h) [
    | inl g ↦ inl (in_mid (rw is (left_of c old (subterm_at p q ∷ []) n g)))
    | inr g ↦ elim (or_either (has_var g.index (tree_at c q)) (has_var g.index (tree_at c r) || has_var (suc g.index) (tree_at c s)) (sym (same g.index) ∙ g.occurs)) [
      | inl o ↦ inl (in_mid (rw is (is_last old (subterm_at p q) n (mentions_subterm q g o))))
      | inr t ↦ elim (or_either (has_var g.index (tree_at c r)) (has_var (suc g.index) (tree_at c s)) t) [
        | inl o ↦ inl (in_more (rw is2 (is_last mid (subterm_at p r) n (mentions_subterm r g o))))
        | inr o ↦ inl (rw is3 (is_last more (body_under p s) n (mentions_body s g o)))
      ]
    ]
  ]
    where
      in_more : IsLeft c more n → IsLeft c new n
      in_more h = rw is3 (left_of c more (body_under p s ∷ []) n h)

      in_mid : IsLeft c mid n → IsLeft c new n
      in_mid h = in_more (rw is2 (left_of c mid (subterm_at p r ∷ []) n h))

-- a mark that is raised, or stays
pub raises_none : (n count : ℕ) (xs : List ℕ) → (n < length xs → count ≤ slice_index_or xs n 0) → Raises n count xs xs
raises_none n count xs h = record { same = refl; grown = λ k. omega arith; at = h; either = λ k. inl refl }

pub raises_set : (n count : ℕ) (xs : List ℕ) → n < length xs → slice_index_or xs n 0 < count → Raises n count xs (set xs n count)
raises_set n count xs l h = record {
  same = length-set xs n count;
  grown = grown;
  at = λ i. let s = get_or-set_same xs n count 0 l in omega arith;
  either = either;
}
  where
    either : (k : ℕ) → (slice_index_or (set xs n count) k 0 ≡ slice_index_or xs k 0) ⊎ ((k ≡ n) × (slice_index_or (set xs n count) k 0 ≡ count))
    either k = go (nat_eq k n) refl
      where
        go : (t : Bool) → nat_eq k n ≡ t → (slice_index_or (set xs n count) k 0 ≡ slice_index_or xs k 0) ⊎ ((k ≡ n) × (slice_index_or (set xs n count) k 0 ≡ count))
        go true t =
            let is : k ≡ n = grind (arith, nat_tests) in
            inr (is, ap (λ i. slice_index_or (set xs n count) i 0) is ∙ get_or-set_same xs n count 0 l)
        go false t = inl (get_or-set_other xs n k count 0 (grind (arith, nat_tests)))

    grown : (k : ℕ) → slice_index_or xs k 0 ≤ slice_index_or (set xs n count) k 0
    grown k = elim (either k) [
      | inl s ↦ omega (arith, s)
      | inr s ↦ let same : slice_index_or xs k 0 ≡ slice_index_or xs n 0 = ap (λ i. slice_index_or xs i 0) s.0 in let there = s.1 in omega (arith, same, there, h)
    ]

module _ {c : Contents} {b : Binders} {e : Tree} {p : Subterm} where
  -- no variable of a binder is the outermost
  pub marked_none : (xs : List ℕ) → AreMarks b e xs → ((n : ℕ) → IsOutermost c n p → None ≡ Some n) → IsMarked c b e p xs xs
  marked_none xs h is = record {
    marks = h;
    same = refl;
    grown = λ k. omega arith;
    at = λ n l o. absurd (let none : None ≡ Some n = is n o in cc);
  }

  pub marked_one : (m : ℕ) (old new : List ℕ) → AreMarks b e old → IsMentioned b e m p.count → ((n : ℕ) → IsOutermost c n p → Some m ≡ Some n) → Raises m p.count old new → IsMarked c b e p old new
  marked_one m old new h mentioned is r = record {
    marks = marks;
    same = r.same;
    grown = r.grown;
    at = at;
  }
    where
      marks : AreMarks b e new
      marks k = elim (r.either k) [
        | inl s ↦ subst (λ x. IsMentioned b e k x) (sym s) (h k)
        | inr s ↦ subst (λ x. IsMentioned b e k x) (sym s.1) (subst (λ x. IsMentioned b e x p.count) (sym s.0) mentioned)
      ]

      at : (n : ℕ) → n < length old → IsOutermost c n p → 0 < slice_index_or new n 0
      at n l o =
          let some : Some m ≡ Some n = is n o in
          let one : m ≡ n = cc in
          let raised : m < length old → p.count ≤ slice_index_or new m 0 = r.at in
          let there : p.count ≤ slice_index_or new n 0 = subst (λ x. p.count ≤ slice_index_or new x 0) one (raised (rw one l)) in
          let among = o.among in
          omega (arith, there, among)

  -- after the subterm all are found as before
  pub found_on : (marks later : List ℕ) (before old new : List Subterm) → before ≡ old ++ p ∷ [] → AreFound c b e marks before → IsMarked c b e p marks later → Leaves c p old new → AreFound c b e later new
  found_on marks later before old new is found marked leaves n l o =
      let lower : n < length marks = (let s = marked.same in omega arith) in
      elim (found n lower o) [
        | inl m ↦ inl (let g = marked.grown n in omega arith)
        | inr h ↦ elim (leaves n (rw is at h)) [
          | inl k ↦ inr k
          | inr k ↦ inl (marked.at n lower k)
        ]
      ]

pub found_all : (c : Contents) (b : Binders) (e : Tree) (marks : List ℕ) (subterms : List Subterm) → subterms ≡ [] → AreFound c b e marks subterms → AreAll b e marks
found_all c b e marks subterms is found n l o = elim (found n l o) [ inl h ↦ h | inr h ↦ absurd (rw is at h) ]

-- the last subterm, and those before it
pub last_subterm : {c : Contents} {b : Binders} {e : Tree} (old new : List Subterm) (p : Subterm) → old ≡ new ++ p ∷ [] → AreSubterms c b e old → IsSubterm c b e p
last_subterm {c} {b} {e} old new p is h =
    let all : AreSubterms c b e (new ++ p ∷ []) = rw is at h in
    let long = length-append new (p ∷ []) in
    subst (IsSubterm c b e) (get_or-append_seam new p [] p) (all (length new) p (omega (arith, long)))

pub front_subterms : {c : Contents} {b : Binders} {e : Tree} (old new : List Subterm) (p : Subterm) → old ≡ new ++ p ∷ [] → AreSubterms c b e old → AreSubterms c b e new
front_subterms {c} {b} {e} old new p is h k d l =
    let all : AreSubterms c b e (new ++ p ∷ []) = rw is at h in
    let long = length-append new (p ∷ []) in
    subst (IsSubterm c b e) (get_or_append_left new (p ∷ []) d k l) (all k d (omega (arith, long, l)))

-- before the walk: each variable of a binder that was passed occurs in a domain or further inside
pub record IsPassed (c : Contents) (b : Binders) (e : Tree) (count inside : ℕ) (subterms : List Subterm) : Type 0 where
  pub is : (n : ℕ) → n < count → has_var 0 (body_at b (suc n) e) ≡ true → IsLeft c (subterms ++ record { e = inside; depth = count; count = count } ∷ []) n

pub passed_none : (c : Contents) (b : Binders) (e : Tree) (inside : ℕ) (subterms : List Subterm) → IsPassed c b e 0 inside subterms
passed_none c b e inside subterms = record { is = λ n l o. absurd (omega arith) }

binder_has : (b : Binders) (v : ℕ) (A B : Tree) → has_var v (bound_by b A B) ≡ (has_var v A || has_var (suc v) B)
binder_has Pis v A B = refl
binder_has Lambdas v A B = refl

pub passed_on : {c : Contents} {b : Binders} {e : Tree} {count inside domain body : ℕ} (old new : List Subterm) → tree_at c inside ≡ body_at b count e → IsBinder c b inside (domain, body)
    → new ≡ old ++ record { e = domain; depth = count; count = count } ∷ [] → IsPassed c b e count inside old → IsPassed c b e (suc count) body new
passed_on {c} {b} {e} {count} {inside} {domain} {body} old new at k is was = record { is = passed }
  where
    of_domain : Subterm
    of_domain = record { e = domain; depth = count; count = count }

    of_body : Subterm
    of_body = record { e = body; depth = suc count; count = suc count }

    step : (n : ℕ) → IsLeft c old n ⊎ Mentions c n (record { e = inside; depth = count; count = count }) → IsLeft c (new ++ of_body ∷ []) n
    step n (inl h) = left_of c new (of_body ∷ []) n (rw is (left_of c old (of_domain ∷ []) n h))
    step n (inr g) = elim (or_either (has_var g.index (tree_at c domain)) (has_var (suc g.index) (tree_at c body)) (sym (ap (has_var g.index) k.is ∙ binder_has b g.index (tree_at c domain) (tree_at c body)) ∙ g.occurs)) [
      | inl o ↦ left_of c new (of_body ∷ []) n (rw is (is_last old of_domain n (record { index = g.index; among = g.among; at = g.at; occurs = o })))
      | inr o ↦ (let among = g.among in let place = g.at in is_last new of_body n (record { index = suc g.index; among = omega arith; at = omega arith; occurs = o }))
    ]

    passed : (n : ℕ) → n < suc count → has_var 0 (body_at b (suc n) e) ≡ true → IsLeft c (new ++ of_body ∷ []) n
    passed n l o = go (nat_eq n count) refl
      where
        go : (t : Bool) → nat_eq n count ≡ t → IsLeft c (new ++ of_body ∷ []) n
        go true t =
            let here : n ≡ count = grind (arith, nat_tests) in
            let there : has_var 0 (tree_at c body) ≡ true = ap (has_var 0) (next_body e count at k ∙ ap (λ x. body_at b (suc x) e) (sym here)) ∙ o in
            is_last new of_body n (record { index = 0; among = omega arith; at = omega arith; occurs = there })
        go false t =
            let less : n < count = grind (arith, nat_tests) in
            step n (left_last old (record { e = inside; depth = count; count = count }) n (was.is n less o))

pub passed_found : {c : Contents} {b : Binders} {e : Tree} {count inside : ℕ} {old new : List Subterm} (marks : List ℕ) → length marks ≡ count → new ≡ old ++ record { e = inside; depth = count; count = count } ∷ []
    → IsPassed c b e count inside old → AreFound c b e marks new
passed_found marks same is was n l o = inr (rw is (was.is n (omega (arith, l, same)) o))

-- the body of the next binder, in the larger contents
pub body_on : {b : Binders} {now later : Contents} {inside domain body : ℕ} (e : Tree) (n : ℕ) → Extends now later → tree_at now inside ≡ body_at b n e → IsBinder now b inside (domain, body)
    → tree_at later body ≡ body_at b (suc n) e
body_on {b} {now} {inside = inside} {domain = domain} {body = body} e n x is k =
    x.trees.same body k.body_in ∙ sym (ap (body_of b) (sym is) ∙ body_is b (tree_at now inside) (tree_at now domain) (tree_at now body) k.is)

pub first_body : {b : Binders} {now later : Contents} {e domain body : ℕ} → Extends now later → e < length now.trees → IsBinder now b e (domain, body)
    → tree_at later body ≡ body_at b 1 (tree_at later e)
first_body {b} {now} {later} {e} x l k = body_on (tree_at now e) 0 x refl k ∙ ap (body_of b) (sym (x.trees.same e l))
