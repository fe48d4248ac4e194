-- What holds in all cases that are tested holds under every assignment.
use Rattle.std.proofs.Common.{ℕ, zero, suc, ◌≡◌, ◌≢◌, ◌<◌, ◌≤◌, ◌+◌, ◌⊎◌, inl, inr, true, false, List, [], ◌∷◌, ◌++◌, map, take, drop, length, get_or, slice_set, refl, sym, ap, ◌∙◌, arith, if◌then◌else◌}
use Rattle.std.proofs.lemmas.Grind.{common_steps}
use Rattle.std.proofs.lemmas.List.{take-append-drop}
use Rattle.lk_tree.specs.Tree.{Name, name_discrete, Level, zero_level, succ_level, max_level, imax_level, param}
use Rattle.lk_tree.specs.Level.{level_value}
use Rattle.lk_tree.specs.Mentions.{same_name, is_one_of}
use Rattle.lk_tree.specs.LevelTest.{params_of, right_params, is_zero_where, Flat, flat, tops_value, flat_value, ones, has_top}
use Rattle.lk_tree.proofs.LevelTests.{bool_cases, both, not_true, not_false, one_false, name_is, name_same, in_cases, in_first, in_rest, in_left, in_right, imax_above, tops_append, tops_raised, if_cases, tops_mono, has_top_le, far, far_small, far_here, TopsIn, flat_in, kept, kept_above, kept_all, kept_in, value_same, nat_le_of}
use Rattle.lk_level_order.specs.Parameters.{IsWithin, AreDifferent}
use Rattle.lk_level_order.specs.declared.relation.Relation.TheVariants as relation
use Rattle.lk_level_order.specs.Values.{assigned, value_at, IsTested}
use Rattle.lk_level_order.proofs.Names.{in_not, in_either, within_left, within_right, within_trans, rights_in, differs, different_front}

-- those that are not in the one list are 0, and those in both are above 0
pub record IsCase (rights active : List Name) (σ : Name → ℕ) : Type 0 where
  pub zero_at : (n : Name) → is_one_of active n ≡ false → σ n ≡ 0
  pub above : (n : Name) → is_one_of rights n ≡ true → is_one_of active n ≡ true → 0 < σ n

module _ (rights active : List Name) (σ : Name → ℕ) (a : IsCase rights active σ) where
  zero_where : (l : Level) → is_zero_where active l ≡ true → level_value σ l ≡ 0
  zero_where zero_level h = refl
  zero_where (succ_level l) h = absurd cc
  zero_where (max_level l m) h =
      let b = both (is_zero_where active l) (is_zero_where active m) h in
      let x : level_value σ l ≡ 0 = zero_where l b.0 in
      let y : level_value σ m ≡ 0 = zero_where m b.1 in
      omega arith
  zero_where (imax_level l m) h = let y : level_value σ m ≡ 0 = zero_where m h in rw y refl
  zero_where (param n) h = a.zero_at n (not_true (is_one_of active n) h)

  above_where : (l : Level) → IsWithin (params_of l) rights → is_zero_where active l ≡ false → 0 < level_value σ l
  above_where zero_level w h = absurd cc
  above_where (succ_level l) w h = omega arith
  above_where (max_level l m) w h = elim (one_false (is_zero_where active l) (is_zero_where active m) h) [
    | inl e ↦ omega (arith, above_where l (within_left (params_of l) (params_of m) rights w) e)
    | inr e ↦ omega (arith, above_where m (within_right (params_of l) (params_of m) rights w) e)
  ]
  above_where (imax_level l m) w h =
      let y : 0 < level_value σ m = above_where m (within_right (params_of l) (params_of m) rights w) h in
      rw (imax_above (level_value σ l) (level_value σ m) y) (omega arith)
  above_where (param n) w h = a.above n (w.each n (in_first n [] n (name_same n))) (not_false (is_one_of active n) h)

  -- a level is its flat form
  flat_is : (l : Level) → IsWithin (right_params l) rights → level_value σ l ≡ flat_value σ (flat active l)
  flat_is zero_level w = refl
  flat_is (succ_level l) w = ap suc (flat_is l w) ∙ sym (tops_raised σ (flat active l).base (flat active l).tops)
  flat_is (max_level l m) w =
      let x = flat_is l (within_left (right_params l) (right_params m) rights w) in
      let y = flat_is m (within_right (right_params l) (right_params m) rights w) in
      omega (arith, x, y, tops_append σ (flat active l).tops (flat active m).tops)
  flat_is (imax_level l m) w = elim (bool_cases (is_zero_where active m)) [
    | inl e ↦ rw (e, zero_where m e) refl
    | inr e ↦
        let v : IsWithin (params_of m) rights = within_right (right_params l) (params_of m) rights w in
        let x = flat_is l (within_left (right_params l) (params_of m) rights w) in
        let y = flat_is m (within_trans (right_params m) (params_of m) rights (rights_in m) v) in
        rw (e, imax_above (level_value σ l) (level_value σ m) (above_where m v e))
        (omega (arith, x, y, tops_append σ (flat active l).tops (flat active m).tops))
  ]
  flat_is (param n) w = elim (bool_cases (is_one_of active n)) [
    | inl e ↦ rw e (omega arith)
    | inr e ↦ rw e (a.zero_at n e)
  ]

-- Flat forms, compared at the least values of a case and where one parameter is far above all else.
module _ (s active : List Name) (g : Flat) where
  big : ℕ
  big = suc (flat_value (ones s) g)

  -- a top that g does not reach shows where its parameter is far
  top_reached : (p : Name) (o : ℕ) → far s p big p + o ≤ flat_value (far s p big) g → has_top g.tops p o ≡ true
  unfolding big
  top_reached p o h = elim (bool_cases (has_top g.tops p o)) [
    | inl e ↦ e
    | inr e ↦
        let low : tops_value (far s p big) g.tops < big + o = far_small s p o big g.tops e (omega arith) in
        let here : far s p big p ≡ big = far_here s p big in
        absurd (omega arith)
  ]

  tops_reached : (σ : Name → ℕ) (ts : List (Name × ℕ)) → TopsIn active ts
      → ((q : Name) → is_one_of active q ≡ true → tops_value (far s q big) ts ≤ flat_value (far s q big) g) → tops_value σ ts ≤ tops_value σ g.tops
  tops_reached σ [] i h = omega arith
  tops_reached σ (t ∷ ts) i h =
      let one = h t.0 i.0 in
      let first = has_top_le σ g.tops t.0 t.1 (top_reached t.0 t.1 (omega arith)) in
      let others = tops_reached σ ts i.1 (λ q a. let one = h q a in omega arith) in
      omega arith

  pub flats_compared : (σ : Name → ℕ) → ((n : Name) → ones s n ≤ σ n) → (f : Flat) → TopsIn active f.tops → flat_value (ones s) f ≤ flat_value (ones s) g
      → ((q : Name) → is_one_of active q ≡ true → flat_value (far s q (suc (flat_value (ones s) g))) f ≤ flat_value (far s q (suc (flat_value (ones s) g))) g)
      → flat_value σ f ≤ flat_value σ g
  unfolding big
  flats_compared σ least f i low high =
      let rest = tops_mono (ones s) σ least g.tops in
      let tops = tops_reached σ f.tops i (λ q a. let h = high q a in omega arith) in
      omega arith

-- The names' values in the case of an assignment.
assigned_first : (p : Name) (ps : List Name) (v : ℕ) (vs : List ℕ) (n : Name) → p ≡ n → assigned (p ∷ ps) (v ∷ vs) n ≡ v
assigned_first p ps v vs n h = go (name_discrete p n)
  where
    go : (x : Dec (p ≡ n)) → (elim x as (λ y. ℕ) [ yes e ↦ v | no g ↦ assigned ps vs n ]) ≡ v
    go (yes e) = refl
    go (no g) = absurd (g h)

assigned_rest : (p : Name) (ps : List Name) (v : ℕ) (vs : List ℕ) (n : Name) → p ≢ n → assigned (p ∷ ps) (v ∷ vs) n ≡ assigned ps vs n
assigned_rest p ps v vs n h = go (name_discrete p n)
  where
    go : (x : Dec (p ≡ n)) → (elim x as (λ y. ℕ) [ yes e ↦ v | no g ↦ assigned ps vs n ]) ≡ assigned ps vs n
    go (yes e) = absurd (h e)
    go (no g) = refl

assigned_map : (f : Name → ℕ) (ns : List Name) (n : Name) → is_one_of ns n ≡ true → assigned ns (map f ns) n ≡ f n
assigned_map f [] n h = absurd cc
assigned_map f (p ∷ ps) n h = elim (if_cases (same_name p n) true false) [
  | inl e ↦ assigned_first p ps (f p) (map f ps) n (name_is p n e.0) ∙ ap f (name_is p n e.0)
  | inr e ↦ assigned_rest p ps (f p) (map f ps) n (differs p n e.0) ∙ assigned_map f ps n (elim (in_cases p ps n h) [ inl s ↦ absurd (differs p n e.0 (name_is p n s)) | inr i ↦ i ])
]

-- the index of a name
name_index : (ns : List Name) (n : Name) → is_one_of ns n ≡ true → (p : ℕ) × (p < length ns) × (get_or ns p [] ≡ n)
name_index [] n h = absurd cc
name_index (x ∷ xs) n h = elim (in_cases x xs n h) [
  | inl e ↦ (0, omega arith, name_is x n e)
  | inr e ↦ let r = name_index xs n e in (suc r.0, let l = r.1 in omega arith, r.2)
]

pub name_in : (ns : List Name) (p : ℕ) → p < length ns → is_one_of ns (get_or ns p []) ≡ true
name_in [] p h = absurd (omega arith)
name_in (x ∷ xs) zero h = in_first x xs x (name_same x)
name_in (x ∷ xs) (suc p) h = in_rest x xs (get_or xs p []) (name_in xs p (omega arith))

name_in_front : (k : ℕ) (ns : List Name) (p : ℕ) → p < k → p < length ns → is_one_of (take k ns) (get_or ns p []) ≡ true
name_in_front zero ns p h l = absurd (omega arith)
name_in_front (suc k) [] p h l = absurd (omega arith)
name_in_front (suc k) (x ∷ xs) zero h l = in_first x (take k xs) x (name_same x)
name_in_front (suc k) (x ∷ xs) (suc p) h l = in_rest x (take k xs) (get_or xs p []) (name_in_front k xs p (omega arith) (omega arith))

-- a name has the value at its place
pub assigned_at : (ns : List Name) (vs : List ℕ) (p : ℕ) → AreDifferent ns → length vs ≡ length ns → p < length vs → get_or vs p 0 ≡ assigned ns vs (get_or ns p [])
assigned_at [] vs p d e h = absurd (omega arith)
assigned_at (x ∷ xs) [] p d e h = absurd (omega arith)
assigned_at (x ∷ xs) (v ∷ vs) zero d e h = sym (assigned_first x xs v vs x refl)
assigned_at (x ∷ xs) (v ∷ vs) (suc p) d e h =
    let other : x ≢ get_or xs p [] = λ s. in_not xs x (let i = name_in xs p (omega arith) in rw (← s) at i) d.0 in
    assigned_at xs vs p d.1 (omega arith) (omega arith) ∙ sym (assigned_rest x xs v vs (get_or xs p []) other)

-- with one name's value put far above
map_same : (f g : Name → ℕ) (ns : List Name) → ((n : Name) → is_one_of ns n ≡ true → f n ≡ g n) → map f ns ≡ map g ns
map_same f g [] h = refl
map_same f g (x ∷ xs) h = let a = h x (in_first x xs x (name_same x)) in let b = map_same f g xs (λ n i. h n (in_rest x xs n i)) in cc

far_map : (s : List Name) (value : ℕ) (ns : List Name) (p : ℕ) → AreDifferent ns → p < length ns
    → slice_set (map (ones s) ns) p value ≡ map (far s (get_or ns p []) value) ns
unfolding far
far_map s value [] p d h = absurd (omega arith)
far_map s value (x ∷ xs) zero d h =
    let first = far_here s x value in
    let others = map_same (ones s) (far s x value) xs (λ n i. elim (if_cases (same_name n x) value (ones s n)) [
      | inl e ↦ absurd (in_not xs x (let q : n ≡ x = name_is n x e.0 in rw q at i) d.0)
      | inr e ↦ sym e.1
    ]) in
    cc
far_map s value (x ∷ xs) (suc p) d h =
    let others = far_map s value xs p d.1 (omega arith) in
    let here : is_one_of xs (get_or xs p []) ≡ true = name_in xs p (omega arith) in
    elim (if_cases (same_name x (get_or xs p [])) value (ones s x)) [
      | inl e ↦ absurd (in_not xs x (rw (← name_is x (get_or xs p []) e.0) at here) d.0)
      | inr e ↦ let first = e.1 in cc
    ]

-- The case of an assignment.
module _ (ns : List Name) (different : AreDifferent ns) (k : ℕ) (σ : Name → ℕ) where
  -- those of the first k that are above 0
  abbrev positive : List Name
  positive = kept σ (take k ns)

  abbrev active : List Name
  active = positive ++ drop k ns

  -- the assignment at the names alone
  abbrev cut : Name → ℕ
  cut n = if is_one_of active n then σ n else 0

  in_positive : (n : Name) → is_one_of (take k ns) n ≡ true → is_one_of active n ≡ true → is_one_of positive n ≡ true
  in_positive n front h = elim (in_either positive (drop k ns) n h) [
    | inl e ↦ e
    | inr e ↦ absurd (different_front k ns n different front e)
  ]

  active_above : (n : Name) → is_one_of (take k ns) n ≡ true → is_one_of active n ≡ true → 0 < σ n
  active_above n front h = kept_above σ (take k ns) n (in_positive n front h)

  not_positive : (n : Name) → is_one_of active n ≡ false → is_one_of positive n ≡ false
  not_positive n h = elim (bool_cases (is_one_of positive n)) [
    | inl e ↦ absurd (in_not (positive ++ drop k ns) n (in_left positive (drop k ns) n e) h)
    | inr e ↦ e
  ]

  cut_case : IsCase (take k ns) active cut
  cut_case = record {
    zero_at = λ n h. rw h refl;
    above = λ n front h. rw h (active_above n front h);
  }

  least_case : IsCase (take k ns) active (ones positive)
  least_case = record {
    zero_at = λ n h. rw (not_positive n h) refl;
    above = λ n front h. rw (in_positive n front h) (omega arith);
  }

  far_case : (q : Name) (value : ℕ) → is_one_of active q ≡ true → 0 < value → IsCase (take k ns) active (far positive q value)
  unfolding far
  far_case q value a b = record {
    zero_at = λ n h. elim (if_cases (same_name n q) value (ones positive n)) [
      | inl e ↦ absurd (in_not active q a (let s : n ≡ q = name_is n q e.0 in rw s at h))
      | inr e ↦ rw e.1 (least_case.zero_at n h)
    ];
    above = λ n front h. elim (if_cases (same_name n q) value (ones positive n)) [
      | inl e ↦ rw e.1 b
      | inr e ↦ rw e.1 (least_case.above n front h)
    ];
  }

  least_le : (n : Name) → ones positive n ≤ cut n
  least_le n = elim (if_cases {A = ℕ} (is_one_of positive n) 1 0) [
    | inl e ↦
        let a : is_one_of active n ≡ true = in_left positive (drop k ns) n e.0 in
        let b = kept_above σ (take k ns) n e.0 in
        rw a (omega (arith, e.1))
    | inr e ↦ omega (arith, e.1)
  ]

  cut_same : (n : Name) → is_one_of ns n ≡ true → cut n ≡ σ n
  cut_same n h = elim (if_cases {A = ℕ} (is_one_of active n) (σ n) 0) [
    | inl e ↦ e.1
    | inr e ↦ e.1 ∙ sym (zero_outside n h e.0)
  ]
    where
      zero_or_above : (x : ℕ) → (x ≡ 0) ⊎ (0 < x)
      zero_or_above x = grind arith

      zero_outside : (n : Name) → is_one_of ns n ≡ true → is_one_of active n ≡ false → σ n ≡ 0
      zero_outside n h i = elim (zero_or_above (σ n)) [
        | inl z ↦ z
        | inr l ↦ absurd (in_not active n (elim (in_either (take k ns) (drop k ns) n (let e : ns ≡ take k ns ++ drop k ns = sym (take-append-drop k ns) in rw e at h)) [
          | inl f ↦ in_left positive (drop k ns) n (kept_all σ (take k ns) n f l)
          | inr r ↦ in_right positive (drop k ns) n r
        ]) i)
      ]

  active_in : (n : Name) → is_one_of active n ≡ true → is_one_of ns n ≡ true
  active_in n h = elim (bool_cases (is_one_of ns n)) [
    | inl e ↦ e
    | inr e ↦ elim (in_either positive (drop k ns) n h) [
      | inl a ↦ absurd (in_not ns n (let i = in_left (take k ns) (drop k ns) n (kept_in σ (take k ns) n a) in rw (take-append-drop k ns) at i) e)
      | inr b ↦ absurd (in_not ns n (let i = in_right (take k ns) (drop k ns) n b in rw (take-append-drop k ns) at i) e)
    ]
  ]

  -- the values of the case
  abbrev case_values : List ℕ
  case_values = map (ones positive) ns

  value_of : (f : Name → ℕ) (l : Level) → IsWithin (params_of l) ns → value_at ns (map f ns) l ≡ level_value f l
  value_of f l w = value_same (assigned ns (map f ns)) f l (λ n h. assigned_map f ns n (w.each n h))

  module _ (l m : Level) (l_in : IsWithin (params_of l) ns) (m_in : IsWithin (params_of m) ns)
      (l_rights : IsWithin (right_params l) (take k ns)) (m_rights : IsWithin (right_params m) (take k ns)) (t : IsTested relation.AtMost k ns l m case_values) where
    least_at_most : level_value (ones positive) l ≤ level_value (ones positive) m
    least_at_most =
        let h = nat_le_of (value_at ns case_values l) (value_at ns case_values m) t.least in
        let x = value_of (ones positive) l l_in in
        let y = value_of (ones positive) m m_in in
        omega arith

    not_passed : (q : Name) → is_one_of active q ≡ true → (p : ℕ) → p < length ns → get_or ns p [] ≡ q → p < k → get_or case_values p 0 ≢ 0
    not_passed q a p l e f z =
        let front : is_one_of (take k ns) q ≡ true = let i = name_in_front k ns p f l in rw e at i in
        let one : ones positive q ≡ 1 = rw (in_positive q front a) refl in
        let here : get_or case_values p 0 ≡ ones positive (get_or ns p []) = get_map (ones positive) ns p l in
        let same : ones positive (get_or ns p []) ≡ ones positive q = ap (ones positive) e in
        absurd (omega arith)
      where
        get_map : (f : Name → ℕ) (xs : List Name) (p : ℕ) → p < length xs → get_or (map f xs) p 0 ≡ f (get_or xs p [])
        get_map f [] p h = absurd (omega arith)
        get_map f (x ∷ xs) zero h = refl
        get_map f (x ∷ xs) (suc p) h = get_map f xs p (omega arith)

    far_at_most : (q : Name) → is_one_of active q ≡ true
        → level_value (far positive q (suc (level_value (ones positive) m))) l ≤ level_value (far positive q (suc (level_value (ones positive) m))) m
    far_at_most q a =
        let i = name_index ns q (active_in q a) in
        let big : ℕ = suc (level_value (ones positive) m) in
        let far_l = value_of (far positive q big) l l_in in
        let far_m = value_of (far positive q big) m m_in in
        let y : value_at ns case_values m ≡ level_value (ones positive) m = value_of (ones positive) m m_in in
        let set : slice_set case_values i.0 (suc (value_at ns case_values m)) ≡ map (far positive q big) ns =
        (rw y (far_map positive big ns i.0 different i.1)) ∙ ap (λ (n : Name). map (far positive n big) ns) i.2 in
        let length_is : length case_values ≡ length ns = grind (arith, common_steps) in
        let h = t.far i.0 (omega arith) (not_passed q a i.0 i.1 i.2) in
        let g = nat_le_of (value_at ns (map (far positive q big) ns) l) (value_at ns (map (far positive q big) ns) m) (rw set at h) in
        omega arith

    pub case_at_most : level_value σ l ≤ level_value σ m
    case_at_most =
        let cut_l = flat_is (take k ns) active cut cut_case l l_rights in
        let cut_m = flat_is (take k ns) active cut cut_case m m_rights in
        let least_l = flat_is (take k ns) active (ones positive) least_case l l_rights in
        let least_m = flat_is (take k ns) active (ones positive) least_case m m_rights in
        let low : flat_value (ones positive) (flat active l) ≤ flat_value (ones positive) (flat active m) = let h = least_at_most in omega arith in
        let high : (q : Name) → is_one_of active q ≡ true
        → flat_value (far positive q (suc (flat_value (ones positive) (flat active m)))) (flat active l) ≤ flat_value (far positive q (suc (flat_value (ones positive) (flat active m)))) (flat active m) = λ q a.
        let h = far_at_most q a in
        let big : ℕ = suc (level_value (ones positive) m) in
        let x = flat_is (take k ns) active (far positive q big) (far_case q big a (omega arith)) l l_rights in
        let y = flat_is (take k ns) active (far positive q big) (far_case q big a (omega arith)) m m_rights in
        rw (← least_m) (omega arith) in
        let r = flats_compared positive active (flat active m) cut least_le (flat active l) (flat_in active l) low high in
        let x = value_same cut σ l (λ n h. cut_same n (l_in.each n h)) in
        let y = value_same cut σ m (λ n h. cut_same n (m_in.each n h)) in
        omega arith
