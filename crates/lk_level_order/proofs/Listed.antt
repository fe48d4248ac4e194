-- Cases in lists, and the covers of the levels of an order.
use Rattle.std.proofs.Common.{ℕ, zero, suc, ◌≡◌, ◌<◌, ◌≤◌, ◌+◌, ◌||◌, Bool, true, false, List, [], ◌∷◌, ◌++◌, take, drop, length, get_or, refl, sym, ap, subst, ◌∙◌, arith, inl, inr, ◌⊎◌, below_more}
use Rattle.std.proofs.lemmas.Grind.{common_steps}
use Rattle.std.proofs.lemmas.List.Elements.{All-push, All-weaker}
use Rattle.lk_tree.specs.Tree.{Name, Level, zero_level, succ_level, max_level, imax_level, param}
use Rattle.lk_tree.specs.LevelTest.{params_of, right_params}
use Rattle.lk_tree.specs.Mentions.{is_one_of}
use Rattle.lk_tree.proofs.LevelTests.{bool_cases, in_first, in_rest, name_same}
use Rattle.lk_store.specs.Contents.{Contents, level_at, level_of}
use Rattle.lk_level_order.specs.declared.placing.PlacedLevel.{PlacedLevel}
use Rattle.lk_level_order.specs.declared.support.Support.{Support}
use Rattle.lk_level_order.specs.declared.listing.Chosen.{Chosen}
use Rattle.lk_level_order.specs.declared.listing.Cases.{Cases}
use Rattle.lk_level_order.specs.declared.listing.Cover.{Cover}
use Rattle.lk_level_order.specs.Parameters.{IsWithin, AreDifferent}
use Rattle.lk_level_order.specs.Placing.{IsOrder}
use Rattle.lk_level_order.specs.Digits.{has_one, with_one}
use Rattle.lk_level_order.specs.Covers.{HasSupport, IsJoined, IsListed, IsAmong, Grows, IsCover, IsOfNone, AreInRows, AreCovers}
use Rattle.lk_level_order.proofs.Names.{in_not, within_left, within_right, within_trans, rights_in, different_front}
use Rattle.lk_level_order.proofs.Covered.{enough_more, enough_zero, enough_succ, enough_other, enough_param, enough_max, enough_imax, support_none, support_succ, support_param, support_max, support_imax}

-- lists while rows are added
pub listed_stays : (old new : List Chosen) (first end longer case : ℕ) → Grows old new → end ≤ longer → IsListed old first end case → IsListed new first longer case
listed_stays old new first end longer case g l h =
    let k = h.known in
    let b = h.before in
    let more = g.longer in
    record {
      place = h.place;
      after = h.after;
      before = omega arith;
      known = omega arith;
      is = λ d. rw (g.same h.place d k) (h.is d);
    }

pub joined_stays : (k : ℕ) (s : Support) (P Q : ℕ → Type 0) (case : ℕ) → ((c : ℕ) → P c → Q c) → IsJoined k s P case → IsJoined k s Q case
joined_stays k s P Q case f (inl h) = inl (h.0, f case h.1)
joined_stays k s P Q case f (inr h) = inr (h.0, λ n l i. f (with_one case n) (h.1 n l i))

clash : {A : Type 0} (b : Bool) → b ≡ true → b ≡ false → A
clash true h i = absurd cc
clash false h i = absurd cc

pub joined_surely : (k : ℕ) (s : Support) (P : ℕ → Type 0) (case : ℕ) → s.surely ≡ true → IsJoined k s P case → P case
joined_surely k s P case e (inl h) = h.1
joined_surely k s P case e (inr h) = clash s.surely e h.0

pub grows_trans : (a b c : List Chosen) → Grows a b → Grows b c → Grows a c
grows_trans a b c g h =
    let m = g.longer in
    let n = h.longer in
    record { longer = omega arith; same = λ i d l. h.same i d (omega arith) ∙ g.same i d l }

last : (p i : ℕ) → p < i + 1 → (p < i) ⊎ (p ≡ i)
last p i h = grind arith

-- what holds of a list's cases, with one more
pub listed_more : (rows : List Chosen) (first i : ℕ) (x : Chosen) (P : ℕ → Type 0) → ((e : Chosen) → x ≡ get_or rows i e)
    → ((case : ℕ) → IsListed rows first i case → P case) → P x.case → (case : ℕ) → IsListed rows first (i + 1) case → P case
listed_more rows first i x P is before here case h = elim (last h.place i h.before) [
  | inl b ↦ before case (record { place = h.place; after = h.after; before = b; known = h.known; is = h.is })
  | inr e ↦ let same : x.case ≡ case = ap (λ (c : Chosen). c.case) (is x) ∙ ap (λ i. (get_or rows i x).case) (sym e) ∙ h.is x in subst P same here
]

-- one case more of a list that is joined
pub joined_more : (k : ℕ) (s : Support) (base old new : List Chosen) (list first i : ℕ) (x : Chosen) → Grows base old → Grows old new → i < length base → ((e : Chosen) → x ≡ get_or old i e)
    → ((case : ℕ) → IsListed base first i case → IsJoined k s (IsListed old list (length old)) case) → IsJoined k s (IsListed new list (length new)) x.case
    → (case : ℕ) → IsListed base first (i + 1) case → IsJoined k s (IsListed new list (length new)) case
joined_more k s base old new list first i x g g' l is before here =
    let more = g'.longer in
    listed_more base first i x (IsJoined k s (IsListed new list (length new))) (λ e. is e ∙ g.same i e l)
    (λ case h. joined_stays k s (IsListed old list (length old)) (IsListed new list (length new)) case
    (λ n j. listed_stays old new list (length old) (length new) n g' more j) (before case h))
    here

-- the cover of each kind of level
cover_stays : (ns : List Name) (old new : List Chosen) (c : Cover) (l : Level) → Grows old new → IsCover ns old c l → IsCover ns new c l
cover_stays ns old new c l g h = record {
  cases = λ w. enough_more ns (IsAmong old c.cases) (IsAmong new c.cases) l (λ case i. listed_stays old new c.cases.first c.cases.end c.cases.end case g (omega arith) i) (h.cases w);
  support = h.support;
}

pub cover_zero : (ns : List Name) (rows : List Chosen) (c : Cover) → IsOfNone rows c → IsCover ns rows c zero_level
cover_zero ns rows c h = record {
  cases = λ w. enough_zero ns (IsAmong rows c.cases) h.2;
  support = λ w. support_none ns c.support h.0 h.1;
}

pub cover_other : (ns : List Name) (rows : List Chosen) (c : Cover) (p : Name) → is_one_of ns p ≡ false → IsOfNone rows c → IsCover ns rows c (param p)
cover_other ns rows c p f h = record {
  cases = λ w. enough_other ns (IsAmong rows c.cases) p f h.2;
  support = λ w. absurd (in_not ns p (w.each p (in_first p [] p (name_same p))) f);
}

pub cover_param : (ns : List Name) (rows : List Chosen) (c : Cover) (n : ℕ) → AreDifferent ns → n < length ns → IsAmong rows c.cases 0 → IsAmong rows c.cases (with_one 0 n)
    → c.support.surely ≡ false → c.support.by ≡ with_one 0 n → IsCover ns rows c (param (get_or ns n []))
cover_param ns rows c n d l x y e f = record {
  cases = λ w. enough_param ns (IsAmong rows c.cases) n d l x y;
  support = λ w. support_param ns c.support n d l e f;
}

pub cover_succ : (ns : List Name) (rows : List Chosen) (c : Cover) (s : Support) (l : Level) → s.surely ≡ true → IsCover ns rows c l
    → IsCover ns rows (record { cases = c.cases; support = s }) (succ_level l)
cover_succ ns rows c s l e h = record {
  cases = λ w. enough_succ ns (IsAmong rows c.cases) l (h.cases w);
  support = λ w. support_succ ns s l e;
}

module _ (ns : List Name) (k : ℕ) (old new : List Chosen) (left right : Cover) (cases : Cases) (s : Support) (a b : Level) (x : IsCover ns old left a) (y : IsCover ns old right b)
    (joined : (case : ℕ) → IsAmong old left.cases case → IsJoined k s (IsAmong new cases) case) (own : (case : ℕ) → IsAmong old right.cases case → IsAmong new cases case) where
  pub cover_max : (u : Support) → s.surely ≡ true → u.surely ≡ (left.support.surely || right.support.surely)
      → ((n : ℕ) → has_one u.by n ≡ (has_one left.support.by n || has_one right.support.by n)) → IsCover ns new (record { cases = cases; support = u }) (max_level a b)
  cover_max u e f g = record {
    cases = λ w. enough_max ns (IsAmong new cases) (IsAmong old left.cases) (IsAmong old right.cases) a b
        (x.cases (within_left (right_params a) (right_params b) ns w)) (y.cases (within_right (right_params a) (right_params b) ns w))
        (λ case h. joined_surely k s (IsAmong new cases) case e (joined case h)) own;
    support = λ w. support_max ns left.support right.support u a b
        (x.support (within_left (params_of a) (params_of b) ns w)) (y.support (within_right (params_of a) (params_of b) ns w)) f g;
  }

  pub cover_imax : AreDifferent ns → length ns ≡ k → s ≡ right.support → IsCover ns new (record { cases = cases; support = right.support }) (imax_level a b)
  cover_imax d e is = record {
    cases = λ w.
        let inside : IsWithin (params_of b) ns = within_right (right_params a) (params_of b) ns w in
        enough_imax ns k d e s (IsAmong new cases) (IsAmong old left.cases) (IsAmong old right.cases) a b
        (subst (λ (s : Support). HasSupport ns s b) (sym is) (y.support inside))
        (x.cases (within_left (right_params a) (params_of b) ns w)) (y.cases (within_trans (right_params b) (params_of b) ns (rights_in b) inside))
        joined own;
    support = λ w. support_imax ns right.support a b (y.support (within_right (params_of a) (params_of b) ns w));
  }

-- names of an order
pub take_length : {X : Type 0} (k : ℕ) (xs : List X) → k ≤ length xs → length (take k xs) ≡ k
take_length zero xs h = refl
take_length (suc k) [] h = absurd (omega arith)
take_length (suc k) (x ∷ xs) h = ap suc (take_length k xs (omega arith))

pub take_at : {X : Type 0} (k : ℕ) (xs : List X) (n : ℕ) (d : X) → n < k → get_or (take k xs) n d ≡ get_or xs n d
take_at zero xs n d h = absurd (omega arith)
take_at (suc k) [] n d h = refl
take_at (suc k) (x ∷ xs) zero d h = refl
take_at (suc k) (x ∷ xs) (suc n) d h = take_at k xs n d (omega arith)

name_behind : (k : ℕ) (ns : List Name) (n : ℕ) → k ≤ n → n < length ns → is_one_of (drop k ns) (get_or ns n []) ≡ true
name_behind k [] n h l = absurd (omega arith)
name_behind zero (x ∷ xs) zero h l = in_first x xs x (name_same x)
name_behind zero (x ∷ xs) (suc n) h l = in_rest x xs (get_or xs n []) (name_behind zero xs n (omega arith) (omega arith))
name_behind (suc k) (x ∷ xs) zero h l = absurd (omega arith)
name_behind (suc k) (x ∷ xs) (suc n) h l = name_behind k xs n (omega arith) (omega arith)

-- a name behind the first ones is none of them
pub behind_first : (k : ℕ) (ns : List Name) (n : ℕ) → AreDifferent ns → k ≤ n → n < length ns → is_one_of (take k ns) (get_or ns n []) ≡ false
behind_first k ns n d h l = elim (bool_cases (is_one_of (take k ns) (get_or ns n []))) [
  | inl e ↦ absurd (different_front k ns (get_or ns n []) d e (name_behind k ns n h l))
  | inr e ↦ e
]

module _ (d : Contents) (k : ℕ) where
  pub covers_at : (rows : List Chosen) (covers : List Cover) (place : ℕ) (c : Cover) → AreCovers d k rows covers → (place < length covers) × ((e : Cover) → c ≡ get_or covers place e)
      → IsCover (take k d.names) rows c (level_at d place)
  covers_at rows covers place c h i = subst (λ (x : Cover). IsCover (take k d.names) rows x (level_at d place)) (sym (i.1 c)) (h place c i.0)

  pub covers_stay : (old new : List Chosen) (covers : List Cover) → Grows old new → AreCovers d k old covers → AreCovers d k new covers
  covers_stay old new covers g h j e l = cover_stays (take k d.names) old new (get_or covers j e) (level_at d j) g (h j e l)

  pub covers_push : (rows : List Chosen) (covers : List Cover) (c : Cover) → AreCovers d k rows covers → IsCover (take k d.names) rows c (level_at d (length covers)) → AreCovers d k rows (covers ++ c ∷ [])
  covers_push rows covers c h i j e l =
      let all = covers ++ c ∷ [] in
      let longer : length all ≡ length covers + 1 = grind (arith, common_steps) in
      below_more (λ j. IsCover (take k d.names) rows (get_or all j e) (level_at d j)) (length covers)
      (λ n m. let read : get_or all n e ≡ get_or covers n e = grind (arith, common_steps) in subst (λ (x : Cover). IsCover (take k d.names) rows x (level_at d n)) (sym read) (h n e m))
      (let read : get_or all (length covers) e ≡ c = grind (arith, common_steps) in subst (λ (x : Cover). IsCover (take k d.names) rows x (level_at d (length covers))) (sym read) i)
      j (rw longer at l)

  -- the next level of an order
  pub next_cover : (parts : List PlacedLevel) (old new : List Chosen) (covers : List Cover) (place : ℕ) (c : Cover) (part : PlacedLevel) → IsOrder d parts → place < length parts → length covers ≡ place
      → ((e : PlacedLevel) → part ≡ get_or parts place e) → Grows old new → AreCovers d k old covers → IsCover (take k d.names) new c (level_of d part.node) → AreCovers d k new (covers ++ c ∷ [])
  next_cover parts old new covers place c part order l count is g h i =
      let node : level_of d part.node ≡ level_at d place = rw (is part) (order.nodes place part l) in
      covers_push new covers c (covers_stay old new covers g h)
      (subst (λ (x : Level). IsCover (take k d.names) new c x) (node ∙ ap (level_at d) (sym count)) i)

pub in_rows_more : (old new : List Chosen) (covers : List Cover) (c : Cover) → Grows old new → AreInRows old covers → c.cases.end ≤ length new → AreInRows new (covers ++ c ∷ [])
in_rows_more old new covers c g h i =
    let P : Cover → Type 0 = λ c. c.cases.end ≤ length old in
    let Q : Cover → Type 0 = λ c. c.cases.end ≤ length new in
    let kept = All-weaker P Q (λ c l. let more = g.longer in omega arith) covers h in
    All-push Q covers c kept i
