-- What passes know of their own submissions, as the list grows, as they add to it and as one takes in another.
use Rattle.std.proofs.Common.{◌≡◌, ℕ, ◌+◌, ◌<◌, ◌≤◌, ◌||◌, Bool, true, false, List, [], ◌∷◌, ◌++◌, length, slice_get, Some, refl, sym, ap, ◌∙◌, subst, arith, inl, inr, ◌⊎◌, count_by}
use Rattle.std.specs.Prelude.{◌==◌, if◌then◌else◌}
use Rattle.std.proofs.lemmas.List.Sums.{sum_by-append}
use Rattle.std.proofs.lemmas.Bool.Decides.{nat_tests}
use Rattle.std.proofs.lemmas.Bool.{cases_lt}
use mathlib.Core.List.{IsPrefix}
use Rattle.lk_session.specs.declared.view.View.{View}
use Rattle.lk_session.specs.declared.view.Submission.{Submission}
use Rattle.lk_session.specs.Rule.{times}
use Rattle.lk_session.specs.Texts.{Says, units_in, units_of}
use Rattle.lk_session.proofs.Prefixes.{prefix_get, prefix_length, prefix_more, prefix_self}
use Rattle.lk_callers.specs.declared.turns.Turns.{Turns}
use Rattle.lk_callers.specs.Turns.{pass_of, IsTurnOf}
use Rattle.lk_callers.specs.Owned.{text_at, call_of, HasTextAt, AreOwn, HasAll, FoundNoRoom, HasAdded}
use Rattle.lk_callers.proofs.Replies.{get_within, units_grow}

get_last : {A : Type 0} (xs : List A) (x : A) → slice_get (xs ++ x ∷ []) (length xs) ≡ Some x
get_last [] x = refl
get_last (y ∷ xs) x = get_last xs x

-- two calls at one place are one
pub one_call : (texts : List (List ℕ)) (seen : List Submission) (x k m : ℕ) → slice_get seen x ≡ Some (call_of texts k) → slice_get seen x ≡ Some (call_of texts m) → k ≡ m
one_call texts seen x k m a b = let e : Some (call_of texts k) ≡ Some (call_of texts m) = sym a ∙ b in let c : call_of texts k ≡ call_of texts m = cc in ap (λ (s : Submission). s.tag) c

neither : (a b : Bool) → (a || b) ≡ false → (a ≡ false) × (b ≡ false)
neither true b e = absurd cc
neither false b e = (refl, e)

one_of : (a b : Bool) → (a || b) ≡ true → (a ≡ true) ⊎ (b ≡ true)
one_of true b e = inl refl
one_of false b e = inr e

module _ (texts : List (List ℕ)) where
  -- what stood at a place stands there still
  pub has_more : (v w : View) (x k : ℕ) → IsPrefix v.seen w.seen → 0 < times x w → HasTextAt texts v x k → HasTextAt texts w x k
  has_more v w x k p o h = record { own = o; call = prefix_get v.seen w.seen x (call_of texts k) p h.call }

  -- and what stands there is what stood there
  has_before : (t : Turns) (low high below : ℕ) (v w : View) (x k : ℕ) → AreOwn texts t low high below v → IsPrefix v.seen w.seen → 0 < times x v → HasTextAt texts w x k → (k < below) × IsTurnOf t low high k × HasTextAt texts v x k
  has_before t low high below v w x k a p o h =
      let e = a.each x o in
      let same : e.0 ≡ k = one_call texts w.seen x e.0 k (prefix_get v.seen w.seen x (call_of texts e.0) p e.3.call) h.call in
      subst (λ (j : ℕ). (j < below) × IsTurnOf t low high j × HasTextAt texts v x j) same (e.1, e.2, e.3)

  -- the list grew, and nothing was added
  own_grows : (t : Turns) (low high below : ℕ) (v w : View) → AreOwn texts t low high below v → IsPrefix v.seen w.seen → w.mine ≡ v.mine → AreOwn texts t low high below w
  own_grows t low high below v w a p m =
      let same : (x : ℕ) → times x w ≡ times x v = λ x. ap (λ (l : List ℕ). count_by (λ y. y == x) l) m in
      record {
        each = λ x o. let e = a.each x (omega (arith, o, same x)) in (e.0, e.1, e.2, has_more v w x e.0 p o e.3);
        rise = λ x y k j h i lt one. a.rise x y k j (has_before t low high below v w x k a p (omega (arith, h.own, same x)) h).2 (has_before t low high below v w y j a p (omega (arith, i.own, same y)) i).2 lt one;
      }

  all_grows : (t : Turns) (low high below : ℕ) (v w : View) → HasAll texts t low high below v → IsPrefix v.seen w.seen → w.mine ≡ v.mine → HasAll texts t low high below w
  all_grows t low high below v w a p m k lt of =
      let h = a k lt of in
      let same : times h.0 w ≡ times h.0 v = ap (λ (l : List ℕ). count_by (λ y. y == h.0) l) m in
      (h.0, has_more v w h.0 k p (omega (arith, h.1.own, same)) h.1)

  much_grows : (stated : Says) (t : Turns) (low high below : ℕ) (v w : View) → AreOwn texts t low high below v → FoundNoRoom stated texts t low high v → IsPrefix v.seen w.seen → w.mine ≡ v.mine → FoundNoRoom stated texts t low high w
  much_grows stated t low high below v w a u p m =
      let same : (x : ℕ) → times x w ≡ times x v = λ x. ap (λ (l : List ℕ). count_by (λ y. y == x) l) m in
      record {
        text = u.text;
        within = u.within;
        turn = u.turn;
        not_own = λ x h. u.not_own x (has_before t low high below v w x u.text a p (omega (arith, h.own, same x)) h).2;
        too_many = (let g = units_grow stated v.seen w.seen p in let b = u.too_many in omega arith);
      }

  pub added_grows : (stated : Says) (t : Turns) (low high below : ℕ) (full : Bool) (v w : View) → HasAdded stated texts t low high below full v → IsPrefix v.seen w.seen → w.mine ≡ v.mine → HasAdded stated texts t low high below full w
  added_grows stated t low high below full v w h p m = record {
    own = own_grows t low high below v w h.own p m;
    all = λ f. all_grows t low high below v w (h.all f) p m;
    too_much = λ f. much_grows stated t low high below v w h.own (h.too_much f) p m;
  }

  -- a text has its turn that is none of these
  own_passes : (t : Turns) (low high below more : ℕ) (v : View) → below ≤ more → AreOwn texts t low high below v → AreOwn texts t low high more v
  own_passes t low high below more v le a = record {
    each = λ x o. let e = a.each x o in (e.0, (let l = e.1 in omega arith), e.2, e.3);
    rise = a.rise;
  }

  not_of : (t : Turns) (n k : ℕ) → (pass_of t k ≡ n → ⊥) → IsTurnOf t n (n + 1) k → ⊥
  not_of t n k never of = never (let a = of.0 in let b = of.1 in omega arith)

  pub other_passes : (stated : Says) (t : Turns) (n k : ℕ) (full : Bool) (v : View) → (full ≡ false → pass_of t k ≡ n → ⊥) → HasAdded stated texts t n (n + 1) k full v → HasAdded stated texts t n (n + 1) (k + 1) full v
  other_passes stated t n k full v never h = record {
    own = own_passes t n (n + 1) k (k + 1) v (omega arith) h.own;
    all = λ f j lt of. elim (cases_lt j k) [
      | inl l ↦ h.all f j l of
      | inr ge ↦ let e : j ≡ k = omega (arith, lt, ge) in absurd (not_of t n k (never f) (subst (IsTurnOf t n (n + 1)) e of))
    ];
    too_much = h.too_much;
  }

  -- the list had no room for a text
  pub full_is : (stated : Says) (t : Turns) (n k units : ℕ) (v w : View) → pass_of t k ≡ n → k < length texts → HasAdded stated texts t n (n + 1) k false v → IsPrefix v.seen w.seen → w.mine ≡ v.mine
      → units ≡ length (units_of stated w.seen) → 65536 < units + length (units_in stated (text_at texts k)) → HasAdded stated texts t n (n + 1) (k + 1) true w
  full_is stated t n k units v w turn within h p m is much =
      let own : AreOwn texts t n (n + 1) k w = own_grows t n (n + 1) k v w h.own p m in
      record {
        own = own_passes t n (n + 1) k (k + 1) w (omega arith) own;
        all = λ f. absurd cc;
        too_much = λ f. record {
          text = k;
          within = within;
          turn = (let e = turn in omega arith, let e = turn in omega arith);
          not_own = λ x g. let b = has_before t n (n + 1) k w w x k own (prefix_self w.seen) g.own g in (let l : k < k = b.0 in omega arith);
          too_many = omega arith;
        };
      }

  -- a text was added
  module _ (t : Turns) (n k : ℕ) (v w : View) (earlier : List Submission) (turn : pass_of t k ≡ n) (a : AreOwn texts t n (n + 1) k v) (order : IsPrefix v.seen earlier)
      (last : w.seen ≡ earlier ++ call_of texts k ∷ []) (mine : w.mine ≡ v.mine ++ length earlier ∷ []) where
    more : (x : ℕ) → times x w ≡ times x v + count_by (λ y. y == x) (length earlier ∷ [])
    more x = ap (λ (l : List ℕ). count_by (λ y. y == x) l) mine ∙ sum_by-append (λ y. if y == x then 1 else 0) v.mine (length earlier ∷ [])

    here : times (length earlier) w ≡ times (length earlier) v + 1
    here = let e : (length earlier == length earlier) ≡ true = grind (arith, nat_tests) in more (length earlier) ∙ rw e refl

    elsewhere : (x : ℕ) → (x ≡ length earlier → ⊥) → times x w ≡ times x v
    elsewhere x never = let e : (length earlier == x) ≡ false = grind (arith, nat_tests, never) in more x ∙ rw e (omega arith)

    grown : IsPrefix v.seen w.seen
    grown = subst (λ (l : List Submission). IsPrefix v.seen l) (sym last) (prefix_more v.seen earlier (call_of texts k ∷ []) order)

    new : HasTextAt texts w (length earlier) k
    new = record {
      own = (let h = here in omega arith);
      call = ap (λ (l : List Submission). slice_get l (length earlier)) last ∙ get_last earlier (call_of texts k);
    }

    old_below : (x : ℕ) → 0 < times x v → x < length earlier
    old_below x o = let e = a.each x o in let l = get_within v.seen x (call_of texts e.0) e.3.call in let g = prefix_length v.seen earlier order in omega arith

    -- each own place is the new one or an old one
    which : (x : ℕ) → 0 < times x w → (x ≡ length earlier) ⊎ ((x < length earlier) × (0 < times x v))
    which x o = elim (cases_lt x (length earlier)) [
      | inl lt ↦ inr (lt, omega (arith, o, elsewhere x (λ e. omega (arith, lt, e))))
      | inr ge ↦ elim (cases_lt (length earlier) x) [
        | inl gt ↦ let same = elsewhere x (λ e. omega (arith, gt, e)) in let l = old_below x (omega (arith, o, same)) in absurd (omega (arith, l, gt))
        | inr le ↦ inl (omega (arith, ge, le))
      ]
    ]

    own_more : AreOwn texts t n (n + 1) (k + 1) w
    own_more = record {
      each = λ x o. elim (which x o) [
        | inl e ↦ (k, omega arith, (let q = turn in omega arith, let q = turn in omega arith), subst (λ (y : ℕ). HasTextAt texts w y k) (sym e) new)
        | inr old ↦ let h = a.each x old.1 in (h.0, (let l = h.1 in omega arith), h.2, has_more v w x h.0 grown o h.3)
      ];
      rise = λ x y j m h i lt one. elim (which y i.own) [
        | inl e ↦
            let is : m ≡ k = one_call texts w.seen y m k i.call (subst (λ (z : ℕ). slice_get w.seen z ≡ Some (call_of texts k)) (sym e) new.call) in
            elim (which x h.own) [
              | inl f ↦ absurd (omega (arith, lt, e, f))
              | inr old ↦ let b = has_before t n (n + 1) k v w x j a grown old.1 h in let l = b.0 in omega arith
            ]
        | inr oldy ↦ elim (which x h.own) [
          | inl f ↦ let l = oldy.0 in absurd (omega (arith, lt, f, l))
          | inr old ↦ a.rise x y j m (has_before t n (n + 1) k v w x j a grown old.1 h).2 (has_before t n (n + 1) k v w y m a grown oldy.1 i).2 lt one
        ]
      ];
    }

    pub all_more : HasAll texts t n (n + 1) k v → HasAll texts t n (n + 1) (k + 1) w
    all_more all j lt of = elim (cases_lt j k) [
      | inl l ↦ let h = all j l of in let o = h.1.own in (h.0, has_more v w h.0 j grown (let m = more h.0 in omega arith) h.1)
      | inr ge ↦ let e : k ≡ j = omega (arith, lt, ge) in (length earlier, subst (λ (i : ℕ). HasTextAt texts w (length earlier) i) e new)
    ]

    pub text_added : (stated : Says) → HasAll texts t n (n + 1) k v → HasAdded stated texts t n (n + 1) (k + 1) false w
    text_added stated all = record {
      own = own_more;
      all = λ f. all_more all;
      too_much = λ f. absurd cc;
    }

  -- one pass takes in another, of the number just below
  module _ (stated : Says) (t : Turns) (low high : ℕ) (v u w : View) (full also : Bool) (hv : HasAdded stated texts t (low + 1) high (length texts) full v) (hu : HasAdded stated texts t low (low + 1) (length texts) also u)
      (pv : IsPrefix v.seen w.seen) (pu : IsPrefix u.seen w.seen) (mine : w.mine ≡ v.mine ++ u.mine) (some : low + 1 ≤ high) where
    both : (x : ℕ) → times x w ≡ times x v + times x u
    both x = ap (λ (l : List ℕ). count_by (λ y. y == x) l) mine ∙ sum_by-append (λ y. if y == x then 1 else 0) v.mine u.mine

    either : (x : ℕ) → 0 < times x w → (0 < times x v) ⊎ (0 < times x u)
    either x o = elim (cases_lt 0 (times x v)) [
      | inl l ↦ inl l
      | inr le ↦ inr (let b = both x in omega (arith, le, b, o))
    ]

    lower : (k : ℕ) → IsTurnOf t (low + 1) high k → IsTurnOf t low high k
    lower k of = let a = of.0 in let b = of.1 in (omega arith, b)

    higher : (k : ℕ) → IsTurnOf t low (low + 1) k → IsTurnOf t low high k
    higher k of = let a = of.0 in let b = of.1 in (a, omega arith)

    apart : (k m : ℕ) → IsTurnOf t (low + 1) high k → IsTurnOf t low (low + 1) m → pass_of t k ≡ pass_of t m → ⊥
    apart k m a b e = let p = a.0 in let q = b.1 in absurd (omega (arith, p, q, e))

    in_v : (x k : ℕ) → 0 < times x v → HasTextAt texts w x k → (k < length texts) × IsTurnOf t (low + 1) high k × HasTextAt texts v x k
    in_v x k o h = has_before t (low + 1) high (length texts) v w x k hv.own pv o h

    in_u : (x k : ℕ) → 0 < times x u → HasTextAt texts w x k → (k < length texts) × IsTurnOf t low (low + 1) k × HasTextAt texts u x k
    in_u x k o h = has_before t low (low + 1) (length texts) u w x k hu.own pu o h

    own_both : AreOwn texts t low high (length texts) w
    own_both = record {
      each = λ x o. elim (either x o) [
        | inl a ↦ let h = hv.own.each x a in (h.0, h.1, lower h.0 h.2, has_more v w x h.0 pv o h.3)
        | inr b ↦ let h = hu.own.each x b in (h.0, h.1, higher h.0 h.2, has_more u w x h.0 pu o h.3)
      ];
      rise = λ x y k m h i lt one. elim (either x h.own) [
        | inl a ↦ elim (either y i.own) [
          | inl c ↦ hv.own.rise x y k m (in_v x k a h).2 (in_v y m c i).2 lt one
          | inr d ↦ absurd (apart k m (in_v x k a h).1 (in_u y m d i).1 one)
        ]
        | inr b ↦ elim (either y i.own) [
          | inl c ↦ absurd (apart m k (in_v y m c i).1 (in_u x k b h).1 (sym one))
          | inr d ↦ hu.own.rise x y k m (in_u x k b h).2 (in_u y m d i).2 lt one
        ]
      ];
    }

    all_both : HasAll texts t (low + 1) high (length texts) v → HasAll texts t low (low + 1) (length texts) u → HasAll texts t low high (length texts) w
    all_both a b k lt of = elim (cases_lt low (pass_of t k)) [
      | inl gt ↦ let h = a k lt (omega (arith, gt), of.1) in let o = h.1.own in (h.0, has_more v w h.0 k pv (let m = both h.0 in omega arith) h.1)
      | inr le ↦ let h = b k lt (of.0, omega (arith, le)) in let o = h.1.own in (h.0, has_more u w h.0 k pu (let m = both h.0 in omega arith) h.1)
    ]

    much_first : FoundNoRoom stated texts t (low + 1) high v → FoundNoRoom stated texts t low high w
    much_first m = record {
      text = m.text;
      within = m.within;
      turn = lower m.text m.turn;
      not_own = λ x h. elim (either x h.own) [
        | inl a ↦ m.not_own x (in_v x m.text a h).2
        | inr b ↦ apart m.text m.text m.turn (in_u x m.text b h).1 refl
      ];
      too_many = (let g = units_grow stated v.seen w.seen pv in let b = m.too_many in omega arith);
    }

    much_second : FoundNoRoom stated texts t low (low + 1) u → FoundNoRoom stated texts t low high w
    much_second m = record {
      text = m.text;
      within = m.within;
      turn = higher m.text m.turn;
      not_own = λ x h. elim (either x h.own) [
        | inl a ↦ apart m.text m.text (in_v x m.text a h).1 m.turn refl
        | inr b ↦ m.not_own x (in_u x m.text b h).2
      ];
      too_many = (let g = units_grow stated u.seen w.seen pu in let b = m.too_many in omega arith);
    }

    pub joined : (whole : Bool) → (whole ≡ (full || also)) → HasAdded stated texts t low high (length texts) whole w
    joined whole e = record {
      own = own_both;
      all = λ f. let n = neither full also (sym e ∙ f) in all_both (hv.all n.0) (hu.all n.1);
      too_much = λ f. elim (one_of full also (sym e ∙ f)) [
        | inl a ↦ much_first (hv.too_much a)
        | inr b ↦ much_second (hu.too_much b)
      ];
    }
