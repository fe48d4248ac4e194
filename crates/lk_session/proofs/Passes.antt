-- Split and Join keep the rule.
use Rattle.std.proofs.Common.{◌≡◌, ◌≢◌, ℕ, ◌+◌, ◌<◌, ◌≤◌, true, false, min, List, [], ◌∷◌, ◌++◌, length, nat_lt, slice_index, refl, sym, ap, ◌∙◌, subst, arith, set, get_or-set_other, get_or-set_same, length-set, inl, inr}
use Rattle.std.specs.Prelude.{◌==◌, if◌then◌else◌}
use Rattle.std.proofs.lemmas.List.Sums.{sum_by-append}
use Rattle.std.proofs.lemmas.Bool.Decides.{nat_tests}
use Rattle.std.proofs.lemmas.Bool.{cases_lt}
use mathlib.Core.Option.{some}
use mathlib.Core.List.{IsPrefix}
use lib.ListN.{get_elem?}
use Rattle.atomic_table.proofs.Lists.{set_else, at_longer}
use Rattle.lk_session.specs.declared.view.View.{View}
use Rattle.lk_session.specs.declared.view.Submission.{Submission}
use Rattle.lk_session.specs.Rule.{Session, IsSession, IsSeated, pass_word, times, spent_view}
use Rattle.lk_session.specs.Steps.{asked, cut, newcomer, longer, both_views, after_ask, after_cut, after_join, with_word}
use Rattle.lk_session.proofs.Prefixes.{prefix_self, prefix_shorter, all_cons, all_none}
use Rattle.lk_session.proofs.Views.{sum_set, sum_added, sum_two, sum_le, each_one, each_two, each_more}
use Rattle.lk_session.proofs.Calls.{off, spent_fits}

pub asked_below : (n : ℕ) (v : View) → n < 65536 → asked n v ≡ record v { pending = v.pending + 1 }
asked_below n v lt = let t : nat_lt n 65536 ≡ true = grind (arith, nat_tests) in rw t refl

pub asked_past : (n : ℕ) (v : View) → 65536 ≤ n → asked n v ≡ record v { refusals = v.refusals + 1 }
asked_past n v le = let t : nat_lt n 65536 ≡ false = grind (arith, nat_tests) in rw t refl

-- the second word passes 65,536 by 65,536 at most
pub passes_few : (s : Session) → IsSession s → pass_word s ≤ 131072
passes_few s kept = let le = sum_le (λ v. v.refusals) (λ v. v.passes + v.pending) s.views (λ i u at. let r = (kept.each i u at).refusals in omega arith) in let e = kept.passes in let r = kept.refused in omega arith

-- of two beginnings of one list each begins the longer
longer_fits : (log xs ys : List Submission) → IsPrefix xs log → IsPrefix ys log → IsPrefix (longer xs ys) log × IsPrefix xs (longer xs ys) × IsPrefix ys (longer xs ys)
longer_fits log xs ys p q = elim (cases_lt (length xs) (length ys)) [
  | inl lt ↦
      let t : nat_lt (length xs) (length ys) ≡ true = grind (arith, nat_tests) in
      let e : longer xs ys ≡ ys = rw t refl in
      rw e (q, prefix_shorter xs ys log p q (omega (arith, lt)), prefix_self ys)
  | inr le ↦
      let t : nat_lt (length xs) (length ys) ≡ false = grind (arith, nat_tests) in
      let e : longer xs ys ≡ xs = rw t refl in
      rw e (p, prefix_self xs, prefix_shorter ys xs log q p (omega (arith, le)))
]

module _ (s : Session) (kept : IsSession s) (id : ℕ) (v : View) (at : get_elem? s.views id ≡ some v) where
  abbrev Fits : ℕ → View → Type 0
  Fits i u = (u.keeps ≡ true → i ≡ kept.keeper) × IsSeated kept.log u

  -- where a pass's view is changed the book's view stays
  book_stays : (w : View) → v.keeps ≡ false → (b : View) × (get_elem? (set s.views id w) kept.keeper ≡ some b) × (b.keeps ≡ true)
  book_stays w pass = (
    kept.book.0,
    set_else s.views id kept.keeper w (λ h. off kept.book.0.keeps (same_view h) kept.book.2) ∙ kept.book.1,
    kept.book.2,
  )
    where
      same_view : kept.keeper ≡ id → kept.book.0.keeps ≡ false
      same_view h = let e : some kept.book.0 ≡ some v = sym kept.book.1 ∙ (ap (get_elem? s.views) h ∙ at) in let f : kept.book.0 ≡ v = cc in ap (λ (u : View). u.keeps) f ∙ pass

  -- the second word rises by one, and a view is changed
  counted_on : (w : View) → v.keeps ≡ false → Fits id w → ((x : ℕ) → times x w ≡ times x v)
      → min (pass_word s) 65536 + w.passes + w.pending ≡ min (pass_word s + 1) 65536 + v.passes + v.pending
      → pass_word s + 1 + min (pass_word s) 65536 + v.refusals ≡ min (pass_word s + 1) 65536 + pass_word s + w.refusals
      → IsSession (with_word s 1 (pass_word s + 1) id w)
  counted_on w pass new mine passes refusals =
      let n = pass_word s in
      let word : slice_index (set s.words 1 (n + 1)) 1 ≡ n + 1 = get_or-set_same s.words 1 (n + 1) 0 (let l = kept.words in omega arith) in
      let other : slice_index (set s.words 1 (n + 1)) 0 ≡ slice_index s.words 0 = get_or-set_other s.words 1 0 (n + 1) 0 (λ h. omega arith) in
      let fits : (i : ℕ) (u : View) → get_elem? (set s.views id w) i ≡ some u → Fits i u =
      each_one Fits s.views id w (λ i u ne t. (kept.only i u t, kept.each i u t)) new in
      record {
        words = length-set s.words 1 (n + 1) ∙ kept.words;
        log = kept.log;
        keeper = kept.keeper;
        book = book_stays w pass;
        only = λ i u t k. (fits i u t).0 k;
        count = rw other kept.count;
        each = λ i u t. (fits i u t).1;
        once = λ x. rw other (let e = sum_set (times x) s.views id v w at in let o = kept.once x in let t = mine x in omega arith);
        passes = rw word (let e = sum_set (λ z. z.passes + z.pending) s.views id v w at in let k = kept.passes in omega arith);
        refused = rw word (let e = sum_set (λ z. z.refusals) s.views id v w at in let k = kept.refused in omega arith);
      }

  pub ask_keeps : v.keeps ≡ false → 0 < v.passes → v.refusals ≡ 0 → IsSession (after_ask s id v)
  ask_keeps pass alive clear =
      let a = kept.each id v at in
      let n = pass_word s in
      elim (cases_lt n 65536) [
        | inl lt ↦ subst (λ (w : View). IsSession (with_word s 1 (n + 1) id w)) (sym (asked_below n v lt))
            (counted_on (record v { pending = v.pending + 1 }) pass (
              (λ k. off v.keeps pass k),
              record { seen = a.seen; whole = λ k. off v.keeps pass k; olds = a.olds; refusals = a.refusals; spent = λ k p. absurd (let bad : v.passes ≡ 0 = p in omega arith) },
            )
            (λ x. refl) (omega arith) (omega arith))
        | inr le ↦ subst (λ (w : View). IsSession (with_word s 1 (n + 1) id w)) (sym (asked_past n v le))
            (counted_on (record v { refusals = v.refusals + 1 }) pass (
              (λ k. off v.keeps pass k),
              record { seen = a.seen; whole = λ k. off v.keeps pass k; olds = a.olds; refusals = (let p : v.refusals + 1 ≤ v.passes = omega arith in p); spent = λ k p. absurd (let bad : v.passes ≡ 0 = p in omega arith) },
            )
            (λ x. refl) (omega arith) (omega arith))
      ]

  pub cut_keeps : v.keeps ≡ false → 0 < v.passes → 0 < v.pending → IsSession (after_cut s id v)
  cut_keeps pass alive coming =
      let a = kept.each id v at in
      let w : View = cut v in
      let new : View = newcomer v in
      let fits : (i : ℕ) (u : View) → get_elem? (set s.views id w ++ new ∷ []) i ≡ some u → Fits i u =
      each_more Fits s.views id w new (λ i u ne t. (kept.only i u t, kept.each i u t)) (
        (λ k. off v.keeps pass k),
        record { seen = a.seen; whole = λ k. off v.keeps pass k; olds = a.olds; refusals = a.refusals; spent = λ k p. absurd (let bad : v.passes ≡ 0 = p in omega arith) },
      )
      (λ i. (
        (λ k. off false refl k),
        record { seen = a.seen; whole = λ k. off false refl k; olds = all_none (λ o. IsPrefix o v.seen); refusals = omega arith; spent = λ k p. absurd (let bad : 1 ≡ 0 = p in omega arith) },
      )) in
      let stays = book_stays w pass in
      record {
        words = kept.words;
        log = kept.log;
        keeper = kept.keeper;
        book = (stays.0, at_longer (set s.views id w) (new ∷ []) kept.keeper stays.0 stays.1, stays.2);
        only = λ i u t k. (fits i u t).0 k;
        count = kept.count;
        each = λ i u t. (fits i u t).1;
        once = λ x. (let e = sum_added (times x) s.views id v w new at in let o = kept.once x in let p : times x w ≡ times x v = refl in let q : times x new ≡ 0 = refl in omega arith);
        passes = (let e = sum_added (λ z. z.passes + z.pending) s.views id v w new at in let k = kept.passes in let p : w.passes + w.pending + 1 ≡ v.passes + v.pending = omega arith in let q : new.passes + new.pending ≡ 1 = refl in omega arith);
        refused = (let e = sum_added (λ z. z.refusals) s.views id v w new at in let k = kept.refused in let p : w.refusals ≡ v.refusals = refl in let q : new.refusals ≡ 0 = refl in omega arith);
      }

  pub join_keeps : (other : ℕ) (w : View) → v.keeps ≡ false → w.keeps ≡ false → 0 < v.passes → other ≢ id → get_elem? s.views other ≡ some w → IsSession (after_join s id v other w)
  join_keeps other w pass pass-w alive ne there-w =
      let a = kept.each id v at in
      let b = kept.each other w there-w in
      let both : View = both_views v w in
      let long = longer_fits kept.log v.seen w.seen a.seen b.seen in
      let at-w : get_elem? (set s.views id both) other ≡ some w = set_else s.views id other both ne ∙ there-w in
      let fits : (i : ℕ) (u : View) → get_elem? (set (set s.views id both) other spent_view) i ≡ some u → Fits i u =
      each_two Fits s.views id other both spent_view (λ i u n m t. (kept.only i u t, kept.each i u t)) (
        (λ k. off v.keeps pass k),
        record {
          seen = long.0;
          whole = λ k. off v.keeps pass k;
          olds = all_cons (λ o. IsPrefix o (longer v.seen w.seen)) v.seen (w.seen ∷ []) long.1 (all_cons (λ o. IsPrefix o (longer v.seen w.seen)) w.seen [] long.2 (all_none (λ o. IsPrefix o (longer v.seen w.seen))));
          refusals = (let p = a.refusals in let q = b.refusals in omega arith);
          spent = λ k p. absurd (let bad : v.passes + w.passes ≡ 0 = p in omega arith);
        },
      )
      ((λ k. off false refl k), spent_fits kept.log) in
      let stays = book_stays both pass in
      record {
        words = kept.words;
        log = kept.log;
        keeper = kept.keeper;
        book = (
          stays.0,
          set_else (set s.views id both) other kept.keeper spent_view (λ h. off stays.0.keeps (let e : some stays.0 ≡ some w = sym stays.1 ∙ (ap (get_elem? (set s.views id both)) h ∙ at-w) in let f : stays.0 ≡ w = cc in ap (λ (u : View). u.keeps) f ∙ pass-w) stays.2) ∙ stays.1,
          stays.2,
        );
        only = λ i u t k. (fits i u t).0 k;
        count = kept.count;
        each = λ i u t. (fits i u t).1;
        once = λ x. (let e = sum_two (times x) s.views id other v both w spent_view at at-w in let o = kept.once x in let t : times x both ≡ times x v + times x w = sum_by-append (λ y. if y == x then 1 else 0) v.mine w.mine in let z : times x spent_view ≡ 0 = refl in omega arith);
        passes = (let e = sum_two (λ z. z.passes + z.pending) s.views id other v both w spent_view at at-w in let k = kept.passes in omega arith);
        refused = (let e = sum_two (λ z. z.refusals) s.views id other v both w spent_view at at-w in let k = kept.refused in omega arith);
      }
