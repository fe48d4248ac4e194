-- Meet, Count and Part keep the rule.
use Rattle.std.proofs.Common.{◌≡◌, ◌≢◌, ℕ, ◌+◌, ◌<◌, Bool, true, false, List, [], ◌∷◌, ◌++◌, slice_index, refl, sym, ap, ◌∙◌, subst, arith, set, get_or-set_other, get_or-set_same, length-set, length-append, zero-add, true≢false}
use Rattle.std.specs.Prelude.{◌==◌, if◌then◌else◌}
use Rattle.std.proofs.lemmas.List.Sums.{sum_by-append}
use Rattle.std.proofs.lemmas.Bool.Decides.{nat_tests}
use mathlib.Core.Option.{some}
use mathlib.Core.List.{IsPrefix}
use lib.ListN.{get_elem?}
use Rattle.atomic_table.proofs.Lists.{set_here, set_else, at_longer}
use Rattle.lk_session.specs.declared.view.View.{View}
use Rattle.lk_session.specs.declared.view.Submission.{Submission}
use Rattle.lk_session.specs.Rule.{Session, IsSession, IsSeated, call_word, times, once_below, spent_view}
use Rattle.lk_session.specs.Steps.{met, counted, left_alone, parted, after_meet, after_count, after_part}
use Rattle.lk_session.proofs.Prefixes.{prefix_self, prefix_more, prefix_none, all_cons, all_none, all_map}
use Rattle.lk_session.proofs.Views.{there, sum_set, sum_added, sum_two, each_one, each_two, each_more}

pub off : {A : Type 0} (b : Bool) → b ≡ false → b ≡ true → A
off b f t = absurd (true≢false (sym t ∙ f))

-- a view that is spent fits any list
pub spent_fits : (log : List Submission) → IsSeated log spent_view
spent_fits log = record {
  seen = prefix_none log;
  whole = λ k. off false refl k;
  olds = all_none (λ o. IsPrefix o []);
  refusals = omega arith;
  spent = λ k p. refl;
}

once_more : (x n : ℕ) → once_below x (n + 1) ≡ once_below x n + (if n == x then 1 else 0)
once_more x n = grind (arith, nat_tests)

times-count : (x n : ℕ) (call : Submission) (v : View) → times x (counted call n v) ≡ times x v + (if n == x then 1 else 0)
times-count x n call v = sum_by-append (λ y. if y == x then 1 else 0) v.mine (n ∷ []) ∙ ap (λ k. times x v + k) (zero-add (if n == x then 1 else 0))

-- the list grows, and one that is not the book's fits it still
grown : (log : List Submission) (call : Submission) (v : View) → v.keeps ≡ false → IsSeated log v → IsSeated (log ++ call ∷ []) v
grown log call v other fits = record {
  seen = prefix_more v.seen log (call ∷ []) fits.seen;
  whole = λ k. off v.keeps other k;
  olds = fits.olds;
  refusals = fits.refusals;
  spent = fits.spent;
}

is_false : (b : Bool) → (b ≡ true → false ≡ true) → b ≡ false
is_false true h = sym (h refl)
is_false false h = refl

module _ (s : Session) (kept : IsSession s) (id : ℕ) (v : View) (at : get_elem? s.views id ≡ some v) where
  -- only the book's view is the book's
  pub apart : v.keeps ≡ true → (i : ℕ) (u : View) → i ≢ id → get_elem? s.views i ≡ some u → u.keeps ≡ false
  apart keeps i u ne there-u = is_false u.keeps (λ k. absurd (ne (kept.only i u there-u k ∙ sym (kept.only id v at keeps))))

  abbrev Fits : ℕ → View → Type 0
  Fits i u = (u.keeps ≡ true → i ≡ kept.keeper) × IsSeated kept.log u

  pub meet_keeps : (other : ℕ) (w : View) → v.keeps ≡ true → w.keeps ≡ false → other ≢ id → get_elem? s.views other ≡ some w → IsSession (after_meet s id v other w)
  meet_keeps other w keeps pass ne there-w =
      let a = kept.each id v at in
      let b = kept.each other w there-w in
      let same : v.seen ≡ kept.log = a.whole keeps in
      let here : id ≡ kept.keeper = kept.only id v at keeps in
      let both : View = met v w in
      let at-w : get_elem? (set s.views id both) other ≡ some w = set_else s.views id other both ne ∙ there-w in
      let fits : (i : ℕ) (u : View) → get_elem? (set (set s.views id both) other spent_view) i ≡ some u → Fits i u =
      each_two Fits s.views id other both spent_view (λ i u n m t. (kept.only i u t, kept.each i u t)) (
        (λ k. here),
        record {
          seen = a.seen;
          whole = λ k. same;
          olds = all_cons (λ o. IsPrefix o v.seen) w.seen v.olds (subst (λ (l : List Submission). IsPrefix w.seen l) (sym same) b.seen) a.olds;
          refusals = (let p = a.refusals in let q = b.refusals in omega arith);
          spent = λ k p. off v.keeps k keeps;
        },
      )
      ((λ k. off false refl k), spent_fits kept.log) in
      record {
        words = kept.words;
        log = kept.log;
        keeper = id;
        book = (both, set_else (set s.views id both) other id spent_view (λ h. ne (sym h)) ∙ set_here s.views id both (there s.views id v at).0, keeps);
        only = λ i u t k. (fits i u t).0 k ∙ sym here;
        count = kept.count;
        each = λ i u t. (fits i u t).1;
        once = λ x. (let e = sum_two (times x) s.views id other v both w spent_view at at-w in let o = kept.once x in let t : times x both ≡ times x v + times x w = sum_by-append (λ y. if y == x then 1 else 0) v.mine w.mine in let z : times x spent_view ≡ 0 = refl in omega arith);
        passes = (let e = sum_two (λ z. z.passes + z.pending) s.views id other v both w spent_view at at-w in let k = kept.passes in omega arith);
        refused = (let e = sum_two (λ z. z.refusals) s.views id other v both w spent_view at at-w in let k = kept.refused in omega arith);
      }

  pub count_keeps : (call : Submission) → v.keeps ≡ true → IsSession (after_count s id v call)
  count_keeps call keeps =
      let a = kept.each id v at in
      let n = call_word s in
      let same : v.seen ≡ kept.log = a.whole keeps in
      let here : id ≡ kept.keeper = kept.only id v at keeps in
      let w : View = counted call n v in
      let log : List Submission = kept.log ++ call ∷ [] in
      let full : v.seen ++ call ∷ [] ≡ log = ap (λ (l : List Submission). l ++ call ∷ []) same in
      let Now : ℕ → View → Type 0 = λ i u. (u.keeps ≡ true → i ≡ kept.keeper) × IsSeated log u in
      let word : slice_index (set s.words 0 (n + 1)) 0 ≡ n + 1 = get_or-set_same s.words 0 (n + 1) 0 (let l = kept.words in omega arith) in
      let other : slice_index (set s.words 0 (n + 1)) 1 ≡ slice_index s.words 1 = get_or-set_other s.words 0 1 (n + 1) 0 (λ h. omega arith) in
      let fits : (i : ℕ) (u : View) → get_elem? (set s.views id w) i ≡ some u → Now i u =
      each_one Now s.views id w (λ i u ne t. (kept.only i u t, grown kept.log call u (apart keeps i u ne t) (kept.each i u t))) (
        (λ k. here),
        record {
          seen = subst (λ (l : List Submission). IsPrefix (v.seen ++ call ∷ []) l) full (prefix_self (v.seen ++ call ∷ []));
          whole = λ k. full;
          olds = all_map (λ o. IsPrefix o v.seen) (λ o. IsPrefix o (v.seen ++ call ∷ [])) v.olds (λ o p. prefix_more o v.seen (call ∷ []) p) a.olds;
          refusals = a.refusals;
          spent = λ k p. off v.keeps k keeps;
        },
      ) in
      record {
        words = length-set s.words 0 (n + 1) ∙ kept.words;
        log = log;
        keeper = id;
        book = (w, set_here s.views id w (there s.views id v at).0, keeps);
        only = λ i u t k. (fits i u t).0 k ∙ sym here;
        count = rw word (let l = length-append kept.log (call ∷ []) in let c = kept.count in omega arith);
        each = λ i u t. (fits i u t).1;
        once = λ x. rw word (let e = sum_set (times x) s.views id v w at in let o = kept.once x in let t : times x w ≡ times x v + (if n == x then 1 else 0) = times-count x n call v in let m = once_more x n in omega arith);
        passes = rw other (let e = sum_set (λ z. z.passes + z.pending) s.views id v w at in let k = kept.passes in omega arith);
        refused = rw other (let e = sum_set (λ z. z.refusals) s.views id v w at in let k = kept.refused in omega arith);
      }

  pub part_keeps : v.keeps ≡ true → 0 < v.passes → IsSession (after_part s id v)
  part_keeps keeps alive =
      let a = kept.each id v at in
      let same : v.seen ≡ kept.log = a.whole keeps in
      let here : id ≡ kept.keeper = kept.only id v at keeps in
      let w : View = left_alone v in
      let new : View = parted v in
      let fits : (i : ℕ) (u : View) → get_elem? (set s.views id w ++ new ∷ []) i ≡ some u → Fits i u =
      each_more Fits s.views id w new (λ i u ne t. (kept.only i u t, kept.each i u t)) (
        (λ k. here),
        record {
          seen = a.seen;
          whole = λ k. same;
          olds = all_none (λ o. IsPrefix o v.seen);
          refusals = omega arith;
          spent = λ k p. off true k refl;
        },
      )
      (λ i. (
        (λ k. off false refl k),
        record {
          seen = a.seen;
          whole = λ k. off false refl k;
          olds = a.olds;
          refusals = a.refusals;
          spent = λ k p. absurd (let bad : v.passes ≡ 0 = p in omega arith);
        },
      )) in
      record {
        words = kept.words;
        log = kept.log;
        keeper = id;
        book = (w, at_longer (set s.views id w) (new ∷ []) id w (set_here s.views id w (there s.views id v at).0), refl);
        only = λ i u t k. (fits i u t).0 k ∙ sym here;
        count = kept.count;
        each = λ i u t. (fits i u t).1;
        once = λ x. (let e = sum_added (times x) s.views id v w new at in let o = kept.once x in let p : times x w ≡ 0 = refl in let q : times x new ≡ times x v = refl in omega arith);
        passes = (let e = sum_added (λ z. z.passes + z.pending) s.views id v w new at in let k = kept.passes in let p : w.passes + w.pending ≡ 0 = refl in let q : new.passes + new.pending ≡ v.passes + v.pending = refl in omega arith);
        refused = (let e = sum_added (λ z. z.refusals) s.views id v w new at in let k = kept.refused in let p : w.refusals ≡ 0 = refl in let q : new.refusals ≡ v.refusals = refl in omega arith);
      }
