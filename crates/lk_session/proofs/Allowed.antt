-- What each step of a seat owes to the table.
use Rattle.std.proofs.Common.{◌≡◌, ℕ, zero, suc, ◌+◌, ◌%◌, ◌^◌, ◌<◌, ◌≤◌, true, false, List, [], ◌∷◌, length, get_or, slice_index, refl, sym, ap, ◌∙◌, subst, arith, set}
use Rattle.std.proofs.Math.Nat.{mod-eq_of_lt}
use mathlib.Core.Option.{some, none}
use lib.ListN.{get_elem?}
use Rattle.atomic_table.proofs.Lists.{at_index, set_again, set_else}
use Rattle.atomic_table.specs.Table.{Me, step, Allows, Splits, Joins, keeps}
use Rattle.lk_session.specs.declared.view.View.{View}
use Rattle.lk_session.specs.declared.view.Submission.{Submission}
use Rattle.lk_session.specs.Rule.{Session, IsSession, call_word, pass_word, spent_view, times, once_below}
use Rattle.lk_session.proofs.Views.{part_le}
use Rattle.lk_session.proofs.Whole.{whole}
use Rattle.lk_session.specs.Steps.{with_word, met, counted, left_alone, parted, asked, cut, newcomer, both_views, Looked, Counted, Asked, Told, AreOnce}
use Rattle.lk_session.proofs.Calls.{meet_keeps, count_keeps, part_keeps}
use Rattle.lk_session.proofs.Passes.{ask_keeps, cut_keeps, join_keeps, passes_few}

-- a step that changes nothing
same : (s : Session) → IsSession s → (id : ℕ) (v : View) → get_elem? s.views id ≡ some v → (i : ℕ) → i < length s.words → IsSession (with_word s i (slice_index s.words i) id v)
same s kept id v at i lt =
    let w : set s.words i (slice_index s.words i) ≡ s.words = set_again s.words i (slice_index s.words i) (at_index s.words i (slice_index s.words i) lt (get_or-any s.words i lt)) in
    let u : set s.views id v ≡ s.views = set_again s.views id v at in
    rw (w, u) kept
  where
    get_or-any : (l : List ℕ) (i : ℕ) → i < length l → slice_index l i ≡ get_or l i (slice_index l i)
    get_or-any [] i lt = absurd (omega arith)
    get_or-any (x ∷ l) zero lt = refl
    get_or-any (x ∷ l) (suc i) lt = get_or-any l i (omega arith)

-- the book has seen as many submissions as the word says
whole_count : (s : Session) (kept : IsSession s) (id : ℕ) (v : View) → get_elem? s.views id ≡ some v → v.keeps ≡ true → length v.seen ≡ call_word s
whole_count s kept id v at k = ap length ((kept.each id v at).whole k) ∙ kept.count

-- a place stands once among a view's own, at most, and is below the first word
own_once : (s : Session) → IsSession s → (id : ℕ) (v : View) → get_elem? s.views id ≡ some v → AreOnce v (call_word s)
own_once s kept id v at x = let p = part_le (times x) s.views id v at in let o = kept.once x in omega arith

-- no view came from more passes than were made
few_passes : (s : Session) → IsSession s → (id : ℕ) (v : View) → get_elem? s.views id ≡ some v → v.passes ≤ pass_word s
few_passes s kept id v at = let p = part_le (λ u. u.passes + u.pending) s.views id v at in let e = kept.passes in omega arith

pub tell_allows : (id slots : ℕ) (me : Me ℕ View) → Allows IsSession slots id me 1 (λ n. n) (Told (step slots 1 0 0 none) me)
tell_allows id slots me s kept len at word =
    (me.0, keeps, tt, same s kept id me.0 at 1 (let l = kept.words in omega arith), (refl, few_passes s kept id me.0 at, λ book all x. whole s kept id me.0 at book all x ∙ ap (once_below x) (sym (whole_count s kept id me.0 at book))))

pub look_allows : (id slots : ℕ) (me : Me ℕ View) → Allows IsSession slots id me 0 (λ n. n) (Looked (step slots 0 0 0 none) me)
look_allows id slots me s kept len at word = (me.0, keeps, tt, same s kept id me.0 at 0 (let l = kept.words in omega arith), (refl, (kept.each id me.0 at).olds, whole_count s kept id me.0 at, own_once s kept id me.0 at))

pub count_allows : (id slots : ℕ) (me : Me ℕ View) (call : Submission) → me.0.keeps ≡ true → length me.0.seen + 1 < 2 ^ 64
    → Allows IsSession slots id me 0 (λ n. (n + 1) % 2 ^ 64) (Counted call (step slots 0 1 0 none) me)
count_allows id slots me call book few s kept len at word =
    let e : length me.0.seen ≡ call_word s = whole_count s kept id me.0 at book in
    let fits : call_word s + 1 < 2 ^ 64 = omega arith in
    let next : (call_word s + 1) % 2 ^ 64 ≡ call_word s + 1 = mod-eq_of_lt fits in
    let P : ℕ → Type 0 = λ m. IsSession (with_word s 0 m id (counted call (call_word s) me.0)) in
    (counted call (call_word s) me.0, keeps, tt, subst P (sym next) (count_keeps s kept id me.0 at call book), (refl, (kept.each id me.0 at).olds, e, own_once s kept id me.0 at))

pub ask_allows : (id slots : ℕ) (me : Me ℕ View) → me.0.keeps ≡ false → 0 < me.0.passes → me.0.refusals ≡ 0 → Allows IsSession slots id me 1 (λ n. (n + 1) % 2 ^ 64) (Asked (step slots 1 1 0 none) me)
ask_allows id slots me pass alive clear s kept len at word =
    let few = passes_few s kept in
    let fits : pass_word s + 1 < 2 ^ 64 = omega arith in
    let next : (pass_word s + 1) % 2 ^ 64 ≡ pass_word s + 1 = mod-eq_of_lt fits in
    let P : ℕ → Type 0 = λ m. IsSession (with_word s 1 m id (asked (pass_word s) me.0)) in
    (asked (pass_word s) me.0, keeps, tt, subst P (sym next) (ask_keeps s kept id me.0 at pass alive clear), refl)

pub meet_joins : (id other : ℕ) (v w : View) → v.keeps ≡ true → w.keeps ≡ false → Joins {S = ℕ} IsSession id v other w (met v w) spent_view
meet_joins id other v w book pass s kept at ne there = meet_keeps s kept id v at other w book pass ne (sym (set_else s.views id other (met v w) ne) ∙ there)

pub part_splits : (id : ℕ) (v : View) → v.keeps ≡ true → 0 < v.passes → Splits {S = ℕ} IsSession id v (left_alone v) (parted v)
part_splits id v book alive s kept at = part_keeps s kept id v at book alive

pub cut_splits : (id : ℕ) (v : View) → v.keeps ≡ false → 0 < v.passes → 0 < v.pending → Splits {S = ℕ} IsSession id v (cut v) (newcomer v)
cut_splits id v pass alive coming s kept at = cut_keeps s kept id v at pass alive coming

pub join_joins : (id other : ℕ) (v w : View) → v.keeps ≡ false → w.keeps ≡ false → 0 < v.passes → Joins {S = ℕ} IsSession id v other w (both_views v w) spent_view
join_joins id other v w pass pass-w alive s kept at ne there = join_keeps s kept id v at other w pass pass-w alive ne (sym (set_else s.views id other (both_views v w) ne) ∙ there)
