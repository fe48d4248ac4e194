-- The number of the next Local, as it is found.
use Rattle.std.proofs.Common.{◌≡◌, ℕ, suc, ◌+◌, ◌-◌, ◌<◌, ◌≤◌, inl, inr, Bool, true, false, nat_lt, List, [], ◌∷◌, length, slice_index_or, map, Option, Some, None, refl, ap, sym, subst, ◌∙◌, arith}
use Rattle.std.specs.Prelude.{IfSome}
use Rattle.std.proofs.lemmas.Bool.Decides.{nat_tests}
use Rattle.std.proofs.lemmas.List.{get_or_append_left, length-map, length-append, get_or-map}
use Rattle.std.proofs.Math.Seq.{get_or-append_seam}
use Rattle.lk_tree.specs.Tree.{Tree, var, wide, local}
use Rattle.lk_tree.specs.Bind.{bound, has_var}
use Rattle.lk_tree.specs.Loose.{loose}
use Rattle.lk_tree.specs.Putting.{put_at}
use Rattle.lk_store.specs.Contents.{Contents, tree_at}
use Rattle.lk_type.specs.declared.sheet.Binders.{Binders}
use Rattle.lk_type.specs.Openings.{IsFollowing}
use Rattle.lk_type.specs.Marks.{body_at, AreMarks, AreAll, Follows, last, before}
use Rattle.std.proofs.lemmas.List.Elements.{All-get_or}
use Rattle.lk_type.proofs.Openings.{IsAdded, next_fits, closed_known}

-- the value of a variable under the last one
value_at : (xs : List Tree) (j : ℕ) → j < length xs → put_at xs 1 (var (length xs - j)) ≡ slice_index_or xs j wide
unfolding put_at
value_at xs j l =
    let over : nat_lt (length xs - j) 1 ≡ false = grind (arith, nat_tests) in
    let among : nat_lt (length xs - j - 1) (length xs) ≡ true = grind (arith, nat_tests) in
    let place : length xs - 1 - (length xs - j - 1) ≡ j = omega (arith, l) in
    rw (over, among, place) refl

local_reaches : (k : ℕ) (T : Tree) → suc k ≤ bound (local k T)
unfolding bound
local_reaches k T = omega arith

false_of : (p : Bool) → (p ≡ true → ⊥) → p ≡ false
false_of true h = absurd (h refl)
false_of false h = refl

pub some_then : {A : Type 0} {P Q : A → Type 0} (o : Option A) → ((p : A) → P p → Q p) → IfSome o P → IfSome o Q
some_then None f h = tt
some_then (Some p) f h = f p h

pub some_both : {A : Type 0} {P Q R : A → Type 0} (o : Option A) → ((p : A) → P p → Q p → R p) → IfSome o P → IfSome o Q → IfSome o R
some_both None f h k = tt
some_both (Some p) f h k = f p h k

module _ {b : Binders} {now later : Contents} {inside domain body number x : ℕ} {locals after : List ℕ} (a : IsAdded b now later inside domain body number x locals after) where
  -- one of the Locals that were there
  same_local : (j : ℕ) → j < length locals → tree_at later (slice_index_or after j 0) ≡ tree_at now (slice_index_or locals j 0)
  same_local j l =
      ap (λ xs. tree_at later (slice_index_or xs j 0)) a.pushed
      ∙ (ap (tree_at later) (get_or_append_left locals (x ∷ []) 0 j l)
      ∙ a.grows.trees.same (slice_index_or locals j 0) (All-get_or (λ y. y < length now.trees) locals j 0 l (closed_known now locals a.closed)))

  pub following_next : (e : Tree) (count : ℕ) (marks : List ℕ) (all : Bool) (top : Option ℕ) (p : ℕ × ℕ) → AreMarks b e marks → (all ≡ true → AreAll b e marks)
      → count ≡ suc (length locals) → tree_at later body ≡ body_at b count e
      → IfSome top (λ j. (j < length locals) × (number ≤ bound (tree_at now (slice_index_or locals j 0))))
      → Follows number count marks all top p → loose (tree_at later body) ≤ count → IsFollowing later after body p
  following_next e count marks all top p h every many is was (last m n t) few =
      let place : suc (count - 1 + 0) ≡ count = omega arith in
      let mentioned = h (count - 1) 0 (omega (arith, m, many)) in
      let occurs : has_var 0 (tree_at later body) ≡ true = ap (has_var 0) (is ∙ ap (λ k. body_at b k e) (sym place)) ∙ mentioned in
      let more : length after ≡ length locals + 1 = ap length a.pushed ∙ length-append locals (x ∷ []) in
      let here : slice_index_or after (count - 1) 0 ≡ x =
      ap (λ k. slice_index_or after k 0) (let k : count - 1 ≡ length locals = omega (arith, many) in k)
      ∙ (ap (λ xs. slice_index_or xs (length locals) 0) a.pushed ∙ get_or-append_seam locals x [] 0) in
      let reaches : suc number ≤ bound (tree_at later (slice_index_or after (count - 1) 0)) = rw (here, a.made.is) (local_reaches number _) in
      record {
        number = next_fits a p.0 (inr (inl (occurs, n)));
        among = omega (arith, more, many, t);
        reaches = subst (λ k. p.0 ≤ bound (tree_at later (slice_index_or after k 0))) (sym t) (omega (arith, n, reaches));
        closed = omega (arith, few, more, many);
      }
  following_next e count marks all top p h every many is was (before j whole none room at m n t) few =
      let place : suc (count - 1) ≡ count = omega (arith, many) in
      let there : (j < length locals) × (number ≤ bound (tree_at now (slice_index_or locals j 0))) = rw at at was in
      let values = map (tree_at now) locals in
      let long : length values ≡ length locals = length-map locals (tree_at now) in
      let absent : has_var 0 (tree_at later body) ≡ true → ⊥ = λ o.
      let marked = every whole (count - 1) (omega (arith, room, many)) (ap (has_var 0) (ap (λ k. body_at b k e) place ∙ sym is) ∙ o) in
      omega (arith, marked, none) in
      let index = length values - j in
      let in_body : suc (j + index) ≡ count = (let l = there.0 in omega (arith, l, long, many)) in
      let occurs : has_var index (tree_at later body) ≡ true =
      ap (has_var index) (is ∙ ap (λ k. body_at b k e) (sym in_body)) ∙ h j index (omega (arith, in_body, m)) in
      let value : put_at values 1 (var index) ≡ tree_at now (slice_index_or locals j 0) =
      value_at values j (let l = there.0 in omega (arith, l, long)) ∙ get_or-map (tree_at now) locals j 0 wide there.0 in
      let more : length after ≡ length locals + 1 = ap length a.pushed ∙ length-append locals (x ∷ []) in
      record {
        number = next_fits a p.0 (inr (inr (record {
          same = n;
          none = false_of _ absent;
          index = index;
          occurs = occurs;
          reaches = rw value there.1;
        })));
        among = (let l = there.0 in omega (arith, l, more, t));
        reaches = subst (λ k. p.0 ≤ bound (tree_at later (slice_index_or after k 0))) (sym t)
            (rw (same_local j there.0) (let r = there.1 in omega (arith, r, n)));
        closed = omega (arith, few, more, many);
      }
