-- The order of a list in which each submission is a pass's own.
use Rattle.std.proofs.Common.{◌≡◌, ℕ, zero, suc, ◌%◌, ◌<◌, List, [], ◌∷◌, length, map, slice_get, Some, refl, sym, ap, ◌∙◌, subst, arith, inl, inr}
use Rattle.std.proofs.lemmas.Bool.Decides.{nat_tests}
use Rattle.std.proofs.lemmas.Bool.{cases_lt}
use Rattle.std.proofs.lemmas.List.{length-map}
use Rattle.std.proofs.Math.Nat.{mod-lt}
use Rattle.lk_session.specs.declared.view.View.{View}
use Rattle.lk_session.specs.declared.view.Submission.{Submission}
use Rattle.lk_session.specs.Rule.{times, once_below}
use Rattle.lk_session.specs.Steps.{HasEach}
use Rattle.lk_callers.specs.declared.turns.Turns.{Turns}
use Rattle.lk_callers.specs.Turns.{pass_of, AreTurns}
use Rattle.lk_callers.specs.Orders.{IsOrder}
use Rattle.lk_callers.specs.Owned.{call_of, HasTextAt, AreOwn, HasAll}
use Rattle.lk_callers.proofs.Replies.{get_within}

-- the numbers of the texts of submissions
abbrev pub tags_of : List Submission → List ℕ
tags_of seen = map (λ (s : Submission). s.tag) seen

tag_at : (seen : List Submission) (i : ℕ) (s : Submission) → slice_get seen i ≡ Some s → slice_get (tags_of seen) i ≡ Some s.tag
tag_at [] i s e = absurd cc
tag_at (x ∷ seen) zero s e = let c : x ≡ s = cc in ap (λ (y : Submission). Some y.tag) c
tag_at (x ∷ seen) (suc i) s e = tag_at seen i s e

module _ (texts : List (List ℕ)) (t : Turns) (are : AreTurns t) (v : View) (own : AreOwn texts t 0 t.passes (length texts) v) (each : HasEach v (length v.seen)) where
  owned : (i : ℕ) → i < length v.seen → 0 < times i v
  owned i lt = let o : once_below i (length v.seen) ≡ 1 = grind (arith, nat_tests, lt) in omega (arith, each i, o)

  -- each submission is that of the text whose number is its tag
  pub submitted_at : (i k : ℕ) → slice_get (tags_of v.seen) i ≡ Some k → (k < length texts) × HasTextAt texts v i k
  submitted_at i k e =
      let lt : i < length v.seen = omega (arith, get_within (tags_of v.seen) i k e, length-map v.seen (λ (s : Submission). s.tag)) in
      let h = own.each i (owned i lt) in
      let both : Some h.0 ≡ Some k = sym (tag_at v.seen i (call_of texts h.0) h.3.call) ∙ e in
      let same : h.0 ≡ k = cc in
      subst (λ (j : ℕ). (j < length texts) × HasTextAt texts v i j) same (h.1, h.3)

  rising : (i j k m : ℕ) → i < j → slice_get (tags_of v.seen) i ≡ Some k → slice_get (tags_of v.seen) j ≡ Some m → k % t.callers ≡ m % t.callers → k < m
  rising i j k m lt a b e = own.rise i j k m (submitted_at i k a).1 (submitted_at j m b).1 lt (ap (λ (c : ℕ). c % t.passes) e)

  pub once_each : (i j k : ℕ) → slice_get (tags_of v.seen) i ≡ Some k → slice_get (tags_of v.seen) j ≡ Some k → i ≡ j
  once_each i j k a b = elim (cases_lt i j) [
    | inl lt ↦ absurd (omega (arith, rising i j k k lt a b refl))
    | inr ge ↦ elim (cases_lt j i) [
      | inl gt ↦ absurd (omega (arith, rising j i k k gt b a refl))
      | inr le ↦ omega (arith, ge, le)
    ]
  ]

  pub ordered : HasAll texts t 0 t.passes (length texts) v → IsOrder (length texts) t.callers (tags_of v.seen)
  ordered all = record {
    below = λ i k e. (submitted_at i k e).0;
    all = λ k lt. let h = all k lt (omega arith, below_passes k) in (h.0, tag_at v.seen h.0 (call_of texts k) h.1.call);
    once = once_each;
    rise = rising;
  }
    where
      below_passes : (k : ℕ) → pass_of t k < t.passes
      below_passes k = let s = are.1 in mod-lt (k % t.callers) (omega (arith, s))

-- a list whose submissions are those of texts by their tags
pub by_tags : (texts : List (List ℕ)) (seen : List Submission) → ((i k : ℕ) → slice_get (tags_of seen) i ≡ Some k → slice_get seen i ≡ Some (call_of texts k)) → seen ≡ map (call_of texts) (tags_of seen)
by_tags texts [] h = refl
by_tags texts (s ∷ seen) h =
    let e : Some s ≡ Some (call_of texts s.tag) = h 0 s.tag refl in
    let first : s ≡ call_of texts s.tag = cc in
    let rest : seen ≡ map (call_of texts) (tags_of seen) = by_tags texts seen (λ i k g. h (suc i) k g) in
    λ i. first i ∷ rest i
