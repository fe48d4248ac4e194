-- Pairs that are compared one after another, up to the first that differ.
use Rattle.std.proofs.Common.{ℕ, ◌≡◌, Bool, true, false, List, [], ◌∷◌, ◌++◌, length, refl, sym, ◌∙◌, ap, subst, if◌then◌else◌, arith}
use Rattle.std.specs.Prelude.{All, Some}
use Rattle.std.proofs.lemmas.List.Elements.{All-pop}
use Rattle.lk_tree.specs.Tree.{Tree}
use Rattle.lk_questions.specs.Query.{same}
use Rattle.lk_questions.specs.Program.{Program, done, ask}
use Rattle.lk_questions.specs.Pairs.{same_all}
use Rattle.lk_store.specs.Contents.{Contents, tree_at, Extends}
use Rattle.lk_ask.specs.declared.sheet.Pair.{Pair}
use Rattle.lk_ask.specs.Lines.{lefts, rights}
use Rattle.lk_ask.specs.Looks.{Sight}
use Rattle.lk_ask.specs.Sheets.{IsKnownPair}
use Rattle.lk_step.specs.Runs.{Runs}
use Rattle.lk_step.specs.Told.{Leaves, IsAnsweredWithin, IsSame}
use Rattle.lk_step.specs.Tests.{IsRun}
use Rattle.lk_step.specs.Pairs.{same_pairs, pairs_at, Comes, IsComparing}
use Rattle.lk_step.proofs.Following.{Followed, follow, asks_within, run_on}
use Rattle.lk_step.proofs.Moving.{moved2, back2, leaves_on, leaves_made}
use Rattle.lk_step.proofs.Pairing.{lefts_top, rights_top}

-- the pair on top is asked for first
abbrev top_first : Tree → Tree → List (Pair Tree) → Program Bool
top_first x y ps = ask (same x y) (λ e. if e then same_pairs ps else done false)

top_is : (c : Contents) (ps : List (Pair ℕ)) (p : Pair ℕ) → same_pairs (pairs_at c (ps ++ p ∷ [])) ≡ top_first (tree_at c p.left) (tree_at c p.right) (pairs_at c ps)
top_is c ps p = ap (λ xs. same_all xs (rights (pairs_at c (ps ++ p ∷ [])))) (lefts_top c ps p) ∙ ap (λ ys. same_all (tree_at c p.left ∷ lefts (pairs_at c ps)) ys) (rights_top c ps p)

pub known_top : (n : ℕ) (ps : List (Pair ℕ)) (p : Pair ℕ) → All (IsKnownPair n) (ps ++ p ∷ []) → IsKnownPair n p
known_top n ps p h = (All-pop (IsKnownPair n) (ps ++ p ∷ []) ps (Some p) refl h).1

pub known_below : (n : ℕ) (ps : List (Pair ℕ)) (p : Pair ℕ) → All (IsKnownPair n) (ps ++ p ∷ []) → All (IsKnownPair n) ps
known_below n ps p h = (All-pop (IsKnownPair n) (ps ++ p ∷ []) ps (Some p) refl h).0

pub nothing_left : {X : Type 0} (xs : List X) → length xs ≡ 0 → xs ≡ []
nothing_left [] h = refl
nothing_left (x ∷ xs) h = absurd (omega arith)

extends_self : (c : Contents) → Extends c c
extends_self c = record {
  names = record { longer = omega arith; same = λ i h. refl };
  texts = record { longer = omega arith; same = λ i h. refl };
  levels = record { longer = omega arith; same = λ i h. refl };
  lists = record { longer = omega arith; same = λ i h. refl };
  trees = record { longer = omega arith; same = λ i h. refl };
}

pub compares_none : {S R B : Type 0} (contents : S → Contents) (others : S → R) (sight : R → Sight B) (old : S) (all : List (Pair ℕ)) (most : ℕ) → All (IsKnownPair (length (contents old).trees)) all
    → IsRun (sight (others old)).basis.place (same_pairs (pairs_at (contents old) all)) most → IsComparing contents others sight old old all all most
compares_none contents others sight old all most known run = record {
  leaves = leaves_made contents others sight old old (extends_self (contents old)) refl;
  rest_in = known;
  run = run;
  follows = λ v n r. record { cost = n; runs = r };
}

module _ {S R B : Type 0} (contents : S → Contents) (others : S → R) (sight : R → Sight B) (old now : S) (all rest : List (Pair ℕ)) (most : ℕ) (h : IsComparing contents others sight old now all rest most) where
  pub compares_done : length rest ≡ 0 → (v : Bool) (n : ℕ) → Runs (sight (others old)).basis.place (same_pairs (pairs_at (contents old) all)) v n → v ≡ true
  compares_done e v n r =
      let c : Comes (sight (others old)).basis.place (same_pairs (pairs_at (contents old) [])) v = subst (λ ps. Comes (sight (others old)).basis.place (same_pairs (pairs_at (contents old) ps)) v) (nothing_left rest e) (h.follows v n r) in
      sym c.runs.0

  module _ (more : List (Pair ℕ)) (p : Pair ℕ) (split : rest ≡ more ++ p ∷ []) where
    pub compares_known : IsKnownPair (length (contents old).trees) p
    compares_known = known_top (length (contents old).trees) more p (subst (λ ps. All (IsKnownPair (length (contents old).trees)) ps) split h.rest_in)

    compares_run : IsRun (sight (others old)).basis.place (top_first (tree_at (contents old) p.left) (tree_at (contents old) p.right) (pairs_at (contents old) more)) most
    compares_run = subst (λ q. IsRun (sight (others old)).basis.place q most) (top_is (contents old) more p) (subst (λ ps. IsRun (sight (others old)).basis.place (same_pairs (pairs_at (contents old) ps)) most) split h.run)

    compares_follows : (v : Bool) (n : ℕ) → Runs (sight (others old)).basis.place (same_pairs (pairs_at (contents old) all)) v n → Comes (sight (others old)).basis.place (top_first (tree_at (contents old) p.left) (tree_at (contents old) p.right) (pairs_at (contents old) more)) v
    compares_follows v n r = subst (λ q. Comes (sight (others old)).basis.place q v) (top_is (contents old) more p) (subst (λ ps. Comes (sight (others old)).basis.place (same_pairs (pairs_at (contents old) ps)) v) split (h.follows v n r))

    pub compares_asks : IsAnsweredWithin (sight (others now)).basis.place (same (tree_at (contents now) p.left) (tree_at (contents now) p.right)) most
    compares_asks =
        moved2 h.leaves (λ w x y. IsAnsweredWithin w (same x y) most) p.left p.right compares_known.left_in compares_known.right_in
        (asks_within (sight (others old)).basis.place (same (tree_at (contents old) p.left) (tree_at (contents old) p.right)) (λ e. if e then same_pairs (pairs_at (contents old) more) else done false) most compares_run)

    before_same : (y : Bool) → IsSame (sight (others now)).basis.place (tree_at (contents now) p.left) (tree_at (contents now) p.right) y → IsSame (sight (others old)).basis.place (tree_at (contents old) p.left) (tree_at (contents old) p.right) y
    before_same y s = back2 h.leaves (λ w a b. IsSame w a b y) p.left p.right compares_known.left_in compares_known.right_in s

    after_same : (y : Bool) → IsSame (sight (others now)).basis.place (tree_at (contents now) p.left) (tree_at (contents now) p.right) y → (v : Bool) (n : ℕ) → Runs (sight (others old)).basis.place (same_pairs (pairs_at (contents old) all)) v n
        → Comes (sight (others old)).basis.place (if y then same_pairs (pairs_at (contents old) more) else done false) v
    after_same y s v n r =
        let c = compares_follows v n r in
        let s₀ = before_same y s in
        let f : Followed (sight (others old)).basis.place (if y then same_pairs (pairs_at (contents old) more) else done false) v c.cost s₀.cost = follow (sight (others old)).basis.place (same (tree_at (contents old) p.left) (tree_at (contents old) p.right)) (λ e. if e then same_pairs (pairs_at (contents old) more) else done false) v c.cost y s₀.cost c.runs s₀.answered in
        record { cost = f.left; runs = f.runs }

    pub compares_no : IsSame (sight (others now)).basis.place (tree_at (contents now) p.left) (tree_at (contents now) p.right) false → (v : Bool) (n : ℕ) → Runs (sight (others old)).basis.place (same_pairs (pairs_at (contents old) all)) v n → v ≡ false
    compares_no s v n r = sym (after_same false s v n r).runs.0

    pub compares_more : (new : S) → Leaves contents others sight now new → IsSame (sight (others now)).basis.place (tree_at (contents now) p.left) (tree_at (contents now) p.right) true → IsComparing contents others sight old new all more most
    compares_more new l s =
        let s₀ = before_same true s in
        record {
          leaves = leaves_on h.leaves l;
          rest_in = known_below (length (contents old).trees) more p (subst (λ ps. All (IsKnownPair (length (contents old).trees)) ps) split h.rest_in);
          run = run_on (sight (others old)).basis.place (same (tree_at (contents old) p.left) (tree_at (contents old) p.right)) (λ e. if e then same_pairs (pairs_at (contents old) more) else done false) most true s₀.cost compares_run s₀.answered;
          follows = λ v n r. after_same true s v n r;
        }
