-- The sides of laws are made, law by law.
use Rattle.std.proofs.Common.{◌≡◌, ℕ, ◌<◌, List, [], ◌∷◌, ◌++◌, length, map, refl, ap, sym, subst, ◌∙◌, append_assoc, append-nil, arith}
use Rattle.std.specs.Prelude.{All}
use Rattle.std.proofs.lemmas.List.{map-append}
use Rattle.std.proofs.lemmas.List.Elements.{All-push}
use Rattle.lk_tree.specs.Tree.{Tree}
use Rattle.lk_rulebook.specs.NumberLaws as plain
use Rattle.lk_rulebook.specs.Claims.{Claim, equals}
use Rattle.lk_store.specs.Contents.{Contents, tree_at, Extends}
use Rattle.lk_store.proofs.Extending.{Extends-trans}
use Rattle.lk_ask.specs.declared.sheet.Pair.{Pair}
use Rattle.lk_ask.specs.Sheets.{map_pair, IsKnownPair}
use Rattle.lk_laws.specs.declared.table.Law.{Law}
use Rattle.lk_laws.specs.Sides.{side_tree, law_at}
use Rattle.lk_step.specs.Pairs.{pairs_at}
use Rattle.lk_derive.specs.Units.{law_parts}
use Rattle.lk_derive.specs.Sides.{pair_parts, IsPairOf, AddsPairs}
use Rattle.lk_derive.proofs.SidesAdded.{empty, pairs_same, pairs_known}

-- both sides of a law are made, one after the other
pub pair_made : (c d e : Contents) (law : Law) (value l r : ℕ) → Extends c d → Extends d e → value < length c.trees → l < length d.trees → tree_at d l ≡ side_tree (tree_at c value) law.left →
    r < length e.trees → tree_at e r ≡ side_tree (tree_at d value) law.right → IsPairOf e (law_at (tree_at c value) law) (record { left = l; right = r })
pair_made c d e law value l r x y value_in l_in l_is r_in r_is =
    let longer = y.trees.longer in
    record {
      pair_in = record { left_in = omega (arith, longer, l_in); right_in = r_in };
      left_is = y.trees.same l l_in ∙ l_is;
      right_is = r_is ∙ ap (λ t. side_tree t law.right) (x.trees.same value value_in);
    }

parts_append : (xs ys : List (Pair Tree)) → pair_parts (xs ++ ys) ≡ pair_parts xs ++ pair_parts ys
parts_append [] ys = refl
parts_append (x ∷ xs) ys = ap (λ cs. equals x.left x.right ∷ cs) (parts_append xs ys)

-- the laws of a value, as claims
abbrev pub stated : Contents → ℕ → List Law → List Claim
stated c value laws = law_parts (map (law_at (tree_at c value)) laws)

-- the sides of laws of a value were added from c on, and these laws are left
pub record IsMaking (c d : Contents) (value : ℕ) (old sides : List (Pair ℕ)) (all rest : List Law) : Type 0 where
  pub grown : Extends c d
  pub pairs_in : All (IsKnownPair (length d.trees)) sides
  pub are : pair_parts (pairs_at d sides) ++ stated c value rest ≡ pair_parts (pairs_at c old) ++ stated c value all

module _ (c d : Contents) (value : ℕ) (value_in : value < length c.trees) (old sides : List (Pair ℕ)) (all rest : List Law) (h : IsMaking c d value old sides all rest) where
  pub value_there : value < length d.trees
  value_there = let longer = h.grown.trees.longer in omega (arith, longer, value_in)

  pub making_done : length rest ≡ 0 → AddsPairs c d old sides (stated c value all)
  making_done ended =
      let none : rest ≡ [] = empty rest ended in
      record {
        pairs_in = h.pairs_in;
        are = sym (append-nil (pair_parts (pairs_at d sides))) ∙ ap (λ ls. pair_parts (pairs_at d sides) ++ stated c value ls) (sym none) ∙ h.are;
      }

  module _ (law : Law) (more : List Law) (split : rest ≡ law ∷ more) (e : Contents) (x : Extends d e) (p : Pair ℕ) (made : IsPairOf e (law_at (tree_at d value) law) p) (new : List (Pair ℕ)) (pushed : new ≡ sides ++ p ∷ []) where
    abbrev sides_law : plain.Law
    sides_law = law_at (tree_at c value) law

    own : equals (tree_at e p.left) (tree_at e p.right) ≡ equals sides_law.left sides_law.right
    own =
        let v : tree_at d value ≡ tree_at c value = h.grown.trees.same value value_in in
        ap (λ t. equals t (tree_at e p.right)) (made.left_is ∙ ap (λ t. side_tree t law.left) v)
        ∙ ap (equals sides_law.left) (made.right_is ∙ ap (λ t. side_tree t law.right) v)

    behind : pair_parts (pairs_at e (sides ++ p ∷ [])) ≡ pair_parts (pairs_at d sides) ++ equals sides_law.left sides_law.right ∷ []
    behind =
        ap pair_parts (map-append (map_pair (tree_at e)) sides (p ∷ []))
        ∙ parts_append (pairs_at e sides) (pairs_at e (p ∷ []))
        ∙ ap (λ ps. pair_parts ps ++ equals (tree_at e p.left) (tree_at e p.right) ∷ []) (pairs_same d e x sides h.pairs_in)
        ∙ ap (λ k. pair_parts (pairs_at d sides) ++ k ∷ []) own

    pub making_more : IsMaking c e value old new all more
    making_more = record {
      grown = Extends-trans c d e h.grown x;
      pairs_in = subst (All (IsKnownPair (length e.trees))) (sym pushed) (All-push (IsKnownPair (length e.trees)) sides p (pairs_known d e x sides h.pairs_in) made.pair_in);
      are = ap (λ ps. pair_parts (pairs_at e ps) ++ stated c value more) pushed
          ∙ ap (λ cs. cs ++ stated c value more) behind
          ∙ append_assoc (pair_parts (pairs_at d sides)) (equals sides_law.left sides_law.right ∷ []) (stated c value more)
          ∙ ap (λ ls. pair_parts (pairs_at d sides) ++ stated c value ls) (sym split)
          ∙ h.are;
    }
