-- The sides of laws are added, pair by pair.
use Rattle.std.proofs.Common.{◌≡◌, ℕ, List, [], ◌∷◌, ◌++◌, length, refl, ap, sym, subst, ◌∙◌, append_assoc, append-nil, arith}
use Rattle.std.specs.Prelude.{All}
use Rattle.std.proofs.lemmas.List.Elements.{All-head, All-rest, All-weaker}
use Rattle.lk_tree.specs.Tree.{Tree}
use Rattle.lk_rulebook.specs.Place.{Place}
use Rattle.lk_rulebook.specs.Claims.{Claim, equals}
use Rattle.lk_questions.specs.Query as plain
use Rattle.lk_questions.specs.Query.{same}
use Rattle.lk_store.specs.Contents.{Contents, tree_at, Extends}
use Rattle.lk_store.proofs.Extending.{Extends-trans}
use Rattle.lk_ask.specs.declared.query.Query.TheVariants.{Same}
use Rattle.lk_ask.specs.declared.sheet.Pair.{Pair}
use Rattle.lk_ask.specs.Sheets.{map_pair, IsKnownPair}
use Rattle.lk_step.specs.Rows.{IsClaim}
use Rattle.lk_step.specs.Pairs.{pairs_at}
use Rattle.lk_derive.specs.declared.parts.Parts.{Parts}
use Rattle.lk_derive.specs.Stages.{Stays}
use Rattle.lk_derive.specs.Parts.{parts_at, AreParts, AddsParts, IsDue}
use Rattle.lk_derive.specs.Sides.{pair_parts, AreEqual}
use Rattle.lk_derive.proofs.Lists.{map-same}

pub empty : {X : Type 0} (xs : List X) → length xs ≡ 0 → xs ≡ []
empty [] e = refl
empty (x ∷ xs) e = absurd (omega (arith, e))

module _ (c d : Contents) (x : Extends c d) where
  pair_same : (p : Pair ℕ) → IsKnownPair (length c.trees) p → map_pair (tree_at d) p ≡ map_pair (tree_at c) p
  pair_same p h =
      ap (λ (l : Tree). record { left = l; right = tree_at d p.right }) (x.trees.same p.left h.left_in)
      ∙ ap (λ (r : Tree). record { left = tree_at c p.left; right = r }) (x.trees.same p.right h.right_in)

  pair_known : (p : Pair ℕ) → IsKnownPair (length c.trees) p → IsKnownPair (length d.trees) p
  pair_known p h =
      let longer = x.trees.longer in
      let left = h.left_in in
      let right = h.right_in in
      record { left_in = omega (arith, longer, left); right_in = omega (arith, longer, right) }

  pub pairs_same : (ps : List (Pair ℕ)) → All (IsKnownPair (length c.trees)) ps → pairs_at d ps ≡ pairs_at c ps
  pairs_same ps h = map-same (map_pair (tree_at d)) (map_pair (tree_at c)) (IsKnownPair (length c.trees)) pair_same ps h

  pub pairs_known : (ps : List (Pair ℕ)) → All (IsKnownPair (length c.trees)) ps → All (IsKnownPair (length d.trees)) ps
  pairs_known ps h = All-weaker (IsKnownPair (length c.trees)) (IsKnownPair (length d.trees)) pair_known ps h

module _ {S : Type 0} (contents : S → Contents) (place : S → Place) (most : S → ℕ) where
  pub stays_on : (s t u : S) → Stays contents place most s t → Stays contents place most t u → Stays contents place most s u
  stays_on s t u x y = record {
    keeps = Extends-trans (contents s) (contents t) (contents u) x.keeps y.keeps;
    place_stays = y.place_stays ∙ x.place_stays;
    most_stays = y.most_stays ∙ x.most_stays;
  }

  -- from start on pairs were added, and these are left
  pub record IsAdding (start now : S) (old parts : Parts) (all rest : List (Pair ℕ)) : Type 0 where
    pub stays : Stays contents place most start now
    pub pairs_in : All (IsKnownPair (length (contents now).trees)) rest
    pub parts_are : AreParts (place start) (contents now) parts
    pub equal : AreEqual (place start) (most start) (pair_parts (pairs_at (contents now) rest))
    pub claims : parts_at (contents now) parts ++ pair_parts (pairs_at (contents now) rest) ≡ parts_at (contents start) old ++ pair_parts (pairs_at (contents start) all)

  module _ (start now : S) (old parts : Parts) (all rest : List (Pair ℕ)) (h : IsAdding start now old parts all rest) where
    pub sides_done : length rest ≡ 0 → AddsParts (place start) (contents start) (contents now) old parts (pair_parts (pairs_at (contents start) all))
    sides_done ended =
        let none : rest ≡ [] = empty rest ended in
        record {
          parts = h.parts_are;
          claims = sym (append-nil (parts_at (contents now) parts)) ∙ ap (λ ps. parts_at (contents now) parts ++ pair_parts (pairs_at (contents now) ps)) (sym none) ∙ h.claims;
        }

    module _ (p : Pair ℕ) (more : List (Pair ℕ)) (split : rest ≡ p ∷ more) where
      known : IsKnownPair (length (contents now).trees) p
      known = All-head (IsKnownPair (length (contents now).trees)) p more (subst (All (IsKnownPair (length (contents now).trees))) split h.pairs_in)

      both : AreEqual (place start) (most start) (pair_parts (pairs_at (contents now) (p ∷ more)))
      both = subst (λ ps. AreEqual (place start) (most start) (pair_parts (pairs_at (contents now) ps))) split h.equal

      pub side_due : IsDue contents place most now parts (Same p.left p.right)
      side_due =
          let q : plain.Query = same (tree_at (contents now) p.left) (tree_at (contents now) p.right) in
          record {
            known = (known.left_in, known.right_in);
            answered = subst (IsClaim (place now) q) (sym h.stays.most_stays) (subst (λ w. IsClaim w q (most start)) (sym h.stays.place_stays) both.0);
            parts_are = subst (λ w. AreParts w (contents now) parts) (sym h.stays.place_stays) h.parts_are;
          }

      module _ (next : S) (new : Parts) (y : Stays contents place most now next)
          (adds : AddsParts (place now) (contents now) (contents next) parts new (equals (tree_at (contents now) p.left) (tree_at (contents now) p.right) ∷ [])) where
        abbrev own : Claim
        own = equals (tree_at (contents now) p.left) (tree_at (contents now) p.right)

        more_in : All (IsKnownPair (length (contents now).trees)) more
        more_in = All-rest (IsKnownPair (length (contents now).trees)) p more rest split h.pairs_in

        grown : pairs_at (contents next) more ≡ pairs_at (contents now) more
        grown = pairs_same (contents now) (contents next) y.keeps more more_in

        so_far : parts_at (contents next) new ++ pair_parts (pairs_at (contents next) more) ≡ parts_at (contents now) parts ++ pair_parts (pairs_at (contents now) (p ∷ more))
        so_far =
            ap (λ xs. xs ++ pair_parts (pairs_at (contents next) more)) adds.claims
            ∙ append_assoc (parts_at (contents now) parts) (own ∷ []) (pair_parts (pairs_at (contents next) more))
            ∙ ap (λ ps. parts_at (contents now) parts ++ (own ∷ pair_parts ps)) grown

        pub sides_more : IsAdding start next old new all more
        sides_more = record {
          stays = stays_on start now next h.stays y;
          pairs_in = pairs_known (contents now) (contents next) y.keeps more more_in;
          parts_are = subst (λ w. AreParts w (contents next) new) h.stays.place_stays adds.parts;
          equal = subst (λ ps. AreEqual (place start) (most start) (pair_parts ps)) (sym grown) both.1;
          claims = so_far ∙ ap (λ ps. parts_at (contents now) parts ++ pair_parts (pairs_at (contents now) ps)) (sym split) ∙ h.claims;
        }
