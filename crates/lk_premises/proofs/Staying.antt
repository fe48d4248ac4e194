-- Claims stay what they are while the store grows.
use Rattle.std.proofs.Common.{◌≡◌, List, [], ◌∷◌, refl, ap, ◌∙◌, arith}
use Rattle.std.specs.Prelude.{slice_index_or}
use Rattle.std.proofs.lemmas.List.Elements.{All-head, All-tail}
use Rattle.lk_rulebook.specs.Claims.{types, reduces, equals}
use Rattle.lk_store.specs.Contents.{Contents, tree_at, Extends}
use Rattle.lk_premises.specs.declared.claims.Claim.{Claim}
use Rattle.lk_premises.specs.declared.claims.Relation.{Relation}
use Rattle.lk_premises.specs.declared.claims.Relation.TheVariants.{Typing, Reduction, Equality}
use Rattle.lk_premises.specs.Claims.{claim_by, claim_at, claims_at, IsClaimIn, AreClaimsIn}

module _ (c d : Contents) (x : Extends c d) where
  pub claim_known : (k : Claim) → IsClaimIn c k → IsClaimIn d k
  claim_known k h =
      let longer = x.trees.longer in record { left_in = omega arith; right_in = omega arith }

  pub claims_known : (ks : List Claim) → AreClaimsIn c ks → AreClaimsIn d ks
  claims_known ks h = λ i e l. claim_known (slice_index_or ks i e) (h i e l)

  by_same : (r : Relation) (k : Claim) → IsClaimIn c k → claim_by d r k ≡ claim_by c r k
  by_same Typing k h = ap (λ t. types t (tree_at d k.right)) (x.trees.same k.left h.left_in) ∙ ap (types (tree_at c k.left)) (x.trees.same k.right h.right_in)
  by_same Reduction k h = ap (λ t. reduces t (tree_at d k.right)) (x.trees.same k.left h.left_in) ∙ ap (reduces (tree_at c k.left)) (x.trees.same k.right h.right_in)
  by_same Equality k h = ap (λ t. equals t (tree_at d k.right)) (x.trees.same k.left h.left_in) ∙ ap (equals (tree_at c k.left)) (x.trees.same k.right h.right_in)

  pub claims_same : (ks : List Claim) → AreClaimsIn c ks → claims_at d ks ≡ claims_at c ks
  claims_same [] h = refl
  claims_same (k ∷ ks) h =
      ap (λ z. z ∷ claims_at d ks) (by_same k.relation k (All-head (IsClaimIn c) k ks h)) ∙ ap (λ zs. claim_at c k ∷ zs) (claims_same ks (All-tail (IsClaimIn c) k ks h))
