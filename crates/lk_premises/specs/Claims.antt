-- The claims that those by numbers stand for.
use Rattle.std.specs.Prelude.{◌<◌, List, length, map, All}
use Rattle.lk_rulebook.specs.Claims.{Claim as PlainClaim, types, reduces, equals}
use Rattle.lk_store.specs.Contents.{Contents, tree_at}
use Rattle.lk_premises.specs.declared.claims.Claim.{Claim}
use Rattle.lk_premises.specs.declared.claims.Relation.{Relation}
use Rattle.lk_premises.specs.declared.claims.Relation.TheVariants.{Typing, Reduction, Equality}

abbrev pub claim_by : Contents → Relation → Claim → PlainClaim
claim_by c Typing k = types (tree_at c k.left) (tree_at c k.right)
claim_by c Reduction k = reduces (tree_at c k.left) (tree_at c k.right)
claim_by c Equality k = equals (tree_at c k.left) (tree_at c k.right)

abbrev pub claim_at : Contents → Claim → PlainClaim
claim_at c k = claim_by c k.relation k

abbrev pub claims_at : Contents → List Claim → List PlainClaim
claims_at c ks = map (claim_at c) ks

-- its trees are trees of the store
pub record IsClaimIn (c : Contents) (k : Claim) : Type 0 where
  pub left_in : k.left < length c.trees
  pub right_in : k.right < length c.trees

abbrev pub AreClaimsIn : Contents → List Claim → Type 0
AreClaimsIn c ks = All (IsClaimIn c) ks
