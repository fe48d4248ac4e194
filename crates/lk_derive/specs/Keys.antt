-- Claims as keys.
use Rattle.std.specs.Prelude.{Bool}
use Rattle.lk_premises.specs.declared.claims.Claim.{Claim}
use Rattle.lk_premises.specs.declared.claims.Relation.{Relation}
use Rattle.lk_premises.specs.declared.claims.Relation.TheVariants.{Typing, Reduction, Equality}
use Rattle.lk_derive.specs.declared.key.ClaimKey.{ClaimKey}
use Rattle.lk_derive.specs.declared.key.ClaimKind.{ClaimKind}
use Rattle.lk_derive.specs.declared.key.ClaimKind.TheVariants as kinds
use Rattle.lk_derive.specs.contracts.key.ClaimKeyPartialEq.TheImpl as impl

abbrev pub kind_of : Relation → ClaimKind
kind_of Typing = kinds.Typing
kind_of Reduction = kinds.Reduction
kind_of Equality = kinds.Equality

abbrev pub claim_key : Claim → ClaimKey
claim_key k = record { kind = kind_of k.relation; left = k.left; right = k.right }

abbrev pub same_key : ClaimKey → ClaimKey → Bool
same_key = impl.ghosts.eq
