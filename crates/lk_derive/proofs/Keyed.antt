-- A key is of one claim.
use Rattle.std.proofs.Common.{◌≡◌, ℕ, true, rules, refl, ap, ◌∙◌}
use Rattle.lk_premises.specs.declared.claims.Claim.{Claim}
use Rattle.lk_premises.specs.declared.claims.Relation.{Relation}
use Rattle.lk_premises.specs.declared.claims.Relation.TheVariants.{Typing, Reduction, Equality}
use Rattle.lk_derive.specs.declared.key.ClaimKey.{ClaimKey}
use Rattle.lk_derive.specs.Keys.{kind_of, claim_key, same_key}

key_exact : (a b : ClaimKey) → same_key a b ≡ true → a ≡ b
key_exact a b h = search rules

kind_is : (r s : Relation) → kind_of r ≡ kind_of s → r ≡ s
kind_is Typing Typing h = refl
kind_is Reduction Reduction h = refl
kind_is Equality Equality h = refl
kind_is r s h = absurd (cc)

claim_is : (k j : Claim) → claim_key k ≡ claim_key j → k ≡ j
claim_is k j h =
    let r : k.relation ≡ j.relation = kind_is k.relation j.relation (ap (λ (x : ClaimKey). x.kind) h) in
    let a : k.left ≡ j.left = ap (λ (x : ClaimKey). x.left) h in
    let b : k.right ≡ j.right = ap (λ (x : ClaimKey). x.right) h in
    ap (λ (x : Relation). let y : Claim = record { relation = x; left = k.left; right = k.right } in y) r
    ∙ ap (λ (x : ℕ). let y : Claim = record { relation = j.relation; left = x; right = k.right } in y) a
    ∙ ap (λ (x : ℕ). let y : Claim = record { relation = j.relation; left = j.left; right = x } in y) b

pub claim_exact : (k j : Claim) → same_key (claim_key k) (claim_key j) ≡ true → k ≡ j
claim_exact k j h = claim_is k j (key_exact (claim_key k) (claim_key j) h)
