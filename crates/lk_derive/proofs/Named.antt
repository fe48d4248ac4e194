-- Numbers of premises, one after another.
use Rattle.std.proofs.Common.{◌≡◌, ℕ, Bool, List, [], ◌∷◌, ◌++◌, length, refl, ap, sym, subst, ◌∙◌, append_assoc, inl, inr}
use Rattle.std.specs.Prelude.{All, Option, Some, None, if◌then◌else◌}
use Rattle.std.specs.Option.{option_to_list}
use Rattle.std.proofs.lemmas.List.{append-nil, nil_from_length}
use Rattle.std.proofs.lemmas.List.Elements.{All-head, All-tail, All-rest}
use Rattle.lk_rulebook.specs.Claims.{Claim as PlainClaim, types, reduces, equals}
use Rattle.lk_claims.proofs.Pieces.{same_tree}
use Rattle.lk_written.specs.Premises.{Left}
use Rattle.lk_store.specs.Contents.{Contents}
use Rattle.lk_premises.specs.declared.claims.Claim.{Claim}
use Rattle.lk_premises.specs.Claims.{claim_at, claims_at, IsClaimIn, AreClaimsIn}
use Rattle.lk_step.specs.Steps.{AreNamed}
use Rattle.lk_step.specs.Rows.{IsThere}
use Rattle.lk_derive.specs.Notes.{IsNumberOf}

-- one claim more in front
named_next : (ps : List PlainClaim) (p : PlainClaim) (o : Option ℕ) (cs : List PlainClaim) (js : Left) → IsNumberOf ps p o → AreNamed ps cs js → AreNamed ps (p ∷ cs) (option_to_list o ++ js)
named_next ps (types e T) None cs js h k = absurd (cc)
named_next ps (types e T) (Some i) cs js h k = (i, js, refl, h.1, k)
named_next ps (reduces a b) None cs js h k = (0, js, ap (λ (x : Bool). if x then js else 0 ∷ js) (sym h), inl (same_tree a b h), k)
named_next ps (reduces a b) (Some i) cs js h k = (i, js, ap (λ (x : Bool). if x then js else i ∷ js) (sym h.0), inr h.1, k)
named_next ps (equals a b) None cs js h k = (0, js, ap (λ (x : Bool). if x then js else 0 ∷ js) (sym h), inl (same_tree a b h), k)
named_next ps (equals a b) (Some i) cs js h k = (i, js, ap (λ (x : Bool). if x then js else i ∷ js) (sym h.0), inr h.1, k)

-- so far these numbers are there, and these claims are left
pub record IsNaming (c : Contents) (ps : List PlainClaim) (all rest : List Claim) (numbers : List ℕ) : Type 0 where
  pub claims_in : AreClaimsIn c rest
  pub there : All (IsThere ps) (claims_at c rest)
  pub named : (more : Left) → AreNamed ps (claims_at c rest) more → AreNamed ps (claims_at c all) (numbers ++ more)

module _ (c : Contents) (ps : List PlainClaim) (all : List Claim) where
  module _ (rest : List Claim) (numbers : List ℕ) (n : IsNaming c ps all rest numbers) where
    module _ (k : Claim) (more : List Claim) (split : rest ≡ k ∷ more) where
      all_there : All (IsThere ps) (claim_at c k ∷ claims_at c more)
      all_there = subst (λ ks. All (IsThere ps) (claims_at c ks)) split n.there

      pub next_there : IsThere ps (claim_at c k)
      next_there = All-head (IsThere ps) (claim_at c k) (claims_at c more) all_there

      pub naming_more : (o : Option ℕ) (after : List ℕ) → IsNumberOf ps (claim_at c k) o → after ≡ numbers ++ option_to_list o → IsNaming c ps all more after
      naming_more o after is pushed = record {
        claims_in = All-rest (IsClaimIn c) k more rest split n.claims_in;
        there = All-tail (IsThere ps) (claim_at c k) (claims_at c more) all_there;
        named = λ js h.
            let one : AreNamed ps (claims_at c (k ∷ more)) (option_to_list o ++ js) = named_next ps (claim_at c k) o (claims_at c more) js is h in
            let all_named = n.named (option_to_list o ++ js) (subst (λ ks. AreNamed ps (claims_at c ks) (option_to_list o ++ js)) (sym split) one) in
            subst (AreNamed ps (claims_at c all)) (sym (append_assoc numbers (option_to_list o) js) ∙ ap (λ ns. ns ++ js) (sym pushed)) all_named;
      }

    pub naming_done : length rest ≡ 0 → AreNamed ps (claims_at c all) numbers
    naming_done none =
        let last : AreNamed ps (claims_at c rest) [] = subst (λ ks. AreNamed ps (claims_at c ks) []) (sym (nil_from_length rest none)) refl in
        subst (AreNamed ps (claims_at c all)) (append-nil numbers) (n.named [] last)
