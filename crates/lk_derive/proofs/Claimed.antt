-- What lines and steps by numbers claim.
use Rattle.std.proofs.Common.{◌≡◌, ℕ, Bool, true, false, List, map, refl, sym, subst}
use Rattle.std.specs.Prelude.{◌↔◌, IsTrue, Vec, All}
use Rattle.std.specs.declared.alloc.Global.{Global}
use Rattle.std.proofs.lemmas.Bool.{iff_false}
use Rattle.std.proofs.lemmas.List.Elements.{All-map, All-weaker}
use Rattle.lk_written.specs.Line as written
use Rattle.lk_store.specs.Contents.{Contents}
use Rattle.lk_trace.specs.declared.rules.Rule.{Rule}
use Rattle.lk_trace.specs.declared.rules.Rule.TheVariants.{Typing, Reduction, Conversion}
use Rattle.lk_trace.specs.declared.sections.Line.{Line}
use Rattle.lk_trace.specs.Meaning.{line_by, line_of, IsLineIn}
use Rattle.lk_premises.specs.declared.claims.Claim.{Claim}
use Rattle.lk_premises.specs.Claims.{claim_at, claims_at, IsClaimIn, AreClaimsIn}
use Rattle.lk_step.specs.declared.step.Step.{Step}
use Rattle.lk_step.specs.Steps as steps
use Rattle.lk_step.specs.Meaning.{step_by, step_at, IsStepIn}
use Rattle.lk_derive.specs.Notes.{claim_with, claim_of}

-- of a line
line_claim : (c : Contents) (r : Rule) (l : Line) → claim_at c (claim_with r l.left l.right) ≡ written.claim_of (line_by c r l)
line_claim c (Typing r) l = refl
line_claim c (Reduction r) l = refl
line_claim c (Conversion r) l = refl

pub claim_is_of : (c : Contents) (l : Line) → claim_at c (claim_of l) ≡ written.claim_of (line_of c l)
claim_is_of c l = line_claim c l.rule l

pub line_claim_in : (c : Contents) (l : Line) → IsLineIn c l → IsClaimIn c (claim_of l)
line_claim_in c l h = record { left_in = h.left_in; right_in = h.right_in }

pub line_claims_in : (c : Contents) (ls : List Line) → All (IsLineIn c) ls → AreClaimsIn c (map claim_of ls)
line_claims_in c ls h = All-map (IsClaimIn c) claim_of ls (All-weaker (IsLineIn c) (λ (l : Line). IsClaimIn c (claim_of l)) (line_claim_in c) ls h)

-- of a step
step_claim_by : (c : Contents) (r : Rule) (s : Step) → claim_at c (claim_with r s.left s.right) ≡ steps.claim_of (step_by c r s)
step_claim_by c (Typing r) s = refl
step_claim_by c (Reduction r) s = refl
step_claim_by c (Conversion r) s = refl

pub step_claim : (c : Contents) (s : Step) → claim_at c (claim_with s.rule s.left s.right) ≡ steps.claim_of (step_at c s)
step_claim c s = step_claim_by c s.rule s

premises_by : (c : Contents) (r : Rule) (s : Step) → steps.premises_of (step_by c r s) ≡ claims_at c s.premises.items
premises_by c (Typing r) s = refl
premises_by c (Reduction r) s = refl
premises_by c (Conversion r) s = refl

pub step_premises : (c : Contents) (s : Step) → steps.premises_of (step_at c s) ≡ claims_at c s.premises.items
step_premises c s = premises_by c s.rule s

-- the line of a step, with these numbers of its premises
abbrev pub line_with : Step → Vec ℕ Global → Line
line_with s js = record { rule = s.rule; left = s.left; right = s.right; premises = js }

line_by_rule : (c : Contents) (r : Rule) (s : Step) (js : Vec ℕ Global) → steps.line_of js.items (step_by c r s) ≡ line_by c r (line_with s js)
line_by_rule c (Typing r) s js = refl
line_by_rule c (Reduction r) s js = refl
line_by_rule c (Conversion r) s js = refl

pub step_line : (c : Contents) (s : Step) (js : Vec ℕ Global) → steps.line_of js.items (step_at c s) ≡ line_of c (line_with s js)
step_line c s js = line_by_rule c s.rule s js

pub step_line_in : (c : Contents) (s : Step) (js : Vec ℕ Global) → IsStepIn c s → IsLineIn c (line_with s js)
step_line_in c s js h = record { rule_in = h.rule_in; left_in = h.left_in; right_in = h.right_in }

-- what the comparison of two claims says, where the first of them is s
module _ (c : Contents) (k s j : Claim) (b : Bool) (is : s ≡ k) (compared : IsTrue b ↔ (claim_at c s ≡ claim_at c j)) where
  pub same_claim : b ≡ true → claim_at c k ≡ claim_at c j
  same_claim h = subst (λ (x : Claim). claim_at c x ≡ claim_at c j) is (compared.0 h)

  pub other_claim : b ≡ false → claim_at c k ≡ claim_at c j → ⊥
  other_claim h e = iff_false compared h (subst (λ (x : Claim). claim_at c x ≡ claim_at c j) (sym is) e)
