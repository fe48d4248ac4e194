-- Steps of a written derivation: lines before they have numbers. What a step rests on are claims,
-- and it becomes a line once each of them is stated.
use Rattle.std.specs.Prelude.{ℕ, ◌≡◌, Bool, true, false, List, [], ◌∷◌, if◌then◌else◌}
use Rattle.lk_tree.specs.Tree.{Tree}
use Rattle.lk_rulebook.specs.Place.{Place}
use Rattle.lk_rulebook.specs.Claims.{Claim, types, reduces, equals}
use Rattle.lk_questions.specs.Steps.{is_same_tree}
use Rattle.lk_written.specs.Line.{TypingRule, ReductionRule, EqualityRule, Line, ty, rd, cv}
use Rattle.lk_written.specs.Premises.{Left}
use Rattle.lk_written.specs.Section.{line_holds}
use Rattle.lk_written.specs.Written.{Stands}

-- a rule, the two trees, and what it rests on, in the order in which the line's test reads it
pub data Step : Type 0 where
  typing : TypingRule → Tree → Tree → List Claim → Step
  reduction : ReductionRule → Tree → Tree → List Claim → Step
  equality : EqualityRule → Tree → Tree → List Claim → Step

-- what it states
abbrev pub claim_of : Step → Claim
claim_of (typing r e T cs) = types e T
claim_of (reduction r a b cs) = reduces a b
claim_of (equality r a b cs) = equals a b

-- what it rests on
abbrev pub premises_of : Step → List Claim
premises_of (typing r e T cs) = cs
premises_of (reduction r a b cs) = cs
premises_of (equality r a b cs) = cs

-- its line, with these numbers of premises
abbrev pub line_of : Left → Step → Line
line_of js (typing r e T cs) = ty r e T js
line_of js (reduction r a b cs) = rd r a b js
line_of js (equality r a b cs) = cv r a b js

-- no line states it: a tree reduces to itself, or equals itself
abbrev pub is_of_one : Claim → Bool
is_of_one (types e T) = false
is_of_one (reduces a b) = is_same_tree a b
is_of_one (equals a b) = is_same_tree a b

-- the premises that name the claims among what is stated, in their order; one of one tree has none
abbrev pub AreNamed : List Claim → List Claim → Left → Type 0
AreNamed ps [] js = js ≡ []
AreNamed ps (types e T ∷ cs) js =
    (j : ℕ) × (more : Left) × (js ≡ j ∷ more) × (Stands ps j (types e T)) × AreNamed ps cs more
AreNamed ps (reduces a b ∷ cs) js =
    (j : ℕ) × (more : Left) × (js ≡ (if is_same_tree a b then more else j ∷ more))
    × (Stands ps j (reduces a b)) × AreNamed ps cs more
AreNamed ps (equals a b ∷ cs) js =
    (j : ℕ) × (more : Left) × (js ≡ (if is_same_tree a b then more else j ∷ more))
    × (Stands ps j (equals a b)) × AreNamed ps cs more

-- its line holds, whatever is stated, where its claims are
abbrev pub StepHolds : Place → Step → Type 0
StepHolds w s = (ps : List Claim) (js : Left) → AreNamed ps (premises_of s) js
    → line_holds w ps (line_of js s) ≡ true
