-- The parts of a unit, as they are derived one after another.
use Rattle.std.specs.Prelude.{◌≡◌, ℕ, ◌<◌, List, [], ◌∷◌, ◌++◌, length, All}
use Rattle.lk_tree.specs.Tree.{Level, Tree}
use Rattle.lk_tree.specs.WellFormed.{IsWellFormed}
use Rattle.lk_rulebook.specs.Place.{Place}
use Rattle.lk_rulebook.specs.WellStated.{WellStated}
use Rattle.lk_rulebook.specs.Claims.{Claim}
use Rattle.lk_questions.specs.Query as plain
use Rattle.lk_questions.specs.Query.{AnswerTo}
use Rattle.lk_store.specs.Contents.{Contents, tree_at}
use Rattle.lk_ask.specs.declared.query.Query.{Query}
use Rattle.lk_ask.specs.Questions.{query_of, IsKnownQuery}
use Rattle.lk_premises.specs.Claims.{claims_at, AreClaimsIn}
use Rattle.lk_step.specs.Rows.{IsAnswered, IsClaimed, claim_by, IsClaim, IsThere}
use Rattle.lk_derive.specs.declared.parts.Parts.{Parts}
use Rattle.lk_derive.specs.Notes.{stated_at}
use Rattle.lk_derive.specs.Derived.{IsDerivation}
use Rattle.lk_derive.specs.Units.{HasSort, HasType}

abbrev pub parts_at : Contents → Parts → List Claim
parts_at c p = claims_at c p.claims.items

-- each of them is stated by a line, or is of one tree
pub record AreParts (w : Place) (c : Contents) (p : Parts) : Type 0 where
  pub derivation : IsDerivation w c p.derivation
  pub claims_in : AreClaimsIn c p.claims.items
  pub there : All (IsThere (stated_at c p.derivation.notes)) (parts_at c p)

-- these are added
pub record AddsParts (w : Place) (c d : Contents) (old new : Parts) (cs : List Claim) : Type 0 where
  pub parts : AreParts w d new
  pub claims : parts_at d new ≡ parts_at c old ++ cs

-- this is what the question's answer claims
abbrev pub IsClaimOf : Place → plain.Query → Claim → Type 0
IsClaimOf w q k = (v : AnswerTo q) (n : ℕ) → IsAnswered w q v n → IsClaimed q v → claim_by q v ≡ k

-- the question can be derived
pub record IsDue {S : Type 0} (contents : S → Contents) (place : S → Place) (most : S → ℕ)
    (rows : S) (parts : Parts) (q : Query ℕ) : Type 0 where
  pub known : IsKnownQuery (length (contents rows).trees) q
  pub answered : IsClaim (place rows) (query_of (tree_at (contents rows)) q) (most rows)
  pub parts_are : AreParts (place rows) (contents rows) parts

-- the sort of the type can be derived
pub record IsSortDue {S : Type 0} (contents : S → Contents) (place : S → Place) (most : S → ℕ)
    (rows : S) (parts : Parts) (type : ℕ) : Type 0 where
  pub type_in : type < length (contents rows).trees
  pub parts_are : AreParts (place rows) (contents rows) parts
  pub stated : WellStated (place rows)
  pub fine : IsWellFormed (tree_at (contents rows) type)
  pub level : Level
  pub sorted : HasSort (place rows) (most rows) (tree_at (contents rows) type) level

-- that the value is of the type can be derived
pub record IsValueDue {S : Type 0} (contents : S → Contents) (place : S → Place) (most : S → ℕ)
    (rows : S) (parts : Parts) (value type : ℕ) : Type 0 where
  pub value_in : value < length (contents rows).trees
  pub type_in : type < length (contents rows).trees
  pub parts_are : AreParts (place rows) (contents rows) parts
  pub stated : WellStated (place rows)
  pub value_fine : IsWellFormed (tree_at (contents rows) value)
  pub type_fine : IsWellFormed (tree_at (contents rows) type)
  pub typed : HasType (place rows) (most rows) (tree_at (contents rows) value)
      (tree_at (contents rows) type)

-- a term is found that stands for this tree, and the claim of it is added
pub record AddsTerm (w : Place) (c d : Contents) (old new : Parts) (k : Claim) (v : ℕ) (V : Tree)
    : Type 0 where
  pub is : tree_at d v ≡ V
  pub adds : AddsParts w c d old new (k ∷ [])
