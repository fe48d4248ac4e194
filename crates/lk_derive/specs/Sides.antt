-- The sides of the laws of a definition, in pairs, and the value of a declaration.
use Rattle.std.specs.Prelude.{◌≡◌, ℕ, List, [], ◌∷◌, ◌++◌, length, All, Option, Some, None}
use Rattle.lk_tree.specs.Tree.{Tree}
use Rattle.lk_rulebook.specs.Place.{Place}
use Rattle.lk_rulebook.specs.Units.{Body, as_axiom, as_def, as_thm, as_opaque, as_quot, Decl}
use Rattle.lk_rulebook.specs.NumberLaws.{Law}
use Rattle.lk_rulebook.specs.Claims.{Claim, types, reduces, equals}
use Rattle.lk_questions.specs.Query.{same}
use Rattle.lk_questions.specs.NumberLaws.{lawful_op}
use Rattle.lk_store.specs.Contents.{Contents, tree_at}
use Rattle.lk_env.specs.declared.unit.Declaration.{Declaration}
use Rattle.lk_env.specs.Units.{declaration_at, declared_levels, IsStatedIn, IsBodyIn}
use Rattle.lk_ask.specs.declared.sheet.Pair.{Pair}
use Rattle.lk_ask.specs.Sheets.{IsKnownPair}
use Rattle.lk_step.specs.Rows.{IsClaim}
use Rattle.lk_step.specs.Pairs.{pairs_at}
use Rattle.lk_derive.specs.declared.parts.Parts.{Parts}
use Rattle.lk_derive.specs.Parts.{AreParts, IsValueDue}
use Rattle.lk_derive.specs.Units.{HasType, value_parts, lawful_parts, IsYes}

abbrev pub pair_parts : List (Pair Tree) → List Claim
pair_parts [] = []
pair_parts (p ∷ ps) = equals p.left p.right ∷ pair_parts ps

-- what the laws of a declaration with this body say
abbrev pub side_parts : Decl → Body → List Claim
side_parts d as_axiom = []
side_parts d (as_def h value) = lawful_parts (lawful_op d.name) value
side_parts d (as_thm value) = []
side_parts d (as_opaque value) = []
side_parts d as_quot = []

-- these pairs are the sides of the declaration's laws
pub record AreSidesOf (c : Contents) (d : Decl) (sides : List (Pair ℕ)) : Type 0 where
  pub pairs_in : All (IsKnownPair (length c.trees)) sides
  pub are : pair_parts (pairs_at c sides) ≡ side_parts d d.body

-- equalities, each of which is answered yes
abbrev pub AreEqual : Place → ℕ → List Claim → Type 0
AreEqual w most [] = Unit {0}
AreEqual w most (types e T ∷ cs) = ⊥
AreEqual w most (reduces a b ∷ cs) = ⊥
AreEqual w most (equals a b ∷ cs) = IsClaim w (same a b) most × AreEqual w most cs

-- that the two of each pair are equal can be derived
pub record AreSidesDue {S : Type 0} (contents : S → Contents) (place : S → Place) (most : S → ℕ)
    (rows : S) (parts : Parts) (sides : List (Pair ℕ)) : Type 0 where
  pub pairs_in : All (IsKnownPair (length (contents rows).trees)) sides
  pub parts_are : AreParts (place rows) (contents rows) parts
  pub equal : AreEqual (place rows) (most rows) (pair_parts (pairs_at (contents rows) sides))

abbrev pub body_value : Body → Option Tree
body_value as_axiom = None
body_value (as_def h value) = Some value
body_value (as_thm value) = Some value
body_value (as_opaque value) = Some value
body_value as_quot = None

-- the value of a definition
abbrev pub definition_value : Body → Option Tree
definition_value as_axiom = None
definition_value (as_def h value) = Some value
definition_value (as_thm value) = None
definition_value (as_opaque value) = None
definition_value as_quot = None

-- where there is a value, that it is of the type can be derived
abbrev pub IsAnyDue : {S : Type 0} → (S → Contents) → (S → Place) → (S → ℕ) → S → Parts →
    Option ℕ → ℕ → Type 0
IsAnyDue contents place most rows parts None type = AreParts (place rows) (contents rows) parts
IsAnyDue contents place most rows parts (Some value) type =
    IsValueDue contents place most rows parts value type

-- these are the parts that say so
abbrev pub AreValueParts : Place → ℕ → Option Tree → Tree → List Claim → Type 0
AreValueParts w most None type cs = cs ≡ []
AreValueParts w most (Some value) type cs =
    (h : HasType w most value type) × (cs ≡ value_parts value h.inferred type [])

-- its names and trees are numbers of the store
pub record IsDeclarationIn (c : Contents) (d : Declaration) : Type 0 where
  pub stated_in : IsStatedIn c d.name (declared_levels d) d.ty
  pub body_in : IsBodyIn c d.body

-- the parts of a declaration can be derived
pub record IsUnitDue {S : Type 0} (contents : S → Contents) (place : S → Place) (most : S → ℕ)
    (rows : S) (parts : Parts) (d : Declaration) (sides : List (Pair ℕ)) : Type 0 where
  pub declaration_in : IsDeclarationIn (contents rows) d
  pub parts_are : AreParts (place rows) (contents rows) parts
  pub yes : IsYes (place rows) (most rows) (declaration_at (contents rows) d)
  pub sides_are : AreSidesOf (contents rows) (declaration_at (contents rows) d) sides

-- the two are the sides of this law
pub record IsPairOf (c : Contents) (law : Law) (p : Pair ℕ) : Type 0 where
  pub pair_in : IsKnownPair (length c.trees) p
  pub left_is : tree_at c p.left ≡ law.left
  pub right_is : tree_at c p.right ≡ law.right

-- pairs are added, which say this
pub record AddsPairs (c d : Contents) (old new : List (Pair ℕ)) (cs : List Claim) : Type 0 where
  pub pairs_in : All (IsKnownPair (length d.trees)) new
  pub are : pair_parts (pairs_at d new) ≡ pair_parts (pairs_at c old) ++ cs
