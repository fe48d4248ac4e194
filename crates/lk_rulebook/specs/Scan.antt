-- The checks of a unit before its questions.
use Rattle.std.specs.Prelude.{ℕ, ◌≡◌, Bool, true, false, ◌&&◌, [], ◌∷◌, take, Option, Some, None, if◌then◌else◌}
use Rattle.lk_tree.specs.WellFormed.{IsStated}
use Rattle.lk_tree.specs.Scan.{NoneTwice, none_twice, TreeOver, tree_over}
use Rattle.lk_tree.specs.declared.rule.Rule.{Rule}
use Rattle.lk_tree.specs.declared.rule.Rule.TheVariants.{UndeclaredLevel, DuplicateLevel, DuplicateName, LooseVariable, WideLiteral}
use Rattle.lk_rulebook.specs.Units.{Library, LibraryUnit, Members, members_of, Trees, trees_of, all_bound, all_narrow, first_broken, given_by, first_giving}

-- no unit before number n gives the name of a member, and no two members have one name
abbrev pub AreNew : Library → ℕ → Members → Type 0
AreNew us n [] = Unit {0}
AreNew us n (m ∷ ms) = (first_giving 0 (take n us) m.0 ≡ None) × (given_by ms m.0 ≡ None) × AreNew us n ms

-- no member declares a level parameter twice
abbrev pub AreDistinct : Members → Type 0
AreDistinct [] = Unit {0}
AreDistinct (m ∷ ms) = NoneTwice m.1.levels × AreDistinct ms

-- each tree is closed, holds no Local, and has no level parameter but its member's
abbrev pub AreScanned : Trees → Type 0
AreScanned [] = Unit {0}
AreScanned (e ∷ es) = (IsStated e.1 × TreeOver e.0 e.1) × AreScanned es

-- u, as unit n, passes the checks before its questions
pub record IsScanned (us : Library) (n : ℕ) (u : LibraryUnit) : Type 0 where
  pub names : AreNew us n (members_of u)
  pub levels : AreDistinct (members_of u)
  pub trees : AreScanned (trees_of u)

-- the same as tests
abbrev pub is_none : {A : Type 0} → Option A → Bool
is_none None = true
is_none (Some x) = false

abbrev pub are_new : Library → ℕ → Members → Bool
are_new us n [] = true
are_new us n (m ∷ ms) = (is_none (first_giving 0 (take n us) m.0) && is_none (given_by ms m.0)) && are_new us n ms

abbrev pub are_distinct : Members → Bool
are_distinct [] = true
are_distinct (m ∷ ms) = none_twice m.1.levels && are_distinct ms

abbrev pub all_over : Trees → Bool
all_over [] = true
all_over (e ∷ es) = tree_over e.0 e.1 && all_over es

-- the rule that the unit's own lines break, the first in this order
abbrev pub own_scan : LibraryUnit → Option Rule
own_scan u = first_broken (
    (are_distinct (members_of u), DuplicateLevel)
    ∷ (all_bound (trees_of u), LooseVariable)
    ∷ (all_over (trees_of u), UndeclaredLevel)
    ∷ (all_narrow (trees_of u), WideLiteral)
    ∷ [])

-- the rule that u breaks as unit n: that its names are new comes before these
abbrev pub scan_of : Library → ℕ → LibraryUnit → Option Rule
scan_of us n u = if are_new us n (members_of u) then own_scan u else Some DuplicateName
