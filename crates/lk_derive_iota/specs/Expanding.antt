-- A major premise that is no constructor, in the type of a structure.
use Rattle.std.specs.Prelude.{ℕ, ◌≡◌, ◌<◌, ◌+◌, true, false, List, [], ◌∷◌, ◌++◌, length, Option}
use Rattle.std.specs.Prelude.{Some, None}
use Rattle.lk_tree.specs.Tree.{Level, Tree, sort, const}
use Rattle.lk_tree.specs.Spine.{apply, head, args}
use Rattle.lk_tree.specs.WellFormed.{IsWellFormed}
use Rattle.lk_rulebook.specs.Place.{Place}
use Rattle.lk_rulebook.specs.Structures.{projections, StructureAt, structure_type, expanded}
use Rattle.lk_rulebook.specs.Structures.{HasOnlyRule, on_major}
use Rattle.lk_rulebook.specs.Claims.{reduces}
use Rattle.lk_tree.specs.Level.{is_zero_level}
use Rattle.lk_questions.specs.Iota.{CtorApp, builds_structure}
use Rattle.lk_store.specs.Contents.{Contents, name_at}
use Rattle.lk_env.specs.StoredLibrary.{StoredLibrary}
use Rattle.lk_constructor.specs.declared.constructor.AppliedConstructor.{AppliedConstructor}
use Rattle.lk_constructor.specs.Applied.{IsApplied}
use Rattle.lk_constructor.specs.Looking.{app_at}
use Rattle.lk_step.specs.declared.step.Row.{Row}
use Rattle.lk_step.specs.MajorSteps.{expand_claims}
use Rattle.lk_step.specs.Parts.{IsPartIn}
use Rattle.lk_derive_iota.specs.declared.redexes.Redex.{Redex}
use Rattle.lk_derive_iota.specs.Stages.{at_ctor, by_structure, by_levels, IsUnderWay}
use Rattle.lk_derive_iota.specs.Taken.{HasForm, IsExpanded}

-- the level of a sort
abbrev pub sort_level : Tree → Option Level
sort_level (sort l) = Some l
sort_level _ = None

-- the recursor has this constructor alone, and m is none
pub record IsAtParent (w : Place) (l : StoredLibrary) (c : Contents) (r : Row) (most : ℕ)
    (u : Redex) (m : Tree) (k : AppliedConstructor) : Type 0 where
  pub b : CtorApp
  pub is : IsApplied c l [] k b
  pub under : IsUnderWay w l c r most u m (by_structure m (Some b)) 0

-- the constructor builds a structure
pub record IsLikeParent (w : Place) (l : StoredLibrary) (c : Contents) (r : Row) (most : ℕ)
    (u : Redex) (m : Tree) (k : AppliedConstructor) : Type 0 where
  pub parent : IsAtParent w l c r most u m k
  pub like : builds_structure parent.b ≡ true

-- m is of the constructor's type T, at these levels
pub record IsOfParent (w : Place) (l : StoredLibrary) (c : Contents) (r : Row) (most : ℕ)
    (u : Redex) (m : Tree) (k : AppliedConstructor) (T : Tree) (ks : List Level) : Type 0 where
  pub b : CtorApp
  pub beside : ℕ
  pub is : IsApplied c l [] k b
  pub under : IsUnderWay w l c r most u m (by_levels m b T (Some ks)) beside
  pub has : HasForm w m T
  pub beside_is : beside ≡ has.first + has.second

-- what m is expanded to, where it is
abbrev pub IsExpandedIf : Place → StoredLibrary → Contents → Row → ℕ → Redex → Tree → (ℕ → Tree)
    → Option ℕ → Type 0
IsExpandedIf w l c r most u m t None = IsUnderWay w l c r most u m (at_ctor None) 0
IsExpandedIf w l c r most u m t (Some x) = (x < length c.trees)
    × IsExpanded w l c r most u m (t x) (at_ctor (app_at w (head (t x)) (args (t x))))

-- the constructor at the arguments of T and at the projections of m
abbrev pub expansion_at : Contents → AppliedConstructor → List Level → Tree → Tree → Tree
expansion_at c k ks m T = apply (const (name_at c k.name) ks)
    (args T ++ projections (name_at c k.inductive) m 0 k.fields)

-- the row states what the expansion asks for
pub record IsExpansionAsked (w : Place) (l : StoredLibrary) (c : Contents) (r : Row) (most : ℕ)
    (u : Redex) (m x S T U V : Tree) : Type 0 where
  pub level : Level
  pub under : IsUnderWay w l c r most u m (at_ctor (app_at w (head x) (args x))) 0
  pub sort_is : V ≡ sort level
  pub stated : IsPartIn w c r (expand_claims m S T U level) under.spent
  pub reached : IsPartIn w c r (reduces (on_major under.R under.first) (on_major under.R m) ∷
      expand_claims m S T U level) under.spent
  pub structure : StructureAt w
  pub only : HasOnlyRule under.R structure.structure.ctor_name
  pub not_zero : is_zero_level level ≡ false
  pub type_is : structure_type structure ≡ T
  pub value_is : expanded structure m ≡ x
  pub fine_made : IsWellFormed x
