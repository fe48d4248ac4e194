-- What a major premise is taken for because of its type.
use Rattle.std.specs.Prelude.{ℕ, ◌≡◌, ◌<◌, ◌+◌, ◌≤◌, Bool, true, false, List, [], ◌∷◌, length, take}
use Rattle.std.specs.Prelude.{Option, Some, None}
use Rattle.lk_tree.specs.Tree.{Level, Tree, sort, const}
use Rattle.lk_tree.specs.Spine.{apply, args}
use Rattle.lk_tree.specs.Level.{is_zero_level}
use Rattle.lk_tree.specs.WellFormed.{IsWellFormed}
use Rattle.lk_rulebook.specs.Place.{Place}
use Rattle.lk_rulebook.specs.Structures.{StructureAt, structure_type, expanded, ctor_app}
use Rattle.lk_rulebook.specs.Structures.{HasOnlyRule, KMajor, k_type}
use Rattle.lk_rulebook.specs.Claims.{Claim, types, reduces}
use Rattle.lk_questions.specs.Query.{whnf, infer, same}
use Rattle.lk_store.specs.Contents.{Contents, IsTree}
use Rattle.lk_env.specs.StoredLibrary.{StoredLibrary}
use Rattle.lk_step.specs.declared.step.Row.{Row}
use Rattle.lk_step.specs.Rows.{IsAnswered}
use Rattle.lk_step.specs.Parts.{IsPartIn}
use Rattle.lk_step.specs.MajorSteps.{k_claims}
use Rattle.lk_derive_iota.specs.declared.redexes.Redex.{Redex}
use Rattle.lk_constructor.specs.declared.constructor.AppliedConstructor.{AppliedConstructor}
use Rattle.lk_constructor.specs.Applied.{IsApplied}
use Rattle.lk_questions.specs.Iota.{CtorApp}
use Rattle.lk_derive_iota.specs.Stages.{Stage, at_major, at_subject, by_only, by_type, IsUnderWay}

-- T is the weak head form of the type of e
pub record HasForm (w : Place) (e T : Tree) : Type 0 where
  pub stated : Tree
  pub first : ℕ
  pub second : ℕ
  pub typed : IsAnswered w (infer e) stated first
  pub formed : IsAnswered w (whnf stated) T second

-- the type of e is answered, and its weak head form, at no more than this cost
pub record IsTypedWithin (w : Place) (e : Tree) (most : ℕ) : Type 0 where
  pub form : Tree
  pub has : HasForm w e form
  pub first_within : has.first ≤ most
  pub second_within : has.second ≤ most

-- the row states the type of e and its weak head form T
pub record AsksTyped (w : Place) (c d : Contents) (old new : Row) (e S T : Tree) : Type 0 where
  pub first : ℕ
  pub second : ℕ
  pub typed : IsAnswered w (infer e) S first
  pub formed : IsAnswered w (whnf S) T second
  pub asks : IsWellFormed e → IsWellFormed S → (stated : List Claim) (spent : ℕ)
      → IsPartIn w c old stated spent
      → IsPartIn w d new (reduces S T ∷ types e S ∷ stated) (spent + (first + second))

-- K takes the major premise for d
pub record IsTaken (w : Place) (l : StoredLibrary) (c : Contents) (r : Row) (most : ℕ) (u : Redex)
    (m d : Tree) : Type 0 where
  pub type : Tree
  pub own : Tree
  pub beside : ℕ
  pub third : ℕ
  pub fourth : ℕ
  pub under : IsUnderWay w l c r most u m (at_subject d) beside
  pub has : HasForm w under.first type
  pub owned : IsAnswered w (infer d) own third
  pub compared : IsAnswered w (same type own) true fourth
  pub beside_is : beside ≡ has.first + (has.second + (third + fourth))
  pub major : KMajor under.R
  pub type_is : k_type major ≡ type
  pub ctor_is : ctor_app major.ctor ≡ d

-- m, of a structure's type, is taken for the constructor of its projections, x
pub record IsExpanded (w : Place) (l : StoredLibrary) (c : Contents) (r : Row) (most : ℕ)
    (u : Redex) (m x : Tree) (s : Stage) : Type 0 where
  pub type : Tree
  pub level : Level
  pub beside : ℕ
  pub under : IsUnderWay w l c r most u m s beside
  pub has : HasForm w m type
  pub sorted : HasForm w type (sort level)
  pub beside_is : beside ≡ has.first + (has.second + (sorted.first + sorted.second))
  pub structure : StructureAt w
  pub only : HasOnlyRule under.R structure.structure.ctor_name
  pub not_zero : is_zero_level level ≡ false
  pub type_is : structure_type structure ≡ type
  pub value_is : expanded structure m ≡ x

-- the recursor has K, and this constructor alone
pub record IsAtOnly (w : Place) (l : StoredLibrary) (c : Contents) (r : Row) (most : ℕ) (u : Redex)
    (m : Tree) (k : AppliedConstructor) : Type 0 where
  pub b : CtorApp
  pub is : IsApplied c l [] k b
  pub under : IsUnderWay w l c r most u m (by_only (Some b)) 0

-- the major premise is of the constructor's type T, at these levels
pub record IsAtType (w : Place) (l : StoredLibrary) (c : Contents) (r : Row) (most : ℕ) (u : Redex)
    (m : Tree) (k : AppliedConstructor) (T : Tree) (ks : List Level) : Type 0 where
  pub b : CtorApp
  pub beside : ℕ
  pub is : IsApplied c l [] k b
  pub under : IsUnderWay w l c r most u m (by_type b T (Some ks)) beside
  pub has : HasForm w under.first T
  pub beside_is : beside ≡ has.first + has.second

-- d is the constructor at the parameters of T
pub record IsAtCandidate (w : Place) (l : StoredLibrary) (c : Contents) (r : Row) (most : ℕ)
    (u : Redex) (m T d : Tree) : Type 0 where
  pub b : CtorApp
  pub ks : List Level
  pub beside : ℕ
  pub under : IsUnderWay w l c r most u m (by_type b T (Some ks)) beside
  pub has : HasForm w under.first T
  pub beside_is : beside ≡ has.first + has.second
  pub enough : b.ctor.parameters ≤ length (args T)
  pub is : d ≡ apply (const b.name ks) (take b.ctor.parameters (args T))

-- whether T is the type of d was answered
pub record IsCompared (w : Place) (d T : Tree) (y : Bool) : Type 0 where
  pub own : Tree
  pub third : ℕ
  pub fourth : ℕ
  pub owned : IsAnswered w (infer d) own third
  pub compared : IsAnswered w (same T own) y fourth

pub record IsComparedWithin (w : Place) (d T : Tree) (most : ℕ) : Type 0 where
  pub y : Bool
  pub is : IsCompared w d T y
  pub third_within : is.third ≤ most
  pub fourth_within : is.fourth ≤ most

-- what K takes the major premise for, where it does
abbrev pub IsTakenIf : Place → StoredLibrary → Contents → Row → ℕ → Redex → Tree → (ℕ → Tree)
    → Option ℕ → Type 0
IsTakenIf w l c r most u m t None = IsUnderWay w l c r most u m at_major 0
IsTakenIf w l c r most u m t (Some d) = (d < length c.trees) × IsTaken w l c r most u m (t d)

-- the number stands for h at the first p arguments of T; there is none where T has fewer
abbrev pub IsMadeIf : Contents → Tree → ℕ → Tree → Option ℕ → Type 0
IsMadeIf c h p T None = length (args T) < p
IsMadeIf c h p T (Some d) = IsTree c d (apply h (take p (args T))) × (p ≤ length (args T))

-- the row states what K asks for
pub record IsAskedFor (w : Place) (l : StoredLibrary) (c : Contents) (r : Row) (most : ℕ)
    (u : Redex) (m d S T D : Tree) : Type 0 where
  pub under : IsUnderWay w l c r most u m (at_subject d) 0
  pub stated : IsPartIn w c r (k_claims under.first S T d D) under.spent
  pub major : KMajor under.R
  pub type_is : k_type major ≡ T
  pub ctor_is : ctor_app major.ctor ≡ d
  pub fine_made : IsWellFormed d
