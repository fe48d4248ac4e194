-- What constants of the larger block stand for, by the numbers of a store.
use Rattle.std.specs.Prelude.{◌≡◌, ℕ, ◌<◌, List, [], ◌∷◌, map, length, All}
use Rattle.lk_tree.specs.Tree.{Name, Level, param, Tree, const, app}
use Rattle.lk_tree.specs.Spine.{apply, args}
use Rattle.lk_inductive.specs.Block.{Shape, AreLocals}
use Rattle.lk_inductive.specs.Enlarged.{Setting}
use Rattle.lk_inductive.specs.Recursors.{Restoring, recursors, recursors_by}
use Rattle.lk_inductive.specs.Restore as plain
use Rattle.lk_store.specs.Contents.{Contents, name_at, tree_at}
use Rattle.lk_restore.specs.declared.originals.Original.{Original}
use Rattle.lk_restore.specs.declared.originals.Original.TheVariants.{Applied, Renamed}

-- the name of what stands for something, as a number
abbrev pub number_of : Original → ℕ
number_of (Applied n J from to) = n
number_of (Renamed n R) = n

-- the levels of the constant at the head
abbrev pub head_levels : Tree → List Level
head_levels (app f a) = head_levels f
head_levels (const c ls) = ls
head_levels _ = []

abbrev pub original_at : Contents → Original → Name × plain.Original
original_at c (Applied n J from to) = (name_at c n, plain.applied_to (name_at c J) (head_levels (tree_at c to)) (args (tree_at c to)))
original_at c (Renamed n R) = (name_at c n, plain.renamed_as (name_at c R))

abbrev pub originals_at : Contents → List Original → List (Name × plain.Original)
originals_at c os = map (original_at c) os

abbrev pub IsOriginalIn : Contents → Original → Type 0
IsOriginalIn c (Applied n J from to) = (n < length c.names) × (J < length c.names) × (from < length c.trees) × (to < length c.trees)
IsOriginalIn c (Renamed n R) = (n < length c.names) × (R < length c.names)

abbrev pub AreOriginalsIn : Contents → List Original → Type 0
AreOriginalsIn c os = All (IsOriginalIn c) os

-- the constant at the block's levels, applied to the parameters
abbrev pub at_own : Setting → Name → Tree
at_own s c = apply (const c (map param s.levels)) s.params

-- its terms are what they are said to be
abbrev pub IsStanding : Contents → Setting → Original → Type 0
IsStanding c s (Applied n J from to) =
    (tree_at c from ≡ at_own s (name_at c n)) × (tree_at c to ≡ apply (const (name_at c J) (head_levels (tree_at c to))) (args (tree_at c to)))
IsStanding c s (Renamed n R) = Unit {0}

abbrev pub AreStanding : Contents → Setting → List Original → Type 0
AreStanding c s os = All (IsStanding c s) os

-- the name that a constant has in the file
abbrev pub read_name : Contents → List Original → Name → Name
read_name c os n = plain.name_back n (plain.stands_for (originals_at c os) n)

-- where something stands for something, the parameters are Locals
abbrev pub AreReadOver : List Original → List Tree → Type 0
AreReadOver [] ps = Unit {0}
AreReadOver (o ∷ os) ps = AreLocals ps

-- the levels and the parameters that terms of a shape are read back at
abbrev pub setting_of : Shape → Setting
setting_of p = record { names = []; levels = p.levels; params = p.params }

pub record AreOriginals (c : Contents) (p : Shape) (os : List Original) : Type 0 where
  pub known : AreOriginalsIn c os
  pub standing : AreStanding c (setting_of p) os
  pub over : AreReadOver os p.params

abbrev pub restoring_at : Contents → List Original → Shape → Restoring
restoring_at c os p = plain.restoring (originals_at c os) (setting_of p)

-- the levels and the parameters of the setting alone count, and not its names
abbrev pub ReadsAs : Type 0
ReadsAs = (c : Contents) (os : List Original) (p : Shape) (ms : List (Name × plain.Original)) (s : Setting) → originals_at c os ≡ ms → p.levels ≡ s.levels → p.params ≡ s.params → restoring_at c os p ≡ plain.restoring ms s

-- with nothing to read back recursors are as they are
abbrev pub StayAsTheyAre : Type 0
StayAsTheyAre = (c : Contents) (p : Shape) → recursors_by (restoring_at c [] p) p ≡ recursors p
