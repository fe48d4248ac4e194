-- The walk that gathers the parameters of a level.
use Rattle.std.specs.Prelude.{◌≡◌, ℕ, Bool, ◌<◌, cond, List, [], ◌∷◌, ◌++◌, All, length, slice_index_or, sum_by}
use Rattle.lk_tree.specs.Tree.{Name, Level, zero_level, succ_level, max_level, imax_level, param}
use Rattle.lk_store.specs.Hashes.{hash_of_pair}
use Rattle.lk_store.specs.Contents.{Contents, level_at}
use Rattle.lk_subst.specs.Parts.{cost_where}
use Rattle.lk_level_order.specs.declared.gathering.Side.{Side}
use Rattle.lk_level_order.specs.declared.gathering.Turn.{Turn}
use Rattle.lk_level_order.specs.declared.parameters.Parameter.{Parameter}
use Rattle.lk_level_order.specs.Parameters.{IsWithin, names_of, wanted}

abbrev pub hash_of_side : ℕ → Side → ℕ
hash_of_side seed s = hash_of_pair seed s.level (cond s.inside 1 0)

-- the parameters that are gathered from a side
abbrev pub wanted_of : Contents → Side → List Name
wanted_of c s = wanted s.inside (level_at c s.level)

-- those of each side that was met are there
abbrev pub AreGathered : Contents → List Parameter → List Side → Type 0
AreGathered c names met = All (λ (s : Side). IsWithin (wanted_of c s) (names_of c names)) met

-- numbers of levels, whose parameters are among some
abbrev pub AreTurns : Contents → List Name → List Turn → Type 0
AreTurns c among turns = All (λ (t : Turn). (t.side.level < length c.levels) × IsWithin (wanted_of c t.side) among) turns

abbrev pub turn_cost : Contents → Turn → ℕ
turn_cost c t = cost_where t.opened (level_at c t.side.level)

abbrev pub turns_cost : Contents → List Turn → ℕ
turns_cost c turns = sum_by (turn_cost c) turns

abbrev pub IsMet : Side → List Side → Type 0
IsMet s met = (i : ℕ) × (i < length met) × ((d : Side) → slice_index_or met i d ≡ s)

-- the parameter that a level itself is
abbrev pub own_param : Bool → Level → List Name
own_param inside zero_level = []
own_param inside (succ_level l) = []
own_param inside (max_level l m) = []
own_param inside (imax_level l m) = []
own_param inside (param n) = cond inside (n ∷ []) []

-- what a turn adds
abbrev pub turn_wanted : Contents → Turn → List Name
turn_wanted c t = cond t.opened (own_param t.side.inside (level_at c t.side.level)) (wanted_of c t.side)

-- what is still to be added, from the top of the stack down
abbrev pub turns_wanted : Contents → List Turn → List Name
turns_wanted c [] = []
turns_wanted c (t ∷ ts) = turns_wanted c ts ++ turn_wanted c t
