-- The levels that a level is made of.
use Rattle.std.specs.Prelude.{ℕ, ◌<◌, ◌+◌, List, length, All, sum_by, Bool, true, false}
use Rattle.lk_tree.specs.Tree.{Level, succ_level, max_level, imax_level}
use Rattle.lk_store.specs.Contents.{Contents, level_at}
use Rattle.lk_store.specs.Hashes.{hash_of_pair}
use Rattle.lk_subst.specs.declared.parts.Met.{Met}
use Rattle.lk_subst.specs.declared.parts.Visit.{Visit}

abbrev pub hash_of_level : ℕ → ℕ → ℕ
hash_of_level seed l = hash_of_pair seed l 0

-- numbers of levels
abbrev pub AreMet : Contents → List Met → Type 0
AreMet c met = All (λ (m : Met). m.level < length c.levels) met

abbrev pub AreVisits : Contents → List Visit → Type 0
AreVisits c visits = All (λ (v : Visit). v.level < length c.levels) visits

-- a bound on the turns that a level takes
abbrev pub cost : Level → ℕ
cost (succ_level l) = cost l + 2
cost (max_level l m) = cost l + cost m + 2
cost (imax_level l m) = cost l + cost m + 2
cost _ = 2

abbrev pub cost_where : Bool → Level → ℕ
cost_where true l = 1
cost_where false l = cost l

abbrev pub visit_cost : Contents → Visit → ℕ
visit_cost c v = cost_where v.opened (level_at c v.level)

abbrev pub visits_cost : Contents → List Visit → ℕ
visits_cost c visits = sum_by (visit_cost c) visits
