-- What waits on the stack of the walk, its last visit on top.
use Rattle.std.specs.Prelude.{◌≡◌, ◌⊎◌, ℕ, ◌+◌, ◌*◌, List, [], ◌∷◌, ◌++◌, length, map}
use Rattle.lk_tree.specs.Tree.{Name, Level, succ_level, max_level, imax_level, param}
use Rattle.lk_tree.specs.Tree.{Tree, sort, const, app, lam, pi, let_in, proj, str, local}
use Rattle.lk_store.specs.Contents.{Contents, name_at, level_at, list_at, tree_at}
use Rattle.lk_spell.specs.declared.part.Part.{Part}
use Rattle.lk_spell.specs.declared.part.Part.TheVariants as part
use Rattle.lk_spell.specs.declared.numbers.Numbers.{Numbers}
use Rattle.lk_spell.specs.declared.open.Opened.{Opened}
use Rattle.lk_spell.specs.declared.open.Visit.{Visit}
use Rattle.lk_spell.specs.declared.open.Visit.TheVariants.{Enter, Leave}
use Rattle.lk_spell.specs.Numbers.{IsDone}
use Rattle.lk_spell.specs.Opened.{part_of, parts_back, IsOpenedIn}
use Rattle.lk_spell.specs.Parts.{IsPartIn}

-- Bounds on the turns of the walk that the parts take.
abbrev pub name_cost : Name → ℕ
name_cost n = 4 * length n + 1

abbrev pub level_cost : Level → ℕ
level_cost (succ_level l) = level_cost l + 2
level_cost (max_level l m) = level_cost l + level_cost m + 3
level_cost (imax_level l m) = level_cost l + level_cost m + 3
level_cost (param n) = name_cost n + 2
level_cost _ = 1

abbrev pub levels_cost : List Level → ℕ
levels_cost [] = 1
levels_cost (l ∷ ls) = level_cost l + levels_cost ls + 3

abbrev pub tree_cost : Tree → ℕ
tree_cost (sort l) = level_cost l + 2
tree_cost (const c ls) = name_cost c + levels_cost ls + 3
tree_cost (app f a) = tree_cost f + tree_cost a + 3
tree_cost (lam A b) = tree_cost A + tree_cost b + 3
tree_cost (pi A B) = tree_cost A + tree_cost B + 3
tree_cost (let_in A v b) = tree_cost A + tree_cost v + tree_cost b + 4
tree_cost (proj S i s) = name_cost S + tree_cost s + 3
tree_cost (str s) = 3
tree_cost (local k T) = tree_cost T + 2
tree_cost _ = 1

abbrev pub cost : Contents → Part → ℕ
cost c (part.Name n) = name_cost (name_at c n)
cost c (part.Text s) = 1
cost c (part.Level l) = level_cost (level_at c l)
cost c (part.List ls) = levels_cost (list_at c ls)
cost c (part.Term e) = tree_cost (tree_at c e)

-- the turns that are left
abbrev pub turns : Contents → List Visit → ℕ
turns c [] = 0
turns c (Enter p ∷ vs) = cost c p + 1 + turns c vs
turns c (Leave o ∷ vs) = 1 + turns c vs

-- a visit of the part waits
abbrev pub Waits : List Visit → Part → Type 0
Waits [] p = ⊥
Waits (Enter q ∷ vs) p = (q ≡ p) ⊎ Waits vs p
Waits (Leave o ∷ vs) p = (part_of o ≡ p) ⊎ Waits vs p

-- each part has a number, or a visit of it waits
abbrev pub Come : Numbers → List Visit → List Part → Type 0
Come m vs [] = Unit {0}
Come m vs (p ∷ ps) = (IsDone m p ⊎ Waits vs p) × Come m vs ps

-- the parts are there, and those of a part that is left come before it is
abbrev pub AreWaiting : Contents → Numbers → List Visit → Type 0
AreWaiting c m [] = Unit {0}
AreWaiting c m (Enter p ∷ vs) = IsPartIn c p × AreWaiting c m vs
AreWaiting c m (Leave o ∷ vs) = IsOpenedIn c o × Come m vs (parts_back o) × AreWaiting c m vs

-- a part that has no number is opened, and its parts come before it is left
pub record IsOpenedAt (c : Contents) (p : Part) (old new : List Visit) : Type 0 where
  pub opened : Opened
  pub is : part_of opened ≡ p
  pub there : IsOpenedIn c opened
  pub pushed : new ≡ old ++ Leave opened ∷ map Enter (parts_back opened)

-- what became of a part from the top of the stack
abbrev pub IsEntered : Contents → Numbers → Part → List Visit → List Visit → Type 0
IsEntered c m p old new = ((new ≡ old) × IsDone m p) ⊎ IsOpenedAt c p old new
