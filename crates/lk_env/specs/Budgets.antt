-- The budgets that units have of their own: a line of the file names a unit, by a name that it
-- gives, and states how many steps it may take at most.
use Rattle.std.specs.Prelude.{◌≡◌, ℕ, ◌<◌, List, [], ◌∷◌, length, map, All, Option, Some, None, option_map, min, nat_eq, slice_index_or, if◌then◌else◌}
use Rattle.lk_tree.specs.Tree.{Name}
use Rattle.lk_rulebook.specs.Units.{Library, Found, first_giving}
use Rattle.lk_store.specs.Contents.{Contents, name_at}
use Rattle.lk_store.specs.Store.{contents_of}
use Rattle.lk_env.specs.declared.budget.Budget.{Budget}
use Rattle.lk_env.specs.declared.unit.Unit.{Unit as StoredUnit}
use Rattle.lk_env.specs.StoredLibrary.{StoredLibrary}
use Rattle.lk_env.specs.Units.{library_at}

-- what a line states: the first unit that gives the name takes so many steps at most
pub record StatedBudget : Type 0 where
  pub name : Name
  pub steps : ℕ

-- the lesser of two numbers, where both are there
abbrev pub lesser : Option ℕ → Option ℕ → Option ℕ
lesser None n = n
lesser (Some m) None = Some m
lesser (Some m) (Some n) = Some (min m n)

-- the number of steps, where the unit that it is stated of is number n
abbrev pub steps_of : ℕ → ℕ → Option ℕ → Option ℕ
steps_of n steps None = None
steps_of n steps (Some unit) = if nat_eq unit n then Some steps else None

-- the first unit that gives the name
abbrev pub first_unit : Library → Name → Option ℕ
first_unit us x = option_map (λ (f : Found). f.unit) (first_giving 0 us x)

-- what a line states of unit n
abbrev pub stated_of : Library → ℕ → StatedBudget → Option ℕ
stated_of us n b = steps_of n b.steps (first_unit us b.name)

-- the own budget of unit n: the least number that a line states of it
abbrev pub own_budget : Library → List StatedBudget → ℕ → Option ℕ
own_budget us [] n = None
own_budget us (b ∷ bs) n = lesser (stated_of us n b) (own_budget us bs n)

-- the budget of a unit in a run that gives each unit so many steps: where it has one of its own,
-- the lesser of both
abbrev pub budget_within : ℕ → Option ℕ → ℕ
budget_within steps None = steps
budget_within steps (Some own) = min steps own

-- what a line states, by the numbers of a store
abbrev pub budget_at : Contents → Budget → StatedBudget
budget_at c b = record { name = name_at c b.name; steps = b.steps }

abbrev pub budgets_at : Contents → List Budget → List StatedBudget
budgets_at c bs = map (budget_at c) bs

-- what the lines state for the units of a library
abbrev pub budgets_of : StoredLibrary → List StatedBudget
budgets_of l = budgets_at (contents_of l.tables) l.budgets

-- the names are numbers of the store
abbrev pub AreBudgetsIn : Contents → List Budget → Type 0
AreBudgetsIn c bs = All (λ (b : Budget). b.name < length c.names) bs

-- the least number noted of unit n
abbrev pub limit_at : List (Option ℕ) → ℕ → Option ℕ
limit_at limits n = slice_index_or limits n None

-- the own budget of each unit
abbrev pub AreLimits : Contents → List StoredUnit → List Budget → List (Option ℕ) → Type 0
AreLimits c us bs limits =
    (n : ℕ) → limit_at limits n ≡ own_budget (library_at c us) (budgets_at c bs) n
