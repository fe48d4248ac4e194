-- The canonical text of units that are kept, each with its own budget.
use Rattle.std.specs.Prelude.{ℕ, Bool, false, List, [], ◌∷◌, ◌++◌, map, Option, Some, None, codes}
use Rattle.std.specs.Prelude.{nat_eq, slice_get, if◌then◌else◌}
use Rattle.lk_tree.specs.Tree.{Name}
use Rattle.lk_rulebook.specs.Place.{Entry}
use Rattle.lk_rulebook.specs.Units.{members_of, LibraryUnit, Library}
use Rattle.lk_env.specs.Budgets.{StatedBudget, first_unit, own_budget}
use Rattle.lk_trim.specs.Written.{Written, File, beginning, fields, line}
use Rattle.lk_trim.specs.Names.{name_number, write_name}
use Rattle.lk_trim.specs.Units.{write_unit}

-- a unit, and the line that states its own budget
pub record Kept : Type 0 where
  pub unit : LibraryUnit
  pub budget : Option StatedBudget

abbrev pub budget_line : StatedBudget → Written → List ℕ
budget_line b w = codes "#BUD" ++ fields (name_number w b.name ∷ b.steps ∷ [])

abbrev pub write_budget : Option StatedBudget → File → File
write_budget None f = f
write_budget (Some b) f = line (budget_line b) (write_name b.name f)

abbrev pub write_kept : Kept → File → File
write_kept k f = write_budget k.budget (write_unit k.unit f)

abbrev pub write_all : List Kept → File → File
write_all [] f = f
write_all (k ∷ ks) f = write_all ks (write_kept k f)

abbrev pub canonical_text : List Kept → List ℕ
canonical_text ks = (write_all ks beginning).text

-- Of the units of a library, by their numbers. The line goes by the first name of a member that no
-- earlier unit gives.
abbrev pub is_unit : ℕ → Option ℕ → Bool
is_unit n None = false
is_unit n (Some u) = nat_eq u n

abbrev pub own_name : Library → ℕ → List Name → Option Name
own_name us n [] = None
own_name us n (x ∷ xs) = if is_unit n (first_unit us x) then Some x else own_name us n xs

abbrev pub budget_by : Option ℕ → Option Name → Option StatedBudget
budget_by None x = None
budget_by (Some steps) None = None
budget_by (Some steps) (Some x) = Some (record { name = x; steps = steps })

abbrev pub member_names : LibraryUnit → List Name
member_names u = map (λ (m : Name × Entry). m.0) (members_of u)

abbrev pub kept_unit : Library → List StatedBudget → ℕ → LibraryUnit → Kept
kept_unit us bs n u =
    record { unit = u; budget = budget_by (own_budget us bs n) (own_name us n (member_names u)) }

abbrev pub kept_if_any : Library → List StatedBudget → ℕ → Option LibraryUnit → List Kept
kept_if_any us bs n None = []
kept_if_any us bs n (Some u) = kept_unit us bs n u ∷ []

abbrev pub kept_of : Library → List StatedBudget → List ℕ → List Kept
kept_of us bs [] = []
kept_of us bs (n ∷ ns) = kept_if_any us bs n (slice_get us n) ++ kept_of us bs ns
