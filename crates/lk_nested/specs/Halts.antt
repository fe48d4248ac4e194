-- Where a search for occurrences ends, by the numbers of a store.
use Rattle.std.specs.Prelude.{◌≡◌, ℕ, ◌<◌, Bool, true, false, List, length, Ok, Err, Result}
use Rattle.lk_tree.specs.Tree.{Name, Tree, app, lam, pi, let_in, proj}
use Rattle.lk_tree.specs.declared.rule.Rule.TheVariants.{LooseVariable}
use Rattle.lk_rulebook.specs.Place.{Place}
use Rattle.lk_ask.specs.declared.stop.Stop.{Stop}
use Rattle.lk_ask.specs.declared.stop.Stop.TheVariants.{No, Spent, NoMemory}
use Rattle.lk_seek.specs.Sought.{Findings, Sought}
use Rattle.lk_seek.specs.Trees.{in_trees}
use Rattle.lk_store.specs.Contents.{Contents, tree_at}
use Rattle.lk_nested.specs.Occurrences.{Test, passes, fails, is_occurrence}
use Rattle.lk_nested.specs.Unmet.{First, nothing, new, refused_by, first_of, first_unmet}

-- an occurrence that was not met, or why nothing is said
pub data Halt : Type 0 where
  met : ℕ → Halt
  halted : Stop → Halt

-- why nothing is said
abbrev pub IsStopped : First → Stop → Type 0
IsStopped f (No r) = f ≡ refused_by r
IsStopped f Spent = ⊥
IsStopped f NoMemory = Unit {0}

abbrev pub IsHalt : Contents → First → Halt → Type 0
IsHalt c f (met o) = (o < length c.trees) × (f ≡ new (tree_at c o))
IsHalt c f (halted stop) = IsStopped f stop

-- what may be found; that something is found and is neither never comes
abbrev pub first_found : Bool → First
first_found true = refused_by LooseVariable
first_found false = nothing

abbrev pub firsts : Contents → Findings Halt
firsts c = record { Found = First; found = first_found; then = first_of; stops = IsHalt c }

-- what the walk looks for in the trees of a store
abbrev pub unmet : Place → List Name → List Tree → Contents → Sought ℕ Halt
unmet w ns os c = in_trees (firsts c) (first_unmet w ns os) c

-- the same of the parts of a tree, in order
abbrev pub first_below : Place → List Name → List Tree → Tree → First
first_below w ns os (app f a) = first_of (first_unmet w ns os f) (first_unmet w ns os a)
first_below w ns os (lam A b) = first_of (first_unmet w ns os A) (first_unmet w ns os b)
first_below w ns os (pi A B) = first_of (first_unmet w ns os A) (first_unmet w ns os B)
first_below w ns os (let_in A v b) = first_of (first_unmet w ns os A) (first_of (first_unmet w ns os v) (first_unmet w ns os b))
first_below w ns os (proj S i s) = first_unmet w ns os s
first_below w ns os e = nothing

-- what a test came to
abbrev pub IsTested : Test → Result Bool Stop → Type 0
IsTested q (Ok true) = is_occurrence q ≡ true
IsTested q (Ok false) = q ≡ passes
IsTested q (Err (No r)) = q ≡ fails r
IsTested q (Err Spent) = ⊥
IsTested q (Err NoMemory) = Unit {0}
