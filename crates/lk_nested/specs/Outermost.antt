-- The outermost nested occurrences in a tree, in order: they tell which is the first new one, whatever was met.
use Rattle.std.specs.Prelude.{◌≡◌, ◌⊎◌, ℕ, ◌<◌, Bool, true, ◌&&◌, List, [], ◌∷◌, ◌++◌, map, length, All, Option, Some, None, Ok, Err, Result, if◌then◌else◌}
use Rattle.lk_tree.specs.Tree.{Name, Tree}
use Rattle.lk_tree.specs.declared.rule.Rule.{Rule}
use Rattle.lk_rulebook.specs.Place.{Place}
use Rattle.lk_inductive.specs.BlockSteps.{is_among}
use Rattle.lk_store.specs.Contents.{Contents, tree_at}
use Rattle.lk_ask.specs.declared.stop.Stop.{Stop}
use Rattle.lk_ask.specs.declared.stop.Stop.TheVariants.{No, Spent, NoMemory}
use Rattle.lk_seek.specs.declared.visit.Visit.{Visit}
use Rattle.lk_seek.specs.Visits.{IsEntered}
use Rattle.lk_mentions.specs.declared.part.Met.{Met}
use Rattle.lk_nested.specs.Occurrences.{test_at, is_occurrence}
use Rattle.lk_nested.specs.Unmet.{First, nothing, new, refused_by, first_unmet}
use Rattle.lk_nested.specs.Halts.{IsStopped, unmet}

-- each of them was met
abbrev pub are_among : List Tree → List Tree → Bool
are_among [] met = true
are_among (o ∷ os) met = is_among o met && are_among os met

-- the first of them that was not met, or else what comes last
abbrev pub unmet_of : List Tree → List Tree → First → First
unmet_of met [] last = last
unmet_of met (o ∷ os) last = if is_among o met then unmet_of met os last else new o

-- behind them nothing is new, or a look-up is refused
abbrev pub last_of : Option Rule → First
last_of None = nothing
last_of (Some r) = refused_by r

-- they tell what is new in the tree
abbrev pub Tell : Place → List Name → Tree → List Tree → First → Type 0
Tell w ns e os last = (met : List Tree) → first_unmet w ns met e ≡ unmet_of met os last

pub record AreOutermost (w : Place) (ns : List Name) (c : Contents) (e : ℕ) (os : List ℕ) (refused : Option Rule) : Type 0 where
  pub found_in : All (λ o. o < length c.trees) os
  pub tell : Tell w ns (tree_at c e) (map (tree_at c) os) (last_of refused)

-- no answer is for want of memory alone
abbrev pub AreOutermostIf : Place → List Name → Contents → ℕ → List ℕ → Result (Option Rule) Stop → Type 0
AreOutermostIf w ns c e os (Ok r) = AreOutermost w ns c e os r
AreOutermostIf w ns c e os (Err stop) = stop ≡ NoMemory

-- nothing is new in these trees once those that were gathered are met
abbrev pub AreGathered : Place → List Name → Contents → List ℕ → List Met → Type 0
AreGathered w ns c os done = All (λ (m : Met). (met : List Tree) → are_among (map (tree_at c) os) met ≡ true → first_unmet w ns met (tree_at c m.tree) ≡ nothing) done

-- a tree is passed or opened, or it is gathered
abbrev pub IsTaken : Place → List Name → Contents → ℕ → List ℕ → List ℕ → List (Visit ℕ) → List (Visit ℕ) → Type 0
IsTaken w ns c e os ps old new_ =
    ((ps ≡ os) × ((met : List Tree) → are_among (map (tree_at c) os) met ≡ true → IsEntered (unmet w ns met c) e old new_))
    ⊎ ((ps ≡ os ++ e ∷ []) × (new_ ≡ old) × (is_occurrence (test_at w ns (tree_at c e)) ≡ true))

abbrev pub IsTakenIf : {X : Type 0} → Place → List Name → Contents → ℕ → List ℕ → List ℕ → List (Visit ℕ) → List (Visit ℕ) → Result X Stop → Type 0
IsTakenIf w ns c e os ps old new_ (Ok u) = IsTaken w ns c e os ps old new_
IsTakenIf w ns c e os ps old new_ (Err stop) = (ps ≡ os) × ((met : List Tree) → IsStopped (first_unmet w ns met (tree_at c e)) stop)

-- a refusal is told, and else there is no answer
abbrev pub Tells : Stop → Result (Option Rule) Stop → Type 0
Tells (No r) result = result ≡ Ok (Some r)
Tells Spent result = result ≡ Err NoMemory
Tells NoMemory result = result ≡ Err NoMemory
