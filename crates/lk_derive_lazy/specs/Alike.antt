-- Two terms whose heads are one constant at equal levels.
use Rattle.std.specs.Prelude.{ℕ, ◌≡◌, Bool, true, List, Option, Some, None}
use Rattle.lk_tree.specs.Tree.{Name, Level, Tree, const}
use Rattle.lk_tree.specs.Spine.{head, args}
use Rattle.lk_rulebook.specs.Place.{Place}
use Rattle.lk_questions.specs.Program.{done}
use Rattle.lk_questions.specs.Levels.{complete_test, tested, levels_equal}
use Rattle.lk_questions.specs.Unfolding.{Unfolding, unfold_both}
use Rattle.lk_store.specs.Contents.{Contents, tree_at}
use Rattle.lk_lazy.specs.Lazies.{same_or_both}
use Rattle.lk_lazy.specs.Spines.{IsPaired}
use Rattle.lk_lazy.specs.declared.spines.Paired.{Paired}
use Rattle.lk_premises.specs.declared.claims.Claim.{Claim}
use Rattle.lk_premises.specs.Claims.{claims_at}
use Rattle.lk_step.specs.Equal.{argument_claims}
use Rattle.lk_step.specs.Runs.{Runs}

-- both are one constant
pub record AreOneConstant (f g : Tree) : Type 0 where
  pub name : Name
  pub left : List Level
  pub right : List Level
  pub left_is : f ≡ const name left
  pub right_is : g ≡ const name right
  pub equal : levels_equal complete_test left right ≡ done true

-- the test of these levels does not say yes
pub record AreUnequal (ls ms : List Level) : Type 0 where
  pub answer : Option Bool
  pub tested_is : tested answer ≡ levels_equal complete_test ls ms
  pub no : answer ≡ Some true → ⊥

-- they are not
abbrev pub AreOther : Tree → Tree → Type 0
AreOther f g =
    (x : Name) (ls ms : List Level) → f ≡ const x ls → g ≡ const x ms → AreUnequal ls ms

-- where both unfold and are of one rank, nothing is asked of their arguments
abbrev pub AreUnlike : Tree → Tree → Type 0
AreUnlike a b =
    (p q : Unfolding) → head a ≡ const p.name p.levels → head b ≡ const q.name q.levels
    → (w : Place) (y : Bool) (n : ℕ) → Runs w (same_or_both a b p q) y n
    → same_or_both a b p q ≡ unfold_both a b p q

-- the heads of a and b, which are one constant, and the pairs of their arguments
pub record AreAlike (c : Contents) (a b : ℕ) (p : Paired) : Type 0 where
  pub paired : IsPaired c a b p
  pub heads : AreOneConstant (tree_at c p.left) (tree_at c p.right)

abbrev pub AreAlikeIf : Contents → ℕ → ℕ → Option Paired → Type 0
AreAlikeIf c a b None = AreUnlike (tree_at c a) (tree_at c b)
AreAlikeIf c a b (Some p) = AreAlike c a b p

-- these claim that the arguments of a and b are the same
abbrev pub AreApplied : Contents → ℕ → ℕ → List Claim → Type 0
AreApplied c a b ps =
    claims_at c ps ≡ argument_claims (args (tree_at c a)) (args (tree_at c b))
