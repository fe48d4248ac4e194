-- What the head of a term unfolds by, by numbers, and what it means.
use Rattle.std.specs.Prelude.{◌≡◌, ◌<◌, ℕ, Bool, length, Option, Some, None}
use Rattle.std.specs.Prelude.{IfOk, IfErr, Result}
use Rattle.lk_tree.specs.Tree.{Tree, const}
use Rattle.lk_tree.specs.Spine.{head}
use Rattle.lk_rulebook.specs.Place.{Place}
use Rattle.lk_questions.specs.Program.{Program, ◌>>=◌}
use Rattle.lk_questions.specs.Erased.{truth, Steps, refuses, erased}
use Rattle.lk_questions.specs.Unfolding.{Unfolding as PlainUnfolding, Rank as PlainRank, lowest, height, highest, unfolding_by, unfolding_of}
use Rattle.lk_store.specs.Contents.{Contents, name_at, list_at, tree_at}
use Rattle.lk_env.specs.StoredLibrary.{StoredLibrary}
use Rattle.lk_env.specs.Entries.{library_entry}
use Rattle.lk_tree.specs.declared.rule.Rule.{Rule}
use Rattle.lk_ask.specs.Looks.{Basis, Sight}
use Rattle.lk_lazy.specs.declared.rank.Rank.{Rank}
use Rattle.lk_lazy.specs.declared.rank.Rank.TheVariants.{Lowest, Height, Highest}
use Rattle.lk_lazy.specs.declared.heads.Unfolding.{Unfolding}

abbrev pub rank_at : Rank → PlainRank
rank_at Lowest = lowest
rank_at (Height n) = height n
rank_at Highest = highest

-- what a head unfolds by is looked up, and k goes on with it
abbrev pub looked_up : Tree → (Option PlainUnfolding → Program Bool) → Program Bool
looked_up h k = unfolding_of h >>= k

-- what a head unfolds by at a place
abbrev pub unfolding_at : Place → Tree → Option PlainUnfolding
unfolding_at w (const c ls) = elim (w.means c) [ Some g ↦ unfolding_by c ls g g.kind | None ↦ None ]
unfolding_at w _ = None

-- its numbers are those of the store
pub record IsKnownUnfolding (c : Contents) (u : Unfolding) : Type 0 where
  pub name_in : u.name < length c.names
  pub levels_in : u.levels < length c.lists
  pub value_in : u.value < length c.trees

-- the numbers stand for it
pub record IsUnfolding (c : Contents) (l : StoredLibrary) (u : Unfolding)
    (p : PlainUnfolding) : Type 0 where
  pub known : IsKnownUnfolding c u
  pub name_is : name_at c u.name ≡ p.name
  pub levels_are : list_at c u.levels ≡ p.levels
  pub value_is : tree_at c u.value ≡ p.value
  pub entry_is : library_entry l u.entry ≡ Some p.entry
  pub rank_is : rank_at u.rank ≡ p.rank

-- the one is there exactly where the other is
abbrev pub IsUnfoldingIf : Contents → StoredLibrary → Option Unfolding
    → Option PlainUnfolding → Type 0
IsUnfoldingIf c l None None = Unit {0}
IsUnfoldingIf c l (Some u) (Some p) = IsUnfolding c l u p
IsUnfoldingIf c l (Some u) None = ⊥
IsUnfoldingIf c l None (Some p) = ⊥

-- it is what the head of e unfolds by
pub record UnfoldsBy {B : Type 0} (c : Contents) (b : Basis B) (e : ℕ) (u : Unfolding)
    (p : PlainUnfolding) : Type 0 where
  pub means : unfolding_at b.place (head (tree_at c e)) ≡ Some p
  pub is : IsUnfolding c b.library u p

-- the same, where the head may unfold by nothing
abbrev pub IsHeadUnfolding : {B : Type 0} → Contents → Basis B → ℕ → Option Unfolding → Type 0
IsHeadUnfolding c b e u = IsUnfoldingIf c b.library u (unfolding_at b.place (head (tree_at c e)))

-- whatever goes on with what the head h unfolds by, once it is looked up, has these steps
abbrev pub HasLooked : Place → Option ℕ → Tree → ((Option PlainUnfolding → Program Bool) → Steps)
    → Type 0
HasLooked w before h steps =
    (k : Option PlainUnfolding → Program Bool) → erased w truth before (looked_up h k) ≡ steps k

-- the head of e is looked up
pub record IsLookedUp {B : Type 0} (c : Contents) (b : Basis B) (before last : Option ℕ) (e : ℕ)
    (result : Result (Option Unfolding) Rule) : Type 0 where
  pub found : IfOk result (IsHeadUnfolding c b e)
  pub goes : IfOk result (λ u. HasLooked b.place before (head (tree_at c e))
      (λ k. erased b.place truth last (k (unfolding_at b.place (head (tree_at c e))))))
  pub refused : IfErr result (λ r. HasLooked b.place before (head (tree_at c e))
      (λ k. refuses r))

-- the same, where no more than the last unit that was looked at is another one
pub record LooksUp {S R B : Type 0} (contents : S → Contents) (rest : S → R) (sight : R → Sight B)
    (old new : S) (e : ℕ) (result : Result (Option Unfolding) Rule) : Type 0 where
  pub same : contents new ≡ contents old
  pub stays : (sight (rest new)).basis ≡ (sight (rest old)).basis
  pub looked : IsLookedUp (contents old) (sight (rest old)).basis
      (sight (rest old)).last (sight (rest new)).last e result
