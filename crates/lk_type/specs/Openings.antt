-- How a telescope is opened, and that asking for it runs as its row does.
use Rattle.std.specs.Prelude.{◌≡◌, ◌<◌, ◌≤◌, ◌⊎◌, ◌++◌, ◌∷◌, [], ℕ, List, map, All, Result, IfOk, slice_index_or, length}
use Rattle.lk_tree.specs.Tree.{Tree, lam, pi}
use Rattle.lk_tree.specs.Bind.{bound}
use Rattle.lk_tree.specs.Loose.{loose}
use Rattle.lk_tree.specs.Putting.{put}
use Rattle.lk_questions.specs.Program.{Program}
use Rattle.lk_questions.specs.Erased.{a_tree, erased, run_steps, out_of}
use Rattle.lk_questions.specs.Table.{steps}
use Rattle.lk_store.specs.declared.memory.NoMemory.{NoMemory}
use Rattle.lk_store.specs.Contents.{Contents, tree_at, Extends}
use Rattle.lk_ask.specs.declared.next.Next.{Next}
use Rattle.lk_ask.specs.Looks.{Sight}
use Rattle.lk_ask.specs.Nexts.{IsKnownNext}
use Rattle.lk_type.specs.declared.sheet.Binders.{Binders}
use Rattle.lk_type.specs.declared.sheet.Binders.TheVariants.{Pis, Lambdas}
use Rattle.lk_type.specs.Sheets.{TypeSheet, IsKnownTypeSheet}
use Rattle.lk_type.specs.Telescopes.{bound_by, OpensTo, ahead, started, asked_for, telescope_domain}
use Rattle.lk_type.specs.Types.{type_next, Infers}

-- the term is a binder with this domain and body
pub record IsBinder (c : Contents) (b : Binders) (e : ℕ) (parts : ℕ × ℕ) : Type 0 where
  pub domain_in : parts.0 < length c.trees
  pub body_in : parts.1 < length c.trees
  pub is : tree_at c e ≡ bound_by b (tree_at c parts.0) (tree_at c parts.1)

-- the term is none of these binders
abbrev pub IsNoBinder : Binders → Tree → Type 0
IsNoBinder Pis (pi A B) = ⊥
IsNoBinder Lambdas (lam A B) = ⊥
IsNoBinder b e = Unit {0}

-- the numbers stand for trees without loose variables
abbrev pub AreClosed : Contents → List ℕ → Type 0
AreClosed c = All (λ x. (x < length c.trees) × (loose (tree_at c x) ≡ 0))

-- no more variables are loose in the body than these Locals are put for
abbrev pub IsClosedBy : Contents → List ℕ → ℕ → Type 0
IsClosedBy c locals body = loose (tree_at c body) ≤ length locals

-- it is the number of a Local that is fresh for the body, opened with these Locals
abbrev pub IsNumberFor : Contents → List ℕ → ℕ → ℕ → Type 0
IsNumberFor c locals body number = number ≡ bound (put (map (tree_at c) locals) (tree_at c body))

-- and this is one of the Locals whose number is one less; the body has no other loose variable
pub record IsFollowing (c : Contents) (locals : List ℕ) (body : ℕ) (p : ℕ × ℕ) : Type 0 where
  pub number : IsNumberFor c locals body p.0
  pub among : p.1 < length locals
  pub reaches : p.0 ≤ bound (tree_at c (slice_index_or locals p.1 0))
  pub closed : IsClosedBy c locals body

-- the body, opened with the Locals that there were, is r under binders that are opened with those
-- that came; they came only where the body has no other loose variable
pub record IsOpened (began now : Contents) (b : Binders) (body : ℕ) (old new : List ℕ)
    (r : Tree) : Type 0 where
  pub more : List ℕ
  pub is : new ≡ old ++ more
  pub known : All (λ x. x < length now.trees) new
  pub opens : OpensTo b (put (map (tree_at began) old) (tree_at began body))
      (map (tree_at now) more) r
  pub closed : (more ≡ []) ⊎ IsClosedBy began old body

pub record OpensAll {S R : Type 0} (contents : S → Contents) (rest : S → R) (old new : S)
    (result : Result ℕ NoMemory) (b : Binders) (body : ℕ) (before after : List ℕ) : Type 0 where
  pub keeps : Extends (contents old) (contents new)
  pub stays : rest new ≡ rest old
  pub known : IfOk result (λ e. e < length (contents new).trees)
  pub opened : IfOk result (λ e. IsOpened (contents old) (contents new) b body before after
      (tree_at (contents new) e))

-- what comes next is known, and runs as the program does, under each budget
pub record RunsAs {S R B : Type 0} (contents : S → Contents) (rest : S → R) (sight : R → Sight B)
    (old new : S) (result : Result (Next ℕ (TypeSheet ℕ)) NoMemory)
    (program : (ℕ → Tree) → Program Tree) : Type 0 where
  pub keeps : Extends (contents old) (contents new)
  pub stays : (sight (rest new)).basis ≡ (sight (rest old)).basis
  pub known : IfOk result (IsKnownNext IsKnownTypeSheet (length (contents new).trees))
  pub runs : IfOk result (λ next. (budget : ℕ)
      → run_steps (out_of steps (sight (rest old)).basis.place)
      (type_next (sight (rest old)).basis.place (tree_at (contents new)) (sight (rest new)).last next)
      budget
      ≡ run_steps (out_of steps (sight (rest old)).basis.place)
      (erased (sight (rest old)).basis.place a_tree (sight (rest old)).last
      (program (tree_at (contents old)))) budget)

-- the domain of the telescope e is asked for, where these are its Locals
abbrev pub IsAskedFor : {S R B : Type 0} → (S → Contents) → (S → R) → (R → Sight B) → S → S
    → Result (Next ℕ (TypeSheet ℕ)) NoMemory → Binders → ℕ → ℕ → List ℕ → ℕ → Type 0
IsAskedFor contents rest sight old new result b e domain locals inside =
    (x : ℕ) (xs : List ℕ) → locals ≡ x ∷ xs
    → Infers contents rest sight old new result (λ t. telescope_domain
    (asked_for b (started b (t e) (t x) (ahead (map t xs) (t inside))) (map t xs) (t inside))
    (t domain))
