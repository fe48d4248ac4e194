-- Arguments that the type of what they are given to has already.
use Rattle.std.specs.Prelude.{◌≡◌, ◌<◌, ℕ, suc, List, [], ◌∷◌, ◌++◌, Option, Some, None, IsSome, Result, IfOk, IfSome, length, map}
use Rattle.lk_tree.specs.Tree.{Tree, pi}
use Rattle.lk_tree.specs.Bind.{opened}
use Rattle.lk_rulebook.specs.Place.{Place}
use Rattle.lk_questions.specs.Query.{infer}
use Rattle.lk_questions.specs.Erased.{a_tree, erased, finished, run_steps, out_of}
use Rattle.lk_questions.specs.Infer.{infer_steps}
use Rattle.lk_questions.specs.Table.{steps}
use Rattle.lk_store.specs.declared.memory.NoMemory.{NoMemory}
use Rattle.lk_store.specs.Contents.{Contents, name_at, tree_at, Extends}
use Rattle.lk_ask.specs.Looks.{Sight}
use Rattle.lk_chain.specs.Pis.{pis_over}

-- the term is a Pi of this domain and body
pub record IsPi (c : Contents) (e : ℕ) (parts : ℕ × ℕ) : Type 0 where
  pub domain_in : parts.0 < length c.trees
  pub body_in : parts.1 < length c.trees
  pub is : tree_at c e ≡ pi (tree_at c parts.0) (tree_at c parts.1)

-- T is r inside Pis that are opened with the arguments; each has the domain of its place in the
-- list
abbrev pub OpensWith : Tree → List Tree → List Tree → Tree → Type 0
OpensWith T [] [] r = T ≡ r
OpensWith T (a ∷ xs) (A ∷ Ds) r = (B : Tree) × (T ≡ pi A B) × OpensWith (opened B a) xs Ds r
OpensWith T [] (A ∷ Ds) r = ⊥
OpensWith T (a ∷ xs) [] r = ⊥

-- the unit of a name, if there is one
abbrev pub unit_of : Place → Contents → Option ℕ → Option ℕ
unit_of w c None = None
unit_of w c (Some name) = Some (w.origin (name_at c name))

-- the name, if there is one, means something
abbrev pub IsMeant : Place → Contents → Option ℕ → Type 0
IsMeant w c None = Unit {0}
IsMeant w c (Some name) = (name < length c.names) × IsSome (w.means (name_at c name))

-- f has the type T, which is known at once once this unit was looked at
abbrev pub HasTypeAtOnce : Place → Option ℕ → Tree → Tree → Type 0
HasTypeAtOnce w unit f T =
    (b : ℕ) → out_of steps w (infer f) (suc b) ≡ finished (a_tree T) b unit

-- the number of the type, and the name of the constant that has it, if it is one
pub record IsTypeOf (w : Place) (c : Contents) (f : Tree) (parts : ℕ × Option ℕ) : Type 0 where
  pub known : parts.0 < length c.trees
  pub meant : IsMeant w c parts.1
  pub has : HasTypeAtOnce w (unit_of w c parts.1) f (tree_at c parts.0)

pub record GivesType {S R B : Type 0} (contents : S → Contents) (rest : S → R)
    (sight : R → Sight B) (old new : S) (result : Result (Option (ℕ × Option ℕ)) NoMemory) (e : ℕ)
    : Type 0 where
  pub keeps : Extends (contents old) (contents new)
  pub stays : rest new ≡ rest old
  pub ok : IfOk result (λ r. IfSome r (IsTypeOf (sight (rest old)).basis.place (contents new)
      (tree_at (contents old) e)))

-- the number stands for Pis that have the arguments, as far as there were both
pub record IsPushed (began now : Contents) (ty : ℕ) (arguments : List ℕ) (r : ℕ) : Type 0 where
  pub values : List Tree
  pub more : List Tree
  pub domains : List Tree
  pub inside : Tree
  pub are : map (tree_at began) arguments ≡ values ++ more
  pub opens : OpensWith (tree_at began ty) values domains inside
  pub known : r < length now.trees
  pub is : tree_at now r ≡ pis_over domains inside

pub record PushesType {S R : Type 0} (contents : S → Contents) (rest : S → R) (old new : S)
    (result : Result ℕ NoMemory) (ty : ℕ) (arguments : List ℕ) : Type 0 where
  pub keeps : Extends (contents old) (contents new)
  pub stays : rest new ≡ rest old
  pub ok : IfOk result (IsPushed (contents old) (contents new) ty arguments)

-- the row of a term runs as that of e did, with the last unit that was looked at by then; without
-- a term nothing was looked at
abbrev pub RunsFor : {S R B : Type 0} → (S → Contents) → (S → R) → (R → Sight B) → S → S → ℕ
    → Option ℕ → Type 0
RunsFor contents rest sight old new e None = rest new ≡ rest old
RunsFor contents rest sight old new e (Some r) =
    let w = (sight (rest old)).basis.place in
    (r < length (contents new).trees) × ((b : ℕ) → run_steps (out_of steps w)
    (erased w a_tree (sight (rest new)).last (infer_steps (tree_at (contents new) r))) b
    ≡ run_steps (out_of steps w)
    (erased w a_tree (sight (rest old)).last (infer_steps (tree_at (contents old) e))) b)

pub record RunsAlike {S R B : Type 0} (contents : S → Contents) (rest : S → R)
    (sight : R → Sight B) (old new : S) (result : Result (Option ℕ) NoMemory) (e : ℕ)
    : Type 0 where
  pub keeps : Extends (contents old) (contents new)
  pub stays : (sight (rest new)).basis ≡ (sight (rest old)).basis
  pub runs : IfOk result (RunsFor contents rest sight old new e)
