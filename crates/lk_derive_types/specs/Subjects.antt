-- The beginning of a projection's row: the type of its subject, which is a structure, the sort of
-- that, and the structure's constructor.
use Rattle.std.specs.Prelude.{ℕ, ◌≡◌, ◌≤◌, ◌+◌, Bool, List, [], ◌∷◌, length, Some}
use Rattle.lk_tree.specs.Tree.{Name, Level, Tree, proj}
use Rattle.lk_tree.specs.Level.{is_zero_level}
use Rattle.lk_tree.specs.Levels.{put_levels}
use Rattle.lk_tree.specs.Spine.{head, args}
use Rattle.lk_tree.specs.WellFormed.{IsWellFormed, AllWellFormed}
use Rattle.lk_rulebook.specs.Place.{Place, Entry, Block, BlockType, Ctor, a_type}
use Rattle.lk_rulebook.specs.Claims.{Claim}
use Rattle.lk_questions.specs.Query.{Query, infer, whnf}
use Rattle.lk_questions.specs.Iota.{levels_at}
use Rattle.lk_store.specs.Contents.{Contents, tree_at, IsTree}
use Rattle.lk_env.specs.StoredLibrary.{StoredLibrary}
use Rattle.lk_structure.specs.declared.structure.Structure.{Structure}
use Rattle.lk_structure.specs.Structures.{IsStructure}
use Rattle.lk_step.specs.Rows.{IsAnswered}
use Rattle.lk_step.specs.Runs.{Runs}
use Rattle.lk_step.specs.Told.{IsType, IsForm}
use Rattle.lk_derive_types.specs.declared.asked.Asked.{Asked}
use Rattle.lk_derive_types.specs.declared.structures.Stated.{Stated}
use Rattle.lk_derive_types.specs.declared.subjects.Begun.{Begun}
use Rattle.lk_derive_types.specs.Asked.{NotesType, NotesForm, AreAsked}
use Rattle.lk_derive_types.specs.Projections.{projected, ParametersFinish, NotesSort}

-- T is S at levels, applied to as many arguments as S takes, and S is a type with one constructor
pub record IsStructureType (w : Place) (S : Name) (T : Tree) : Type 0 where
  pub levels : List Level
  pub entry : Entry
  pub block : Block
  pub ind : BlockType
  pub ctor : Ctor
  pub levels_are : levels_at S (head T) ≡ Some levels
  pub given : w.means S ≡ Some entry
  pub kind : entry.kind ≡ a_type block ind
  pub one_ctor : ind.ctors ≡ ctor ∷ []
  pub level_count : length levels ≡ length ctor.levels
  pub count : length (args T) ≡ ind.parameters + ind.indices

-- the name means a structure
pub record IsStructureName (w : Place) (S : Name) : Type 0 where
  pub type : Tree
  pub structure : IsStructureType w S type

-- the numbers stand for it, and for the type of its constructor
pub record IsStructureRead {w : Place} {S : Name} {T : Tree} (l : StoredLibrary) (c : Contents)
    (s : IsStructureType w S T) (r : Structure) : Type 0 where
  pub structure : IsStructure l r (s.ind, s.ctor)
  pub type_is : tree_at c r.constructor.stated ≡ s.ctor.type

-- the type of its constructor, at its levels
abbrev pub constructor_type : {w : Place} {S : Name} {T : Tree} → IsStructureType w S T → Tree
constructor_type s = put_levels s.ctor.levels s.levels s.ctor.type

-- the numbers stand for it
pub record IsConstructorAt {w : Place} {S : Name} {T : Tree} (c : Contents)
    (s : IsStructureType w S T) (r : Stated) : Type 0 where
  pub ty_is : IsTree c r.ty (constructor_type s)
  pub parameters_are : r.parameters ≡ s.ind.parameters

-- whatever structure T is
abbrev pub IsConstructorOf : Place → Contents → Name → Tree → Stated → Type 0
IsConstructorOf w c S T r = (s : IsStructureType w S T) → IsConstructorAt c s r

-- the weak head form of the type of e is found by two questions, each within this
pub record IsFormedWithin (w : Place) (e : Tree) (most : ℕ) : Type 0 where
  pub between : Tree
  pub form : Tree
  pub first : ℕ
  pub second : ℕ
  pub typed : IsAnswered w (infer e) between first
  pub reduced : IsAnswered w (whnf between) form second
  pub first_within : first ≤ most
  pub second_within : second ≤ most

-- what is noted of it, behind what was noted before
pub record NotesFormed (w : Place) (c : Contents) (e : Tree) (old new : Asked) (number form : ℕ)
    : Type 0 where
  pub between : Tree
  pub reduct : Tree
  pub ty : ℕ
  pub first : Asked
  pub ty_is : IsTree c ty between
  pub form_is : IsTree c form reduct
  pub typed : IsType w e between
  pub reduced : IsForm w between reduct
  pub noted_type : NotesType old first number ty
  pub noted_form : NotesForm first new ty form

-- what is noted of the sort of A, and whether that is the sort of propositions
pub record NotesLevel (w : Place) (c : Contents) (A : Tree) (old new : Asked) (domain : ℕ)
    (prop : Bool) : Type 0 where
  pub noted : NotesSort w c A old new domain
  pub prop_is : prop ≡ is_zero_level noted.read.level

-- e is a field of s
pub record IsProjectionOf (e : Tree) (S : Name) (s : Tree) : Type 0 where
  pub field : ℕ
  pub is : e ≡ proj S field s

-- What a projection's row begins with is asked and noted; whatever is noted of the parameters and
-- the fields, together with it is a row.
pub record IsBegun (w : Place) (c : Contents) (e most : ℕ) (b : Begun) (a : Asked) : Type 0 where
  pub name : Name
  pub field : ℕ
  pub subject : Tree
  pub type : Tree
  pub form : Tree
  pub function : Tree
  pub queries : List Query
  pub claims : List Claim
  pub left : ℕ
  pub e_is : IsTree c e (proj name field subject)
  pub form_is : IsTree c b.form form
  pub stated_is : IsTree c b.stated function
  pub asked_are : AreAsked c a queries claims
  pub enough_arguments : b.parameters ≤ length (args form)
  pub fine : IsWellFormed function
  pub arguments_fine : AllWellFormed (args form)
  pub runs : Runs w (projected name field subject b.prop (args form) b.parameters function) type
      left
  pub within : left ≤ most
  pub finish : ParametersFinish w name field subject b.prop (args form) b.parameters function type
      left queries claims
