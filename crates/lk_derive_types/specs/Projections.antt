-- The row of a projection: one step over the parameters and the fields of its structure.
use Rattle.std.specs.Prelude.{ℕ, ◌≤◌, ◌≡◌, ◌+◌, Bool, true, false, List, ◌++◌, length}
use Rattle.lk_tree.specs.Tree.{Name, Tree, proj}
use Rattle.lk_tree.specs.WellFormed.{IsWellFormed, AllWellFormed}
use Rattle.lk_rulebook.specs.Place.{Place}
use Rattle.lk_rulebook.specs.Claims.{Claim}
use Rattle.lk_questions.specs.Query.{Query}
use Rattle.lk_questions.specs.Program.{Program, ◌>>=◌}
use Rattle.lk_questions.specs.Projections.{past_parameters, field_type}
use Rattle.lk_written.specs.Line.{proj_rule}
use Rattle.lk_store.specs.Contents.{Contents, IsName, IsTree}
use Rattle.lk_spine.specs.Reading.{AreTrees}
use Rattle.lk_ask.specs.Looks.{Sight}
use Rattle.lk_step.specs.Rows.{AreClaims}
use Rattle.lk_step.specs.Runs.{Runs}
use Rattle.lk_step.specs.Shaped.{AllShaped}
use Rattle.lk_step.specs.Told.{Leaves}
use Rattle.lk_step.specs.Typing.{ParameterPremises, FieldPremises}
use Rattle.lk_derive_types.specs.declared.asked.Asked.{Asked}
use Rattle.lk_derive_types.specs.declared.parts.Sorted.{Sorted}
use Rattle.lk_derive_types.specs.declared.fields.Projected.{Projected}
use Rattle.lk_derive_types.specs.Asked.{NotesType, NotesForm, AreAsked}
use Rattle.lk_derive_types.specs.Parts.{IsSortRead}
use Rattle.lk_derive_types.specs.TypeRows.{IsTypedRow}

-- the type of field i of s, with the first n of the arguments put for the Pis of F
abbrev pub projected : Name → ℕ → Tree → Bool → List Tree → ℕ → Tree → Program Tree
projected S i s q bs n F = past_parameters bs n F >>= field_type S s q 0 i

-- whatever is noted of the parameters ahead and of the fields, together with this it is a row
abbrev pub ParametersFinish : Place → Name → ℕ → Tree → Bool → List Tree → ℕ → Tree → Tree
    → ℕ → List Query → List Claim → Type 0
ParametersFinish w S i s q bs n F T left queries claims =
    (qs : List Query) (ks ds : List Claim) (R : Tree) (m : ℕ) → ParameterPremises bs n F ks ds R
    → FieldPremises S s q 0 i R ds T → AllShaped ks → AreClaims w qs ks m → m ≤ left
    → IsTypedRow w proj_rule (proj S i s) T (queries ++ qs) (claims ++ ks)

-- Of the projection e some parameters are behind, and what was asked for them is noted; at is what
-- is left of the constructor's type, and beside those ahead there are further arguments.
pub record IsParameterAt (w : Place) (c : Contents) (e most : ℕ) (prop : Bool) (at : ℕ)
    (ahead : List ℕ) (a : Asked) : Type 0 where
  pub name : Name
  pub field : ℕ
  pub subject : Tree
  pub type : Tree
  pub function : Tree
  pub arguments : List Tree
  pub others : List Tree
  pub queries : List Query
  pub claims : List Claim
  pub left : ℕ
  pub e_is : IsTree c e (proj name field subject)
  pub at_is : IsTree c at function
  pub ahead_are : AreTrees c ahead arguments
  pub asked_are : AreAsked c a queries claims
  pub fine : IsWellFormed function
  pub arguments_fine : AllWellFormed arguments
  pub runs : Runs w (projected name field subject prop (arguments ++ others) (length arguments)
      function) type left
  pub within : left ≤ most
  pub finish : ParametersFinish w name field subject prop (arguments ++ others) (length arguments)
      function type left queries claims

-- so far, since it was so
pub record IsPassing {S R B : Type 0} (contents : S → Contents) (rest : S → R)
    (sight : R → Sight B) (old new : S) (e most : ℕ) (prop : Bool) (at : ℕ) (ahead : List ℕ)
    (a : Asked) : Type 0 where
  pub leaves : Leaves contents rest sight old new
  pub parameters : IsParameterAt (sight (rest old)).basis.place (contents new) e most prop at ahead
      a

-- what is noted of the sort of A, which is under this number, behind what was noted before
pub record NotesSort (w : Place) (c : Contents) (A : Tree) (old new : Asked) (domain : ℕ)
    : Type 0 where
  pub sorted : Sorted
  pub first : Asked
  pub read : IsSortRead w c A sorted
  pub typed : NotesType old first domain sorted.ty
  pub form : NotesForm first new sorted.ty sorted.sort

-- the same, where it is due that A is a proposition
abbrev pub NotesProp : Place → Contents → Bool → Tree → Asked → Asked → ℕ → Type 0
NotesProp w c true A old new domain = NotesSort w c A old new domain
NotesProp w c false A old new domain = new ≡ old

-- whatever is noted of the fields ahead, together with this it is a row
abbrev pub FieldsFinish : Place → Name → ℕ → Tree → Bool → ℕ → ℕ → Tree → Tree → ℕ
    → List Query → List Claim → Type 0
FieldsFinish w S i s q j n F T left queries claims =
    (qs : List Query) (ks : List Claim) (m : ℕ) → FieldPremises S s q j n F ks T → AllShaped ks
    → AreClaims w qs ks m → m ≤ left
    → IsTypedRow w proj_rule (proj S i s) T (queries ++ qs) (claims ++ ks)

-- Of the projection the fields before this one are behind, and what was asked for them is noted; at
-- is what is left of the constructor's type, which begins with this field.
pub record IsFieldAt (w : Place) (c : Contents) (p : Projected) (most number at : ℕ) (a : Asked)
    : Type 0 where
  pub name : Name
  pub subject : Tree
  pub type : Tree
  pub function : Tree
  pub ahead : ℕ
  pub queries : List Query
  pub claims : List Claim
  pub left : ℕ
  pub whole_is : IsTree c p.whole (proj name p.field subject)
  pub structure_is : IsName c p.structure name
  pub subject_is : IsTree c p.subject subject
  pub at_is : IsTree c at function
  pub asked_are : AreAsked c a queries claims
  pub fine : IsWellFormed function
  pub subject_fine : IsWellFormed subject
  pub count : p.field ≡ number + ahead
  pub runs : Runs w (field_type name subject p.prop number ahead function) type left
  pub within : left ≤ most
  pub finish : FieldsFinish w name p.field subject p.prop number ahead function type left queries
      claims

-- so far, since it was so
pub record IsWalking {S R B : Type 0} (contents : S → Contents) (rest : S → R)
    (sight : R → Sight B) (old new : S) (p : Projected) (most number at : ℕ) (a : Asked)
    : Type 0 where
  pub leaves : Leaves contents rest sight old new
  pub field : IsFieldAt (sight (rest old)).basis.place (contents new) p most number at a
