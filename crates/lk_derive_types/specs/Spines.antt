-- The row of an application: one step over its whole spine.
use Rattle.std.specs.Prelude.{ℕ, ◌≤◌, List, [], ◌∷◌, ◌++◌}
use Rattle.lk_tree.specs.Tree.{Tree, app}
use Rattle.lk_tree.specs.Bind.{opened}
use Rattle.lk_tree.specs.WellFormed.{IsWellFormed, AllWellFormed}
use Rattle.lk_tree.specs.declared.rule.Rule.TheVariants.{NotAFunction, ArgumentType}
use Rattle.lk_rulebook.specs.Place.{Place}
use Rattle.lk_rulebook.specs.Claims.{Claim}
use Rattle.lk_questions.specs.Query.{Query, infer, whnf, same}
use Rattle.lk_questions.specs.Program.{Program, done, ask, ◌>>=◌}
use Rattle.lk_questions.specs.Steps.{given, as_pi}
use Rattle.lk_written.specs.Line.{app_rule}
use Rattle.lk_store.specs.Contents.{Contents, IsTree}
use Rattle.lk_spine.specs.Reading.{AreTrees}
use Rattle.lk_step.specs.Rows.{AreClaims}
use Rattle.lk_step.specs.Runs.{Runs}
use Rattle.lk_ask.specs.Looks.{Sight}
use Rattle.lk_step.specs.Told.{IsAnsweredWithin, Leaves}
use Rattle.lk_step.specs.Typing.{ArgumentPremises}
use Rattle.lk_ask.specs.declared.query.Query.TheVariants as query
use Rattle.lk_premises.specs.declared.claims.Relation.TheVariants.{Typing, Reduction, Equality}
use Rattle.lk_derive_types.specs.declared.asked.Asked.{Asked}
use Rattle.lk_derive_types.specs.declared.parts.Function.{Function}
use Rattle.lk_derive_types.specs.Asked.{Notes, AreAsked}
use Rattle.lk_derive_types.specs.Parts.{IsPiWithin}
use Rattle.lk_derive_types.specs.TypeRows.{IsTypedRow}

-- it is an application
abbrev pub IsApplied : Tree → Type 0
IsApplied (app f a) = Unit {0}
IsApplied _ = ⊥

-- the type of what is of type F, applied to these
abbrev pub applied : Tree → List Tree → Program Tree
applied F [] = done F
applied F (x ∷ xs) = ask (whnf F) (λ S. as_pi NotAFunction S >>= λ p. ask (infer x) (λ X.
    ask (same X p.0) (λ equal. given equal ArgumentType (applied (opened p.1 x) xs))))

-- what is asked of one argument is answered within this
pub record IsArgumentWithin (w : Place) (F x : Tree) (most : ℕ) : Type 0 where
  pub function : IsPiWithin w F most
  pub own : IsAnsweredWithin w (infer x) most

-- what is noted of the argument x, of this type, behind what was noted before: at is the type of
-- what is applied to it, and reduces to this Pi
pub record NotesArgument (old new : Asked) (at : ℕ) (f : Function) (x own : ℕ) : Type 0 where
  pub first : Asked
  pub second : Asked
  pub form : Notes old first (query.Whnf at)
      (record { relation = Reduction; left = at; right = f.pi })
  pub typed : Notes first second (query.Infer x)
      (record { relation = Typing; left = x; right = own })
  pub equal : Notes second new (query.Same own f.domain)
      (record { relation = Equality; left = own; right = f.domain })

-- Of the spine e some arguments are behind, and what was asked of them is noted; at is the type so
-- far, of what is applied to the rest. Whatever is noted of the rest, all of it together is a row.
pub record IsSpineAt (w : Place) (c : Contents) (e most at : ℕ) (rest : List ℕ) (a : Asked)
    : Type 0 where
  pub tree : Tree
  pub type : Tree
  pub function : Tree
  pub arguments : List Tree
  pub queries : List Query
  pub claims : List Claim
  pub left : ℕ
  pub e_is : IsTree c e tree
  pub at_is : IsTree c at function
  pub rest_are : AreTrees c rest arguments
  pub asked_are : AreAsked c a queries claims
  pub fine : IsWellFormed function
  pub arguments_fine : AllWellFormed arguments
  pub runs : Runs w (applied function arguments) type left
  pub within : left ≤ most
  pub finish : (qs : List Query) (ks : List Claim) (n : ℕ)
      → ArgumentPremises function arguments ks type → AreClaims w qs ks n → n ≤ left
      → IsTypedRow w app_rule tree type (queries ++ qs) (claims ++ ks)

-- so far, since it was so
pub record IsGoing {S R B : Type 0} (contents : S → Contents) (rest : S → R) (sight : R → Sight B)
    (old new : S) (e most at : ℕ) (ahead : List ℕ) (a : Asked) : Type 0 where
  pub leaves : Leaves contents rest sight old new
  pub spine : IsSpineAt (sight (rest old)).basis.place (contents new) e most at ahead a
