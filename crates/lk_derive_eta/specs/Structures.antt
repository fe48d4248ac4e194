-- Two trees, of which the second is the constructor of a structure with all its arguments.
use Rattle.std.specs.Prelude.{ℕ, ◌≡◌, ◌<◌, true, List, drop, length, map, All, Some}
use Rattle.lk_tree.specs.Tree.{Tree}
use Rattle.lk_tree.specs.Spine.{head, args}
use Rattle.lk_rulebook.specs.Place.{Place, a_ctor}
use Rattle.lk_rulebook.specs.Claims.{Claim, equals}
use Rattle.lk_questions.specs.Query as plain
use Rattle.lk_questions.specs.Iota.{CtorApp}
use Rattle.lk_written.specs.Line.{struct_left_rule, struct_right_rule}
use Rattle.lk_store.specs.Contents.{Contents, name_at, tree_at}
use Rattle.lk_ask.specs.declared.sheet.Pair.{Pair}
use Rattle.lk_ask.specs.declared.query.Query.{Query}
use Rattle.lk_ask.specs.Questions.{query_of, IsKnownQuery}
use Rattle.lk_constructor.specs.declared.constructor.AppliedConstructor.{AppliedConstructor}
use Rattle.lk_constructor.specs.Looking.{app_at}
use Rattle.lk_eta.specs.declared.sheet.Way.{Way}
use Rattle.lk_eta.specs.declared.sheet.Way.TheVariants.{Given, Turned}
use Rattle.lk_eta.specs.Fields.{ArePairs}
use Rattle.lk_eta.specs.Structures.{is_full}
use Rattle.lk_premises.specs.Claims.{claims_at, IsClaimIn}
use Rattle.lk_premises.specs.declared.claims.Claim.{Claim as StoredClaim}
use Rattle.lk_step.specs.Steps.{Step, equality}
use Rattle.lk_step.specs.Told.{IsType, IsSame}
use Rattle.lk_derive_eta.specs.declared.structures.Typed.{Typed}

-- what is claimed of a and the constructor b, and the step that claims it
abbrev pub claim_by : Way → Tree → Tree → Claim
claim_by Given a b = equals a b
claim_by Turned a b = equals b a

abbrev pub step_by : Way → Tree → Tree → List Claim → Step
step_by Given a b cs = equality struct_left_rule a b cs
step_by Turned a b cs = equality struct_right_rule b a cs

-- b is the constructor k of a structure, with all its arguments
pub record IsFull (w : Place) (b : Tree) (k : CtorApp) : Type 0 where
  pub is : app_at w (head b) (args b) ≡ Some k
  pub full : is_full (a_ctor k.block k.ind k.ctor) (args b) ≡ true

-- so it is of one that these numbers stand for
pub record IsFullApp (w : Place) (c : Contents) (b : Tree) (u : AppliedConstructor) : Type 0 where
  pub ctor : CtorApp
  pub full : IsFull w b ctor
  pub inductive_in : u.inductive < length c.names
  pub inductive_is : name_at c u.inductive ≡ ctor.ind.name
  pub parameters_are : u.parameters ≡ ctor.ctor.parameters

-- a and b have types that are the same
pub record AreTyped (w : Place) (a b : Tree) (c : Contents) (t : Typed) : Type 0 where
  pub left_in : t.left < length c.trees
  pub right_in : t.right < length c.trees
  pub left : IsType w a (tree_at c t.left)
  pub right : IsType w b (tree_at c t.right)
  pub same : IsSame w (tree_at c t.left) (tree_at c t.right) true

-- these are the projections of a beside the fields of b
pub record AreFields (w : Place) (a b : Tree) (c : Contents) (ps : List (Pair ℕ)) : Type 0 where
  pub ctor : CtorApp
  pub full : IsFull w b ctor
  pub pairs : ArePairs c ctor.ind.name a (drop ctor.ctor.parameters (args b)) ps

-- the questions and the claims are these, by what the numbers stand for
pub record AreClaimed (c : Contents) (qs : List (Query ℕ)) (cs : List StoredClaim)
    (asks : List plain.Query) (claims : List Claim) : Type 0 where
  pub asks_in : All (IsKnownQuery (length c.trees)) qs
  pub claims_in : All (IsClaimIn c) cs
  pub asks_are : map (query_of (tree_at c)) qs ≡ asks
  pub claims_are : claims_at c cs ≡ claims
