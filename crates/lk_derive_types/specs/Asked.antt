-- What is asked, by the numbers of a store, and what it stands for.
use Rattle.std.specs.Prelude.{◌≡◌, ℕ, List, [], ◌∷◌, ◌++◌, length, map, All}
use Rattle.lk_rulebook.specs.Claims.{Claim as PlainClaim}
use Rattle.lk_questions.specs.Query as plain
use Rattle.lk_store.specs.Contents.{Contents, tree_at}
use Rattle.lk_ask.specs.declared.query.Query.{Query}
use Rattle.lk_ask.specs.declared.query.Query.TheVariants as query
use Rattle.lk_ask.specs.Questions.{query_of, IsKnownQuery}
use Rattle.lk_premises.specs.declared.claims.Claim.{Claim}
use Rattle.lk_premises.specs.declared.claims.Relation.TheVariants.{Typing, Reduction, Equality}
use Rattle.lk_premises.specs.Claims.{claims_at, AreClaimsIn}
use Rattle.lk_derive_types.specs.declared.asked.Asked.{Asked}

pub record IsNothingAsked (a : Asked) : Type 0 where
  pub asks : a.asks.items ≡ []
  pub premises : a.premises.items ≡ []

-- the one behind the others
pub record Notes (old new : Asked) (q : Query ℕ) (k : Claim) : Type 0 where
  pub asks : new.asks.items ≡ old.asks.items ++ q ∷ []
  pub premises : new.premises.items ≡ old.premises.items ++ k ∷ []

abbrev pub NotesType : Asked → Asked → ℕ → ℕ → Type 0
NotesType old new e t =
    Notes old new (query.Infer e) (record { relation = Typing; left = e; right = t })

abbrev pub NotesForm : Asked → Asked → ℕ → ℕ → Type 0
NotesForm old new e t =
    Notes old new (query.Whnf e) (record { relation = Reduction; left = e; right = t })

abbrev pub NotesSame : Asked → Asked → ℕ → ℕ → Type 0
NotesSame old new a b =
    Notes old new (query.Same a b) (record { relation = Equality; left = a; right = b })

-- the numbers stand for these questions and claims
pub record AreAsked (c : Contents) (a : Asked) (qs : List plain.Query) (ks : List PlainClaim)
    : Type 0 where
  pub asks_in : All (IsKnownQuery (length c.trees)) a.asks.items
  pub premises_in : AreClaimsIn c a.premises.items
  pub asks_are : map (query_of (tree_at c)) a.asks.items ≡ qs
  pub premises_are : claims_at c a.premises.items ≡ ks
