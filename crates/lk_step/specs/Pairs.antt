-- Two applications in pairs: a stack of the pairs of their arguments, with that of their heads on
-- top.
use Rattle.std.specs.Prelude.{ℕ, ◌≡◌, Bool, true, false, nat_eq, List, [], ◌∷◌, ◌++◌, length, map}
use Rattle.std.specs.Prelude.{All}
use Rattle.std.specs.Prelude.{Option, Some, None, Vec}
use Rattle.std.specs.declared.alloc.Global.{Global}
use Rattle.lk_tree.specs.Tree.{Tree, app}
use Rattle.lk_tree.specs.Spine.{head, args}
use Rattle.lk_rulebook.specs.Place.{Place}
use Rattle.lk_questions.specs.Query as plain
use Rattle.lk_questions.specs.Query.{same}
use Rattle.lk_questions.specs.Program.{Program}
use Rattle.lk_questions.specs.Pairs.{same_all}
use Rattle.lk_store.specs.Contents.{Contents, tree_at}
use Rattle.lk_ask.specs.declared.sheet.Pair.{Pair}
use Rattle.lk_ask.specs.declared.query.Query.{Query}
use Rattle.lk_ask.specs.Lines.{lefts, rights}
use Rattle.lk_ask.specs.Looks.{Sight}
use Rattle.lk_ask.specs.Questions.{query_of, IsKnownQuery}
use Rattle.lk_ask.specs.Sheets.{map_pair, IsKnownPair}
use Rattle.lk_premises.specs.Claims.{claims_at, IsClaimIn}
use Rattle.lk_premises.specs.declared.claims.Claim.{Claim as StoredClaim}
use Rattle.lk_step.specs.Equal.{argument_claims}
use Rattle.lk_step.specs.Runs.{Runs}
use Rattle.lk_step.specs.Told.{Leaves}
use Rattle.lk_step.specs.Tests.{IsRun}

-- the two of each pair are asked for, from the top down
abbrev pub same_pairs : List (Pair Tree) → Program Bool
same_pairs ps = same_all (lefts ps) (rights ps)

abbrev pub pairs_at : Contents → List (Pair ℕ) → List (Pair Tree)
pairs_at c ps = map (map_pair (tree_at c)) ps

-- these are the pairs of a and b
pub record ArePairs (c : Contents) (a b : ℕ) (ps : List (Pair ℕ)) : Type 0 where
  pub pairs_in : All (IsKnownPair (length c.trees)) ps
  pub lefts_are : lefts (pairs_at c ps) ≡ head (tree_at c a) ∷ args (tree_at c a)
  pub rights_are : rights (pairs_at c ps) ≡ head (tree_at c b) ∷ args (tree_at c b)
  pub as_many : nat_eq (length (args (tree_at c a))) (length (args (tree_at c b))) ≡ true

-- there are none where the one has more arguments than the other
abbrev pub ArePairsIf : Contents → ℕ → ℕ → Option (Vec (Pair ℕ) Global) → Type 0
ArePairsIf c a b None = nat_eq (length (args (tree_at c a))) (length (args (tree_at c b))) ≡ false
ArePairsIf c a b (Some v) = ArePairs c a b v.items

-- a run of it gives this value
pub record Comes (w : Place) (p : Program Bool) (v : Bool) : Type 0 where
  pub cost : ℕ
  pub runs : Runs w p v cost

-- those before the rest were found the same
pub record IsComparing {S R B : Type 0} (contents : S → Contents) (others : S → R)
    (sight : R → Sight B)
    (old now : S) (all rest : List (Pair ℕ)) (most : ℕ) : Type 0 where
  pub leaves : Leaves contents others sight old now
  pub rest_in : All (IsKnownPair (length (contents old).trees)) rest
  pub run : IsRun (sight (others old)).basis.place (same_pairs (pairs_at (contents old) rest)) most
  pub follows : (v : Bool) (n : ℕ)
      → Runs (sight (others old)).basis.place (same_pairs (pairs_at (contents old) all)) v n
      → Comes (sight (others old)).basis.place (same_pairs (pairs_at (contents old) rest)) v

-- a question for each two
abbrev pub same_asks : List Tree → List Tree → List plain.Query
same_asks (x ∷ xs) (y ∷ ys) = same x y ∷ same_asks xs ys
same_asks (x ∷ xs) [] = []
same_asks [] ys = []

-- what is asked of the pairs, and what that claims, with what is still to be put behind it
pub record IsAsking (c : Contents) (all rest : List (Pair ℕ)) (asks : List (Query ℕ))
    (claims : List StoredClaim) : Type 0 where
  pub rest_in : All (IsKnownPair (length c.trees)) rest
  pub asks_in : All (IsKnownQuery (length c.trees)) asks
  pub claims_in : All (IsClaimIn c) claims
  pub asks_are : map (query_of (tree_at c)) asks
      ++ same_asks (lefts (pairs_at c rest)) (rights (pairs_at c rest))
      ≡ same_asks (lefts (pairs_at c all)) (rights (pairs_at c all))
  pub claims_are : claims_at c claims
      ++ argument_claims (lefts (pairs_at c rest)) (rights (pairs_at c rest))
      ≡ argument_claims (lefts (pairs_at c all)) (rights (pairs_at c all))

pub record AreAsked (c : Contents) (all : List (Pair ℕ)) (asks : List (Query ℕ))
    (claims : List StoredClaim) : Type 0 where
  pub asks_in : All (IsKnownQuery (length c.trees)) asks
  pub claims_in : All (IsClaimIn c) claims
  pub asks_are : map (query_of (tree_at c)) asks
      ≡ same_asks (lefts (pairs_at c all)) (rights (pairs_at c all))
  pub claims_are : claims_at c claims
      ≡ argument_claims (lefts (pairs_at c all)) (rights (pairs_at c all))

-- it is an application
abbrev pub IsApplication : Tree → Type 0
IsApplication e = (f : Tree) × (x : Tree) × (app f x ≡ e)

abbrev pub heads_pair : ℕ → ℕ → Pair ℕ
heads_pair f g = record { left = f; right = g }
