-- The parameters of levels, gathered.
use Rattle.std.specs.Prelude.{ℕ, ◌≡◌, ◌<◌, Bool, true, false, List, [], ◌∷◌, ◌++◌, map, All, length, if◌then◌else◌}
use Rattle.lk_tree.specs.Tree.{Name, Level}
use Rattle.lk_tree.specs.Mentions.{is_one_of}
use Rattle.lk_tree.specs.LevelTest.{params_of, right_params}
use Rattle.lk_store.specs.Contents.{Contents, name_at}
use Rattle.lk_level_order.specs.declared.parameters.Parameter.{Parameter}

-- each name of the one list stands in the other
pub record IsWithin (xs ys : List Name) : Type 0 where
  pub each : (n : Name) → is_one_of xs n ≡ true → is_one_of ys n ≡ true

-- no name stands twice
abbrev pub AreDifferent : List Name → Type 0
AreDifferent [] = Unit {0}
AreDifferent (n ∷ ns) = (is_one_of ns n ≡ false) × AreDifferent ns

abbrev pub names_of : Contents → List Parameter → List Name
names_of c ps = map (λ p. name_at c p.name) ps

abbrev pub numbers : List Parameter → List ℕ
numbers ps = map (λ (p : Parameter). p.name) ps

-- names of the store, each once
pub record AreParameters (c : Contents) (ps : List Parameter) : Type 0 where
  pub known : All (λ (p : Parameter). p.name < length c.names) ps
  pub different : AreDifferent (names_of c ps)

-- a name added, where it is not there yet
abbrev pub with_name : List Name → Name → List Name
with_name ns n = if is_one_of ns n then ns else ns ++ n ∷ []

-- names added one after another: each stands once, where it first stood
abbrev pub with_names : List Name → List Name → List Name
with_names ns [] = ns
with_names ns (w ∷ ws) = with_names (with_name ns w) ws

-- to the parameters some of the names are added
pub record Gathers (c : Contents) (wanted : List Name) (old new : List Parameter) : Type 0 where
  pub grown : (more : List Parameter) × (new ≡ old ++ more)
  pub sound : (s : List Name) → IsWithin (names_of c old) s → IsWithin wanted s → IsWithin (names_of c new) s
  pub fine : AreParameters c old → AreParameters c new

-- the parameters of a level, or those inside right sides alone
abbrev pub wanted : Bool → Level → List Name
wanted true l = params_of l
wanted false l = right_params l
