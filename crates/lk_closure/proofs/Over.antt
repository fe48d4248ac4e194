-- Units over a set of names, and sets of units that give it.
use Rattle.std.specs.Prelude.{ℕ, suc, ◌≡◌, Bool, true, List, [], ◌∷◌, take, slice_get, Option, Some, None}
use Rattle.lk_tree.specs.Tree.{Name}
use Rattle.lk_rulebook.specs.Place.{RecRule, BlockRecursor, BlockType}
use Rattle.lk_rulebook.specs.Units.{LibraryUnit, of_decl, of_block, Library, Members, members_of, Trees, trees_of, Found, first_giving, all_bound}
use Rattle.lk_inductive.specs.Recursors.{rec_name}
use Rattle.lk_inductive.specs.Restore.{first_name, rec_numbered}
use Rattle.lk_closure.proofs.Names.{Over, HasBuiltins}

abbrev pub TreesOver : (Name → Type 0) → Trees → Type 0
TreesOver P [] = Unit {0}
TreesOver P (e ∷ es) = Over P e.1 × TreesOver P es

-- the members' names
abbrev pub NamesOver : (Name → Type 0) → Members → Type 0
NamesOver P [] = Unit {0}
NamesOver P (m ∷ ms) = P m.0 × NamesOver P ms

-- the constructors that the rules are for
abbrev pub RulesFor : (Name → Type 0) → List RecRule → Type 0
RulesFor P [] = Unit {0}
RulesFor P (r ∷ rs) = P r.ctor × RulesFor P rs

abbrev pub RecsFor : (Name → Type 0) → List BlockRecursor → Type 0
RecsFor P [] = Unit {0}
RecsFor P (r ∷ rs) = RulesFor P r.recursor.rules × RecsFor P rs

abbrev pub UnitFor : (Name → Type 0) → LibraryUnit → Type 0
UnitFor P (of_decl d) = Unit {0}
UnitFor P (of_block b rs) = RecsFor P rs

-- the recursors that a block may give, stated or not
abbrev pub TypesGive : (Name → Type 0) → List BlockType → Type 0
TypesGive P [] = Unit {0}
TypesGive P (t ∷ ts) = P (rec_name t.name) × TypesGive P ts

abbrev pub MayGive : (Name → Type 0) → LibraryUnit → Type 0
MayGive P (of_decl d) = Unit {0}
MayGive P (of_block b rs) = TypesGive P b.types × ((k : ℕ) → P (rec_numbered (first_name b.types) (suc k)))

-- P has the names that the unit's trees mention, where they hold no Local, that its members bear, that its recursors' rules are for,
-- and of the recursors that it may give
pub record UnitOver (P : Name → Type 0) (u : LibraryUnit) : Type 0 where
  pub trees : all_bound (trees_of u) ≡ true → TreesOver P (trees_of u)
  pub names : NamesOver P (members_of u)
  pub rules : UnitFor P u
  pub recursors : MayGive P u

-- The names in P are given by kept units. The kept units hold unit n, and each unit that gives at n a name of a kept unit or a built-in name. P has these names.
pub record IsClosureOver (us : Library) (n : ℕ) (P : Name → Type 0) (keep : ℕ → Bool) : Type 0 where
  pub own : keep n ≡ true
  pub builtins : HasBuiltins P
  pub units : (k : ℕ) (u : LibraryUnit) → keep k ≡ true → slice_get us k ≡ Some u → UnitOver P u
  pub given : (c : Name) (f : Found) → P c → first_giving 0 (take n us) c ≡ Some f → keep f.unit ≡ true

-- two look-ups that give the same contents, wherever they find them
abbrev pub SameFound : Option Found → Option Found → Type 0
SameFound None None = Unit {0}
SameFound (Some f) (Some g) = (f.entry ≡ g.entry) × (f.flaw ≡ g.flaw)
SameFound None (Some g) = ⊥
SameFound (Some f) None = ⊥

-- before unit n of us and before unit m of vs each name in P is given with the same contents
abbrev pub IsSeenAlike : (Name → Type 0) → Library → ℕ → Library → ℕ → Type 0
IsSeenAlike P us n vs m = (c : Name) → P c → SameFound (first_giving 0 (take n us) c) (first_giving 0 (take m vs) c)
