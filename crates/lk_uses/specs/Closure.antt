-- The closure of a unit: the least set that has the unit, the units that give the built-in names,
-- and those that give the names its units use.
use Rattle.std.specs.Prelude.{ℕ, zero, suc, ◌≡◌, Bool, true, false, ◌⊎◌, List, [], ◌∷◌, take}
use Rattle.std.specs.Prelude.{slice_get, Some, if◌then◌else◌}
use Rattle.lk_tree.specs.Tree.{Name}
use Rattle.lk_tree.specs.Operations.{log2, add, sub, mul, div, modulo, gcd, beq, ble, land, lor}
use Rattle.lk_tree.specs.Operations.{xor, shift_left, shift_right, pow}
use Rattle.lk_rulebook.specs.Place.{RecRule, BlockRecursor, BlockType}
use Rattle.lk_rulebook.specs.Units.{LibraryUnit, of_decl, of_block, Library, Members, members_of}
use Rattle.lk_rulebook.specs.Units.{trees_of, Found, first_giving}
use Rattle.lk_rulebook.specs.Names.{nat, nat_zero, nat_succ, nat_pred, bool_name, op_name, string}
use Rattle.lk_rulebook.specs.Names.{string_mk, list_nil, list_cons, char, char_of_nat, eq, eq_refl}
use Rattle.lk_rulebook.specs.Names.{quot, quot_mk, quot_lift, quot_ind}
use Rattle.lk_reach.specs.Reach.{TreesMention}
use Rattle.lk_inductive.specs.Recursors.{rec_name}
use Rattle.lk_inductive.specs.Restore.{first_name, rec_numbered}

-- the kept units of us, whose first unit has number i, in their order
abbrev pub kept : ℕ → (ℕ → Bool) → Library → Library
kept i keep [] = []
kept i keep (u ∷ us) = if keep i then u ∷ kept (suc i) keep us else kept (suc i) keep us

-- how many of the n units from number i on are kept: the number of unit i + n among the kept ones
abbrev pub renumbered : ℕ → (ℕ → Bool) → ℕ → ℕ
renumbered i keep zero = zero
renumbered i keep (suc n) =
    if keep i then suc (renumbered (suc i) keep n) else renumbered (suc i) keep n

-- a member has the name
abbrev pub Bears : Name → Members → Type 0
Bears n [] = ⊥
Bears n (m ∷ ms) = (m.0 ≡ n) ⊎ Bears n ms

-- a recursor's rule is for the name
abbrev pub HasRuleFor : Name → List RecRule → Type 0
HasRuleFor n [] = ⊥
HasRuleFor n (r ∷ rs) = (r.ctor ≡ n) ⊎ HasRuleFor n rs

-- one of these recursors has such a rule
abbrev pub HaveRuleFor : Name → List BlockRecursor → Type 0
HaveRuleFor n [] = ⊥
HaveRuleFor n (r ∷ rs) = HasRuleFor n r.recursor.rules ⊎ HaveRuleFor n rs

-- the name is the recursor's of one of these types
abbrev pub IsRecOf : Name → List BlockType → Type 0
IsRecOf n [] = ⊥
IsRecOf n (t ∷ ts) = (rec_name t.name ≡ n) ⊎ IsRecOf n ts

-- what a block uses beside its trees and its members' names: the constructors that rules are for,
-- and the recursors that it may give, stated or not
abbrev pub BlockUses : Name → LibraryUnit → Type 0
BlockUses n (of_decl d) = ⊥
BlockUses n (of_block b rs) =
    HaveRuleFor n rs ⊎ (IsRecOf n b.types ⊎
    ((k : ℕ) × (rec_numbered (first_name b.types) (suc k) ≡ n)))

-- what a unit uses: the names that its trees mention, that its members bear, and of a block these
abbrev pub Uses : Name → LibraryUnit → Type 0
Uses n u = TreesMention n (trees_of u) ⊎ (Bears n (members_of u) ⊎ BlockUses n u)

-- the name is one of these
abbrev pub IsIn : Name → List Name → Type 0
IsIn n [] = ⊥
IsIn n (c ∷ cs) = (c ≡ n) ⊎ IsIn n cs

-- The built-in names. Questions look up the first seventeen, or bring them into trees, though no
-- tree need mention them; the last three of these only where a def is named as an operation that
-- has laws.
abbrev pub builtins : List Name
builtins =
    nat ∷ nat_zero ∷ nat_succ ∷ bool_name true ∷ bool_name false ∷ string ∷ string_mk ∷ list_nil
    ∷ list_cons ∷ char ∷ char_of_nat ∷ eq ∷ quot ∷ quot_mk ∷ nat_pred ∷ op_name add ∷ op_name mul
    ∷ eq_refl ∷ quot_lift ∷ quot_ind ∷ op_name log2 ∷ op_name sub ∷ op_name div ∷ op_name modulo
    ∷ op_name gcd ∷ op_name beq ∷ op_name ble ∷ op_name land ∷ op_name lor ∷ op_name xor
    ∷ op_name shift_left ∷ op_name shift_right ∷ op_name pow ∷ []

-- The kept units are closed for unit n of us: it is kept, and so is each unit that gives, before n,
-- a built-in name or a name that a kept unit uses. Names are looked up at n, also those of an
-- earlier unit.
pub record IsClosure (us : Library) (n : ℕ) (keep : ℕ → Bool) : Type 0 where
  pub own : keep n ≡ true
  pub builtin : (c : Name) (f : Found) → IsIn c builtins → first_giving 0 (take n us) c ≡ Some f →
      keep f.unit ≡ true
  pub used : (k : ℕ) (u : LibraryUnit) (c : Name) (f : Found) → keep k ≡ true →
      slice_get us k ≡ Some u → Uses c u → first_giving 0 (take n us) c ≡ Some f →
      keep f.unit ≡ true

-- the least such set: unit k is in it
pub data IsInClosure (us : Library) (n : ℕ) : ℕ → Type 0 where
  own_unit : IsInClosure us n n
  of_builtin : (c : Name) (f : Found) → IsIn c builtins → first_giving 0 (take n us) c ≡ Some f →
      IsInClosure us n f.unit
  of_used : (k : ℕ) (u : LibraryUnit) (c : Name) (f : Found) → IsInClosure us n k →
      slice_get us k ≡ Some u → Uses c u → first_giving 0 (take n us) c ≡ Some f →
      IsInClosure us n f.unit

-- just the units of the closure are kept
pub record KeepsClosure (us : Library) (n : ℕ) (keep : ℕ → Bool) : Type 0 where
  pub each : (k : ℕ) → IsInClosure us n k → keep k ≡ true
  pub only : (k : ℕ) → keep k ≡ true → IsInClosure us n k

-- each unit of the closure of unit n, in us or in vs, stands in both under the same number
pub record IsUnchanged (us vs : Library) (n : ℕ) : Type 0 where
  pub before : (k : ℕ) → IsInClosure us n k → slice_get us k ≡ slice_get vs k
  pub after : (k : ℕ) → IsInClosure vs n k → slice_get us k ≡ slice_get vs k
