-- Places at which what a name gives is closed and holds no Local.
use Rattle.std.specs.Prelude.{◌≡◌, ◌⊎◌, List, [], ◌∷◌, Some}
use Rattle.lk_tree.specs.Tree.{Name}
use Rattle.lk_tree.specs.WellFormed.{IsStated}
use Rattle.lk_rulebook.specs.Place.{Place, Entry, Kind, RecRule, Ctor, BlockType, a_def, a_thm, an_axiom, an_opaque, a_quot, a_type, a_ctor, a_rec}

-- each rule's value is closed and holds no Local
abbrev pub RulesStated : List RecRule → Type 0
RulesStated [] = Unit {0}
RulesStated (r ∷ rs) = IsStated r.value × RulesStated rs

abbrev pub CtorsStated : List Ctor → Type 0
CtorsStated [] = Unit {0}
CtorsStated (c ∷ cs) = IsStated c.type × CtorsStated cs

-- the types of a block and their constructors
abbrev pub TypesStated : List BlockType → Type 0
TypesStated [] = Unit {0}
TypesStated (t ∷ ts) = (IsStated t.type × CtorsStated t.ctors) × TypesStated ts

-- a constructor is one of its type's
abbrev pub IsListed : Ctor → List Ctor → Type 0
IsListed c [] = ⊥
IsListed c (d ∷ ds) = (d ≡ c) ⊎ IsListed c ds

abbrev pub KindStated : Kind → Type 0
KindStated (a_def h v) = IsStated v
KindStated (a_thm v) = IsStated v
KindStated (an_opaque v) = IsStated v
KindStated (a_type b i) = (IsStated i.type × CtorsStated i.ctors) × TypesStated b.types
KindStated (a_ctor b i c) = IsStated c.type × IsListed c i.ctors
KindStated (a_rec r) = RulesStated r.rules
KindStated an_axiom = Unit {0}
KindStated a_quot = Unit {0}

-- what a name gives at w is closed and holds no Local
abbrev pub WellStated : Place → Type 0
WellStated w = (c : Name) (e : Entry) → w.means c ≡ Some e → IsStated e.type × KindStated e.kind
