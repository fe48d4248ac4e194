-- The place after inductive Nat : Type | zero : Nat | succ : Nat -> Nat, and a Nat.add that does not add.
use Rattle.std.specs.Prelude.{[], ◌∷◌}
use Rattle.lk_tree.specs.Tree.{Name, zero_level, succ_level, Tree, sort, app, lam, pi}
use Rattle.lk_tree.specs.Operations.{add}
use Rattle.lk_rulebook.specs.Place.{Place, Entry, Hint, Block, BlockType, Ctor, a_type, a_ctor}
use Rattle.lk_rulebook.specs.Names.{named, nat, nat_zero, nat_succ, op_name}
use Rattle.lk_rulebook.specs.Units.{LibraryUnit, of_block, place_of, Decl, as_def}

abbrev pub one : Tree
one = sort (succ_level zero_level)

-- Nat -> Nat
abbrev pub to_nat : Tree
to_nat = pi (named nat) (named nat)

abbrev pub zero_ctor : Ctor
zero_ctor = record { name = nat_zero; levels = []; type = named nat; parent = nat; place = 0; parameters = 0; fields = 0 }

abbrev pub succ_ctor : Ctor
succ_ctor = record { name = nat_succ; levels = []; type = to_nat; parent = nat; place = 1; parameters = 0; fields = 1 }

abbrev pub nat_type : BlockType
nat_type = record { name = nat; levels = []; type = one; parameters = 0; indices = 0; ctors = zero_ctor ∷ succ_ctor ∷ [] }

abbrev pub nat_block : Block
nat_block = record { types = nat_type ∷ [] }

abbrev pub nat_entry : Entry
nat_entry = record { levels = []; type = one; kind = a_type nat_block nat_type }

abbrev pub zero_entry : Entry
zero_entry = record { levels = []; type = named nat; kind = a_ctor nat_block nat_type zero_ctor }

abbrev pub succ_entry : Entry
succ_entry = record { levels = []; type = to_nat; kind = a_ctor nat_block nat_type succ_ctor }

abbrev pub nat_unit : LibraryUnit
nat_unit = of_block nat_block []

abbrev pub after_nat : Place
after_nat = place_of (nat_unit ∷ []) 1 []

-- fun a b => Nat.succ Nat.zero
abbrev pub always_one : Tree
always_one = lam (named nat) (lam (named nat) (app (named nat_succ) (named nat_zero)))

-- def c : Nat -> Nat -> Nat := fun a b => Nat.succ Nat.zero
abbrev pub always_one_as : Name → Hint → Decl
always_one_as c h = record { name = c; levels = []; type = pi (named nat) to_nat; body = as_def h always_one }

abbrev pub faked_addition : Hint → Decl
faked_addition h = always_one_as (op_name add) h
