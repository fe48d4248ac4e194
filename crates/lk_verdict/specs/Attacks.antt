-- Units that are no good: from the first four falsehood follows where names, level parameters and trees are not scanned.
use Rattle.std.specs.Prelude.{List, [], ◌∷◌}
use Rattle.lk_tree.specs.Tree.{Name, text, number, Level, zero_level, succ_level, param, Tree, var, sort, const, pi, local}
use Rattle.lk_rulebook.specs.Place.{Ctor, BlockType, Block, BlockRecursor, opaque_hint}
use Rattle.lk_inductive.specs.Enlarged.{aux_name}
use Rattle.lk_rulebook.specs.Units.{Decl, as_def, LibraryUnit, of_decl, of_block, Library}

abbrev pub prop : Tree
prop = sort zero_level

-- (P : Prop) -> P
abbrev pub falsehood : Tree
falsehood = pi prop (var 0)

abbrev pub t_name : Name
t_name = []

abbrev pub other_name : Name
other_name = text [] ∷ []

abbrev pub ctor_of : Name → Name → Ctor
ctor_of c T = record { name = c; levels = []; type = const T []; parent = T; place = 0; parameters = 0; fields = 0 }

-- def T : Prop := (P : Prop) -> P
abbrev pub first_t : Decl
first_t = record { name = t_name; levels = []; type = prop; body = as_def opaque_hint falsehood }

-- inductive T : Prop | oops : T
abbrev pub t_type : BlockType
t_type = record { name = t_name; levels = []; type = prop; parameters = 0; indices = 0; ctors = ctor_of other_name t_name ∷ [] }

abbrev pub t_block : Block
t_block = record { types = t_type ∷ [] }

-- after both, oops has the first T's meaning as its type
abbrev pub shadowed : Library
shadowed = of_decl first_t ∷ of_block t_block [] ∷ []

-- inductive A : Prop with no constructor, and inductive B : Prop | A : B, in one block
abbrev pub a_type : BlockType
a_type = record { name = t_name; levels = []; type = prop; parameters = 0; indices = 0; ctors = [] }

abbrev pub b_type : BlockType
b_type = record { name = other_name; levels = []; type = prop; parameters = 0; indices = 0; ctors = ctor_of t_name other_name ∷ [] }

abbrev pub doubled : LibraryUnit
doubled = of_block (record { types = a_type ∷ b_type ∷ [] }) []

-- def c : Sort (u + 1) := Sort u, with no level parameter
abbrev pub u : Level
u = param (number 0 ∷ [])

abbrev pub undeclared : LibraryUnit
undeclared = of_decl (record { name = t_name; levels = []; type = sort (succ_level u); body = as_def opaque_hint (sort u) })

-- def f : (P : Prop) -> P := a Local of this type
abbrev pub of_local : LibraryUnit
of_local = of_decl (record { name = t_name; levels = []; type = falsehood; body = as_def opaque_hint (local 0 falsehood) })

-- inductive X : Prop, where X is the name of an auxiliary type: two types of a larger block would have one name
abbrev pub hidden_type : BlockType
hidden_type = record { name = aux_name 0; levels = []; type = prop; parameters = 0; indices = 0; ctors = [] }

abbrev pub hidden : List BlockType → List BlockRecursor → LibraryUnit
hidden ts rs = of_block (record { types = hidden_type ∷ ts }) rs
