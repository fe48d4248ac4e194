-- Whether Nat and String have their shapes.
use Rattle.std.specs.Prelude.{Bool, false, ◌&&◌, nat_eq, List, [], ◌∷◌, length, if◌then◌else◌}
use Rattle.lk_tree.specs.Tree.{zero_level, succ_level, Tree, sort, pi}
use Rattle.lk_tree.specs.LevelTest.{level_test}
use Rattle.lk_tree.specs.declared.rule.Rule.TheVariants.{NoBuiltin, BuiltinShape}
use Rattle.lk_rulebook.specs.Place.{Entry, Kind, Ctor, a_type}
use Rattle.lk_rulebook.specs.Names.{named, nat, nat_zero, nat_succ, string}
use Rattle.lk_tree.specs.Mentions.{same_name}
use Rattle.lk_questions.specs.Program.{Program, done, refuse, look, ◌>>=◌}
use Rattle.lk_questions.specs.Steps.{given, is_same_tree}
use Rattle.lk_questions.specs.Levels.{tested}

-- Sort 1, by value
abbrev pub is_sort_one : Tree → Program Bool
is_sort_one (sort l) = tested (level_test l (succ_level zero_level))
is_sort_one _ = done false

-- Nat.zero : Nat and Nat.succ : Nat -> Nat
abbrev pub are_nat_ctors : List Ctor → Bool
are_nat_ctors (z ∷ s ∷ []) = (same_name z.name nat_zero && is_same_tree z.type (named nat)) && (same_name s.name nat_succ && is_same_tree s.type (pi (named nat) (named nat)))
are_nat_ctors _ = false

abbrev pub nat_shape_by : Entry → Kind → Program (Unit {0})
nat_shape_by g (a_type block t) =
    given ((nat_eq (length block.types) 1 && nat_eq t.parameters 0) && (nat_eq t.indices 0 && nat_eq (length g.levels) 0)) BuiltinShape (do
      one ← is_sort_one g.type
      given (one && are_nat_ctors t.ctors) BuiltinShape (done tt))
nat_shape_by g _ = refuse BuiltinShape

-- Nat must have its shape
abbrev pub nat_shape : Program (Unit {0})
nat_shape = look NoBuiltin nat λ g. nat_shape_by g g.kind

abbrev pub has_string_shape : Entry → Kind → Program Bool
has_string_shape g (a_type block t) = if nat_eq (length block.types) 1 && nat_eq (length g.levels) 0 then is_sort_one g.type else done false
has_string_shape g _ = done false

-- String must have its shape
abbrev pub string_shape : Program (Unit {0})
string_shape = look NoBuiltin string λ g. do
  has ← has_string_shape g g.kind
  given has BuiltinShape (done tt)
