-- Texts that expand, and literals read as constructors.
use Rattle.std.specs.Prelude.{ℕ, zero, suc, Bool, false, ◌&&◌, List, [], ◌∷◌, Option, Some, None, if◌then◌else◌}
use Rattle.std.specs.Str.{is_utf8, chars}
use Rattle.lk_tree.specs.Tree.{Name, Tree, app, lit, str}
use Rattle.lk_tree.specs.declared.rule.Rule.TheVariants.{NoBuiltin}
use Rattle.lk_rulebook.specs.Place.{Entry, Kind, Ctor, a_type}
use Rattle.lk_rulebook.specs.Names.{named, nat_zero, nat_succ, string, string_mk}
use Rattle.lk_tree.specs.Mentions.{same_name}
use Rattle.lk_rulebook.specs.Literals.{expansion, expansion_names}
use Rattle.lk_questions.specs.Program.{Program, done, look, ◌>>=◌}
use Rattle.lk_questions.specs.Shapes.{has_string_shape}

-- each of the names is given
abbrev pub look_all : List Name → Program (Unit {0})
look_all [] = done tt
look_all (c ∷ cs) = look NoBuiltin c λ g. look_all cs

-- the only constructor is String.mk
abbrev pub is_mk_alone : List Ctor → Bool
is_mk_alone (c ∷ []) = same_name c.name string_mk
is_mk_alone _ = false

abbrev pub has_mk_alone : Kind → Bool
has_mk_alone (a_type block t) = is_mk_alone t.ctors
has_mk_alone _ = false

abbrev pub expansion_by : List ℕ → Entry → Kind → Program (Option Tree)
expansion_by s g k = do
  has ← has_string_shape g k
  if has && (has_mk_alone k && is_utf8 s) then (do
    u ← look_all (expansion_names (chars s))
    done (Some (expansion (chars s))))
      else done None

-- the expansion of a text, where it expands
abbrev pub expansion_of : List ℕ → Program (Option Tree)
expansion_of s = look NoBuiltin string λ g. expansion_by s g g.kind

-- a text that expands is expanded
abbrev pub tree_or : Option Tree → Tree → Tree
tree_or (Some x) m = x
tree_or None m = m

abbrev pub text_to_ctor : Tree → Program Tree
text_to_ctor (str s) = do
  x ← expansion_of s
  done (tree_or x (str s))
text_to_ctor m = done m

-- the same, and a number is zero or a successor
abbrev pub literal_to_ctor : Tree → Program Tree
literal_to_ctor (lit zero) = look NoBuiltin nat_zero λ g. done (named nat_zero)
literal_to_ctor (lit (suc n)) = look NoBuiltin nat_succ λ g. done (app (named nat_succ) (lit n))
literal_to_ctor m = text_to_ctor m
