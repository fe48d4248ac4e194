-- What a unit that gives a constant of quotient types has to meet.
use Rattle.std.specs.Prelude.{Bool, false, ◌&&◌, nat_eq, List, [], ◌∷◌, length, Option, Some, None, if◌then◌else◌}
use Rattle.lk_tree.specs.Tree.{Name, Tree}
use Rattle.lk_tree.specs.declared.rule.Rule.TheVariants.{QuotShape}
use Rattle.lk_rulebook.specs.Place.{Entry, Kind, Ctor, a_type}
use Rattle.lk_rulebook.specs.Names.{eq, eq_refl, quot, quot_mk}
use Rattle.lk_tree.specs.Mentions.{same_name}
use Rattle.lk_rulebook.specs.Quotients.{eq_type, eq_refl_type, ctors_from, Quotient, the_type, the_mk, the_lift, the_ind, quot_name, quot_type}
use Rattle.lk_questions.specs.Program.{Program, done, refuse, look, ◌>>=◌}
use Rattle.lk_questions.specs.Steps.{given, is_same_tree}
use Rattle.lk_questions.specs.Quotients.{by_quot}

abbrev pub quotients : List Quotient
quotients = the_type ∷ the_mk ∷ the_lift ∷ the_ind ∷ []

abbrev pub quotient_named : List Quotient → Name → Option Quotient
quotient_named [] c = None
quotient_named (q ∷ qs) c = if same_name (quot_name q) c then Some q else quotient_named qs c

-- c must be given by a quot unit
abbrev pub quot_given : Name → Program (Unit {0})
quot_given c = look QuotShape c λ g. given (by_quot g.kind) QuotShape (done tt)

abbrev pub is_eq_type : List Name → Tree → Bool
is_eq_type (u ∷ []) type = is_same_tree type (eq_type u)
is_eq_type _ type = false

abbrev pub is_refl_type : List Name → Tree → Bool
is_refl_type (u ∷ []) type = is_same_tree type (eq_refl_type u)
is_refl_type _ type = false

abbrev pub is_refl_alone : List Ctor → Bool
is_refl_alone (c ∷ []) = same_name c.name eq_refl && is_refl_type c.levels c.type
is_refl_alone _ = false

abbrev pub is_eq : Entry → Kind → Bool
is_eq g (a_type block t) = is_eq_type g.levels g.type && (is_refl_alone t.ctors && nat_eq (length (ctors_from block.types)) 1)
is_eq g _ = false

-- Eq must have its shape
abbrev pub eq_shape : Program (Unit {0})
eq_shape = look QuotShape eq λ g. given (is_eq g g.kind) QuotShape (done tt)

-- what the constant's type rests on must be there
abbrev pub rests_steps : Quotient → Program (Unit {0})
rests_steps the_type = done tt
rests_steps the_mk = quot_given quot
rests_steps the_lift = do
  u ← quot_given quot
  eq_shape
rests_steps the_ind = do
  u ← quot_given quot
  quot_given quot_mk

abbrev pub is_this : Option Tree → Tree → Bool
is_this (Some t) type = is_same_tree t type
is_this None type = false

abbrev pub quotient_steps : Option Quotient → List Name → Tree → Program (Unit {0})
quotient_steps None ps type = refuse QuotShape
quotient_steps (Some q) ps type = given (is_this (quot_type q ps) type) QuotShape (rests_steps q)

-- c is one of the four and has its type
abbrev pub quot_steps : Name → List Name → Tree → Program (Unit {0})
quot_steps c ps type = quotient_steps (quotient_named quotients c) ps type
