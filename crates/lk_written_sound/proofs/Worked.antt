-- Sections that hold, and some that do not.
use Rattle.std.proofs.Common.{◌≡◌, Some, true, false, [], ◌∷◌, refl}
use Rattle.lk_tree.specs.Decide.{list_discrete, both_discrete}
use Rattle.lk_tree.specs.Tree.{name_discrete, part_discrete, level_discrete, tree_discrete, Name, number, Level, zero_level, succ_level, Tree, var, sort, app, lam, pi, lit, local}
use native.Mathlib.Decide.{ℕ_discrete}
use Rattle.lk_tree.specs.Bind.{bound, open_at}
use Rattle.lk_tree.specs.Spine.{head, args}
use Rattle.lk_tree.specs.Tree.{imax_level}
use Rattle.lk_tree.specs.Operations.{add}
use Rattle.lk_rulebook.specs.Names.{named, nat_zero, op_name}
use Rattle.lk_rulebook.specs.Place.{Place, opaque_hint}
use Rattle.lk_rulebook.specs.Units.{as_axiom, as_def, of_decl, Library}
use Rattle.lk_rulebook.specs.Claims.{types, reduces, equals}
use Rattle.lk_written.specs.Line.{ty, rd, cv, sort_rule, local_rule, app_rule, lam_rule, pi_rule, chain_rule, beta_rule, reduce_rule, apps_rule}
use Rattle.lk_written.specs.Reducing.{numbers}
use Rattle.lk_written.specs.Section.{Section, line_holds, section_holds, section_at_fault}

abbrev a_name : Name
a_name = number 0 ∷ []

abbrev prop : Tree
prop = sort zero_level

abbrev one : Level
one = succ_level zero_level

-- axiom a : Prop
abbrev axiom_alone : Library
axiom_alone = of_decl (record { name = a_name; levels = []; type = prop; body = as_axiom }) ∷ []

pub axiom_holds : section_holds axiom_alone 0 (record { lines = ty sort_rule prop (sort one) [] ∷ []; parts = 0 ∷ [] }) ≡ true
unfolding tree_discrete level_discrete
axiom_holds = refl

-- a line that states another type
pub wrong_type : section_holds axiom_alone 0 (record { lines = ty sort_rule prop prop [] ∷ []; parts = 0 ∷ [] }) ≡ false
unfolding tree_discrete level_discrete
wrong_type = refl

pub wrong_line : section_at_fault axiom_alone 0 (record { lines = ty sort_rule prop prop [] ∷ []; parts = 0 ∷ [] }) ≡ Some 0
unfolding tree_discrete level_discrete
wrong_line = refl

-- the last line names a line that is not there
pub no_line : section_holds axiom_alone 0 (record { lines = ty sort_rule prop (sort one) [] ∷ []; parts = 1 ∷ [] }) ≡ false
unfolding tree_discrete level_discrete
no_line = refl

pub last_line : section_at_fault axiom_alone 0 (record { lines = ty sort_rule prop (sort one) [] ∷ []; parts = 1 ∷ [] }) ≡ Some 1
unfolding tree_discrete level_discrete
last_line = refl

-- a line rests on itself
pub in_a_circle : section_holds axiom_alone 0 (record { lines = rd chain_rule prop prop (0 ∷ 0 ∷ []) ∷ ty sort_rule prop (sort one) [] ∷ []; parts = 1 ∷ [] }) ≡ false
unfolding tree_discrete level_discrete
in_a_circle = refl

-- def id : (A : Prop) -> A -> A := fun A a => a
abbrev x : Tree
x = local 0 prop

abbrev y : Tree
y = local 1 x

abbrev id_type : Tree
id_type = pi prop (pi (var 0) (var 1))

abbrev id_value : Tree
id_value = lam prop (lam (var 0) (var 0))

abbrev id_alone : Library
id_alone = of_decl (record { name = a_name; levels = []; type = id_type; body = as_def opaque_hint id_value }) ∷ []

abbrev zero : Level
zero = zero_level

abbrev id_section : Section
id_section = record {
  lines =
      ty sort_rule prop (sort one) []
      ∷ ty local_rule x prop []
      ∷ ty (pi_rule y) (pi x x) (sort (imax_level zero zero)) (1 ∷ 1 ∷ [])
      ∷ ty (pi_rule x) id_type (sort (imax_level one (imax_level zero zero))) (0 ∷ 2 ∷ [])
      ∷ ty local_rule y x []
      ∷ ty (lam_rule y) (lam x (var 0)) (pi x x) (1 ∷ 4 ∷ [])
      ∷ ty (lam_rule x) id_value id_type (0 ∷ 5 ∷ [])
      ∷ [];
  parts = 3 ∷ 6 ∷ [];
}

pub id_holds : section_holds id_alone 0 id_section ≡ true
unfolding tree_discrete level_discrete name_discrete part_discrete list_discrete both_discrete ℕ_discrete bound open_at
id_holds = refl

-- a def of this name, Type := Prop, and its section without laws
abbrev def_alone : Name → Library
def_alone c = of_decl (record { name = c; levels = []; type = sort one; body = as_def opaque_hint prop }) ∷ []

abbrev def_section : Section
def_section = record { lines = ty sort_rule (sort one) (sort (succ_level one)) [] ∷ ty sort_rule prop (sort one) [] ∷ []; parts = 0 ∷ 1 ∷ [] }

pub def_holds : section_holds (def_alone a_name) 0 def_section ≡ true
unfolding tree_discrete level_discrete name_discrete part_discrete list_discrete both_discrete ℕ_discrete bound open_at
def_holds = refl

-- one that is named as an operation with laws has to state them, and there is no Nat
pub addition_does_not : section_holds (def_alone (op_name add)) 0 def_section ≡ false
unfolding tree_discrete level_discrete name_discrete part_discrete list_discrete both_discrete ℕ_discrete bound open_at
addition_does_not = refl

-- the last line is at fault
pub addition_at_fault : section_at_fault (def_alone (op_name add)) 0 def_section ≡ Some 2
unfolding tree_discrete level_discrete name_discrete part_discrete list_discrete both_discrete ℕ_discrete bound open_at
addition_at_fault = refl

-- f : Prop -> Prop -> Prop and g, another one
abbrev two_props : Tree
two_props = pi prop (pi prop prop)

abbrev f : Tree
f = local 1 two_props

abbrev g : Tree
g = local 2 two_props

-- a spine in one line: f, and then each argument
pub two_arguments : (w : Place) → line_holds w (types f two_props ∷ types x prop ∷ []) (ty app_rule (app (app f x) x) prop (0 ∷ 1 ∷ 1 ∷ [])) ≡ true
unfolding tree_discrete level_discrete ℕ_discrete bound open_at
two_arguments w = refl

-- one argument is not enough
pub one_too_few : (w : Place) → line_holds w (types f two_props ∷ types x prop ∷ []) (ty app_rule (app (app f x) x) prop (0 ∷ 1 ∷ [])) ≡ false
unfolding tree_discrete level_discrete ℕ_discrete bound open_at
one_too_few w = refl

-- fun A => A applied to fun A => A and to x: only the lambda that stands there is opened
abbrev same_prop : Tree
same_prop = lam prop (var 0)

pub opened_once : (w : Place) → line_holds w [] (rd beta_rule (app (app (lam (pi prop prop) (var 0)) same_prop) x) (app same_prop x) []) ≡ true
unfolding tree_discrete level_discrete ℕ_discrete bound open_at head args
opened_once w = refl

pub not_twice : (w : Place) → line_holds w [] (rd beta_rule (app (app (lam (pi prop prop) (var 0)) same_prop) x) x []) ≡ false
unfolding tree_discrete level_discrete ℕ_discrete bound open_at head args
not_twice w = refl

-- two lambdas are opened with two arguments at once
pub opened_both : (w : Place) → line_holds w [] (rd beta_rule (app (app (lam prop (lam prop (var 1))) x) prop) x []) ≡ true
unfolding tree_discrete level_discrete ℕ_discrete bound open_at head args
opened_both w = refl

-- f x x == g x x, from f == g or from f x == g x
pub from_heads : (w : Place) → line_holds w (equals f g ∷ []) (cv apps_rule (app (app f x) x) (app (app g x) x) (0 ∷ [])) ≡ true
unfolding tree_discrete level_discrete ℕ_discrete bound
from_heads w = refl

pub from_parts : (w : Place) → line_holds w (equals (app f x) (app g x) ∷ []) (cv apps_rule (app (app f x) x) (app (app g x) x) (0 ∷ [])) ≡ true
unfolding tree_discrete level_discrete ℕ_discrete bound
from_parts w = refl

-- a premise about equal trees is not named, so it is left over
pub left_over : (w : Place) → line_holds w (equals f g ∷ equals x x ∷ []) (cv apps_rule (app f x) (app g x) (0 ∷ 1 ∷ [])) ≡ false
unfolding tree_discrete level_discrete ℕ_discrete bound
left_over w = refl

-- with nothing named, equality by reduction says that a tree equals itself
pub itself : (w : Place) → line_holds w [] (cv reduce_rule prop prop []) ≡ true
unfolding tree_discrete level_discrete ℕ_discrete
itself w = refl

-- the second reduction alone is named
pub second_alone : (w : Place) → line_holds w (reduces f g ∷ []) (cv reduce_rule g f (0 ∷ [])) ≡ true
unfolding tree_discrete level_discrete ℕ_discrete bound
second_alone w = refl

-- where both arguments of an operation are Nat.zero, a reduction of it is read as the first one's: so
-- what is said of all that can be written leaves out places at which it has a value
pub of_the_first : numbers (reduces (named nat_zero) (lit 5) ∷ []) (0 ∷ []) (named nat_zero ∷ named nat_zero ∷ []) ≡ Some (5 ∷ 0 ∷ [], [])
unfolding tree_discrete level_discrete name_discrete part_discrete list_discrete both_discrete ℕ_discrete
of_the_first = refl
