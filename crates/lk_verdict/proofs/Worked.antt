-- Worked verdicts: costs, and the rules of the scan in their order.
use Rattle.std.proofs.Common.{ℕ, ◌≡◌, List, [], ◌∷◌, ◌^◌, refl}
use Rattle.lk_tree.specs.Tree.{Name, text, zero_level, succ_level, imax_level, param, Tree, tree_discrete, level_discrete, name_discrete, part_discrete, var, sort, const, app, lam, pi, lit, wide}
use Rattle.lk_tree.specs.Decide.{list_discrete, both_discrete}
use Rattle.lk_tree.specs.Bind.{open_at, close_at, bound}
use Rattle.lk_tree.specs.Levels.{put_levels, put_in_level, level_for}
use Rattle.lk_tree.specs.LevelTest.{level_le}
use Rattle.lk_tree.specs.Spine.{head, args}
use Rattle.lk_tree.specs.declared.rule.Rule.TheVariants.{UnknownConstant, UndeclaredLevel, DuplicateLevel, DuplicateName, LooseVariable, ValueType, WideLiteral, QuotShape, NestedForm}
use Rattle.lk_rulebook.specs.Place.{opaque_hint, abbreviation}
use Rattle.lk_rulebook.specs.Units.{Body, as_axiom, as_def, as_thm, as_opaque, as_quot, LibraryUnit, of_decl, of_block, Library}
use Rattle.lk_questions.specs.Answer.{answer_to_depth}
use Rattle.lk_questions.specs.Table.{steps}
use Rattle.lk_inductive.proofs.WorkedNested.{vec_unit, bad_types}
use Rattle.lk_verdict.specs.Verdict.{says_yes, says_no, says_steps, plain_verdict}
use Rattle.lk_verdict.specs.Attacks.{prop, t_block, shadowed, doubled, undeclared, of_local}
use native.Mathlib.Decide.{ℕ_discrete}

abbrev name : ℕ → Name
name c = text (c ∷ []) ∷ []

abbrev an : ℕ → List Name → Tree → Body → LibraryUnit
an c ps type body = of_decl (record { name = name c; levels = ps; type = type; body = body })

abbrev n : ℕ → Tree
n c = const (name c) []

-- theorem id : (p : Prop) -> p -> p
abbrev id : Library
id = an 105 [] (pi prop (pi (var 0) (var 1))) (as_thm (lam prop (lam (var 0) (var 0)))) ∷ []

id_yes : plain_verdict steps id 0 25 ≡ says_yes
unfolding answer_to_depth open_at close_at bound head args tree_discrete level_discrete name_discrete part_discrete list_discrete both_discrete ℕ_discrete
id_yes = refl

id_short : plain_verdict steps id 0 24 ≡ says_steps
unfolding answer_to_depth open_at close_at bound head args tree_discrete level_discrete name_discrete part_discrete list_discrete both_discrete ℕ_discrete
id_short = refl

-- def a.{u} : Type := Sort (imax u 0), and def b.{u} : Sort (u + 1) := Sort (imax u 0)
abbrev u : Name
u = name 117

abbrev imaxes : Library
imaxes = an 97 (u ∷ []) (sort (succ_level zero_level)) (as_def abbreviation (sort (imax_level (param u) zero_level)))
    ∷ an 98 (u ∷ []) (sort (succ_level (param u))) (as_def abbreviation (sort (imax_level (param u) zero_level)))
    ∷ []

imax_yes : plain_verdict steps imaxes 0 5 ≡ says_yes
unfolding answer_to_depth open_at close_at bound head args put_levels put_in_level level_for level_le tree_discrete level_discrete name_discrete part_discrete list_discrete both_discrete ℕ_discrete
imax_yes = refl

imax_short : plain_verdict steps imaxes 1 4 ≡ says_steps
unfolding answer_to_depth open_at close_at bound head args put_levels put_in_level level_for level_le tree_discrete level_discrete name_discrete part_discrete list_discrete both_discrete ℕ_discrete
imax_short = refl

imax_no : plain_verdict steps imaxes 1 5 ≡ says_no ValueType
unfolding answer_to_depth open_at close_at bound head args put_levels put_in_level level_for level_le tree_discrete level_discrete name_discrete part_discrete list_discrete both_discrete ℕ_discrete
imax_no = refl

-- axiom a with a loose variable in its type, axiom b : Prop, axiom c : a
abbrev loose : Library
loose = an 97 [] (var 0) as_axiom ∷ an 98 [] prop as_axiom ∷ an 99 [] (n 97) as_axiom ∷ []

loose_no : plain_verdict steps loose 0 1 ≡ says_no LooseVariable
unfolding name_discrete part_discrete list_discrete both_discrete ℕ_discrete
loose_no = refl

b_short : plain_verdict steps loose 1 1 ≡ says_steps
unfolding answer_to_depth head args name_discrete part_discrete list_discrete both_discrete ℕ_discrete
b_short = refl

b_yes : plain_verdict steps loose 1 3 ≡ says_yes
unfolding answer_to_depth head args name_discrete part_discrete list_discrete both_discrete ℕ_discrete
b_yes = refl

c_no : plain_verdict steps loose 2 3 ≡ says_no LooseVariable
unfolding answer_to_depth head args name_discrete part_discrete list_discrete both_discrete ℕ_discrete
c_no = refl

-- def a : Prop := q, where q comes later
abbrev early : Library
early = an 97 [] prop (as_def opaque_hint (n 113)) ∷ an 113 [] prop as_axiom ∷ an 99 [] prop (as_def opaque_hint (n 113)) ∷ []

early_no : plain_verdict steps early 0 1000 ≡ says_no UnknownConstant
unfolding answer_to_depth open_at close_at bound head args put_levels tree_discrete level_discrete name_discrete part_discrete list_discrete both_discrete ℕ_discrete
early_no = refl

early_yes : plain_verdict steps early 2 1000 ≡ says_yes
unfolding answer_to_depth open_at close_at bound head args put_levels put_in_level tree_discrete level_discrete name_discrete part_discrete list_discrete both_discrete ℕ_discrete
early_yes = refl

-- the scan: a name that is given, twice a level parameter, a loose variable, one that is not declared, a wide literal
abbrev all_wrong : List Name → Tree → LibraryUnit
all_wrong ps e = an 97 ps e as_axiom

abbrev wrong : ℕ → List Name → Tree → Library
wrong c ps e = an c [] prop as_axiom ∷ all_wrong ps e ∷ []

given_twice : plain_verdict steps (wrong 97 (u ∷ u ∷ []) (pi (var 0) (pi (sort (param (name 118))) wide))) 1 0 ≡ says_no DuplicateName
unfolding name_discrete part_discrete list_discrete both_discrete ℕ_discrete
given_twice = refl

declared_twice : plain_verdict steps (wrong 98 (u ∷ u ∷ []) (pi (var 0) (pi (sort (param (name 118))) wide))) 1 0 ≡ says_no DuplicateLevel
unfolding name_discrete part_discrete list_discrete both_discrete ℕ_discrete
declared_twice = refl

is_loose : plain_verdict steps (wrong 98 (u ∷ []) (pi (var 0) (pi (sort (param (name 118))) wide))) 1 0 ≡ says_no LooseVariable
unfolding name_discrete part_discrete list_discrete both_discrete ℕ_discrete
is_loose = refl

not_declared : plain_verdict steps (wrong 98 (u ∷ []) (pi prop (pi (sort (param (name 118))) wide))) 1 0 ≡ says_no UndeclaredLevel
unfolding name_discrete part_discrete list_discrete both_discrete ℕ_discrete
not_declared = refl

is_wide : plain_verdict steps (wrong 98 (u ∷ []) (pi prop (pi (sort (param u)) wide))) 1 0 ≡ says_no WideLiteral
unfolding name_discrete part_discrete list_discrete both_discrete ℕ_discrete
is_wide = refl

also_wide : plain_verdict steps (wrong 98 [] (lit (2 ^ 128))) 1 0 ≡ says_no WideLiteral
unfolding name_discrete part_discrete list_discrete both_discrete ℕ_discrete
also_wide = refl

-- the known attacks
block_yes : plain_verdict steps (of_block t_block [] ∷ []) 0 100 ≡ says_yes
unfolding answer_to_depth open_at close_at bound head args put_levels put_in_level level_for level_le tree_discrete level_discrete name_discrete part_discrete list_discrete both_discrete ℕ_discrete
block_yes = refl

shadowed_no : plain_verdict steps shadowed 1 100 ≡ says_no DuplicateName
unfolding name_discrete part_discrete list_discrete both_discrete ℕ_discrete
shadowed_no = refl

doubled_no : plain_verdict steps (doubled ∷ []) 0 100 ≡ says_no DuplicateName
unfolding name_discrete part_discrete list_discrete both_discrete ℕ_discrete
doubled_no = refl

undeclared_no : plain_verdict steps (undeclared ∷ []) 0 100 ≡ says_no UndeclaredLevel
unfolding name_discrete part_discrete list_discrete both_discrete ℕ_discrete
undeclared_no = refl

local_no : plain_verdict steps (of_local ∷ []) 0 100 ≡ says_no LooseVariable
unfolding name_discrete part_discrete list_discrete both_discrete ℕ_discrete
local_no = refl

-- one of each: axiom p : Prop, axiom h : p, theorem k : p := (λ (x : p), x) h,
-- theorem m : p → p := λ (x : p), k, def d : p := h, opaque o : p := d, def e : Prop := o, a block, and a constant that
-- is called a quotient
abbrev built : Library
built = an 112 [] prop as_axiom
    ∷ an 104 [] (n 112) as_axiom
    ∷ an 107 [] (n 112) (as_thm (app (lam (n 112) (var 0)) (n 104)))
    ∷ an 109 [] (pi (n 112) (n 112)) (as_thm (lam (n 112) (n 107)))
    ∷ an 100 [] (n 112) (as_def abbreviation (n 104))
    ∷ an 111 [] (n 112) (as_opaque (n 100))
    ∷ an 101 [] prop (as_def abbreviation (n 111))
    ∷ of_block t_block []
    ∷ an 113 [] prop as_quot
    ∷ []

axiom_built : plain_verdict steps built 0 3 ≡ says_yes
unfolding answer_to_depth open_at close_at bound head args put_levels put_in_level level_for level_le tree_discrete level_discrete name_discrete part_discrete list_discrete both_discrete ℕ_discrete
axiom_built = refl

axiom_built_short : plain_verdict steps built 0 2 ≡ says_steps
unfolding answer_to_depth open_at close_at bound head args put_levels put_in_level level_for level_le tree_discrete level_discrete name_discrete part_discrete list_discrete both_discrete ℕ_discrete
axiom_built_short = refl

axiom_of_axiom_built : plain_verdict steps built 1 3 ≡ says_yes
unfolding answer_to_depth open_at close_at bound head args put_levels put_in_level level_for level_le tree_discrete level_discrete name_discrete part_discrete list_discrete both_discrete ℕ_discrete
axiom_of_axiom_built = refl

theorem_built : plain_verdict steps built 2 14 ≡ says_yes
unfolding answer_to_depth open_at close_at bound head args put_levels put_in_level level_for level_le tree_discrete level_discrete name_discrete part_discrete list_discrete both_discrete ℕ_discrete
theorem_built = refl

theorem_built_short : plain_verdict steps built 2 13 ≡ says_steps
unfolding answer_to_depth open_at close_at bound head args put_levels put_in_level level_for level_le tree_discrete level_discrete name_discrete part_discrete list_discrete both_discrete ℕ_discrete
theorem_built_short = refl

theorem_of_theorem_built : plain_verdict steps built 3 15 ≡ says_yes
unfolding answer_to_depth open_at close_at bound head args put_levels put_in_level level_for level_le tree_discrete level_discrete name_discrete part_discrete list_discrete both_discrete ℕ_discrete
theorem_of_theorem_built = refl

theorem_of_theorem_built_short : plain_verdict steps built 3 14 ≡ says_steps
unfolding answer_to_depth open_at close_at bound head args put_levels put_in_level level_for level_le tree_discrete level_discrete name_discrete part_discrete list_discrete both_discrete ℕ_discrete
theorem_of_theorem_built_short = refl

def_built : plain_verdict steps built 4 5 ≡ says_yes
unfolding answer_to_depth open_at close_at bound head args put_levels put_in_level level_for level_le tree_discrete level_discrete name_discrete part_discrete list_discrete both_discrete ℕ_discrete
def_built = refl

def_built_short : plain_verdict steps built 4 4 ≡ says_steps
unfolding answer_to_depth open_at close_at bound head args put_levels put_in_level level_for level_le tree_discrete level_discrete name_discrete part_discrete list_discrete both_discrete ℕ_discrete
def_built_short = refl

opaque_built : plain_verdict steps built 5 5 ≡ says_yes
unfolding answer_to_depth open_at close_at bound head args put_levels put_in_level level_for level_le tree_discrete level_discrete name_discrete part_discrete list_discrete both_discrete ℕ_discrete
opaque_built = refl

opaque_built_short : plain_verdict steps built 5 4 ≡ says_steps
unfolding answer_to_depth open_at close_at bound head args put_levels put_in_level level_for level_le tree_discrete level_discrete name_discrete part_discrete list_discrete both_discrete ℕ_discrete
opaque_built_short = refl

def_refused : plain_verdict steps built 6 1000 ≡ says_no ValueType
unfolding answer_to_depth open_at close_at bound head args put_levels put_in_level level_for level_le tree_discrete level_discrete name_discrete part_discrete list_discrete both_discrete ℕ_discrete
def_refused = refl

block_built : plain_verdict steps built 7 10 ≡ says_yes
unfolding answer_to_depth open_at close_at bound head args put_levels put_in_level level_for level_le tree_discrete level_discrete name_discrete part_discrete list_discrete both_discrete ℕ_discrete
block_built = refl

block_built_short : plain_verdict steps built 7 9 ≡ says_steps
unfolding answer_to_depth open_at close_at bound head args put_levels put_in_level level_for level_le tree_discrete level_discrete name_discrete part_discrete list_discrete both_discrete ℕ_discrete
block_built_short = refl

-- Vec, then Bad.mk : (i : Type) -> Vec Bad i -> Bad, where i is a parameter of Vec
nested_refused : plain_verdict steps (vec_unit ∷ of_block (record { types = bad_types }) [] ∷ []) 1 1000 ≡ says_no NestedForm
unfolding answer_to_depth open_at close_at bound head args put_levels put_in_level level_for level_le tree_discrete level_discrete name_discrete part_discrete list_discrete both_discrete ℕ_discrete
nested_refused = refl

-- another constant than the four of quotients
quotient_refused : plain_verdict steps built 8 1000 ≡ says_no QuotShape
unfolding answer_to_depth open_at close_at bound head args put_levels put_in_level level_for level_le tree_discrete level_discrete name_discrete part_discrete list_discrete both_discrete ℕ_discrete
quotient_refused = refl
