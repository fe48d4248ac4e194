-- Worked steps and costs of constants, applications and binders: what the table says,
-- found with another program.
use Rattle.std.proofs.Common.{◌≡◌, List, [], ◌∷◌, Some, None, true, false, refl}
use Rattle.lk_tree.specs.Tree.{Level, tree_discrete, level_discrete, name_discrete, part_discrete, zero_level, succ_level, max_level, param, Tree, var, sort, const, app, lam, pi}
use Rattle.lk_tree.specs.Decide.{list_discrete, both_discrete}
use Rattle.lk_tree.specs.Bind.{open_at, close_at, bound}
use Rattle.lk_tree.specs.Levels.{put_levels, put_in_level, level_for}
use Rattle.lk_tree.specs.LevelTest.{level_le}
use Rattle.lk_tree.specs.Spine.{head, args}
use Rattle.lk_tree.specs.declared.rule.Rule.TheVariants.{UnknownConstant, LevelCount, LooseVariable, NotAFunction, ArgumentType}
use Rattle.lk_rulebook.specs.Place.{Place, regular}
use Rattle.lk_rulebook.specs.Names.{word, named}
use Rattle.lk_rulebook.specs.Quotients.{prop}
use Rattle.lk_rulebook.specs.Units.{place_of, LibraryUnit, of_decl, Decl, as_axiom, as_def, as_thm}
use Rattle.lk_questions.specs.Query.{core, whnf, infer, same}
use Rattle.lk_questions.specs.Answer.{answered, refused, spent, answer_to_depth, outcome_of, plain_answer}
use Rattle.lk_questions.specs.Declarations.{checked, unit_steps}
use Rattle.lk_questions.specs.Table.{steps}
use native.Mathlib.Decide.{ℕ_discrete}

abbrev pub one : Level
one = succ_level zero_level

abbrev pub A : Tree
A = named (word "A")

abbrev pub B : Tree
B = named (word "B")

abbrev pub Q : Tree
Q = named (word "Q")

abbrev u : Level
u = param (word "u")

-- F.{l}
abbrev F : Level → Tree
F l = const (word "F") (l ∷ [])

abbrev pub a : Tree
a = named (word "a")

abbrev pub b : Tree
b = named (word "b")

abbrev pub f : Tree
f = named (word "f")

abbrev pub q : Tree
q = named (word "q")

-- the theorem Q → Q
abbrev pub t : Tree
t = named (word "t")

abbrev pub id_of : Tree → Tree
id_of T = lam T (var 0)

-- F lives in Sort (u + 1); unit 9 is a def, and unit 10 holds a loose variable
abbrev pub units : List LibraryUnit
units = of_decl (record { name = word "A"; levels = []; type = sort one; body = as_axiom })
    ∷ of_decl (record { name = word "B"; levels = []; type = sort one; body = as_axiom })
    ∷ of_decl (record { name = word "F"; levels = word "u" ∷ []; type = sort (succ_level u); body = as_axiom })
    ∷ of_decl (record { name = word "a"; levels = []; type = A; body = as_axiom })
    ∷ of_decl (record { name = word "b"; levels = []; type = B; body = as_axiom })
    ∷ of_decl (record { name = word "f"; levels = []; type = pi A A; body = as_axiom })
    ∷ of_decl (record { name = word "Q"; levels = []; type = prop; body = as_axiom })
    ∷ of_decl (record { name = word "q"; levels = []; type = Q; body = as_axiom })
    ∷ of_decl (record { name = word "t"; levels = []; type = pi Q Q; body = as_thm (id_of Q) })
    ∷ of_decl (record { name = word "d"; levels = []; type = A; body = as_def (regular 1) a })
    ∷ of_decl (record { name = word "w"; levels = []; type = var 0; body = as_axiom })
    ∷ []

abbrev place : Place
place = place_of units 11 []

-- the first of two arguments
abbrev first : Tree
first = lam (pi A A) (lam A (var 1))

of_an_axiom : plain_answer steps place (infer a) 1 ≡ answered A 1 (Some 3)
unfolding answer_to_depth open_at close_at bound head args put_levels put_in_level level_for level_le tree_discrete level_discrete name_discrete part_discrete list_discrete both_discrete ℕ_discrete
of_an_axiom = refl

type_at_levels : plain_answer steps place (infer (F zero_level)) 1 ≡ answered (sort one) 1 (Some 2)
unfolding answer_to_depth open_at close_at bound head args put_levels put_in_level level_for level_le tree_discrete level_discrete name_discrete part_discrete list_discrete both_discrete ℕ_discrete
type_at_levels = refl

applied : plain_answer steps place (infer (app f a)) 6 ≡ answered A 6 (Some 5)
unfolding answer_to_depth open_at close_at bound head args put_levels put_in_level level_for level_le tree_discrete level_discrete name_discrete part_discrete list_discrete both_discrete ℕ_discrete
applied = refl

applied_short : plain_answer steps place (infer (app f a)) 5 ≡ spent
unfolding answer_to_depth open_at close_at bound head args put_levels put_in_level level_for level_le tree_discrete level_discrete name_discrete part_discrete list_discrete both_discrete ℕ_discrete
applied_short = refl

wrong_argument : plain_answer steps place (infer (app f b)) 100 ≡ refused ArgumentType
unfolding answer_to_depth open_at close_at bound head args put_levels put_in_level level_for level_le tree_discrete level_discrete name_discrete part_discrete list_discrete both_discrete ℕ_discrete
wrong_argument = refl

no_function : plain_answer steps place (infer (app a b)) 100 ≡ refused NotAFunction
unfolding answer_to_depth open_at close_at bound head args put_levels put_in_level level_for level_le tree_discrete level_discrete name_discrete part_discrete list_discrete both_discrete ℕ_discrete
no_function = refl

unknown : plain_answer steps place (infer (named (word "x"))) 100 ≡ refused UnknownConstant
unfolding answer_to_depth open_at close_at bound head args put_levels put_in_level level_for level_le tree_discrete level_discrete name_discrete part_discrete list_discrete both_discrete ℕ_discrete
unknown = refl

flawed : plain_answer steps place (infer (named (word "w"))) 100 ≡ refused LooseVariable
unfolding answer_to_depth open_at close_at bound head args put_levels put_in_level level_for level_le tree_discrete level_discrete name_discrete part_discrete list_discrete both_discrete ℕ_discrete
flawed = refl

flawed_head : plain_answer steps place (core (app (named (word "w")) a)) 100 ≡ refused LooseVariable
unfolding answer_to_depth open_at close_at bound head args put_levels put_in_level level_for level_le tree_discrete level_discrete name_discrete part_discrete list_discrete both_discrete ℕ_discrete
flawed_head = refl

no_levels : plain_answer steps place (infer (const (word "F") [])) 100 ≡ refused LevelCount
unfolding answer_to_depth open_at close_at bound head args put_levels put_in_level level_for level_le tree_discrete level_discrete name_discrete part_discrete list_discrete both_discrete ℕ_discrete
no_levels = refl

two_levels : plain_answer steps place (infer (const (word "F") (one ∷ one ∷ []))) 100 ≡ refused LevelCount
unfolding answer_to_depth open_at close_at bound head args put_levels put_in_level level_for level_le tree_discrete level_discrete name_discrete part_discrete list_discrete both_discrete ℕ_discrete
two_levels = refl

of_a_def_whole : plain_answer steps place (infer (named (word "d"))) 1 ≡ answered A 1 (Some 9)
unfolding answer_to_depth open_at close_at bound head args put_levels put_in_level level_for level_le tree_discrete level_discrete name_discrete part_discrete list_discrete both_discrete ℕ_discrete
of_a_def_whole = refl

more_arguments : plain_answer steps place (core (app (app (app first f) a) a)) 2 ≡ answered (app f a) 2 (Some 5)
unfolding answer_to_depth open_at close_at bound head args put_levels put_in_level level_for level_le tree_discrete level_discrete name_discrete part_discrete list_discrete both_discrete ℕ_discrete
more_arguments = refl

fewer_arguments : plain_answer steps place (core (app first f)) 2 ≡ answered (lam A f) 2 None
unfolding answer_to_depth open_at close_at bound head args put_levels put_in_level level_for level_le tree_discrete level_discrete name_discrete part_discrete list_discrete both_discrete ℕ_discrete
fewer_arguments = refl

as_many_arguments : plain_answer steps place (core (app (app first f) a)) 2 ≡ answered f 2 None
unfolding answer_to_depth open_at close_at bound head args put_levels put_in_level level_for level_le tree_discrete level_discrete name_discrete part_discrete list_discrete both_discrete ℕ_discrete
as_many_arguments = refl

theorem_unfolded : plain_answer steps place (whnf (app t q)) 5 ≡ answered q 5 (Some 8)
unfolding answer_to_depth open_at close_at bound head args put_levels put_in_level level_for level_le tree_discrete level_discrete name_discrete part_discrete list_discrete both_discrete ℕ_discrete
theorem_unfolded = refl

theorem_applied : plain_answer steps place (infer (app t q)) 6 ≡ answered Q 6 (Some 8)
unfolding answer_to_depth open_at close_at bound head args put_levels put_in_level level_for level_le tree_discrete level_discrete name_discrete part_discrete list_discrete both_discrete ℕ_discrete
theorem_applied = refl

pis_with_other_bodies : plain_answer steps place (same (pi A A) (pi A B)) 12 ≡ answered false 12 (Some 1)
unfolding answer_to_depth open_at close_at bound head args put_levels put_in_level level_for level_le tree_discrete level_discrete name_discrete part_discrete list_discrete both_discrete ℕ_discrete
pis_with_other_bodies = refl

pis_with_other_domains : plain_answer steps place (same (pi A A) (pi B A)) 11 ≡ answered false 11 (Some 1)
unfolding answer_to_depth open_at close_at bound head args put_levels put_in_level level_for level_le tree_discrete level_discrete name_discrete part_discrete list_discrete both_discrete ℕ_discrete
pis_with_other_domains = refl

lambdas : plain_answer steps place (same (lam A (app f (var 0))) (lam A (app f (app (id_of A) (var 0))))) 20 ≡ answered true 20 (Some 5)
unfolding answer_to_depth open_at close_at bound head args put_levels put_in_level level_for level_le tree_discrete level_discrete name_discrete part_discrete list_discrete both_discrete ℕ_discrete
lambdas = refl

equal_levels : plain_answer steps place (same (F zero_level) (F (max_level zero_level zero_level))) 7 ≡ answered true 7 (Some 2)
unfolding answer_to_depth open_at close_at bound head args put_levels put_in_level level_for level_le tree_discrete level_discrete name_discrete part_discrete list_discrete both_discrete ℕ_discrete
equal_levels = refl

other_levels : plain_answer steps place (same (F zero_level) (F one)) 10 ≡ answered false 10 (Some 2)
unfolding answer_to_depth open_at close_at bound head args put_levels put_in_level level_for level_le tree_discrete level_discrete name_discrete part_discrete list_discrete both_discrete ℕ_discrete
other_levels = refl

other_constants : plain_answer steps place (same A B) 10 ≡ answered false 10 (Some 1)
unfolding answer_to_depth open_at close_at bound head args put_levels put_in_level level_for level_le tree_discrete level_discrete name_discrete part_discrete list_discrete both_discrete ℕ_discrete
other_constants = refl

applications : plain_answer steps place (same (app f (app (id_of A) a)) (app f a)) 27 ≡ answered true 27 (Some 5)
unfolding answer_to_depth open_at close_at bound head args put_levels put_in_level level_for level_le tree_discrete level_discrete name_discrete part_discrete list_discrete both_discrete ℕ_discrete
applications = refl

applications_of_others : plain_answer steps place (same (app f a) (app f (app f a))) 31 ≡ answered false 31 (Some 5)
unfolding answer_to_depth open_at close_at bound head args put_levels put_in_level level_for level_le tree_discrete level_discrete name_discrete part_discrete list_discrete both_discrete ℕ_discrete
applications_of_others = refl

other_heads : plain_answer steps place (same (app f a) (app t a)) 36 ≡ answered false 36 (Some 8)
unfolding answer_to_depth open_at close_at bound head args put_levels put_in_level level_for level_le tree_discrete level_discrete name_discrete part_discrete list_discrete both_discrete ℕ_discrete
other_heads = refl

other_argument_counts : plain_answer steps place (same (app f a) (app (app f a) a)) 20 ≡ answered false 20 (Some 5)
unfolding answer_to_depth open_at close_at bound head args put_levels put_in_level level_for level_le tree_discrete level_discrete name_discrete part_discrete list_discrete both_discrete ℕ_discrete
other_argument_counts = refl

-- two proofs of one proposition are the same, before the theorem is unfolded

two_proofs : plain_answer steps place (same q (app t q)) 14 ≡ answered true 14 (Some 8)
unfolding answer_to_depth open_at close_at bound head args put_levels put_in_level level_for level_le tree_discrete level_discrete name_discrete part_discrete list_discrete both_discrete ℕ_discrete
two_proofs = refl

-- levels with parameters

levels_with_parameters : plain_answer steps place (same (sort u) (sort (max_level u u))) 1 ≡ answered true 1 None
unfolding answer_to_depth open_at close_at bound head args put_levels put_in_level level_for level_le tree_discrete level_discrete name_discrete part_discrete list_discrete both_discrete ℕ_discrete
levels_with_parameters = refl

other_levels_with_parameters : plain_answer steps place (same (sort u) (sort (succ_level u))) 1 ≡ answered false 1 None
unfolding answer_to_depth open_at close_at bound head args put_levels put_in_level level_for level_le tree_discrete level_discrete name_discrete part_discrete list_discrete both_discrete ℕ_discrete
other_levels_with_parameters = refl

-- units of a file
abbrev theorem_of : Tree → Tree → Decl
theorem_of type proof = record { name = word "s"; levels = []; type = type; body = as_thm proof }

abbrev axiom_of : Tree → Decl
axiom_of type = record { name = word "s"; levels = []; type = type; body = as_axiom }

axiom_checked : outcome_of place (plain_answer steps place) 9 (unit_steps (axiom_of (pi A A))) ≡ answered checked 9 (Some 0)
unfolding answer_to_depth open_at close_at bound head args put_levels put_in_level level_for level_le tree_discrete level_discrete name_discrete part_discrete list_discrete both_discrete ℕ_discrete
axiom_checked = refl

theorem_applied_checked : outcome_of place (plain_answer steps place) 10 (unit_steps (theorem_of Q (app t q))) ≡ answered checked 10 (Some 8)
unfolding answer_to_depth open_at close_at bound head args put_levels put_in_level level_for level_le tree_discrete level_discrete name_discrete part_discrete list_discrete both_discrete ℕ_discrete
theorem_applied_checked = refl

theorem_applied_twice : outcome_of place (plain_answer steps place) 25 (unit_steps (theorem_of (pi Q Q) (lam Q (app t (app t (var 0)))))) ≡ answered checked 25 (Some 8)
unfolding answer_to_depth open_at close_at bound head args put_levels put_in_level level_for level_le tree_discrete level_discrete name_discrete part_discrete list_discrete both_discrete ℕ_discrete
theorem_applied_twice = refl

theorem_refused : outcome_of place (plain_answer steps place) 100 (unit_steps (theorem_of Q (app t a))) ≡ refused ArgumentType
unfolding answer_to_depth open_at close_at bound head args put_levels put_in_level level_for level_le tree_discrete level_discrete name_discrete part_discrete list_discrete both_discrete ℕ_discrete
theorem_refused = refl
