-- Worked costs.
use Rattle.std.proofs.Common.{◌≡◌, [], None, refl, true}
use Rattle.lk_tree.specs.Tree.{Tree, tree_discrete, level_discrete, name_discrete, part_discrete, zero_level, succ_level, imax_level, var, sort, lam, pi}
use Rattle.lk_tree.specs.Bind.{open_at, close_at, bound}
use Rattle.lk_tree.specs.Spine.{head, args}
use Rattle.lk_rulebook.specs.Place.{Place}
use Rattle.lk_questions.specs.Query.{infer, same}
use Rattle.lk_questions.specs.Answer.{answered, spent, answer_to_depth, plain_answer, outcome_of}
use native.Mathlib.Decide.{ℕ_discrete}
use Rattle.lk_rulebook.specs.Units.{Decl, as_thm}
use Rattle.lk_questions.specs.Declarations.{checked, unit_steps}
use Rattle.lk_questions.specs.Table.{steps}

abbrev nowhere : Place
nowhere = record { means = λ c. None; origin = λ c. 0; flaw = λ c. None }

abbrev id_type : Tree
id_type = pi (sort zero_level) (pi (var 0) (var 1))

abbrev id_value : Tree
id_value = lam (sort zero_level) (lam (var 0) (var 0))

type_cost : plain_answer steps nowhere (infer id_type) 13 ≡ answered (sort (imax_level (succ_level zero_level) (imax_level zero_level zero_level))) 13 None
unfolding answer_to_depth open_at close_at bound head args
type_cost = refl

type_spent : plain_answer steps nowhere (infer id_type) 12 ≡ spent
unfolding answer_to_depth open_at close_at bound head args
type_spent = refl

value_cost : plain_answer steps nowhere (infer id_value) 1000 ≡ answered id_type 9 None
unfolding answer_to_depth open_at close_at bound head args
value_cost = refl

same_cost : plain_answer steps nowhere (same id_type id_type) 5 ≡ answered true 1 None
unfolding answer_to_depth open_at close_at bound head args tree_discrete level_discrete name_discrete part_discrete ℕ_discrete
same_cost = refl

abbrev id_decl : Decl
id_decl = record { name = []; levels = []; type = id_type; body = as_thm id_value }

row_1 : outcome_of nowhere (plain_answer steps nowhere) 25 (unit_steps id_decl) ≡ answered checked 25 None
unfolding answer_to_depth open_at close_at bound head args tree_discrete level_discrete name_discrete part_discrete ℕ_discrete
row_1 = refl

row_1_short : outcome_of nowhere (plain_answer steps nowhere) 24 (unit_steps id_decl) ≡ spent
unfolding answer_to_depth open_at close_at bound head args tree_discrete level_discrete name_discrete part_discrete ℕ_discrete
row_1_short = refl
