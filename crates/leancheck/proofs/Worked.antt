-- Worked verdicts: the files of the tests.
use Rattle.std.proofs.Common.{◌≡◌, ℕ, [], ◌∷◌, refl}
use Rattle.lk_tree.specs.Tree.{Name, number, Tree, tree_discrete, level_discrete, name_discrete, part_discrete, zero_level, var, sort, const, app, lam, pi}
use Rattle.lk_tree.specs.Decide.{list_discrete, both_discrete}
use Rattle.lk_tree.specs.Bind.{open_at, close_at, bound}
use Rattle.lk_tree.specs.Levels.{put_levels, put_in_level, level_for}
use Rattle.lk_tree.specs.LevelTest.{level_le}
use Rattle.lk_tree.specs.Spine.{head, args}
use Rattle.lk_tree.specs.declared.rule.Rule.TheVariants.{DuplicateName, LooseVariable, ArgumentType, ValueType, TheoremNotProp}
use Rattle.lk_rulebook.specs.Units.{as_axiom, as_thm, LibraryUnit, of_decl, Library}
use Rattle.lk_questions.specs.Answer.{answer_to_depth}
use Rattle.lk_questions.specs.Table.{steps}
use Rattle.lk_verdict.specs.Verdict.{says_yes, says_no, says_steps, plain_verdict}
use native.Mathlib.Decide.{ℕ_discrete}

abbrev prop : Tree
prop = sort zero_level

abbrev name : ℕ → Name
name n = number n ∷ []

abbrev named : ℕ → Tree
named n = const (name n) []

abbrev axiom_of : ℕ → Tree → LibraryUnit
axiom_of n type = of_decl (record { name = name n; levels = []; type = type; body = as_axiom })

abbrev theorem_of : ℕ → Tree → Tree → LibraryUnit
theorem_of n type proof = of_decl (record { name = name n; levels = []; type = type; body = as_thm proof })

abbrev id : LibraryUnit
id = theorem_of 0 (pi prop (pi (var 0) (var 1))) (lam prop (lam (var 0) (var 0)))

abbrev other : LibraryUnit
other = theorem_of 0 (pi prop (pi (var 0) (var 1))) (lam prop (var 0))

abbrev no_prop : LibraryUnit
no_prop = theorem_of 0 prop prop

-- an axiom whose type has a loose variable, one of Prop, and one of the first
abbrev loose : Library
loose = axiom_of 1 (var 0) ∷ axiom_of 2 prop ∷ axiom_of 3 (named 1) ∷ []

-- A and B of Prop, f : A → A and b : B; then x : A := f b and y : A := x
abbrev applied : Library
applied = axiom_of 1 prop ∷ axiom_of 2 prop ∷ axiom_of 3 (pi (named 1) (named 1)) ∷ axiom_of 4 (named 2)
    ∷ theorem_of 5 (named 1) (app (named 3) (named 4)) ∷ theorem_of 6 (named 1) (named 5) ∷ []

id_yes : plain_verdict steps (id ∷ []) 0 25 ≡ says_yes
unfolding answer_to_depth open_at close_at bound head args put_levels put_in_level level_for level_le tree_discrete level_discrete name_discrete part_discrete list_discrete both_discrete ℕ_discrete
id_yes = refl

id_short : plain_verdict steps (id ∷ []) 0 24 ≡ says_steps
unfolding answer_to_depth open_at close_at bound head args put_levels put_in_level level_for level_le tree_discrete level_discrete name_discrete part_discrete list_discrete both_discrete ℕ_discrete
id_short = refl

id_twice : plain_verdict steps (id ∷ id ∷ []) 1 25 ≡ says_no DuplicateName
unfolding answer_to_depth open_at close_at bound head args put_levels put_in_level level_for level_le tree_discrete level_discrete name_discrete part_discrete list_discrete both_discrete ℕ_discrete
id_twice = refl

other_no : plain_verdict steps (other ∷ []) 0 100 ≡ says_no ValueType
unfolding answer_to_depth open_at close_at bound head args put_levels put_in_level level_for level_le tree_discrete level_discrete name_discrete part_discrete list_discrete both_discrete ℕ_discrete
other_no = refl

no_prop_no : plain_verdict steps (no_prop ∷ []) 0 100 ≡ says_no TheoremNotProp
unfolding answer_to_depth open_at close_at bound head args put_levels put_in_level level_for level_le tree_discrete level_discrete name_discrete part_discrete list_discrete both_discrete ℕ_discrete
no_prop_no = refl

of_loose_no : plain_verdict steps loose 2 3 ≡ says_no LooseVariable
unfolding answer_to_depth open_at close_at bound head args put_levels put_in_level level_for level_le tree_discrete level_discrete name_discrete part_discrete list_discrete both_discrete ℕ_discrete
of_loose_no = refl

applied_no : plain_verdict steps applied 4 1000 ≡ says_no ArgumentType
unfolding answer_to_depth open_at close_at bound head args put_levels put_in_level level_for level_le tree_discrete level_discrete name_discrete part_discrete list_discrete both_discrete ℕ_discrete
applied_no = refl

after_applied_yes : plain_verdict steps applied 5 1000 ≡ says_yes
unfolding answer_to_depth open_at close_at bound head args put_levels put_in_level level_for level_le tree_discrete level_discrete name_discrete part_discrete list_discrete both_discrete ℕ_discrete
after_applied_yes = refl
