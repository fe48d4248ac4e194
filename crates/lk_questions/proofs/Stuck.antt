-- Worked costs and steps with names: recursors that are stuck, the rule that fits, and levels compared.
use Rattle.std.proofs.Common.{ℕ, zero, suc, ◌≡◌, Some, refl, false, [], ◌∷◌, List}
use Rattle.lk_tree.specs.Tree.{Name, Tree, text, number, Level, tree_discrete, level_discrete, name_discrete, part_discrete, zero_level, succ_level, imax_level, param, sort, const, app, pi, proj}
use Rattle.lk_tree.specs.Decide.{list_discrete, both_discrete}
use Rattle.lk_tree.specs.Bind.{open_at, close_at, bound}
use Rattle.lk_tree.specs.Levels.{put_levels, put_in_level, level_for}
use Rattle.lk_tree.specs.LevelTest.{level_le}
use Rattle.lk_tree.specs.declared.rule.Rule.TheVariants.{LevelWidth}
use Rattle.lk_tree.specs.Spine.{head, args}
use Rattle.lk_rulebook.specs.Place.{Entry, Block, BlockType, Ctor, RecRule, a_def, abbreviation}
use Rattle.lk_rulebook.specs.Units.{place_of, LibraryUnit, of_decl, of_block, as_axiom}
use Rattle.lk_questions.specs.Query.{core, infer}
use Rattle.lk_questions.specs.Program.{done, refuse}
use Rattle.lk_questions.specs.Answer.{answered, spent, answer_to_depth, plain_answer}
use Rattle.lk_questions.specs.Iota.{fitting_rule}
use Rattle.lk_questions.specs.Levels.{complete_test, levels_equal}
use Rattle.lk_questions.specs.Unfolding.{Unfolding, same_by_arguments, highest}
use Rattle.lk_questions.specs.Table.{steps}
use native.Mathlib.Decide.{ℕ_discrete}

abbrev W : Name
W = text (1 ∷ []) ∷ []

abbrev mk : Name
mk = text (2 ∷ []) ∷ []

abbrev R : Name
R = text (3 ∷ []) ∷ []

abbrev v : Name
v = text (4 ∷ []) ∷ []

abbrev W_ : Tree
W_ = const W []

-- W has the one constructor mk : W -> W, so it is not structure-like
abbrev the_ctor : Ctor
the_ctor = record { name = mk; levels = []; type = pi W_ W_; parent = W; place = 0; parameters = 0; fields = 1 }

abbrev ind : BlockType
ind = record { name = W; levels = []; type = sort (succ_level zero_level); parameters = 0; indices = 0; ctors = the_ctor ∷ [] }

abbrev block : Block
block = record { types = ind ∷ [] }

abbrev rule : RecRule
rule = record { ctor = mk; fields = 1; value = W_ }

abbrev other_rule : RecRule
other_rule = record { ctor = mk; fields = 2; value = W_ }

abbrev us : List LibraryUnit
us = of_block block (record { name = R; levels = []; type = W_; recursor = (record { parameters = 0; indices = 0; motives = 1; minors = 1; k = false; rules = rule ∷ [] }) } ∷ [])
    ∷ of_decl (record { name = v; levels = []; type = W_; body = as_axiom }) ∷ []

abbrev e : Tree
e = app (app (app (const R []) W_) W_) (const v [])

-- the recursor 1 and Whnf of the axiom 2; nothing is asked of a type that is not structure-like
stuck_cost : plain_answer steps (place_of us 2 []) (core e) 20 ≡ answered e 3 (Some 1)
unfolding answer_to_depth open_at close_at bound head args put_levels tree_discrete level_discrete name_discrete part_discrete list_discrete both_discrete ℕ_discrete
stuck_cost = refl

stuck_spent : plain_answer steps (place_of us 2 []) (core e) 2 ≡ spent
unfolding answer_to_depth open_at close_at bound head args put_levels tree_discrete level_discrete name_discrete part_discrete list_discrete both_discrete ℕ_discrete
stuck_spent = refl

-- of two rules for mk the second fits one argument
second_fits : fitting_rule (other_rule ∷ rule ∷ []) mk 0 1 ≡ Some rule
unfolding name_discrete part_discrete list_discrete both_discrete ℕ_discrete
second_fits = refl

-- a level with n different parameters in right sides of imax
abbrev wide_of : ℕ → Level
wide_of zero = zero_level
wide_of (suc n) = imax_level (wide_of n) (param (number n ∷ []))

wide_refused : levels_equal complete_test (wide_of 21 ∷ []) (zero_level ∷ []) ≡ refuse LevelWidth
unfolding level_le name_discrete part_discrete list_discrete both_discrete ℕ_discrete
wide_refused = refl

lengths_first : levels_equal complete_test (wide_of 21 ∷ []) (zero_level ∷ zero_level ∷ []) ≡ done false
lengths_first = refl

abbrev entry : Entry
entry = record { levels = []; type = W_; kind = a_def abbreviation W_ }

abbrev unfolds_at : Level → Unfolding
unfolds_at l = record { name = v; levels = l ∷ []; entry = entry; value = W_; rank = highest }

-- unfolding compares levels before it counts arguments
levels_first : same_by_arguments (app (const v (wide_of 21 ∷ [])) W_) (const v (zero_level ∷ [])) (unfolds_at (wide_of 21)) (unfolds_at zero_level) ≡ refuse LevelWidth
unfolding level_le name_discrete part_discrete list_discrete both_discrete ℕ_discrete
levels_first = refl

-- a refused block: S has the level parameter R and no parameters, its constructor mk the level parameter v and one
abbrev odd_ctor : Ctor
odd_ctor = record { name = mk; levels = v ∷ []; type = pi (sort (param v)) (const W (param v ∷ [])); parent = W; place = 0; parameters = 1; fields = 1 }

abbrev odd : BlockType
odd = record { name = W; levels = R ∷ []; type = sort (succ_level zero_level); parameters = 0; indices = 0; ctors = odd_ctor ∷ [] }

abbrev odd_block : Block
odd_block = record { types = odd ∷ [] }

abbrev odd_units : List LibraryUnit
odd_units = of_block odd_block []
    ∷ of_decl (record { name = v; levels = []; type = const W (zero_level ∷ []); body = as_axiom }) ∷ []

-- the constructor's own count says where its fields begin
field_after_own_parameters : plain_answer steps (place_of odd_units 2 []) (core (proj W 0 (app (app (const mk (zero_level ∷ [])) W_) (sort zero_level)))) 20 ≡ answered (sort zero_level) 4 (Some 0)
unfolding answer_to_depth open_at close_at bound head args put_levels put_in_level level_for tree_discrete level_discrete name_discrete part_discrete list_discrete both_discrete ℕ_discrete
field_after_own_parameters = refl

-- the constructor's own level parameters are filled
own_levels : plain_answer steps (place_of odd_units 2 []) (infer (proj W 0 (const v []))) 20 ≡ answered (sort zero_level) 9 (Some 1)
unfolding answer_to_depth open_at close_at bound head args put_levels put_in_level level_for tree_discrete level_discrete name_discrete part_discrete list_discrete both_discrete ℕ_discrete
own_levels = refl
