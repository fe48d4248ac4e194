-- Worked steps and costs of definitions, opaques, Lets and unfolding. The costs are counted by hand from what each row asks.
use Rattle.std.proofs.Common.{◌≡◌, List, [], ◌∷◌, ◌++◌, Some, None, true, false, refl}
use Rattle.lk_tree.specs.Tree.{Name, tree_discrete, level_discrete, name_discrete, part_discrete, zero_level, succ_level, param, Level, Tree, var, sort, const, app, lam, pi, let_in}
use Rattle.lk_tree.specs.Decide.{list_discrete, both_discrete}
use Rattle.lk_tree.specs.Bind.{open_at, close_at, bound}
use Rattle.lk_tree.specs.Levels.{put_levels, put_in_level, level_for}
use Rattle.lk_tree.specs.LevelTest.{level_le}
use Rattle.lk_tree.specs.Spine.{head, args}
use Rattle.lk_tree.specs.declared.rule.Rule.TheVariants.{LevelCount, LetType, NotASort, ValueType}
use Rattle.lk_rulebook.specs.Place.{Place, opaque_hint, abbreviation, regular}
use Rattle.lk_rulebook.specs.Names.{word, dotted, named}
use Rattle.lk_rulebook.specs.Quotients.{prop}
use Rattle.lk_rulebook.specs.Units.{place_of, Body, LibraryUnit, of_decl, as_def, as_opaque}
use Rattle.lk_questions.specs.Query.{core, whnf, infer, same}
use Rattle.lk_questions.specs.Answer.{answered, refused, spent, answer_to_depth, outcome_of, plain_answer}
use Rattle.lk_questions.specs.Declarations.{checked, unit_steps}
use Rattle.lk_questions.specs.Table.{steps}
use Rattle.lk_questions.proofs.WorkedConstants.{A, a, b, f, q, t, units}
use native.Mathlib.Decide.{ℕ_discrete}

abbrev unit : Name → List Name → Tree → Body → LibraryUnit
unit c ps type body = of_decl (record { name = c; levels = ps; type = type; body = body })

-- the def A := a of height 1
abbrev d : Tree
d = named (word "d")

abbrev o : Tree
o = named (word "o")

abbrev e : Tree
e = named (word "e")

-- g.{l}
abbrev g : Level → Tree
g l = const (word "g") (l ∷ [])

abbrev h : Tree
h = named (word "h")

abbrev z : Tree
z = named (word "z")

abbrev k : Tree
k = named (word "k")

abbrev x : Tree
x = named (word "x")

abbrev addition : Tree
addition = named (dotted "Nat" "add")

-- an opaque; defs of other ranks; Sort u at u; a function that forgets its argument; a def of an operation's name; and g of
-- another name
abbrev more : List LibraryUnit
more = unit (word "o") [] A (as_opaque a)
    ∷ unit (word "e") [] A (as_def (regular 2) d)
    ∷ unit (word "g") (word "u" ∷ []) (sort (succ_level (param (word "u")))) (as_def abbreviation (sort (param (word "u"))))
    ∷ unit (word "h") [] (pi A A) (as_def (regular 1) (lam A d))
    ∷ unit (word "z") [] A (as_def opaque_hint a)
    ∷ unit (dotted "Nat" "add") [] (pi A (pi A A)) (as_def (regular 0) (lam A (lam A (var 1))))
    ∷ unit (word "k") [] (pi A A) (as_def (regular 1) (lam A (var 0)))
    ∷ unit (word "x") [] A (as_def (regular 10) d)
    ∷ []

abbrev place : Place
place = place_of (units ++ more) 19 []

-- types and values of constants

of_a_def : plain_answer steps place (infer d) 1 ≡ answered A 1 (Some 9)
unfolding answer_to_depth open_at close_at bound head args put_levels put_in_level level_for level_le tree_discrete level_discrete name_discrete part_discrete list_discrete both_discrete ℕ_discrete
of_a_def = refl

of_an_opaque : plain_answer steps place (infer o) 1 ≡ answered A 1 (Some 11)
unfolding answer_to_depth open_at close_at bound head args put_levels put_in_level level_for level_le tree_discrete level_discrete name_discrete part_discrete list_discrete both_discrete ℕ_discrete
of_an_opaque = refl

def_unfolded : plain_answer steps place (whnf d) 4 ≡ answered a 4 (Some 9)
unfolding answer_to_depth open_at close_at bound head args put_levels put_in_level level_for level_le tree_discrete level_discrete name_discrete part_discrete list_discrete both_discrete ℕ_discrete
def_unfolded = refl

def_unfolded_short : plain_answer steps place (whnf d) 3 ≡ spent
unfolding answer_to_depth open_at close_at bound head args put_levels put_in_level level_for level_le tree_discrete level_discrete name_discrete part_discrete list_discrete both_discrete ℕ_discrete
def_unfolded_short = refl

def_unfolded_twice : plain_answer steps place (whnf e) 6 ≡ answered a 6 (Some 12)
unfolding answer_to_depth open_at close_at bound head args put_levels put_in_level level_for level_le tree_discrete level_discrete name_discrete part_discrete list_discrete both_discrete ℕ_discrete
def_unfolded_twice = refl

opaque_stays : plain_answer steps place (whnf o) 2 ≡ answered o 2 (Some 11)
unfolding answer_to_depth open_at close_at bound head args put_levels put_in_level level_for level_le tree_discrete level_discrete name_discrete part_discrete list_discrete both_discrete ℕ_discrete
opaque_stays = refl

value_at_levels : plain_answer steps place (whnf (g (succ_level zero_level))) 4 ≡ answered (sort (succ_level zero_level)) 4 (Some 13)
unfolding answer_to_depth open_at close_at bound head args put_levels put_in_level level_for level_le tree_discrete level_discrete name_discrete part_discrete list_discrete both_discrete ℕ_discrete
value_at_levels = refl

value_at_no_levels : plain_answer steps place (whnf (const (word "g") [])) 100 ≡ refused LevelCount
unfolding answer_to_depth open_at close_at bound head args put_levels put_in_level level_for level_le tree_discrete level_discrete name_discrete part_discrete list_discrete both_discrete ℕ_discrete
value_at_no_levels = refl

type_at_no_levels : plain_answer steps place (infer (const (word "g") [])) 100 ≡ refused LevelCount
unfolding answer_to_depth open_at close_at bound head args put_levels put_in_level level_for level_le tree_discrete level_discrete name_discrete part_discrete list_discrete both_discrete ℕ_discrete
type_at_no_levels = refl

def_applied : plain_answer steps place (whnf (app h b)) 7 ≡ answered a 7 (Some 14)
unfolding answer_to_depth open_at close_at bound head args put_levels put_in_level level_for level_le tree_discrete level_discrete name_discrete part_discrete list_discrete both_discrete ℕ_discrete
def_applied = refl

opaque_applied : plain_answer steps place (core (app o b)) 1 ≡ answered (app o b) 1 (Some 11)
unfolding answer_to_depth open_at close_at bound head args put_levels put_in_level level_for level_le tree_discrete level_discrete name_discrete part_discrete list_discrete both_discrete ℕ_discrete
opaque_applied = refl

-- an operation on numbers whose arguments are none is unfolded

operation_unfolded : plain_answer steps place (whnf (app (app addition a) a)) 7 ≡ answered a 7 (Some 16)
unfolding answer_to_depth open_at close_at bound head args put_levels put_in_level level_for level_le tree_discrete level_discrete name_discrete part_discrete list_discrete both_discrete ℕ_discrete
operation_unfolded = refl

-- Lets

let_opened : plain_answer steps place (core (let_in A a (app f (var 0)))) 2 ≡ answered (app f a) 2 (Some 5)
unfolding answer_to_depth open_at close_at bound head args put_levels put_in_level level_for level_le tree_discrete level_discrete name_discrete part_discrete list_discrete both_discrete ℕ_discrete
let_opened = refl

let_applied : plain_answer steps place (core (app (let_in (pi A A) f (var 0)) a)) 4 ≡ answered (app f a) 4 (Some 5)
unfolding answer_to_depth open_at close_at bound head args put_levels put_in_level level_for level_le tree_discrete level_discrete name_discrete part_discrete list_discrete both_discrete ℕ_discrete
let_applied = refl

let_typed : plain_answer steps place (infer (let_in A a (app f (var 0)))) 12 ≡ answered A 12 (Some 5)
unfolding answer_to_depth open_at close_at bound head args put_levels put_in_level level_for level_le tree_discrete level_discrete name_discrete part_discrete list_discrete both_discrete ℕ_discrete
let_typed = refl

let_typed_short : plain_answer steps place (infer (let_in A a (app f (var 0)))) 11 ≡ spent
unfolding answer_to_depth open_at close_at bound head args put_levels put_in_level level_for level_le tree_discrete level_discrete name_discrete part_discrete list_discrete both_discrete ℕ_discrete
let_typed_short = refl

let_of_another_type : plain_answer steps place (infer (let_in A b (var 0))) 100 ≡ refused LetType
unfolding answer_to_depth open_at close_at bound head args put_levels put_in_level level_for level_le tree_discrete level_discrete name_discrete part_discrete list_discrete both_discrete ℕ_discrete
let_of_another_type = refl

let_of_no_type : plain_answer steps place (infer (let_in a a (var 0))) 100 ≡ refused NotASort
unfolding answer_to_depth open_at close_at bound head args put_levels put_in_level level_for level_le tree_discrete level_discrete name_discrete part_discrete list_discrete both_discrete ℕ_discrete
let_of_no_type = refl

-- unfolding, where no two proofs are compared: the greater rank first

left_unfolds : plain_answer steps place (same d a) 8 ≡ answered true 8 (Some 9)
unfolding answer_to_depth open_at close_at bound head args put_levels put_in_level level_for level_le tree_discrete level_discrete name_discrete part_discrete list_discrete both_discrete ℕ_discrete
left_unfolds = refl

right_unfolds : plain_answer steps place (same a d) 8 ≡ answered true 8 (Some 9)
unfolding answer_to_depth open_at close_at bound head args put_levels put_in_level level_for level_le tree_discrete level_discrete name_discrete part_discrete list_discrete both_discrete ℕ_discrete
right_unfolds = refl

greater_unfolds_left : plain_answer steps place (same e d) 8 ≡ answered true 8 (Some 12)
unfolding answer_to_depth open_at close_at bound head args put_levels put_in_level level_for level_le tree_discrete level_discrete name_discrete part_discrete list_discrete both_discrete ℕ_discrete
greater_unfolds_left = refl

greater_unfolds_right : plain_answer steps place (same d e) 8 ≡ answered true 8 (Some 12)
unfolding answer_to_depth open_at close_at bound head args put_levels put_in_level level_for level_le tree_discrete level_discrete name_discrete part_discrete list_discrete both_discrete ℕ_discrete
greater_unfolds_right = refl

heights_by_number : plain_answer steps place (same x e) 15 ≡ answered true 15 (Some 18)
unfolding answer_to_depth open_at close_at bound head args put_levels put_in_level level_for level_le tree_discrete level_discrete name_discrete part_discrete list_discrete both_discrete ℕ_discrete
heights_by_number = refl

opaque_hint_last : plain_answer steps place (same z d) 15 ≡ answered true 15 (Some 15)
unfolding answer_to_depth open_at close_at bound head args put_levels put_in_level level_for level_le tree_discrete level_discrete name_discrete part_discrete list_discrete both_discrete ℕ_discrete
opaque_hint_last = refl

theorem_unfolds : plain_answer steps place (same (app t q) b) 48 ≡ answered false 48 (Some 8)
unfolding answer_to_depth open_at close_at bound head args put_levels put_in_level level_for level_le tree_discrete level_discrete name_discrete part_discrete list_discrete both_discrete ℕ_discrete
theorem_unfolds = refl

abbreviation_first : plain_answer steps place (same (g zero_level) d) 24 ≡ answered false 24 (Some 13)
unfolding answer_to_depth open_at close_at bound head args put_levels put_in_level level_for level_le tree_discrete level_discrete name_discrete part_discrete list_discrete both_discrete ℕ_discrete
abbreviation_first = refl

-- equal ranks: the arguments first, and both unfold where they say no

same_arguments : plain_answer steps place (same (app h a) (app h d)) 20 ≡ answered true 20 (Some 14)
unfolding answer_to_depth open_at close_at bound head args put_levels put_in_level level_for level_le tree_discrete level_discrete name_discrete part_discrete list_discrete both_discrete ℕ_discrete
same_arguments = refl

other_arguments : plain_answer steps place (same (app h a) (app h b)) 28 ≡ answered true 28 (Some 14)
unfolding answer_to_depth open_at close_at bound head args put_levels put_in_level level_for level_le tree_discrete level_discrete name_discrete part_discrete list_discrete both_discrete ℕ_discrete
other_arguments = refl

other_heads_of_one_rank : plain_answer steps place (same (app h a) (app k a)) 25 ≡ answered true 25 (Some 17)
unfolding answer_to_depth open_at close_at bound head args put_levels put_in_level level_for level_le tree_discrete level_discrete name_discrete part_discrete list_discrete both_discrete ℕ_discrete
other_heads_of_one_rank = refl

other_levels : plain_answer steps place (same (g zero_level) (g (succ_level zero_level))) 8 ≡ answered false 8 (Some 13)
unfolding answer_to_depth open_at close_at bound head args put_levels put_in_level level_for level_le tree_discrete level_discrete name_discrete part_discrete list_discrete both_discrete ℕ_discrete
other_levels = refl

opaque_never_unfolds : plain_answer steps place (same o a) 10 ≡ answered false 10 (Some 11)
unfolding answer_to_depth open_at close_at bound head args put_levels put_in_level level_for level_le tree_discrete level_discrete name_discrete part_discrete list_discrete both_discrete ℕ_discrete
opaque_never_unfolds = refl

opaque_and_def : plain_answer steps place (same o d) 17 ≡ answered false 17 (Some 11)
unfolding answer_to_depth open_at close_at bound head args put_levels put_in_level level_for level_le tree_discrete level_discrete name_discrete part_discrete list_discrete both_discrete ℕ_discrete
opaque_and_def = refl

-- def c : Type := let (y : Type := Prop); Prop costs 3 + 7 + 1

def_of_a_let : outcome_of place (plain_answer steps place) 11 (unit_steps (record { name = word "c"; levels = []; type = sort (succ_level zero_level); body = as_def opaque_hint (let_in (sort (succ_level zero_level)) prop prop) })) ≡ answered checked 11 None
unfolding answer_to_depth open_at close_at bound head args put_levels put_in_level level_for level_le tree_discrete level_discrete name_discrete part_discrete list_discrete both_discrete ℕ_discrete
def_of_a_let = refl

def_of_a_let_short : outcome_of place (plain_answer steps place) 10 (unit_steps (record { name = word "c"; levels = []; type = sort (succ_level zero_level); body = as_def opaque_hint (let_in (sort (succ_level zero_level)) prop prop) })) ≡ spent
unfolding answer_to_depth open_at close_at bound head args put_levels put_in_level level_for level_le tree_discrete level_discrete name_discrete part_discrete list_discrete both_discrete ℕ_discrete
def_of_a_let_short = refl

def_of_a_wrong_let : outcome_of place (plain_answer steps place) 100 (unit_steps (record { name = word "c"; levels = []; type = sort (succ_level zero_level); body = as_def opaque_hint (let_in prop prop prop) })) ≡ refused LetType
unfolding answer_to_depth open_at close_at bound head args put_levels put_in_level level_for level_le tree_discrete level_discrete name_discrete part_discrete list_discrete both_discrete ℕ_discrete
def_of_a_wrong_let = refl

opaque_checked : outcome_of place (plain_answer steps place) 11 (unit_steps (record { name = word "c"; levels = []; type = sort (succ_level zero_level); body = as_opaque (let_in (sort (succ_level zero_level)) prop prop) })) ≡ answered checked 11 None
unfolding answer_to_depth open_at close_at bound head args put_levels put_in_level level_for level_le tree_discrete level_discrete name_discrete part_discrete list_discrete both_discrete ℕ_discrete
opaque_checked = refl

def_of_another_type : outcome_of place (plain_answer steps place) 100 (unit_steps (record { name = word "c"; levels = []; type = prop; body = as_def abbreviation prop })) ≡ refused ValueType
unfolding answer_to_depth open_at close_at bound head args put_levels put_in_level level_for level_le tree_discrete level_discrete name_discrete part_discrete list_discrete both_discrete ℕ_discrete
def_of_another_type = refl

opaque_of_another_type : outcome_of place (plain_answer steps place) 100 (unit_steps (record { name = word "c"; levels = []; type = prop; body = as_opaque prop })) ≡ refused ValueType
unfolding answer_to_depth open_at close_at bound head args put_levels put_in_level level_for level_le tree_discrete level_discrete name_discrete part_discrete list_discrete both_discrete ℕ_discrete
opaque_of_another_type = refl
