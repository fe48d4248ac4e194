-- Costs of whole blocks, as another checker written from the same tables counts them.
use Rattle.std.proofs.Common.{◌≡◌, ℕ, refl, List, [], ◌∷◌, map, Option, None, Some}
use Rattle.lk_tree.specs.Tree.{Name, text, zero_level, succ_level, param, Tree, tree_discrete, level_discrete, name_discrete, part_discrete, var, sort, const, app, lam, pi}
use Rattle.lk_tree.specs.Decide.{list_discrete, both_discrete}
use Rattle.lk_tree.specs.declared.rule.Rule.TheVariants.{UnknownConstant, LevelCount, BlockShape, NotPositive, NestedForm}
use Rattle.lk_tree.specs.Bind.{open_at, close_at, bound}
use Rattle.lk_tree.specs.LevelTest.{level_le}
use Rattle.lk_tree.specs.Levels.{put_levels, put_in_level, level_for}
use Rattle.lk_tree.specs.Spine.{head, args, apply}
use Rattle.lk_rulebook.specs.Place.{Block, BlockType, Ctor, RecRule}
use Rattle.lk_rulebook.specs.Units.{place_of, Members, LibraryUnit, of_block}
use Rattle.lk_questions.specs.Answer.{outcome_of, plain_answer, Outcome, answered, refused, spent, answer_to_depth}
use native.Mathlib.Decide.{ℕ_discrete}
use Rattle.lk_questions.specs.Table.{steps}
use Rattle.lk_inductive.specs.Block.{Shape}
use Rattle.lk_inductive.specs.Recursors.{motive_level, BlockRecursor, recursors_by}
use Rattle.lk_inductive.specs.Nested.{Larger, enlarge}
use Rattle.lk_inductive.specs.Whole.{partial_types}
use Rattle.lk_inductive.specs.NestedTask.{setting_of, restoring_of, plain_whole}

abbrev cost_of : {A : Type 0} → Outcome A → Option ℕ
cost_of (answered v c t) = Some c
cost_of (refused r) = None
cost_of spent = None

abbrev name : ℕ → Name
name i = text (i ∷ []) ∷ []

abbrev part : ℕ → ℕ → Name
part i j = text (i ∷ []) ∷ text (j ∷ []) ∷ []

abbrev type : Tree
type = sort (succ_level zero_level)

abbrev type_1 : Tree
type_1 = sort (succ_level (succ_level zero_level))

abbrev n : Name → Tree
n c = const c []

abbrev ctor : Name → Tree → Name → ℕ → ℕ → ℕ → Ctor
ctor c t T i p k = record { name = c; levels = []; type = t; parent = T; place = i; parameters = p; fields = k }

abbrev one_type : Name → Tree → ℕ → ℕ → List Ctor → BlockType
one_type T t p i cs = record { name = T; levels = []; type = t; parameters = p; indices = i; ctors = cs }

abbrev alone : BlockType → Block
alone t = record { types = t ∷ [] }

abbrev unit : Block → LibraryUnit
unit b = of_block b []

-- L : Type -> Type
abbrev l : Name
l = name 76

abbrev l_block : Block
l_block = alone (one_type l (pi type type) 1 0
    (ctor (part 76 110) (pi type (app (n l) (var 0))) l 0 1 0 ∷ ctor (part 76 99) (pi type (pi (var 0) (pi (app (n l) (var 1)) (app (n l) (var 2))))) l 1 1 2 ∷ []))

l_cost : cost_of (plain_whole steps [] 0 l_block [] 200) ≡ Some 87
unfolding answer_to_depth open_at close_at bound head args put_levels put_in_level level_for level_le tree_discrete level_discrete name_discrete list_discrete both_discrete part_discrete ℕ_discrete
l_cost = refl

abbrev t : Name
t = name 84

-- T : Type -> Type, T.n : (A : Type) -> A -> L (T A) -> T A
abbrev with_domain : Tree → Block
with_domain D = alone (one_type t (pi type type) 1 0 (ctor (part 84 110) (pi D (pi (var 0) (pi (app (n l) (app (n t) (var 1))) (app (n t) (var 2))))) t 0 1 2 ∷ []))

over_parameter : cost_of (plain_whole steps (unit l_block ∷ []) 1 (with_domain type) [] 200) ≡ Some 107
unfolding answer_to_depth open_at close_at bound head args put_levels put_in_level level_for level_le tree_discrete level_discrete name_discrete list_discrete both_discrete part_discrete ℕ_discrete
over_parameter = refl

-- the stated domain of a parameter stays in the larger block
domain_stays : cost_of (plain_whole steps (unit l_block ∷ []) 1 (with_domain (app (lam type_1 (var 0)) type)) [] 200) ≡ Some 129
unfolding answer_to_depth open_at close_at bound head args put_levels put_in_level level_for level_le tree_discrete level_discrete name_discrete list_discrete both_discrete part_discrete ℕ_discrete
domain_stays = refl

-- T : Type with one constructor of these fields
abbrev of_fields : ℕ → Tree → Block
of_fields k e = alone (one_type t type 0 0 (ctor (part 84 110) e t 0 0 k ∷ []))

-- L T -> L T -> T: L T is met again
met_again : cost_of (plain_whole steps (unit l_block ∷ []) 1 (of_fields 2 (pi (app (n l) (n t)) (pi (app (n l) (n t)) (n t)))) [] 200) ≡ Some 64
unfolding answer_to_depth open_at close_at bound head args put_levels put_in_level level_for level_le tree_discrete level_discrete name_discrete list_discrete both_discrete part_discrete ℕ_discrete
met_again = refl

-- L (L T) -> T
nested_twice : cost_of (plain_whole steps (unit l_block ∷ []) 1 (of_fields 1 (pi (app (n l) (app (n l) (n t))) (n t))) [] 200) ≡ Some 69
unfolding answer_to_depth open_at close_at bound head args put_levels put_in_level level_for level_le tree_discrete level_discrete name_discrete list_discrete both_discrete part_discrete ℕ_discrete
nested_twice = refl

-- E and O, one after the other in each other's constructors
abbrev e : Name
e = name 69

abbrev o : Name
o = name 79

abbrev mutual_block : Block
mutual_block = record {
  types = one_type e (pi type type) 1 0 (ctor (part 69 122) (pi type (app (n e) (var 0))) e 0 1 0 ∷ ctor (part 69 115) (pi type (pi (var 0) (pi (app (n o) (var 1)) (app (n e) (var 2))))) e 1 1 2 ∷ [])
      ∷ one_type o (pi type type) 1 0 (ctor (part 79 115) (pi type (pi (var 0) (pi (app (n e) (var 1)) (app (n o) (var 2))))) o 0 1 2 ∷ [])
      ∷ [];
}

mutual_cost : cost_of (plain_whole steps [] 0 mutual_block [] 300) ≡ Some 156
unfolding answer_to_depth open_at close_at bound head args put_levels put_in_level level_for level_le tree_discrete level_discrete name_discrete list_discrete both_discrete part_discrete ℕ_discrete
mutual_cost = refl

-- O T brings E T with it
mutual_nested : cost_of (plain_whole steps (unit mutual_block ∷ []) 1 (of_fields 2 (pi (app (n o) (n t)) (pi (app (n e) (n t)) (n t)))) [] 200) ≡ Some 80
unfolding answer_to_depth open_at close_at bound head args put_levels put_in_level level_for level_le tree_discrete level_discrete name_discrete list_discrete both_discrete part_discrete ℕ_discrete
mutual_nested = refl

-- Box : Type -> Type 1, so its Sort is not that of T
abbrev box : Name
box = name 66

abbrev box_block : Block
box_block = alone (one_type box (pi type type_1) 1 0 (ctor (part 66 109) (pi type (pi (var 0) (app (n box) (var 1)))) box 0 1 1 ∷ []))

other_sort : plain_whole steps (unit box_block ∷ []) 1 (of_fields 1 (pi (app (n box) (n t)) (n t))) [] 200 ≡ refused BlockShape
unfolding answer_to_depth open_at close_at bound head args put_levels put_in_level level_for level_le tree_discrete level_discrete name_discrete list_discrete both_discrete part_discrete ℕ_discrete
other_sort = refl

-- V with an index
abbrev v : Name
v = name 86

abbrev v_block : Block
v_block = alone (one_type v (pi type (pi type type)) 1 1 (ctor (part 86 109) (pi type (apply (n v) (var 0 ∷ var 0 ∷ []))) v 0 1 0 ∷ []))

index_mentions : plain_whole steps (unit v_block ∷ []) 1 (of_fields 1 (pi (apply (n v) (n t ∷ n t ∷ [])) (n t))) [] 200 ≡ refused NotPositive
unfolding answer_to_depth open_at close_at bound head args put_levels put_in_level level_for level_le tree_discrete level_discrete name_discrete list_discrete both_discrete part_discrete ℕ_discrete
index_mentions = refl

abbrev w_block : Block
w_block = alone (one_type v (pi type_1 (pi type type_1)) 1 1 (ctor (part 86 109) (pi type_1 (pi type (apply (n v) (var 1 ∷ var 0 ∷ [])))) v 0 1 1 ∷ []))

w_cost : cost_of (plain_whole steps [] 0 w_block [] 200) ≡ Some 58
unfolding answer_to_depth open_at close_at bound head args put_levels put_in_level level_for level_le tree_discrete level_discrete name_discrete list_discrete both_discrete part_discrete ℕ_discrete
w_cost = refl

-- T : Type 1, T.n : (B : Type) -> V T B -> T
indexed : cost_of (plain_whole steps (unit w_block ∷ []) 1 (alone (one_type t type_1 0 0 (ctor (part 84 110) (pi type (pi (apply (n v) (n t ∷ var 0 ∷ [])) (n t))) t 0 0 2 ∷ []))) [] 200) ≡ Some 60
unfolding answer_to_depth open_at close_at bound head args put_levels put_in_level level_for level_le tree_discrete level_discrete name_discrete list_discrete both_discrete part_discrete ℕ_discrete
indexed = refl

-- The same with the recursors, stated as they are recomputed, with a level parameter of their own.
abbrev u : Name
u = name 117

abbrev rule_at_u : RecRule → RecRule
rule_at_u r = record r { value = put_levels (motive_level ∷ []) (param u ∷ []) r.value }

abbrev rec_at_u : BlockRecursor → BlockRecursor
rec_at_u r = record r { levels = u ∷ []; type = put_levels (motive_level ∷ []) (param u ∷ []) r.type; recursor = record r.recursor { rules = map rule_at_u (r.recursor).rules } }

abbrev recs_by : Block → Shape → Outcome Larger → List BlockRecursor
recs_by b s (answered lg c x) = map rec_at_u (recursors_by (restoring_of b (setting_of b s.params) lg) s)
recs_by b s (refused r) = []
recs_by b s spent = []

abbrev recs_of : List LibraryUnit → ℕ → Block → Outcome (Shape × Members) → List BlockRecursor
recs_of us i b (answered v c x) = recs_by b v.0 (outcome_of (place_of us i (partial_types b)) (plain_answer steps (place_of us i (partial_types b))) 0 (enlarge (setting_of b (v.0).params) b.types))
recs_of us i b (refused r) = []
recs_of us i b spent = []

abbrev cost_with_recs : List LibraryUnit → ℕ → Block → Option ℕ
cost_with_recs us i b = cost_of (plain_whole steps us i b (recs_of us i b (plain_whole steps us i b [] 3000)) 3000)

l_recs : cost_with_recs [] 0 l_block ≡ Some 427
unfolding answer_to_depth open_at close_at bound head args put_levels put_in_level level_for level_le tree_discrete level_discrete name_discrete list_discrete both_discrete part_discrete ℕ_discrete
l_recs = refl

over_parameter_recs : cost_with_recs (unit l_block ∷ []) 1 (with_domain type) ≡ Some 1328
unfolding answer_to_depth open_at close_at bound head args put_levels put_in_level level_for level_le tree_discrete level_discrete name_discrete list_discrete both_discrete part_discrete ℕ_discrete
over_parameter_recs = refl

domain_stays_recs : cost_with_recs (unit l_block ∷ []) 1 (with_domain (app (lam type_1 (var 0)) type)) ≡ Some 1370
unfolding answer_to_depth open_at close_at bound head args put_levels put_in_level level_for level_le tree_discrete level_discrete name_discrete list_discrete both_discrete part_discrete ℕ_discrete
domain_stays_recs = refl

mutual_recs : cost_with_recs [] 0 mutual_block ≡ Some 1112
unfolding answer_to_depth open_at close_at bound head args put_levels put_in_level level_for level_le tree_discrete level_discrete name_discrete list_discrete both_discrete part_discrete ℕ_discrete
mutual_recs = refl

mutual_nested_recs : cost_with_recs (unit mutual_block ∷ []) 1 (of_fields 2 (pi (app (n o) (n t)) (pi (app (n e) (n t)) (n t)))) ≡ Some 2230
unfolding answer_to_depth open_at close_at bound head args put_levels put_in_level level_for level_le tree_discrete level_discrete name_discrete list_discrete both_discrete part_discrete ℕ_discrete
mutual_nested_recs = refl

w_recs : cost_with_recs [] 0 w_block ≡ Some 231
unfolding answer_to_depth open_at close_at bound head args put_levels put_in_level level_for level_le tree_discrete level_discrete name_discrete list_discrete both_discrete part_discrete ℕ_discrete
w_recs = refl

indexed_recs : cost_with_recs (unit w_block ∷ []) 1 (alone (one_type t type_1 0 0 (ctor (part 84 110) (pi type (pi (apply (n v) (n t ∷ var 0 ∷ [])) (n t))) t 0 0 2 ∷ []))) ≡ Some 695
unfolding answer_to_depth open_at close_at bound head args put_levels put_in_level level_for level_le tree_discrete level_discrete name_discrete list_discrete both_discrete part_discrete ℕ_discrete
indexed_recs = refl

-- Refused blocks: which rule comes first.
abbrev f : Name
f = name 70

abbrev two_block : Block
two_block = alone (one_type v (pi type (pi type type)) 2 0 (ctor (part 86 109) (pi type (pi type (apply (n v) (var 1 ∷ var 0 ∷ [])))) v 0 2 0 ∷ []))

-- T.n : Box T -> (i : Type) -> V T i -> T: the walk is over before sorts are compared
form_first : plain_whole steps (unit box_block ∷ unit two_block ∷ []) 2 (of_fields 3 (pi (app (n box) (n t)) (pi type (pi (apply (n v) (n t ∷ var 0 ∷ [])) (n t))))) [] 200 ≡ refused NestedForm
unfolding answer_to_depth open_at close_at bound head args put_levels put_in_level level_for level_le tree_discrete level_discrete name_discrete list_discrete both_discrete part_discrete ℕ_discrete
form_first = refl

-- F with a level parameter, its constructor without one
abbrev f_type : List Name → List Ctor → BlockType
f_type us cs = record { name = f; levels = us; type = pi type type; parameters = 1; indices = 0; ctors = cs }

abbrev counted_block : Block
counted_block = alone (f_type (u ∷ []) (ctor (part 70 122) (pi type (app (const f (zero_level ∷ [])) (var 0))) f 0 1 0 ∷ []))

counted_refused : plain_whole steps [] 0 counted_block [] 200 ≡ refused BlockShape
unfolding answer_to_depth open_at close_at bound head args put_levels put_in_level level_for level_le tree_discrete level_discrete name_discrete list_discrete both_discrete part_discrete ℕ_discrete
counted_refused = refl

other_count : plain_whole steps (unit counted_block ∷ []) 1 (of_fields 1 (pi (app (const f (zero_level ∷ [])) (n t)) (n t))) [] 200 ≡ refused LevelCount
unfolding answer_to_depth open_at close_at bound head args put_levels put_in_level level_for level_le tree_discrete level_discrete name_discrete list_discrete both_discrete part_discrete ℕ_discrete
other_count = refl

-- F whose constructor's type is no Pi
short_ctor : plain_whole steps (unit (alone (f_type [] (ctor (part 70 122) type f 0 1 0 ∷ []))) ∷ []) 1 (of_fields 1 (pi (app (n f) (n t)) (n t))) [] 200 ≡ refused BlockShape
unfolding answer_to_depth open_at close_at bound head args put_levels put_in_level level_for level_le tree_discrete level_discrete name_discrete list_discrete both_discrete part_discrete ℕ_discrete
short_ctor = refl

-- F whose constructor mentions a name that nothing gives, applied to what becomes T
absent_head : plain_whole steps (unit (alone (f_type [] (ctor (part 70 122) (pi type (pi (app (n (name 71)) (var 0)) (app (n f) (var 1)))) f 0 1 1 ∷ []))) ∷ []) 1 (of_fields 1 (pi (app (n f) (n t)) (n t))) [] 200 ≡ refused UnknownConstant
unfolding answer_to_depth open_at close_at bound head args put_levels put_in_level level_for level_le tree_discrete level_discrete name_discrete list_discrete both_discrete part_discrete ℕ_discrete
absent_head = refl

-- in Prop: A T T -> T
abbrev prop : Tree
prop = sort zero_level

abbrev and_block : Block
and_block = alone (one_type v (pi prop (pi prop prop)) 2 0 (ctor (part 86 105) (pi prop (pi prop (pi (var 1) (pi (var 1) (apply (n v) (var 3 ∷ var 2 ∷ [])))))) v 0 2 2 ∷ []))

and_cost : cost_of (plain_whole steps [] 0 and_block [] 200) ≡ Some 80
unfolding answer_to_depth open_at close_at bound head args put_levels put_in_level level_for level_le tree_discrete level_discrete name_discrete list_discrete both_discrete part_discrete ℕ_discrete
and_cost = refl

prop_nested : cost_of (plain_whole steps (unit and_block ∷ []) 1 (alone (one_type t prop 0 0 (ctor (part 84 110) (pi (apply (n v) (n t ∷ n t ∷ [])) (n t)) t 0 0 1 ∷ []))) [] 200) ≡ Some 40
unfolding answer_to_depth open_at close_at bound head args put_levels put_in_level level_for level_le tree_discrete level_discrete name_discrete list_discrete both_discrete part_discrete ℕ_discrete
prop_nested = refl
