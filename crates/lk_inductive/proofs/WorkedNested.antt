-- A worked nested block: Tree with node : List Tree -> Tree.
use Rattle.std.proofs.Common.{◌≡◌, ℕ, ◌+◌, refl, true, false, List, [], ◌∷◌, ◌++◌, Some, map}
use Rattle.lk_tree.specs.Tree.{Name, Part, text, Level, zero_level, succ_level, param, Tree, tree_discrete, level_discrete, name_discrete, part_discrete, var, sort, const, app, lam, pi, local}
use Rattle.lk_tree.specs.Decide.{list_discrete, both_discrete}
use Rattle.lk_tree.specs.Bind.{open_at, close_at, bound}
use Rattle.lk_tree.specs.LevelTest.{level_le}
use Rattle.lk_tree.specs.Levels.{put_levels, put_in_level, level_for}
use Rattle.lk_tree.specs.Spine.{head, args, apply}
use Rattle.lk_rulebook.specs.Place.{Block, BlockType, RecRule}
use Rattle.lk_rulebook.specs.Units.{LibraryUnit, of_block, place_of}
use Rattle.lk_questions.specs.Answer.{answered, refused, answer_to_depth, plain_answer, outcome_of}
use Rattle.lk_tree.specs.declared.rule.Rule.TheVariants.{NestedForm}
use Rattle.lk_questions.specs.Table.{steps}
use native.Mathlib.Decide.{ℕ_discrete}
use Rattle.lk_inductive.specs.Block.{Shape, recursive}
use Rattle.lk_inductive.specs.BlockSteps.{shape_steps}
use Rattle.lk_inductive.specs.Recursors.{rec_name, motive_level, BlockRecursor, recursors_by}
use Rattle.lk_inductive.specs.Nested.{Aux, Setting, Larger, larger_block, aux_name, aux_ctor, enlarge, bare_entries}
use Rattle.lk_inductive.specs.Restore.{rec_numbered, all_stand, restore, restoring}
use Rattle.lk_inductive.specs.Whole.{partial_types, partial_members}
use Rattle.lk_inductive.specs.NestedTask.{whole_task}
use Rattle.lk_inductive.specs.Task.{run_task}
use Rattle.lk_inductive.proofs.Worked.{plain_ctor}
use Rattle.lk_inductive.proofs.WorkedBlocks.{u}

abbrev pub type : Tree
type = sort (succ_level zero_level)

abbrev pub n : Name → Tree
n c = const c []

abbrev pub list : Name
list = text (76 ∷ []) ∷ []

abbrev pub nil : Name
nil = text (76 ∷ []) ∷ text (110 ∷ []) ∷ []

abbrev pub cons : Name
cons = text (76 ∷ []) ∷ text (99 ∷ []) ∷ []

-- List : Type -> Type
abbrev pub list_type : BlockType
list_type = record {
  name = list;
  levels = [];
  type = pi type type;
  parameters = 1;
  indices = 0;
  ctors = record { name = nil; levels = []; type = pi type (app (n list) (var 0)); parent = list; place = 0; parameters = 1; fields = 0 }
      ∷ record { name = cons; levels = []; type = pi type (pi (var 0) (pi (app (n list) (var 1)) (app (n list) (var 2)))); parent = list; place = 1; parameters = 1; fields = 2 }
      ∷ [];
}

abbrev pub list_block : Block
list_block = record { types = list_type ∷ [] }

abbrev pub tree : Name
tree = text (84 ∷ []) ∷ []

abbrev pub node : Name
node = text (84 ∷ []) ∷ text (110 ∷ []) ∷ []

abbrev pub tree_type : BlockType
tree_type = record { name = tree; levels = []; type = type; parameters = 0; indices = 0; ctors = plain_ctor node (pi (app (n list) (n tree)) (n tree)) tree 0 1 ∷ [] }

abbrev pub tree_block : Block
tree_block = record { types = tree_type ∷ [] }

abbrev pub setting : Setting
setting = record { names = tree ∷ []; levels = []; params = [] }

abbrev pub aux : Aux
aux = record {
  name = list;
  own = list_type;
  levels = [];
  args = n tree ∷ [];
  type = type;
  indices = [];
  sort = succ_level zero_level;
  ctors = app (n list) (n tree) ∷ pi (n tree) (pi (app (n list) (n tree)) (app (n list) (n tree))) ∷ [];
}

abbrev pub a0 : Name
a0 = aux_name 0

abbrev pub larger : Larger
larger = record {
  own = record { name = tree; levels = []; type = type; parameters = 0; indices = 0; ctors = plain_ctor node (pi (n a0) (n tree)) tree 0 1 ∷ [] } ∷ [];
  aux = record {
    name = a0;
    levels = [];
    type = type;
    parameters = 0;
    indices = 0;
    ctors = plain_ctor (aux_ctor 0 nil) (n a0) a0 0 0 ∷ plain_ctor (aux_ctor 0 cons) (pi (n tree) (pi (n a0) (n a0))) a0 1 2 ∷ [];
  } ∷ [];
  auxs = aux ∷ [];
}

abbrev pub list_unit : LibraryUnit
list_unit = of_block list_block []

-- after List; nothing is asked
enlarged : outcome_of (place_of (list_unit ∷ []) 1 (partial_types tree_block)) (plain_answer steps (place_of (list_unit ∷ []) 1 (partial_types tree_block))) 0 (enlarge setting tree_block.types) ≡ answered larger 0 (Some 0)
unfolding open_at close_at bound head args put_levels put_in_level level_for tree_discrete level_discrete name_discrete list_discrete both_discrete part_discrete ℕ_discrete
enlarged = refl

abbrev pub shape : Shape
shape = record {
  levels = [];
  params = [];
  sort = succ_level zero_level;
  types = record {
    name = tree;
    indices = [];
    ctors = record { name = node; fields = record { variable = local 0 (n a0); kind = recursive [] a0 [] } ∷ []; indices = [] } ∷ [];
  } ∷ record {
    name = a0;
    indices = [];
    ctors = record { name = aux_ctor 0 nil; fields = []; indices = [] }
        ∷ record {
          name = aux_ctor 0 cons;
          fields = record { variable = local 0 (n tree); kind = recursive [] tree [] } ∷ record { variable = local 1 (n a0); kind = recursive [] a0 [] } ∷ [];
          indices = [];
        }
        ∷ [];
  } ∷ [];
  large = true;
}

shaped : outcome_of (place_of [] 0 (partial_types (larger_block larger))) (plain_answer steps (place_of [] 0 (partial_types (larger_block larger)))) 100
    (shape_steps 101 (larger_block larger) (record { params = []; sort = succ_level zero_level; indices = [] ∷ [] ∷ [] })) ≡ answered shape 27 (Some 0)
unfolding answer_to_depth open_at close_at bound head args put_levels put_in_level level_le tree_discrete level_discrete name_discrete list_discrete both_discrete part_discrete ℕ_discrete
shaped = refl

abbrev pub rec_i : ℕ → Name
rec_i i = tree ++ (Part.text (114 ∷ 101 ∷ 99 ∷ 95 ∷ (48 + i) ∷ []) ∷ [])

twelfth : rec_numbered tree 120 ≡ tree ++ (Part.text (114 ∷ 101 ∷ 99 ∷ 95 ∷ 49 ∷ 50 ∷ 48 ∷ []) ∷ [])
twelfth = refl

abbrev pub v : Level
v = param motive_level

abbrev pub list_tree : Tree
list_tree = app (n list) (n tree)

-- (ts : List Tree) -> D ts -> C (node ts), under C, D
abbrev pub node_minor : Tree
node_minor = pi list_tree (pi (app (var 1) (var 0)) (app (var 3) (app (n node) (var 1))))

abbrev pub nil_minor : Tree
nil_minor = app (var 1) (app (n nil) (n tree))

-- (t : Tree) -> (ts : List Tree) -> C t -> D ts -> D (cons Tree t ts), under C, D and two minors
abbrev pub cons_minor : Tree
cons_minor = pi (n tree) (pi list_tree (pi (app (var 5) (var 1)) (pi (app (var 5) (var 1)) (app (var 6) (apply (n cons) (n tree ∷ var 3 ∷ var 2 ∷ []))))))

abbrev pub over_front : (Tree → Tree → Tree) → Tree → Tree
over_front bind e = bind (pi (n tree) (sort v)) (bind (pi list_tree (sort v)) (bind node_minor (bind nil_minor (bind cons_minor e))))

nested_recs : recursors_by (restoring (all_stand tree 0 (aux ∷ [])) setting) shape ≡ record {
  name = rec_name tree;
  levels = motive_level ∷ [];
  type = over_front pi (pi (n tree) (app (var 5) (var 0)));
  recursor = record {
    parameters = 0;
    indices = 0;
    motives = 2;
    minors = 3;
    k = false;
    rules = record {
      ctor = node;
      fields = 1;
      value = over_front lam (lam list_tree (apply (var 3) (var 0 ∷ apply (const (rec_i 1) (v ∷ [])) (var 5 ∷ var 4 ∷ var 3 ∷ var 2 ∷ var 1 ∷ var 0 ∷ []) ∷ [])));
    } ∷ [];
  };
} ∷ record {
  name = rec_i 1;
  levels = motive_level ∷ [];
  type = over_front pi (pi list_tree (app (var 4) (var 0)));
  recursor = record {
    parameters = 0;
    indices = 0;
    motives = 2;
    minors = 3;
    k = false;
    rules = record { ctor = nil; fields = 0; value = over_front lam (var 1) }
        ∷ record {
          ctor = cons;
          fields = 2;
          value = over_front lam (lam (n tree) (lam list_tree (apply (var 2) (var 1 ∷ var 0
              ∷ apply (const (rec_name tree) (v ∷ [])) (var 6 ∷ var 5 ∷ var 4 ∷ var 3 ∷ var 2 ∷ var 1 ∷ [])
              ∷ apply (const (rec_i 1) (v ∷ [])) (var 6 ∷ var 5 ∷ var 4 ∷ var 3 ∷ var 2 ∷ var 0 ∷ [])
              ∷ []))));
        }
        ∷ [];
  };
} ∷ []
unfolding close_at bound tree_discrete name_discrete list_discrete both_discrete part_discrete ℕ_discrete
nested_recs = refl

-- the auxiliary type is put back at the block's own levels alone
own_levels : restore (all_stand tree 0 (aux ∷ [])) setting (n a0) [] ≡ app (n list) (n tree)
unfolding tree_discrete name_discrete list_discrete both_discrete part_discrete ℕ_discrete
own_levels = refl

other_levels : restore (all_stand tree 0 (aux ∷ [])) setting (const a0 (zero_level ∷ [])) [] ≡ const a0 (zero_level ∷ [])
unfolding tree_discrete level_discrete name_discrete list_discrete both_discrete part_discrete ℕ_discrete
other_levels = refl

-- Vec with the parameters (A : Type) (i : Type), in place of a number; Bad.mk : (i : Type) -> Vec Bad i -> Bad
abbrev pub vec_type : BlockType
vec_type = record { name = list; levels = []; type = pi type (pi type type); parameters = 2; indices = 0; ctors = [] }

abbrev pub vec_unit : LibraryUnit
vec_unit = of_block (record { types = vec_type ∷ [] }) []

abbrev pub bad_types : List BlockType
bad_types = record { name = tree; levels = []; type = type; parameters = 0; indices = 0; ctors = plain_ctor node (pi type (pi (apply (n list) (n tree ∷ var 0 ∷ [])) (n tree))) tree 0 2 ∷ [] } ∷ []

bad_form : outcome_of (place_of (vec_unit ∷ []) 1 []) (plain_answer steps (place_of (vec_unit ∷ []) 1 [])) 0 (enlarge setting bad_types) ≡ refused NestedForm
unfolding open_at close_at bound head args put_levels put_in_level level_for tree_discrete level_discrete name_discrete list_discrete both_discrete part_discrete ℕ_discrete
bad_form = refl

-- the whole check of Tree, after List
abbrev pub rule_at_u : RecRule → RecRule
rule_at_u r = record r { value = put_levels (motive_level ∷ []) (param u ∷ []) r.value }

abbrev pub rec_at_u : BlockRecursor → BlockRecursor
rec_at_u r = record r { levels = u ∷ []; type = put_levels (motive_level ∷ []) (param u ∷ []) r.type; recursor = record r.recursor { rules = map rule_at_u (r.recursor).rules } }

abbrev pub tree_recs : List BlockRecursor
tree_recs = map rec_at_u (recursors_by (restoring (all_stand tree 0 (aux ∷ [])) setting) shape)

tree_yes : run_task (place_of (list_unit ∷ []) 1) (λ w. plain_answer steps w) [] 2000 (whole_task 2001 tree_block tree_recs)
    ≡ answered (shape, partial_types tree_block ++ (bare_entries larger.aux ++ partial_members tree_block tree_recs)) 939 (Some 1)
unfolding answer_to_depth open_at close_at bound head args put_levels put_in_level level_for level_le tree_discrete level_discrete name_discrete list_discrete both_discrete part_discrete ℕ_discrete
tree_yes = refl
