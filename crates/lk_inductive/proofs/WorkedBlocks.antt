-- Whole blocks: their verdicts and costs.
use Rattle.std.proofs.Common.{◌≡◌, refl, true, false, [], ◌∷◌, ◌++◌, Some}
use Rattle.lk_tree.specs.Tree.{Name, text, zero_level, succ_level, param, Tree, tree_discrete, level_discrete, name_discrete, part_discrete, var, sort, const, app, lam, pi, local}
use Rattle.lk_tree.specs.Decide.{list_discrete, both_discrete}
use Rattle.lk_tree.specs.declared.rule.Rule.TheVariants.{BlockShape, NotPositive, RecursorDiffers}
use Rattle.lk_tree.specs.Bind.{open_at, close_at, bound}
use Rattle.lk_tree.specs.LevelTest.{level_le}
use Rattle.lk_tree.specs.Levels.{put_levels, put_in_level, level_for}
use Rattle.lk_tree.specs.Spine.{head, args, apply}
use Rattle.lk_rulebook.specs.Place.{Block}
use Rattle.lk_rulebook.specs.Shapes.{nat, nat_zero, nat_succ, named}
use Rattle.lk_rulebook.specs.Units.{LibraryUnit, of_decl, as_axiom, place_of}
use Rattle.lk_questions.specs.Answer.{answered, refused, spent, answer_to_depth, plain_answer}
use Rattle.lk_questions.specs.Table.{steps}
use native.Mathlib.Decide.{ℕ_discrete}
use Rattle.lk_inductive.specs.Block.{recursive}
use Rattle.lk_inductive.specs.Recursors.{rec_name, BlockRecursor}
use Rattle.lk_inductive.specs.Task.{run_task}
use Rattle.lk_inductive.specs.Whole.{partial_types, partial_members}
use Rattle.lk_inductive.specs.NestedTask.{whole_task}
use Rattle.lk_inductive.proofs.Worked.{plain_ctor, nat_block, nat_shape}

abbrev pub u : Name
u = text (117 ∷ []) ∷ []

abbrev pub C_type : Tree
C_type = pi (named nat) (sort (param u))

abbrev pub z_type : Tree
z_type = app (var 0) (named nat_zero)

abbrev pub s_type : Tree
s_type = pi (named nat) (pi (app (var 2) (var 0)) (app (var 3) (app (named nat_succ) (var 1))))

abbrev pub nat_rec_with : Tree → BlockRecursor
nat_rec_with minor = record {
  name = rec_name nat;
  levels = u ∷ [];
  type = pi C_type (pi z_type (pi minor (pi (named nat) (app (var 3) (var 0)))));
  recursor = record {
    parameters = 0;
    indices = 0;
    motives = 1;
    minors = 2;
    k = false;
    rules = record { ctor = nat_zero; fields = 0; value = lam C_type (lam z_type (lam minor (var 1))) }
        ∷ record {
          ctor = nat_succ;
          fields = 1;
          value = lam C_type (lam z_type (lam minor (lam (named nat) (app (app (var 1) (var 0)) (apply (const (rec_name nat) (param u ∷ [])) (var 3 ∷ var 2 ∷ var 1 ∷ var 0 ∷ []))))));
        }
        ∷ [];
  };
}

nat_yes : run_task (place_of [] 0) (λ w. plain_answer steps w) [] 1000 (whole_task 1001 nat_block (nat_rec_with s_type ∷ []))
    ≡ answered (nat_shape, partial_types nat_block ++ partial_members nat_block (nat_rec_with s_type ∷ [])) 237 (Some 0)
unfolding answer_to_depth open_at close_at bound head args put_levels put_in_level level_for level_le tree_discrete level_discrete name_discrete list_discrete both_discrete part_discrete ℕ_discrete
nat_yes = refl

-- without its hypothesis
nat_no : run_task (place_of [] 0) (λ w. plain_answer steps w) [] 1000 (whole_task 1001 nat_block (nat_rec_with (pi (named nat) (app (var 2) (app (named nat_succ) (var 0)))) ∷ []))
    ≡ refused RecursorDiffers
unfolding answer_to_depth open_at close_at bound head args put_levels put_in_level level_for level_le tree_discrete level_discrete name_discrete list_discrete both_discrete part_discrete ℕ_discrete
nat_no = refl

nat_short : run_task (place_of [] 0) (λ w. plain_answer steps w) [] 236 (whole_task 237 nat_block (nat_rec_with s_type ∷ [])) ≡ spent
unfolding answer_to_depth open_at close_at bound head args put_levels put_in_level level_for level_le tree_discrete level_discrete name_discrete list_discrete both_discrete part_discrete ℕ_discrete
nat_short = refl

-- an axiom N : Sort 1, then T : Sort 1 with mk of this type
abbrev pub n_unit : LibraryUnit
n_unit = of_decl (record { name = u; levels = []; type = sort (succ_level zero_level); body = as_axiom })

abbrev pub t_name : Name
t_name = text (84 ∷ []) ∷ []

abbrev pub mk : Name
mk = text (84 ∷ []) ∷ text (109 ∷ []) ∷ []

abbrev pub t_block : Tree → Block
t_block type = record {
  types = record { name = t_name; levels = []; type = sort (succ_level zero_level); parameters = 0; indices = 0; ctors = plain_ctor mk type t_name 0 1 ∷ [] } ∷ [];
}

-- mk : (N -> T) -> T
abbrev pub of_functions : Block
of_functions = t_block (pi (pi (named u) (named t_name)) (named t_name))

t_yes : run_task (place_of (n_unit ∷ []) 1) (λ w. plain_answer steps w) [] 1000 (whole_task 1001 of_functions [])
    ≡ answered (
      record {
        levels = [];
        params = [];
        sort = succ_level zero_level;
        types = record {
          name = t_name;
          indices = [];
          ctors = record { name = mk; fields = record { variable = local 0 (pi (named u) (named t_name)); kind = recursive (local 1 (named u) ∷ []) t_name [] } ∷ []; indices = [] } ∷ [];
        } ∷ [];
        large = true;
      },
      partial_types of_functions ++ partial_members of_functions [],
    ) 37 (Some 1)
unfolding answer_to_depth open_at close_at bound head args put_levels put_in_level level_for level_le tree_discrete level_discrete name_discrete list_discrete both_discrete part_discrete ℕ_discrete
t_yes = refl

-- mk : ((T -> N) -> T) -> T
t_no : run_task (place_of (n_unit ∷ []) 1) (λ w. plain_answer steps w) [] 1000 (whole_task 1001 (t_block (pi (pi (pi (named t_name) (named u)) (named t_name)) (named t_name))) [])
    ≡ refused NotPositive
unfolding answer_to_depth open_at close_at bound head args put_levels put_in_level level_for level_le tree_discrete level_discrete name_discrete list_discrete both_discrete part_discrete ℕ_discrete
t_no = refl

-- mk states another parent, or another place
t_wrong_parent : run_task (place_of [] 0) (λ w. plain_answer steps w) [] 0 (whole_task 1 (record { types = record { name = t_name; levels = []; type = sort zero_level; parameters = 0; indices = 0; ctors = plain_ctor mk (named t_name) mk 0 0 ∷ [] } ∷ [] }) [])
    ≡ refused BlockShape
unfolding name_discrete list_discrete both_discrete part_discrete ℕ_discrete
t_wrong_parent = refl

t_wrong_place : run_task (place_of [] 0) (λ w. plain_answer steps w) [] 0 (whole_task 1 (record { types = record { name = t_name; levels = []; type = sort zero_level; parameters = 0; indices = 0; ctors = plain_ctor mk (named t_name) t_name 1 0 ∷ [] } ∷ [] }) [])
    ≡ refused BlockShape
unfolding name_discrete list_discrete both_discrete part_discrete ℕ_discrete
t_wrong_place = refl
