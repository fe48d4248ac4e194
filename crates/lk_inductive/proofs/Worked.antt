-- Worked recursors.
use Rattle.std.proofs.Common.{ℕ, ◌≡◌, refl, true, false, [], ◌∷◌, None, Some}
use Rattle.lk_tree.specs.Tree.{Name, zero_level, succ_level, param, Tree, tree_discrete, level_discrete, name_discrete, part_discrete, var, sort, const, app, lam, pi, local}
use Rattle.lk_tree.specs.Decide.{list_discrete, both_discrete}
use Rattle.lk_tree.specs.Bind.{open_at, close_at, bound}
use Rattle.lk_tree.specs.LevelTest.{level_le}
use Rattle.lk_tree.specs.Levels.{put_levels, put_in_level}
use Rattle.lk_tree.specs.Spine.{head, args, apply}
use Rattle.lk_rulebook.specs.Place.{Block, BlockType, Ctor}
use Rattle.lk_rulebook.specs.Shapes.{nat, nat_zero, nat_succ, named}
use Rattle.lk_rulebook.specs.Units.{place_of}
use Rattle.lk_questions.specs.Answer.{answered, answer_to_depth, plain_answer, outcome_of}
use Rattle.lk_questions.specs.Table.{steps}
use native.Mathlib.Decide.{ℕ_discrete}
use Rattle.lk_inductive.specs.Block.{Shape, recursive, type_entries}
use Rattle.lk_inductive.specs.BlockSteps.{types_steps, shape_steps}
use Rattle.lk_inductive.specs.Recursors.{rec_name, motive_level, recursors}

-- a constructor without level parameters and parameters: its name, type, parent, place, fields
abbrev pub plain_ctor : Name → Tree → Name → ℕ → ℕ → Ctor
plain_ctor c type T i n = record { name = c; levels = []; type = type; parent = T; place = i; parameters = 0; fields = n }

abbrev pub nat_type : BlockType
nat_type = record {
  name = nat;
  levels = [];
  type = sort (succ_level zero_level);
  parameters = 0;
  indices = 0;
  ctors = plain_ctor nat_zero (named nat) nat 0 0 ∷ plain_ctor nat_succ (pi (named nat) (named nat)) nat 1 1 ∷ [];
}

abbrev pub nat_block : Block
nat_block = record { types = nat_type ∷ [] }

abbrev pub nat_shape : Shape
nat_shape = record {
  levels = [];
  params = [];
  sort = succ_level zero_level;
  types = record {
    name = nat;
    indices = [];
    ctors = record { name = nat_zero; fields = []; indices = [] }
        ∷ record { name = nat_succ; fields = record { variable = local 0 (named nat); kind = recursive [] nat [] } ∷ []; indices = [] }
        ∷ [];
  } ∷ [];
  large = true;
}

nat_types : outcome_of (place_of [] 0 []) (plain_answer steps (place_of [] 0 [])) 100 (types_steps 0 (nat_type ∷ [])) ≡ answered (record { params = []; sort = succ_level zero_level; indices = [] ∷ [] }) 5 None
unfolding answer_to_depth open_at close_at bound head args level_le tree_discrete level_discrete name_discrete list_discrete both_discrete part_discrete ℕ_discrete
nat_types = refl

nat_shaped : outcome_of (place_of [] 0 (type_entries nat_block (nat_type ∷ []))) (plain_answer steps (place_of [] 0 (type_entries nat_block (nat_type ∷ [])))) 100
    (shape_steps 101 nat_block (record { params = []; sort = succ_level zero_level; indices = [] ∷ [] })) ≡ answered nat_shape 11 (Some 0)
unfolding answer_to_depth open_at close_at bound head args put_levels put_in_level level_le tree_discrete level_discrete name_discrete list_discrete both_discrete part_discrete ℕ_discrete
nat_shaped = refl

abbrev u : Name
u = motive_level

abbrev C_type : Tree
C_type = pi (named nat) (sort (param u))

abbrev z_type : Tree
z_type = app (var 0) (named nat_zero)

abbrev s_type : Tree
s_type = pi (named nat) (pi (app (var 2) (var 0)) (app (var 3) (app (named nat_succ) (var 1))))

nat_rec : recursors nat_shape ≡ record {
  name = rec_name nat;
  levels = u ∷ [];
  type = pi C_type (pi z_type (pi s_type (pi (named nat) (app (var 3) (var 0)))));
  recursor = record {
    parameters = 0;
    indices = 0;
    motives = 1;
    minors = 2;
    k = false;
    rules = record { ctor = nat_zero; fields = 0; value = lam C_type (lam z_type (lam s_type (var 1))) }
        ∷ record {
          ctor = nat_succ;
          fields = 1;
          value = lam C_type (lam z_type (lam s_type (lam (named nat) (app (app (var 1) (var 0)) (apply (const (rec_name nat) (param u ∷ [])) (var 3 ∷ var 2 ∷ var 1 ∷ var 0 ∷ []))))));
        }
        ∷ [];
  };
} ∷ []
unfolding open_at close_at bound name_discrete list_discrete both_discrete part_discrete ℕ_discrete
nat_rec = refl
