-- Trees of the larger block read back: J ls b1 .. bq, or its constructor, for what stands for it, where that is at the block's own
-- levels and is applied to P0 .. first.
use Rattle.std.specs.Prelude.{ℕ, zero, suc, ◌+◌, ◌/◌, ◌%◌, nat_lt, List, [], ◌∷◌, ◌++◌, map, Option, Some, None, if◌then◌else◌}
use Rattle.lk_tree.specs.Tree.{Name, Part, Level, param, Tree, const, app, lam, pi, let_in, proj}
use Rattle.lk_tree.specs.Spine.{apply}
use Rattle.lk_rulebook.specs.Place.{Block, BlockType, Ctor}
use Rattle.lk_tree.specs.Mentions.{same_name}
use Rattle.lk_rulebook.specs.SameTree.{is_same_tree}
use Rattle.lk_inductive.specs.Arguments.{after_params}
use Rattle.lk_inductive.specs.Recursors.{rec_name, Restoring}
use Rattle.lk_inductive.specs.Enlarged.{Aux, Setting, Larger, aux_name, aux_ctor}

-- what stands for a constant of the larger block: J or its constructor, at ls and b1 ..; or a recursor by its name alone
pub data Original : Type 0 where
  applied_to : Name → List Level → List Tree → Original
  renamed_as : Name → Original

abbrev pub ctors_stand : ℕ → Aux → List Ctor → List (Name × Original)
ctors_stand i a [] = []
ctors_stand i a (c ∷ cs) = (aux_ctor i c.name, applied_to c.name a.levels a.args) ∷ ctors_stand i a cs

-- decimal digits, before others
abbrev pub digits : ℕ → ℕ → List ℕ → List ℕ
digits zero n rest = rest
digits (suc fuel) n rest = if nat_lt n 10 then (48 + n) ∷ rest else digits fuel (n / 10) ((48 + n % 10) ∷ rest)

-- Tree.rec_1, Tree.rec_2, .. where the first family is Tree
abbrev pub rec_numbered : Name → ℕ → Name
rec_numbered T i = T ++ (Part.text (114 ∷ 101 ∷ 99 ∷ 95 ∷ digits (suc i) i []) ∷ [])

abbrev pub first_name : List BlockType → Name
first_name [] = []
first_name (t ∷ ts) = t.name

abbrev pub all_stand : Name → ℕ → List Aux → List (Name × Original)
all_stand T i [] = []
all_stand T i (a ∷ as_) =
    (aux_name i, applied_to a.name a.levels a.args) ∷ (rec_name (aux_name i), renamed_as (rec_numbered T (suc i))) ∷ (ctors_stand i a a.own.ctors ++ all_stand T (suc i) as_)

abbrev pub stands_for : List (Name × Original) → Name → Option Original
stands_for [] c = None
stands_for (m ∷ ms) c = if same_name m.0 c then Some m.1 else stands_for ms c

-- c ls applied to these; where a rest is left after P0 .., J ls b1 .. bq applied to it
abbrev pub put_at : Name → List Level → List Tree → Name → List Level → List Tree → Option (List Tree) → Tree
put_at c ls xs J ms bs (Some rest) = apply (apply (const J ms) bs) rest
put_at c ls xs J ms bs None = apply (const c ls) xs

-- what is left of the arguments after P0 .., where the constant is at the block's own levels and they begin with P0 ..
abbrev pub after_own : Setting → Name → List Level → List Tree → Option (List Tree)
after_own s c ls xs = if is_same_tree (const c ls) (const c (map param s.levels)) then after_params s.params xs else None

abbrev pub put_back : Setting → Name → List Level → List Tree → Option Original → Tree
put_back s c ls xs (Some (applied_to J ms bs)) = put_at c ls xs J ms bs (after_own s c ls xs)
put_back s c ls xs (Some (renamed_as R)) = apply (const R ls) xs
put_back s c ls xs None = apply (const c ls) xs

-- the tree applied to these arguments, which are read back
abbrev pub restore : List (Name × Original) → Setting → Tree → List Tree → Tree
restore ms s (app f a) xs = restore ms s f (restore ms s a [] ∷ xs)
restore ms s (const c ls) xs = put_back s c ls xs (stands_for ms c)
restore ms s (lam A b) xs = apply (lam (restore ms s A []) (restore ms s b [])) xs
restore ms s (pi A B) xs = apply (pi (restore ms s A []) (restore ms s B [])) xs
restore ms s (let_in A v b) xs = apply (let_in (restore ms s A []) (restore ms s v []) (restore ms s b [])) xs
restore ms s (proj S i e) xs = apply (proj S i (restore ms s e [])) xs
restore ms s e xs = apply e xs

abbrev pub name_back : Name → Option Original → Name
name_back c None = c
name_back c (Some (applied_to J ls bs)) = J
name_back c (Some (renamed_as R)) = R

-- the recursors of the larger block, read back
abbrev pub restoring : List (Name × Original) → Setting → Restoring
restoring ms s = record { named = λ c. name_back c (stands_for ms c); tree = λ e. restore ms s e [] }

abbrev pub restoring_of : Block → Setting → Larger → Restoring
restoring_of b s lg = restoring (all_stand (first_name b.types) 0 lg.auxs) s
