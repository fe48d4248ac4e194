-- What the checks of the types find out, by the numbers of a store.
use Rattle.std.specs.Prelude.{ℕ, List, [], ◌∷◌, ◌++◌, ◌<◌, length, map, All}
use Rattle.lk_tree.specs.Tree.{Level, Tree}
use Rattle.lk_tree.specs.LevelTest.{level_test}
use Rattle.lk_tree.specs.declared.rule.Rule.TheVariants.{BlockShape}
use Rattle.lk_rulebook.specs.Place.{BlockType}
use Rattle.lk_questions.specs.Program.{Program, done, ◌>>=◌}
use Rattle.lk_questions.specs.Steps.{given, sort_of}
use Rattle.lk_questions.specs.Levels.{tested}
use Rattle.lk_inductive.specs.BlockSteps.{TypeParts as PlainParts, telescope, type_end, next_types}
use Rattle.lk_store.specs.Contents.{Contents, level_at, tree_at}
use Rattle.lk_block.specs.declared.types.TypeParts.{TypeParts}
use Rattle.std.specs.Prelude.{Vec}
use Rattle.std.specs.declared.alloc.Global.{Global}

abbrev pub lists_at : Contents → List (Vec ℕ Global) → List (List Tree)
lists_at c xs = map (λ ys. map (tree_at c) ys.items) xs

abbrev pub AreListsIn : Contents → List (Vec ℕ Global) → Type 0
AreListsIn c xs = All (λ ys. All (λ x. x < length c.trees) ys.items) xs

abbrev pub parts_at : Contents → TypeParts → PlainParts
parts_at c p = record { params = map (tree_at c) p.parameters.items; sort = level_at c p.sort; indices = lists_at c p.indices.items }

pub record ArePartsIn (c : Contents) (p : TypeParts) : Type 0 where
  pub parameters_in : All (λ x. x < length c.trees) p.parameters.items
  pub sort_in : p.sort < length c.levels
  pub indices_in : AreListsIn c p.indices.items

-- the types after the first one, whose indices come after these
abbrev pub more_form : List (List Tree) → List Tree → Level → List BlockType → Program (List (List Tree))
more_form is ps l ts = next_types ps l ts >>= λ xs. done (is ++ xs)

-- the end of the first type: its level is compared with itself, as the others with it
abbrev pub self_form : ℕ → ℕ → Tree → Program (List Tree × Level)
self_form j n r = type_end j n r >>= λ e. tested (level_test e.1 e.1) >>= λ equal. given equal BlockShape (done e)

abbrev pub first_parts : List Tree → List Tree × Level → PlainParts
first_parts ps e = record { params = ps; sort = e.1; indices = e.0 ∷ [] }

abbrev pub open_form : ℕ → ℕ → Tree → Program PlainParts
open_form p n T = telescope 0 p T >>= λ ps. self_form p n ps.1 >>= λ e. done (first_parts ps.0 e)

-- the first type, alone
abbrev pub first_form : ℕ → ℕ → Tree → Program PlainParts
first_form p n T = sort_of T >>= λ s. open_form p n T

-- the other types after the first one
abbrev pub others_form : PlainParts → List BlockType → Program PlainParts
others_form f ts = more_form f.indices f.params f.sort ts >>= λ xs. done (record { params = f.params; sort = f.sort; indices = xs })
