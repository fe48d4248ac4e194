-- The parts of an auxiliary type by the numbers of a store.
use Rattle.std.specs.Prelude.{ℕ, ◌<◌, List, [], ◌∷◌, ◌++◌, map, length, All, if◌then◌else◌}
use Rattle.lk_tree.specs.Tree.{Name, Level, Tree}
use Rattle.lk_tree.specs.Mentions.{same_name}
use Rattle.lk_rulebook.specs.Place.{BlockType}
use Rattle.lk_questions.specs.Program.{Program, done, ◌>>=◌}
use Rattle.lk_inductive.specs.Enlarged.{Aux}
use Rattle.lk_inductive.specs.Nested.{at_args, ctors_at}
use Rattle.lk_store.specs.Contents.{Contents, level_at, tree_at}
use Rattle.lk_auxiliary.specs.Ends.{end_form}
use Rattle.lk_auxiliary.specs.declared.parts.Parts.{Parts}

-- a type past its parameters, its indices, the level of its Sort, and its constructors' types
pub record PlainParts : Type 0 where
  pub type : Tree
  pub indices : List Tree
  pub sort : Level
  pub ctors : List Tree

abbrev pub parts_at : Contents → Parts → PlainParts
parts_at c p = record { type = tree_at c p.ty; indices = map (tree_at c) p.indices.items; sort = level_at c p.sort; ctors = map (tree_at c) p.constructors.items }

pub record ArePartsIn (c : Contents) (p : Parts) : Type 0 where
  pub ty_in : p.ty < length c.trees
  pub indices_in : All (λ x. x < length c.trees) p.indices.items
  pub sort_in : p.sort < length c.levels
  pub constructors_in : All (λ x. x < length c.trees) p.constructors.items

-- those of t, whose type has become r
abbrev pub parts_form : ℕ → List Level → List Tree → BlockType → Tree → Program PlainParts
parts_form j ls bs t r = end_form j t.indices r >>= λ e. ctors_at ls bs t.ctors >>= λ cs. done (record { type = r; indices = e.0; sort = e.1; ctors = cs })

-- the auxiliary type with these parts
abbrev pub aux_with : List Level → List Tree → Name → BlockType → PlainParts → Aux
aux_with ls bs c t p = record { name = c; own = t; levels = ls; args = bs; type = p.type; indices = p.indices; sort = p.sort; ctors = p.ctors }

-- the parts of t
abbrev pub whole_parts : ℕ → List Level → List Tree → BlockType → Program PlainParts
whole_parts j ls bs t = at_args ls bs t.levels t.type >>= λ r. parts_form j ls bs t r

-- t, named c, as an auxiliary type
abbrev pub aux_form : ℕ → List Level → List Tree → Name → BlockType → Program Aux
aux_form j ls bs c t = whole_parts j ls bs t >>= λ p. done (aux_with ls bs c t p)

-- the types but J, in order, after others
abbrev pub other_auxs : ℕ → List Level → List Tree → Name → List BlockType → Program (List Aux)
other_auxs j ls bs J [] = done []
other_auxs j ls bs J (t ∷ ts) = if same_name J t.name then other_auxs j ls bs J ts else (aux_form j ls bs t.name t >>= λ a. other_auxs j ls bs J ts >>= λ as_. done (a ∷ as_))

abbrev pub more_others : ℕ → List Level → List Tree → Name → List Aux → List BlockType → Program (List Aux)
more_others j ls bs J found ts = other_auxs j ls bs J ts >>= λ as_. done (found ++ as_)

-- one of them
abbrev pub one_other : ℕ → List Level → List Tree → Name → List Aux → BlockType → Program (List Aux)
one_other j ls bs J found t = if same_name J t.name then done found else (aux_form j ls bs t.name t >>= λ a. done (found ++ a ∷ []))

-- the type t named J, and then the others of its block
abbrev pub family_form : ℕ → List Level → List Tree → Name → List BlockType → BlockType → Program (List Aux)
family_form j ls bs J ts t = aux_form j ls bs J t >>= λ a. more_others j ls bs J (a ∷ []) ts
