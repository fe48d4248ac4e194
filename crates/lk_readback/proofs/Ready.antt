-- A line of a level or a tree says that level or tree, where the numbers in it stand for its parts.
use Rattle.std.proofs.Common.{◌≡◌, ℕ, List, [], ◌∷◌, map, Option, Some, Ok, refl, ap, ◌∙◌}
use Rattle.std.specs.Prelude.{All}
use Rattle.std.proofs.lemmas.List.Elements.{All-head, All-tail}
use Rattle.lk_tree.specs.Tree.{Name, Level, succ_level, max_level, imax_level, param}
use Rattle.lk_tree.specs.Tree.{Tree, var, sort, const, app, lam, pi, let_in, proj, lit, wide, str}
use Rattle.lk_lines.specs.Reading.{◌>>=◌}
use Rattle.lk_units.specs.State.{State, take_item, entry_added, known_of, known, all_known, counted}
use Rattle.lk_units.specs.State.{with_level, with_tree}
use Rattle.lk_trim.specs.Written.{Written}
use Rattle.lk_trim.specs.Names.{name_number}
use Rattle.lk_trim.specs.Levels.{level_number}
use Rattle.lk_trim.specs.Trees.{tree_number}
use Rattle.lk_readback.specs.Items.{level_item, tree_item}

-- numbers that stand for the things of a list stand for all of it
pub all_are_known : {X : Type 0} (mean : ℕ → Option X) (number : X → ℕ) (xs : List X)
    → All (λ x. mean (number x) ≡ Some x) xs → all_known mean (map number xs) ≡ Ok xs
all_are_known mean number [] h = refl
all_are_known {X} mean number (x ∷ xs) h =
    let P : X → Type 0 = λ x. mean (number x) ≡ Some x in
    ap (λ o. known_of o >>= λ y. (all_known mean (map number xs) >>= λ ys. Ok (y ∷ ys)))
    (All-head P x xs h)
    ∙ ap (λ r. r >>= λ ys. Ok (x ∷ ys)) (all_are_known mean number xs (All-tail P x xs h))

module _ (s : State) (w : Written) where
  -- the line of what stands there says it
  abbrev pub LevelReady : Level → Type 0
  LevelReady v =
      (l own : ℕ) → take_item l s (level_item own w v)
      ≡ (with_level s own (Ok v) >>= λ u. counted u)

  abbrev pub TreeReady : Tree → Type 0
  TreeReady e =
      (l own : ℕ) → take_item l s (tree_item own w e)
      ≡ (with_tree s own (Ok e) >>= λ u. counted u)

  abbrev pub KnowsName : Name → Type 0
  KnowsName x = s.names (name_number w x) ≡ Some x

  abbrev pub KnowsLevel : Level → Type 0
  KnowsLevel v = s.levels (level_number w v) ≡ Some v

  abbrev pub KnowsTree : Tree → Type 0
  KnowsTree e = s.trees (tree_number w e) ≡ Some e

  pub succ_ready : (v : Level) → KnowsLevel v → LevelReady (succ_level v)
  unfolding take_item entry_added
  succ_ready v h l own =
      ap (λ o. with_level s own (known_of o >>= λ x. Ok (succ_level x)) >>= λ u. counted u) h

  pub max_ready : (v u : Level) → KnowsLevel v → KnowsLevel u → LevelReady (max_level v u)
  unfolding take_item entry_added
  max_ready v u h k l own =
      ap (λ o. with_level s own (known_of o
      >>= λ x. (known s.levels (level_number w u) >>= λ y. Ok (max_level x y)))
      >>= λ t. counted t) h
      ∙ ap (λ o. with_level s own (known_of o >>= λ y. Ok (max_level v y)) >>= λ t. counted t) k

  pub imax_ready : (v u : Level) → KnowsLevel v → KnowsLevel u → LevelReady (imax_level v u)
  unfolding take_item entry_added
  imax_ready v u h k l own =
      ap (λ o. with_level s own (known_of o
      >>= λ x. (known s.levels (level_number w u) >>= λ y. Ok (imax_level x y)))
      >>= λ t. counted t) h
      ∙ ap (λ o. with_level s own (known_of o >>= λ y. Ok (imax_level v y)) >>= λ t. counted t) k

  pub param_ready : (n : Name) → KnowsName n → LevelReady (param n)
  unfolding take_item entry_added
  param_ready n h l own =
      ap (λ o. with_level s own (known_of o >>= λ x. Ok (param x)) >>= λ u. counted u) h

  pub var_ready : (i : ℕ) → TreeReady (var i)
  unfolding take_item entry_added
  var_ready i l own = refl

  pub sort_ready : (v : Level) → KnowsLevel v → TreeReady (sort v)
  unfolding take_item entry_added
  sort_ready v h l own =
      ap (λ o. with_tree s own (known_of o >>= λ x. Ok (sort x)) >>= λ u. counted u) h

  pub const_ready : (n : Name) (vs : List Level) → KnowsName n → All KnowsLevel vs
      → TreeReady (const n vs)
  unfolding take_item entry_added
  const_ready n vs h k l own =
      ap (λ o. with_tree s own (known_of o
      >>= λ x. (all_known s.levels (map (level_number w) vs) >>= λ ls. Ok (const x ls)))
      >>= λ u. counted u) h
      ∙ ap (λ r. with_tree s own (r >>= λ ls. Ok (const n ls)) >>= λ u. counted u)
      (all_are_known s.levels (level_number w) vs k)

  pub app_ready : (f a : Tree) → KnowsTree f → KnowsTree a → TreeReady (app f a)
  unfolding take_item entry_added
  app_ready f a h k l own =
      ap (λ o. with_tree s own (known_of o
      >>= λ x. (known s.trees (tree_number w a) >>= λ y. Ok (app x y))) >>= λ u. counted u) h
      ∙ ap (λ o. with_tree s own (known_of o >>= λ y. Ok (app f y)) >>= λ u. counted u) k

  -- a binder has no name, which is number 0
  module _ (none : s.names 0 ≡ Some []) where
    pub lam_ready : (a b : Tree) → KnowsTree a → KnowsTree b → TreeReady (lam a b)
    unfolding take_item entry_added
    lam_ready a b h k l own =
        ap (λ o. with_tree s own (known_of o
        >>= λ n. (known s.trees (tree_number w a)
        >>= λ x. (known s.trees (tree_number w b) >>= λ y. Ok (lam x y)))) >>= λ u. counted u) none
        ∙ ap (λ o. with_tree s own (known_of o
        >>= λ x. (known s.trees (tree_number w b) >>= λ y. Ok (lam x y))) >>= λ u. counted u) h
        ∙ ap (λ o. with_tree s own (known_of o >>= λ y. Ok (lam a y)) >>= λ u. counted u) k

    pub pi_ready : (a b : Tree) → KnowsTree a → KnowsTree b → TreeReady (pi a b)
    unfolding take_item entry_added
    pi_ready a b h k l own =
        ap (λ o. with_tree s own (known_of o
        >>= λ n. (known s.trees (tree_number w a)
        >>= λ x. (known s.trees (tree_number w b) >>= λ y. Ok (pi x y)))) >>= λ u. counted u) none
        ∙ ap (λ o. with_tree s own (known_of o
        >>= λ x. (known s.trees (tree_number w b) >>= λ y. Ok (pi x y))) >>= λ u. counted u) h
        ∙ ap (λ o. with_tree s own (known_of o >>= λ y. Ok (pi a y)) >>= λ u. counted u) k

    pub let_ready : (a v b : Tree) → KnowsTree a → KnowsTree v → KnowsTree b
        → TreeReady (let_in a v b)
    unfolding take_item entry_added
    let_ready a v b h j k l own =
        ap (λ o. with_tree s own (known_of o
        >>= λ n. (known s.trees (tree_number w a)
        >>= λ x. (known s.trees (tree_number w v)
        >>= λ y. (known s.trees (tree_number w b) >>= λ z. Ok (let_in x y z)))))
        >>= λ u. counted u) none
        ∙ ap (λ o. with_tree s own (known_of o
        >>= λ x. (known s.trees (tree_number w v)
        >>= λ y. (known s.trees (tree_number w b) >>= λ z. Ok (let_in x y z))))
        >>= λ u. counted u) h
        ∙ ap (λ o. with_tree s own (known_of o
        >>= λ y. (known s.trees (tree_number w b) >>= λ z. Ok (let_in a y z)))
        >>= λ u. counted u) j
        ∙ ap (λ o. with_tree s own (known_of o >>= λ z. Ok (let_in a v z)) >>= λ u. counted u) k

  pub proj_ready : (n : Name) (i : ℕ) (e : Tree) → KnowsName n → KnowsTree e
      → TreeReady (proj n i e)
  unfolding take_item entry_added
  proj_ready n i e h k l own =
      ap (λ o. with_tree s own (known_of o
      >>= λ x. (known s.trees (tree_number w e) >>= λ y. Ok (proj x i y))) >>= λ u. counted u) h
      ∙ ap (λ o. with_tree s own (known_of o >>= λ y. Ok (proj n i y)) >>= λ u. counted u) k

  pub lit_ready : (n : ℕ) → TreeReady (lit n)
  unfolding take_item entry_added
  lit_ready n l own = refl

  pub wide_ready : TreeReady wide
  unfolding take_item entry_added
  wide_ready l own = refl

  pub str_ready : (bytes : List ℕ) → TreeReady (str bytes)
  unfolding take_item entry_added
  str_ready bytes l own = refl
