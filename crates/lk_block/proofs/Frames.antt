-- What the checks of constructors know of their block, while the store grows.
use Rattle.std.proofs.Common.{◌≡◌, ℕ, List, [], ◌∷◌, map, All, refl}
use Rattle.std.proofs.lemmas.List.Elements.{All-head, All-tail}
use Rattle.lk_tree.specs.Tree.{Name, Level, Tree}
use Rattle.lk_store.specs.Contents.{Contents, level_at, list_at, tree_at, Extends}
use Rattle.lk_subst.specs.Numbers.{values-steady, trees-steady}
use Rattle.lk_env.specs.declared.unit.BlockType.{BlockType}
use Rattle.lk_env.specs.Units.{IsTypeIn}
use Rattle.lk_mentions.specs.Names.{names_at}
use Rattle.lk_inductive.specs.Block as plain
use Rattle.lk_block.specs.declared.frame.Frame.{Frame}
use Rattle.lk_block.specs.Frames.{listed_at, frame_at, IsFrameIn}

pub listed-steady : (c d : Contents) (ts : List BlockType) → Extends c d → All (IsTypeIn c) ts → listed_at d ts ≡ listed_at c ts
listed-steady c d [] x h = refl
listed-steady c d (t ∷ ts) x h =
    let first = x.names.same t.name (All-head (IsTypeIn c) t ts h).stated.name_in in
    let others = listed-steady c d ts x (All-tail (IsTypeIn c) t ts h) in
    cc

pub frame_same : (us vs : List Level) (ps qs : List Tree) (l m : Level) (ns os : List Name) (ts rs : List (Name × ℕ)) → us ≡ vs → ps ≡ qs → l ≡ m → ns ≡ os → ts ≡ rs
    → (let f : plain.Frame = record { levels = us; params = ps; sort = l; names = ns; types = ts } in f) ≡ (let f : plain.Frame = record { levels = vs; params = qs; sort = m; names = os; types = rs } in f)
frame_same us vs ps qs l m ns os ts rs a b c d e = cc

pub frame-steady : (c d : Contents) (f : Frame) → Extends c d → IsFrameIn c f → frame_at d f ≡ frame_at c f
frame-steady c d f x h =
    frame_same (list_at d f.levels) (list_at c f.levels) (map (tree_at d) f.parameters.now) (map (tree_at c) f.parameters.now) (level_at d f.sort) (level_at c f.sort) (names_at d f.names) (names_at c f.names) (listed_at d f.types.now) (listed_at c f.types.now)
    (x.lists.same f.levels h.levels_in) (trees-steady c d f.parameters.now x h.parameters_in) (x.levels.same f.sort h.sort_in) (values-steady [] c.names d.names f.names x.names h.names_in) (listed-steady c d f.types.now x h.types_in)
