-- Types that are listed, terms that mention no name, and arguments past the parameters.
use Rattle.std.proofs.Common.{◌≡◌, ◌&&◌, ◌||◌, ℕ, Bool, true, false, List, ◌∷◌, map, Some, None, nat_eq, if◌then◌else◌, ap}
use Rattle.lk_tree.specs.Tree.{Name, Tree, const}
use Rattle.lk_tree.specs.Mentions.{same_name}
use Rattle.lk_questions.specs.Steps.{is_same_tree}
use Rattle.lk_store.specs.Contents.{Contents, name_at, tree_at}
use Rattle.lk_env.specs.declared.unit.BlockType.{BlockType}
use Rattle.lk_mentions.specs.Names.{names_at}
use Rattle.lk_mentions.specs.Walks.{is_clear}
use Rattle.lk_inductive.specs.Block.{Frame}
use Rattle.lk_inductive.specs.BlockSteps.{is_listed, mention_none, after_params, plain_indices, as_member}
use Rattle.lk_block.specs.Frames.{listed_at}
use Rattle.lk_block.specs.Members.{own_name}

pub listed_next : (c : Contents) (rest more : List BlockType) (x : BlockType) (n : Name) (k : ℕ) → rest ≡ x ∷ more → (same_name (name_at c x.name) n && nat_eq x.indices k) ≡ false
    → is_listed (listed_at c rest) n k ≡ is_listed (listed_at c more) n k
listed_next c rest more x n k e h = rw e (ap (λ b. b || is_listed (listed_at c more) n k) h)

-- the first term mentions none of the names, or one
pub clear_next : (c : Contents) (ks : List ℕ) (rest more : List ℕ) (x : ℕ) → rest ≡ x ∷ more → is_clear c ks x ≡ true
    → mention_none (names_at c ks) (map (tree_at c) rest) ≡ mention_none (names_at c ks) (map (tree_at c) more)
clear_next c ks rest more x e h = rw e (ap (λ b. b && mention_none (names_at c ks) (map (tree_at c) more)) h)

-- the first argument is the first parameter, or not
pub params_next : (f : ℕ → Tree) (left right ps xs : List ℕ) (p x : ℕ) → left ≡ p ∷ ps → right ≡ x ∷ xs → is_same_tree (f p) (f x) ≡ true → after_params (map f left) (map f right) ≡ after_params (map f ps) (map f xs)
params_next f left right ps xs p x e g h = rw (e, g) (ap (λ b. if b then after_params (map f ps) (map f xs) else None) h)

-- a constant at the block's own levels, or none
pub member_named : (F : Frame) (h : Tree) (xs : List Tree) (T : Name) → Some T ≡ own_name F.levels h → as_member F h xs ≡ plain_indices F T (after_params F.params xs)
member_named F (const c ls) xs T e = go (is_same_tree (const c ls) (const c F.levels)) e
  where
    go : (b : Bool) → Some T ≡ (if b then Some c else None) → (if b then plain_indices F c (after_params F.params xs) else None) ≡ plain_indices F T (after_params F.params xs)
    go true i = let same : c ≡ T = cc in ap (λ n. plain_indices F n (after_params F.params xs)) same
    go false i = absurd (cc)
member_named F _ xs T e = absurd (cc)
