-- The walk that reads terms back, by whole terms and what comes in their place.
use Rattle.std.specs.Prelude.{ℕ, List, [], ◌∷◌, map, Option, Some, None, if◌then◌else◌}
use Rattle.lk_tree.specs.Tree.{Name, Level, Tree, var, sort, const, app, lam, pi, let_in, proj, lit, wide, str, local}
use Rattle.lk_tree.specs.Mentions.{same_name}
use Rattle.lk_rulebook.specs.SameTree.{is_same_tree}
use Rattle.lk_store.specs.Contents.{Contents, name_at, tree_at}
use Rattle.lk_restore.specs.declared.originals.Original.{Original}
use Rattle.lk_restore.specs.declared.originals.Original.TheVariants.{Applied, Renamed}

-- of the constant of the first name: it stands for one of the second where it is this tree, and then for the other tree; or it
-- has the second name
pub data Mark : Type 0 where
  whole : Name → Name → Tree → Tree → Mark
  another : Name → Name → Mark

abbrev pub mark_at : Contents → Original → Mark
mark_at c (Applied n J from to) = whole (name_at c n) (name_at c J) (tree_at c from) (tree_at c to)
mark_at c (Renamed n R) = another (name_at c n) (name_at c R)

abbrev pub marks_at : Contents → List Original → List Mark
marks_at c os = map (mark_at c) os

abbrev pub marked : Mark → Name
marked (whole n J from to) = n
marked (another n R) = n

-- of several of one name the first counts
abbrev pub first : List Mark → Name → Option Mark
first [] c = None
first (m ∷ ms) c = if same_name (marked m) c then Some m else first ms c

abbrev pub at_once : Option Mark → Option Tree
at_once (Some (whole n J from to)) = Some to
at_once (Some (another n R)) = None
at_once None = None

-- what comes in the place of a whole tree, if it is one of the last ones
abbrev pub instead : List Mark → List Mark → Tree → Option Tree
instead all [] t = None
instead all (whole n J from to ∷ ms) t = if is_same_tree t from then at_once (first all n) else instead all ms t
instead all (another n R ∷ ms) t = instead all ms t

abbrev pub constant_back : Name → List Level → Option Mark → Tree
constant_back c ls (Some (whole n J from to)) = const c ls
constant_back c ls (Some (another n R)) = const R ls
constant_back c ls None = const c ls

-- that, or else what is made of its parts
abbrev pub or_built : Option Tree → Tree → Tree
or_built (Some r) t = r
or_built None t = t

-- the type of a Local is no part of it
unfoldable pub read : List Mark → Tree → Tree
read ms (const c ls) = or_built (instead ms ms (const c ls)) (constant_back c ls (first ms c))
read ms (app f a) = or_built (instead ms ms (app f a)) (app (read ms f) (read ms a))
read ms (lam A b) = lam (read ms A) (read ms b)
read ms (pi A B) = pi (read ms A) (read ms B)
read ms (let_in A v b) = let_in (read ms A) (read ms v) (read ms b)
read ms (proj S i s) = proj S i (read ms s)
read ms (var i) = var i
read ms (sort l) = sort l
read ms (lit n) = lit n
read ms wide = wide
read ms (str s) = str s
read ms (local k T) = local k T

-- the same at any depth
abbrev pub reading : List Mark → ℕ → Tree → Tree
reading ms depth t = read ms t
