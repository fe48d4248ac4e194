-- What the rows of a store's tables stand for.
use Rattle.std.specs.Prelude.{◌≡◌, ℕ, ◌<◌, ◌≤◌, ◌+◌, ◌-◌, ◌^◌, nat_lt, if◌then◌else◌}
use Rattle.std.specs.Prelude.{List, [], ◌∷◌, ◌++◌, length, slice_index_or}
use Rattle.lk_tree.specs.Tree.{Name, text, number}
use Rattle.lk_tree.specs.Tree.{Level, zero_level, succ_level, max_level, imax_level, param}
use Rattle.lk_tree.specs.Tree.{Tree, var, sort, const, app, lam, pi, let_in}
use Rattle.lk_tree.specs.Tree.{proj, lit, wide, str, local}
use Rattle.lk_tree.specs.Bind.{bound}
use Rattle.lk_tree.specs.Level.{is_zero_level}
use Rattle.lk_tree.specs.Loose.{loose}
use Rattle.lk_tree.specs.Scan.{is_narrow}
use Rattle.lk_store.specs.Measures.{level_has_params, has_params}
use Rattle.lk_store.specs.Values.{AreApart}
use Rattle.lk_store.specs.Hashes.{mixed, hash_of_words}
use Rattle.lk_store.specs.declared.key.Number.{Number}
use Rattle.lk_store.specs.declared.key.NameKey.{NameKey}
use Rattle.lk_store.specs.declared.key.NameKey.TheVariants as n
use Rattle.lk_store.specs.declared.key.LevelKey.{LevelKey}
use Rattle.lk_store.specs.declared.key.LevelKey.TheVariants.{Zero, Succ, Max, IMax, Param}
use Rattle.lk_store.specs.declared.key.ListKey.{ListKey}
use Rattle.lk_store.specs.declared.key.ListKey.TheVariants.{Empty, Cons}
use Rattle.lk_store.specs.declared.key.TreeKey.{TreeKey}
use Rattle.lk_store.specs.declared.key.TreeKey.TheVariants.{Var, Sort, Const, App, Lam, Pi, Let}
use Rattle.lk_store.specs.declared.key.TreeKey.TheVariants.{Proj, Lit, Wide, Str, Local}
use Rattle.lk_store.specs.declared.key.LevelRow.{LevelRow}
use Rattle.lk_store.specs.declared.key.TreeRow.{TreeRow}

-- the number that a code of 32 bits stands for: itself below 2^31, and else a number of the list
abbrev pub decoded : List Number → ℕ → ℕ
decoded ns code =
    if nat_lt code (2 ^ 31) then code
    else (slice_index_or ns (code - 2 ^ 31) (record { value = 0 })).value

abbrev pub IsCode : List Number → ℕ → Type 0
IsCode ns code = code < 2 ^ 31 + length ns

-- the code of a number of 64 bits
pub record IsShortCode (ns : List Number) (code : ℕ) : Type 0 where
  pub there : IsCode ns code
  pub short : decoded ns code < 2 ^ 64

-- the numbers that no code below 2^31 stands for, each once
pub record AreNumbers (ns : List Number) : Type 0 where
  pub few : length ns < 2 ^ 31
  pub large : (i : ℕ) (d : Number) → i < length ns → 2 ^ 31 ≤ (slice_index_or ns i d).value
  pub apart : AreApart (record { value = 0 }) ns

abbrev pub hash_of_name : ℕ → NameKey → ℕ
hash_of_name seed n.Anonymous = hash_of_words seed 0 0 0 0
hash_of_name seed (n.Text a b) = hash_of_words seed 1 a b 0
hash_of_name seed (n.Number a i) = mixed (hash_of_words seed 2 a 0 0) i

abbrev pub hash_of_level : ℕ → LevelKey → ℕ
hash_of_level seed Zero = hash_of_words seed 0 0 0 0
hash_of_level seed (Succ l) = hash_of_words seed 1 l 0 0
hash_of_level seed (Max l m) = hash_of_words seed 2 l m 0
hash_of_level seed (IMax l m) = hash_of_words seed 3 l m 0
hash_of_level seed (Param n) = hash_of_words seed 4 n 0 0

abbrev pub hash_of_list : ℕ → ListKey → ℕ
hash_of_list seed Empty = hash_of_words seed 0 0 0 0
hash_of_list seed (Cons l ls) = hash_of_words seed 1 l ls 0

abbrev pub hash_of_tree : ℕ → TreeKey → ℕ
hash_of_tree seed (Var i) = hash_of_words seed 0 i 0 0
hash_of_tree seed (Sort l) = hash_of_words seed 1 l 0 0
hash_of_tree seed (Const n ls) = hash_of_words seed 2 n ls 0
hash_of_tree seed (App f a) = hash_of_words seed 3 f a 0
hash_of_tree seed (Lam A b) = hash_of_words seed 4 A b 0
hash_of_tree seed (Pi A B) = hash_of_words seed 5 A B 0
hash_of_tree seed (Let A v b) = hash_of_words seed 6 A v b
hash_of_tree seed (Proj S i s) = hash_of_words seed 7 S i s
hash_of_tree seed (Lit n) = hash_of_words seed 8 n 0 0
hash_of_tree seed Wide = hash_of_words seed 9 0 0 0
hash_of_tree seed (Str s) = hash_of_words seed 10 s 0 0
hash_of_tree seed (Local k T) = hash_of_words seed 11 k T 0

-- a name among earlier ones
abbrev pub key_name : List (List ℕ) → List Name → NameKey → Name
key_name texts names n.Anonymous = []
key_name texts names (n.Text a s) =
    slice_index_or names a [] ++ text (slice_index_or texts s []) ∷ []
key_name texts names (n.Number a i) = slice_index_or names a [] ++ number i ∷ []

abbrev pub IsNameBelow : ℕ → ℕ → NameKey → Type 0
IsNameBelow texts names n.Anonymous = Unit {0}
IsNameBelow texts names (n.Text a s) = (a < names) × (s < texts)
IsNameBelow texts names (n.Number a i) = a < names

-- a level among earlier ones
abbrev pub key_level : List Name → List Level → LevelKey → Level
key_level names levels Zero = zero_level
key_level names levels (Succ l) = succ_level (slice_index_or levels l zero_level)
key_level names levels (Max l m) =
    max_level (slice_index_or levels l zero_level) (slice_index_or levels m zero_level)
key_level names levels (IMax l m) =
    imax_level (slice_index_or levels l zero_level) (slice_index_or levels m zero_level)
key_level names levels (Param n) = param (slice_index_or names n [])

abbrev pub IsLevelBelow : ℕ → ℕ → LevelKey → Type 0
IsLevelBelow names levels Zero = Unit {0}
IsLevelBelow names levels (Succ l) = l < levels
IsLevelBelow names levels (Max l m) = (l < levels) × (m < levels)
IsLevelBelow names levels (IMax l m) = (l < levels) × (m < levels)
IsLevelBelow names levels (Param n) = n < names

-- a list of levels among earlier ones
abbrev pub key_list : List Level → List (List Level) → ListKey → List Level
key_list levels lists Empty = []
key_list levels lists (Cons l ls) =
    slice_index_or levels l zero_level ∷ slice_index_or lists ls []

abbrev pub IsListBelow : ℕ → ℕ → ListKey → Type 0
IsListBelow levels lists Empty = Unit {0}
IsListBelow levels lists (Cons l ls) = (l < levels) × (ls < lists)

-- what trees are made of, beside trees
pub record Parts : Type 0 where
  pub numbers : List Number
  pub names : List Name
  pub texts : List (List ℕ)
  pub levels : List Level
  pub lists : List (List Level)

-- a tree among earlier ones
abbrev pub key_tree : Parts → List Tree → TreeKey → Tree
key_tree p ts (Var i) = var (decoded p.numbers i)
key_tree p ts (Sort l) = sort (slice_index_or p.levels l zero_level)
key_tree p ts (Const n ls) = const (slice_index_or p.names n []) (slice_index_or p.lists ls [])
key_tree p ts (App f a) = app (slice_index_or ts f wide) (slice_index_or ts a wide)
key_tree p ts (Lam A b) = lam (slice_index_or ts A wide) (slice_index_or ts b wide)
key_tree p ts (Pi A B) = pi (slice_index_or ts A wide) (slice_index_or ts B wide)
key_tree p ts (Let A v b) =
    let_in (slice_index_or ts A wide) (slice_index_or ts v wide) (slice_index_or ts b wide)
key_tree p ts (Proj S i s) =
    proj (slice_index_or p.names S []) (decoded p.numbers i) (slice_index_or ts s wide)
key_tree p ts (Lit n) = lit (decoded p.numbers n)
key_tree p ts Wide = wide
key_tree p ts (Str s) = str (slice_index_or p.texts s [])
key_tree p ts (Local k T) = local (decoded p.numbers k) (slice_index_or ts T wide)

abbrev pub IsTreeBelow : Parts → ℕ → TreeKey → Type 0
IsTreeBelow p n (Var i) = IsShortCode p.numbers i
IsTreeBelow p n (Sort l) = l < length p.levels
IsTreeBelow p n (Const c ls) = (c < length p.names) × (ls < length p.lists)
IsTreeBelow p n (App f a) = (f < n) × (a < n)
IsTreeBelow p n (Lam A b) = (A < n) × (b < n)
IsTreeBelow p n (Pi A B) = (A < n) × (B < n)
IsTreeBelow p n (Let A v b) = (A < n) × (v < n) × (b < n)
IsTreeBelow p n (Proj S i s) = (S < length p.names) × IsShortCode p.numbers i × (s < n)
IsTreeBelow p n (Lit i) = IsCode p.numbers i
IsTreeBelow p n Wide = Unit {0}
IsTreeBelow p n (Str s) = s < length p.texts
IsTreeBelow p n (Local k T) = IsShortCode p.numbers k × (T < n)

-- what a row keeps of its level is right
pub record IsMarkedLevel (l : Level) (row : LevelRow) : Type 0 where
  pub params_is : row.params ≡ level_has_params l
  pub zero_is : row.zero ≡ is_zero_level l

-- what a row keeps of its tree is right
pub record IsMarkedTree (ns : List Number) (t : Tree) (row : TreeRow) : Type 0 where
  pub loose_code : IsCode ns row.loose
  pub loose_is : decoded ns row.loose ≡ loose t
  pub local_code : IsCode ns row.local
  pub local_is : decoded ns row.local ≡ bound t
  pub params_is : row.params ≡ has_params t
  pub narrow_is : row.narrow ≡ is_narrow t

-- the code of a number
pub record IsCodeOf (ns : List Number) (code n : ℕ) : Type 0 where
  pub there : IsCode ns code
  pub is : decoded ns code ≡ n
