-- The checks of a block's counts, types, constructors and large elimination.
use Rattle.std.specs.Prelude.{ℕ, zero, suc, Bool, true, false, ◌&&◌, ◌||◌, not, nat_eq, List, [], ◌∷◌, length, Option, Some, None, if◌then◌else◌}
use Rattle.lk_tree.specs.Tree.{Name, Level, zero_level, succ_level, Tree, sort, const, pi, local}
use Rattle.lk_tree.specs.Level.{is_zero_level}
use Rattle.lk_tree.specs.LevelTest.{level_test, level_le_test}
use Rattle.lk_tree.specs.Bind.{opened}
use Rattle.lk_tree.specs.Spine.{head, args}
use Rattle.lk_tree.specs.declared.rule.Rule.TheVariants.{BlockShape, ParameterDiffers, ConstructorResult, NotPositive, FieldUniverse}
use Rattle.lk_rulebook.specs.Place.{Block, BlockType, Ctor}
use Rattle.lk_tree.specs.Mentions.{mentions, same_name}
use Rattle.lk_questions.specs.Query.{whnf, same}
use Rattle.lk_questions.specs.Program.{Program, done, refuse, asked, ◌>>=◌}
use Rattle.lk_questions.specs.Steps.{given, as_pi, sort_of, is_same_tree}
use Rattle.lk_questions.specs.Levels.{tested}
use Rattle.lk_questions.specs.Declarations.{Yes, checked}
pub use Rattle.lk_inductive.specs.Arguments.{after_params}
use Rattle.lk_inductive.specs.Block.{levels_of, parameters_of, Frame, frame_of, FieldKind, plain, recursive, under, Field, CtorShape, TypeShape, Shape, domain}

-- each member of the block states these level parameters and this number of parameters, each constructor its parent and its
-- place in the parent's list
abbrev pub same_names : List Name → List Name → Bool
same_names [] [] = true
same_names (m ∷ ms) (n ∷ ns) = same_name m n && same_names ms ns
same_names [] (n ∷ ns) = false
same_names (m ∷ ms) [] = false

abbrev pub ctor_agrees : ℕ → List Name → Name → ℕ → Ctor → Bool
ctor_agrees p us T i c = (same_names c.levels us && nat_eq c.parameters p) && (same_name c.parent T && nat_eq c.place i)

abbrev pub ctors_agree : ℕ → List Name → Name → ℕ → List Ctor → Bool
ctors_agree p us T i [] = true
ctors_agree p us T i (c ∷ cs) = ctor_agrees p us T i c && ctors_agree p us T (suc i) cs

abbrev pub types_agree : ℕ → List Name → List BlockType → Bool
types_agree p us [] = true
types_agree p us (t ∷ ts) = ((same_names t.levels us && nat_eq t.parameters p) && ctors_agree p us t.name 0 t.ctors) && types_agree p us ts

abbrev pub counts_steps : Block → Program Yes
counts_steps b = given (types_agree (parameters_of b) (levels_of b) b.types) BlockShape (done checked)

-- n Pis, opened with Locals from number j on
abbrev pub telescope : ℕ → ℕ → Tree → Program (List Tree × Tree)
telescope j zero r = done ([], r)
telescope j (suc n) r = do
  R ← asked (whnf r)
  p ← as_pi BlockShape R
  t ← telescope (suc j) n (opened p.1 (local j p.0))
  done (local j p.0 ∷ t.0, t.1)

-- Pis over the types of these Locals, which are put in
abbrev pub over : List Tree → Tree → Program Tree
over [] r = done r
over (P ∷ ps) r = do
  R ← asked (whnf r)
  p ← as_pi BlockShape R
  equal ← asked (same p.0 (domain P))
  given equal ParameterDiffers (over ps (opened p.1 P))

abbrev pub as_level : Tree → Program Level
as_level (sort l) = done l
as_level _ = refuse BlockShape

-- the indices of a type past its parameters, and the level of its Sort
abbrev pub type_end : ℕ → ℕ → Tree → Program (List Tree × Level)
type_end p n r = do
  xs ← telescope p n r
  S ← asked (whnf xs.1)
  l ← as_level S
  done (xs.0, l)

-- a type after the first one (the level of the first is compared with itself, as the others with it)
abbrev pub next_type : List Tree → Level → BlockType → Program (List Tree)
next_type ps l t = do
  s ← sort_of t.type
  r ← over ps t.type
  e ← type_end (length ps) t.indices r
  equal ← tested (level_test e.1 l)
  given equal BlockShape (done e.0)

abbrev pub next_types : List Tree → Level → List BlockType → Program (List (List Tree))
next_types ps l [] = done []
next_types ps l (t ∷ ts) = do
  x ← next_type ps l t
  xs ← next_types ps l ts
  done (x ∷ xs)

-- P0 .., the level, and each type's indices
pub record TypeParts : Type 0 where
  pub params : List Tree
  pub sort : Level
  pub indices : List (List Tree)

-- the checks of the types
abbrev pub types_steps : ℕ → List BlockType → Program TypeParts
types_steps p [] = refuse BlockShape
types_steps p (t ∷ ts) = do
  s ← sort_of t.type
  ps ← telescope 0 p t.type
  e ← type_end p t.indices ps.1
  equal ← tested (level_test e.1 e.1)
  xs ← given equal BlockShape (next_types ps.0 e.1 ts)
  done (record { params = ps.0; sort = e.1; indices = e.0 ∷ xs })

-- each constructor's type has a sort
abbrev pub ctor_sorts : List Ctor → Program (List Level)
ctor_sorts [] = done []
ctor_sorts (c ∷ cs) = do
  s ← sort_of c.type
  ss ← ctor_sorts cs
  done (s ∷ ss)

abbrev pub all_ctor_sorts : List BlockType → Program (List (List Level))
all_ctor_sorts [] = done []
all_ctor_sorts (t ∷ ts) = do
  s ← ctor_sorts t.ctors
  ss ← all_ctor_sorts ts
  done (s ∷ ss)

abbrev pub mention_none : List Name → List Tree → Bool
mention_none ns [] = true
mention_none ns (i ∷ is) = not (mentions ns i) && mention_none ns is

-- whether T is listed with n indices
abbrev pub is_listed : List (Name × ℕ) → Name → ℕ → Bool
is_listed [] T n = false
is_listed (t ∷ ts) T n = (same_name t.0 T && nat_eq t.1 n) || is_listed ts T n

abbrev pub plain_indices : Frame → Name → Option (List Tree) → Option (Name × List Tree)
plain_indices F T None = None
plain_indices F T (Some is) = if is_listed F.types T (length is) && mention_none F.names is then Some (T, is) else None

-- the type of the block and the indices, where the tree is one applied to P0 ..
abbrev pub as_member : Frame → Tree → List Tree → Option (Name × List Tree)
as_member F (const T ls) xs = if is_same_tree (const T ls) (const T F.levels) then plain_indices F T (after_params F.params xs) else None
as_member F _ xs = None

-- the walk of A, Locals from number j on; fuel: each step asks a question, so more than the budget is never used up
abbrev pub last_kind : Option (Name × List Tree) → Program FieldKind
last_kind (Some t) = done (recursive [] t.0 t.1)
last_kind None = refuse NotPositive

abbrev pub walk_on : (ℕ → Tree → Program FieldKind) → Frame → ℕ → Tree → Program FieldKind
walk_on next F j (pi D E) =
    if mentions F.names D then refuse NotPositive else (do
      k ← next (suc j) (opened E (local j D))
      done (under (local j D) k))
walk_on next F j A = last_kind (as_member F (head A) (args A))

abbrev pub walk : ℕ → Frame → ℕ → Tree → Program FieldKind
walk zero F j A = refuse NotPositive
walk (suc fuel) F j A = do
  A' ← asked (whnf A)
  if mentions F.names A' then walk_on (walk fuel F) F j A' else done plain

abbrev pub fits : Level → Tree → Program Bool
fits l A = do
  s ← sort_of A
  tested (level_le_test s l)

abbrev pub fits_in : Level → Tree → Program Bool
fits_in l A = if is_zero_level l then done true else fits l A

abbrev pub fields_steps : ℕ → Frame → ℕ → ℕ → Tree → Program (List Field × Tree)
fields_steps fuel F j zero r = done ([], r)
fields_steps fuel F j (suc n) r = do
  R ← asked (whnf r)
  p ← as_pi BlockShape R
  allowed ← fits_in F.sort p.0
  k ← given allowed FieldUniverse (walk fuel F (suc j) p.0)
  fs ← fields_steps fuel F (suc j) n (opened p.1 (local j p.0))
  done (record { variable = local j p.0; kind = k } ∷ fs.0, fs.1)

abbrev pub own_indices : Name → Option (Name × List Tree) → Program (List Tree)
own_indices T (Some t) = given (same_name t.0 T) ConstructorResult (done t.1)
own_indices T None = refuse ConstructorResult

-- the check of one constructor of T
abbrev pub ctor_steps : ℕ → Frame → Name → Ctor → Program CtorShape
ctor_steps fuel F T c = do
  r ← over F.params c.type
  fs ← fields_steps fuel F (length F.params) c.fields r
  R ← asked (whnf fs.1)
  is ← own_indices T (as_member F (head R) (args R))
  done (record { name = c.name; fields = fs.0; indices = is })

abbrev pub ctors_steps : ℕ → Frame → Name → List Ctor → Program (List CtorShape)
ctors_steps fuel F T [] = done []
ctors_steps fuel F T (c ∷ cs) = do
  s ← ctor_steps fuel F T c
  ss ← ctors_steps fuel F T cs
  done (s ∷ ss)

abbrev pub shapes_steps : ℕ → Frame → List BlockType → List (List Tree) → Program (List TypeShape)
shapes_steps fuel F [] xs = done []
shapes_steps fuel F (t ∷ ts) [] = refuse BlockShape
shapes_steps fuel F (t ∷ ts) (x ∷ xs) = do
  cs ← ctors_steps fuel F t.name t.ctors
  ss ← shapes_steps fuel F ts xs
  done (record { name = t.name; indices = x; ctors = cs } ∷ ss)

-- large elimination: whether the block may be eliminated into every universe
abbrev pub is_among : Tree → List Tree → Bool
is_among x [] = false
is_among x (i ∷ is) = is_same_tree x i || is_among x is

abbrev pub small_steps : List Tree → List Field → Program Bool
small_steps is [] = done true
small_steps is (f ∷ fs) = do
  s ← sort_of (domain f.variable)
  if is_zero_level s || is_among f.variable is then small_steps is fs else done false

abbrev pub one_ctor_steps : List CtorShape → Program Bool
one_ctor_steps [] = done true
one_ctor_steps (c ∷ []) = small_steps c.indices c.fields
one_ctor_steps (c ∷ d ∷ cs) = done false

abbrev pub one_type_steps : List TypeShape → Program Bool
one_type_steps (t ∷ []) = one_ctor_steps t.ctors
one_type_steps [] = done false
one_type_steps (t ∷ u ∷ ts) = done false

abbrev pub large_steps : Level → List TypeShape → Program Bool
large_steps l ts = do
  above ← tested (level_le_test (succ_level zero_level) l)
  if above then done true else one_type_steps ts

-- the constructors, then large elimination
abbrev pub shape_steps : ℕ → Block → TypeParts → Program Shape
shape_steps fuel b ts = do
  ss ← shapes_steps fuel (frame_of b ts.params ts.sort) b.types ts.indices
  large ← large_steps ts.sort ss
  done (record { levels = levels_of b; params = ts.params; sort = ts.sort; types = ss; large = large })
