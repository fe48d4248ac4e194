-- A major premise in the type of a structure.
use Rattle.std.specs.Prelude.{ℕ, ◌&&◌, not, nat_eq, List, [], ◌++◌, length, Option}
use Rattle.lk_tree.specs.Tree.{Name, Level, Tree, const}
use Rattle.lk_tree.specs.Level.{is_zero_level}
use Rattle.lk_tree.specs.Spine.{apply, head, args}
use Rattle.lk_rulebook.specs.Place.{Place, Kind}
use Rattle.lk_rulebook.specs.Structures.{is_structure_like, projections}
use Rattle.lk_rulebook.specs.Claims.{Claim}
use Rattle.lk_questions.specs.Iota.{CtorApp, has_one_ctor, levels_at}
use Rattle.lk_questions.specs.Steps.{is_same_tree}
use Rattle.lk_questions.specs.Tests.{◌>>=◌, test}
use Rattle.lk_written.specs.Premises.{Left, as_const, ends, typed, reduced, sorted}
use Rattle.lk_constructor.specs.Looking.{ctor_at}
use Rattle.lk_replay_iota.specs.Recursors.{Ruled, only_ruled, ruled_in}

-- sort T = l, which is not 0
unfoldable pub sort_read : List Claim → Left → Tree → Option (Unit {0})
sort_read ps js T = do
  l ← sorted ps js T
  y ← test (not (is_zero_level l.0))
  ends l.1

-- n is c at these levels, applied to the arguments of T and to the projections of m
abbrev pub expansion_read : List Claim → Left → Name → Name → ℕ → List Level → Tree → Tree → Tree →
    Option (Unit {0})
expansion_read ps js c J fields ls m T n = do
  x ← test (is_same_tree n (apply (const c ls) (args T ++ projections J m 0 fields)))
  sort_read ps js T

-- the same, where T is of a structure, at exactly its parameters
abbrev pub levels_read : List Claim → Left → Name → Tree → Tree → Tree → CtorApp → List Level →
    Option (Unit {0})
levels_read ps js c m T n k ls = do
  v ← test (has_one_ctor k.ind.ctors
      && (is_structure_like k.block k.ind k.ctor && nat_eq (length (args T)) k.ctor.parameters))
  expansion_read ps js c k.ind.name k.ctor.fields ls m T n

abbrev pub type_read : List Claim → Left → Name → Tree → Tree → Tree → CtorApp → Option (Unit {0})
type_read ps js c m T n k = do
  ls ← levels_at k.ind.name (head T)
  levels_read ps js c m T n k ls

-- m => T0, T0 >> T
abbrev pub constructor_read : List Claim → Left → Name → Tree → Tree → CtorApp → Option (Unit {0})
constructor_read ps js c m n k = do
  T₀ ← typed ps js m
  T ← reduced ps T₀.1 T₀.0
  type_read ps T.1 c m T.0 n k

-- the same of the constructor of this name
abbrev pub name_read : Place → List Claim → Left → Tree → Tree → Name → Option (Unit {0})
name_read w ps js m n c = do
  k ← ctor_at w c [] []
  constructor_read ps js c m n k

-- the same of the constructor of a rule, where the recursor has just the arguments before its major
-- premise
abbrev pub rule_read : Place → List Claim → Left → Tree → Tree → Tree → Ruled → Option (Unit {0})
rule_read w ps js f m n u = do
  x ← test (nat_eq (length (args f)) u.before)
  name_read w ps js m n u.rule.ctor

-- the same of the only rule of a recursor
abbrev pub entry_read : Place → List Claim → Left → Kind → Tree → Tree → Tree → Option (Unit {0})
entry_read w ps js kind f m n = do
  u ← ruled_in only_ruled kind
  rule_read w ps js f m n u

-- the same of the recursor at the head of f
abbrev pub function_read : Place → List Claim → Left → Tree → Tree → Tree → Option (Unit {0})
function_read w ps js f m n = do
  c ← as_const (head f)
  g ← w.means c.0
  entry_read w ps js g.kind f m n
