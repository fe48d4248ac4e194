-- A major premise that is taken for a constructor because of its type.
use Rattle.std.specs.Prelude.{ℕ, Bool, ◌&&◌, nat_eq, nat_le, List, [], length, take, Option}
use Rattle.lk_tree.specs.Tree.{Name, Level, Tree, const}
use Rattle.lk_tree.specs.Spine.{apply, head, args}
use Rattle.lk_rulebook.specs.Place.{Place, Kind}
use Rattle.lk_rulebook.specs.Claims.{Claim}
use Rattle.lk_questions.specs.Iota.{levels_at}
use Rattle.lk_questions.specs.Steps.{is_same_tree}
use Rattle.lk_questions.specs.Tests.{◌>>=◌, test}
use Rattle.lk_written.specs.Premises.{Left, as_const, typed, reduced}
use Rattle.lk_constructor.specs.Looking.{ctor_at}
use Rattle.lk_premises.specs.Reading.{ends_equal}
use Rattle.lk_replay_iota.specs.Recursors.{Ruled, only_ruled, ruled_in}

-- d => D, T == D
unfoldable pub types_agree : List Claim → Left → Tree → Tree → Option (Unit {0})
types_agree ps js T d = do
  D ← typed ps js d
  ends_equal ps D.1 T D.0

-- d is h, applied to the first p arguments of T
abbrev pub is_front : Tree → ℕ → Tree → Tree → Bool
is_front h p T d = nat_le p (length (args T)) && is_same_tree d (apply h (take p (args T)))

-- the same of c at these levels, and the types agree
abbrev pub candidate_read : List Claim → Left → Name → ℕ → List Level → Tree → Tree →
    Option (Unit {0})
candidate_read ps js c p ls T d = do
  x ← test (is_front (const c ls) p T d)
  types_agree ps js T d

-- the same, where T is J at these levels
abbrev pub typed_read : List Claim → Left → Name → Name → ℕ → Tree → Tree → Option (Unit {0})
typed_read ps js c J p T d = do
  ls ← levels_at J (head T)
  candidate_read ps js c p ls T d

-- e => T0, T0 >> T
abbrev pub constructor_read : List Claim → Left → Tree → Tree → Name → Name → ℕ →
    Option (Unit {0})
constructor_read ps js e d c J p = do
  T₀ ← typed ps js e
  T ← reduced ps T₀.1 T₀.0
  typed_read ps T.1 c J p T.0 d

-- the same of the constructor of this name
abbrev pub name_read : Place → List Claim → Left → Tree → Tree → Name → Option (Unit {0})
name_read w ps js e d c = do
  k ← ctor_at w c [] []
  constructor_read ps js e d c k.ind.name k.ctor.parameters

-- the same of the constructor of a rule, where the recursor has K and just the arguments before its
-- major premise
abbrev pub rule_read : Place → List Claim → Left → Tree → Tree → Tree → Ruled → Option (Unit {0})
rule_read w ps js f e d u = do
  x ← test (u.k && nat_eq (length (args f)) u.before)
  name_read w ps js e d u.rule.ctor

-- the same of the only rule of a recursor
abbrev pub entry_read : Place → List Claim → Left → Kind → Tree → Tree → Tree → Option (Unit {0})
entry_read w ps js kind f e d = do
  u ← ruled_in only_ruled kind
  rule_read w ps js f e d u

-- the same of the recursor at the head of f
abbrev pub function_read : Place → List Claim → Left → Tree → Tree → Tree → Option (Unit {0})
function_read w ps js f e d = do
  c ← as_const (head f)
  g ← w.means c.0
  entry_read w ps js g.kind f e d
