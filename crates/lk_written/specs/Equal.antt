-- Lines of conversion, a test for each rule: a == b.
use Rattle.std.specs.Prelude.{ℕ, zero, suc, ◌+◌, Bool, true, false, ◌&&◌, nat_eq, List, [], ◌∷◌}
use Rattle.std.specs.Prelude.{length, drop, Option, Some, None}
use Rattle.lk_tree.specs.Tree.{Name, Tree, sort, const, app, lam, pi, let_in, proj, lit, str, local}
use Rattle.lk_tree.specs.Bind.{opened}
use Rattle.lk_tree.specs.LevelTest.{level_test}
use Rattle.lk_tree.specs.Spine.{head, args}
use Rattle.lk_rulebook.specs.Place.{Place}
use Rattle.lk_rulebook.specs.Names.{named, nat_zero, nat_succ}
use Rattle.lk_tree.specs.Mentions.{same_name}
use Rattle.lk_rulebook.specs.Structures.{is_structure_like}
use Rattle.lk_questions.specs.Steps.{is_same_tree}
use Rattle.lk_questions.specs.Iota.{has_one_ctor}
use Rattle.lk_questions.specs.Eta.{is_unit_like}
use Rattle.lk_questions.specs.Same.{eta_long}
use Rattle.lk_questions.specs.Strings.{expansion_of}
use Rattle.lk_rulebook.specs.Claims.{Claim}
use Rattle.lk_written.specs.Line.{EqualityRule, reduce_rule, sorts_rule, consts_rule, apps_rule}
use Rattle.lk_written.specs.Line.{projs_rule, lams_rule, pis_rule, eta_rule, struct_left_rule}
use Rattle.lk_written.specs.Line.{struct_right_rule, unit_rule, proof_rule, zero_rule, succ_rule}
use Rattle.lk_written.specs.Line.{str_left_rule, str_right_rule}
use Rattle.lk_questions.specs.Tests.{◌>>=◌, test, found, is_true, same_levels}
use Rattle.lk_written.specs.Premises.{as_const, fresh_local, Left, ends, typed, reduced, equal}
use Rattle.lk_written.specs.Premises.{to_pi, is_prop_by}
use Rattle.lk_written.specs.Typing.{comes_to, the_type}
use Rattle.lk_written.specs.Reducing.{the_ctor, tree_in}

-- the head is no Lam and no Let
abbrev pub is_neutral : Tree → Bool
is_neutral (app f a) = is_neutral f
is_neutral (lam A b) = false
is_neutral (let_in A v b) = false
is_neutral e = true

-- no step of beta or zeta is at the head
abbrev pub is_head_normal : Tree → Bool
is_head_normal (lam A b) = true
is_head_normal e = is_neutral e

-- a >> a', b >> b', a' == b'
abbrev pub eq_reduce : List Claim → Left → Tree → Tree → Option (Unit {0})
eq_reduce ps js a b = do
  a' ← reduced ps js a
  b' ← reduced ps a'.1 b
  r ← equal ps b'.1 a'.0 b'.0
  ends r

abbrev pub eq_sorts : Left → Tree → Tree → Option (Unit {0})
eq_sorts js (sort l) (sort m) = do
  u ← ends js
  test (is_true (level_test l m))
eq_sorts js _ _ = None

abbrev pub eq_consts : Left → Tree → Tree → Option (Unit {0})
eq_consts js (const c ls) (const d ms) = do
  u ← ends js
  test (same_name d c && same_levels ls ms)
eq_consts js _ _ = None

-- x == y for each pair
abbrev pub pairs_equal : List Claim → Left → List (Tree × Tree) → Option Left
pairs_equal ps js [] = Some js
pairs_equal ps js (p ∷ more) = do
  r ← equal ps js p.0 p.1
  pairs_equal ps r more

-- a is f x1 .. xn and b is g y1 .. yn, n the least from 1 on where f and g are one tree or the next
-- premise states f == g; then xi == yi. more: the pairs of arguments that a and b are applied to
abbrev pub spines_equal : List Claim → Left → Tree → Tree → List (Tree × Tree) → Option Left
spines_equal ps js (app f x) (app g y) more =
    elim (equal ps js f g) [
      | Some r ↦ pairs_equal ps r ((x, y) ∷ more)
      | None ↦ spines_equal ps js f g ((x, y) ∷ more)
    ]
spines_equal ps js _ _ more = None

abbrev pub eq_apps : List Claim → Left → Tree → Tree → Option (Unit {0})
eq_apps ps js a b = do
  u ← test (is_neutral a && is_neutral b)
  r ← spines_equal ps js a b []
  ends r

-- A == A', b[x] == b'[x], where x is Local(k, A)
abbrev pub eq_bodies : List Claim → Left → ℕ → Tree × Tree → Tree × Tree → Option (Unit {0})
eq_bodies ps js k p q = do
  r ← equal ps js p.0 q.0
  s ← equal ps r (opened p.1 (local k p.0)) (opened q.1 (local k p.0))
  ends s

abbrev pub eq_lams : List Claim → Left → Tree → Tree → Tree → Option (Unit {0})
eq_lams ps js x (lam A b) (lam A' b') = do
  k ← fresh_local A (lam A b ∷ lam A' b' ∷ []) x
  eq_bodies ps js k (A, b) (A', b')
eq_lams ps js x _ _ = None

abbrev pub eq_pis : List Claim → Left → Tree → Tree → Tree → Option (Unit {0})
eq_pis ps js x (pi A B) (pi A' B') = do
  k ← fresh_local A (pi A B ∷ pi A' B' ∷ []) x
  eq_bodies ps js k (A, B) (A', B')
eq_pis ps js x _ _ = None

-- s == t
abbrev pub eq_projs : List Claim → Left → Tree → Tree → Option (Unit {0})
eq_projs ps js (proj S i s) (proj R j t) = do
  u ← test (same_name R S && nat_eq j i)
  r ← equal ps js s t
  ends r
eq_projs ps js _ _ = None

-- o => T, T >> Pi A B, the lambda over A of o == the other, in the order of the two
abbrev pub eq_eta : List Claim → Left → Tree → Tree → Option (Unit {0})
eq_eta ps js (lam A' b) o = do
  u ← test (is_neutral o)
  T ← typed ps js o
  p ← to_pi ps T.1 T.0
  r ← equal ps p.1 (lam A' b) (eta_long p.0.0 o)
  ends r
eq_eta ps js o (lam A' b) = do
  u ← test (is_neutral o)
  T ← typed ps js o
  p ← to_pi ps T.1 T.0
  r ← equal ps p.1 (eta_long p.0.0 o) (lam A' b)
  ends r
eq_eta ps js _ _ = None

-- Proj(J, j, a) == x for each x, with j rising
abbrev pub fields_equal : List Claim → Left → Name → Tree → ℕ → List Tree → Option Left
fields_equal ps js J a j [] = Some js
fields_equal ps js J a j (x ∷ xs) = do
  r ← equal ps js (proj J j a) x
  fields_equal ps r J a (suc j) xs

-- a => A, b => B, A == B, then a's fields == b's; a is head normal, b a constructor with all its
-- arguments, of a type that is structure-like
abbrev pub eq_struct : Place → List Claim → Left → Tree → Tree → Option (Unit {0})
eq_struct w ps js a b = do
  h ← as_const (head b)
  g ← w.means h.0
  k ← the_ctor g.kind
  u ← test (is_head_normal a && (nat_eq (length (args b)) (k.2.parameters + k.2.fields)
      && (has_one_ctor k.1.ctors && is_structure_like k.0 k.1 k.2)))
  A ← typed ps js a
  B ← typed ps A.1 b
  r ← equal ps B.1 A.0 B.0
  s ← fields_equal ps r k.1.name a 0 (drop k.2.parameters (args b))
  ends s

-- a => A, A >> T, b => B, A == B; both are head normal, T is unit-like
abbrev pub eq_unit : Place → List Claim → Left → Tree → Tree → Option (Unit {0})
eq_unit w ps js a b = do
  u ← test (is_head_normal a && is_head_normal b)
  A ← typed ps js a
  T ← reduced ps A.1 A.0
  h ← as_const (head T.0)
  g ← w.means h.0
  t ← the_type g.kind
  v ← test (is_unit_like t.0 t.1 t.1.ctors (args T.0))
  B ← typed ps T.1 b
  r ← equal ps B.1 A.0 B.0
  ends r

-- a => A, sort A = l, b => B, A == B; both are head normal, and l is 0
abbrev pub eq_proof : List Claim → Left → Tree → Tree → Option (Unit {0})
eq_proof ps js a b = do
  u ← test (is_head_normal a && is_head_normal b)
  A ← typed ps js a
  r ← is_prop_by ps A.1 A.0
  B ← typed ps r b
  s ← equal ps B.1 A.0 B.0
  ends s

abbrev pub eq_zero : Left → Tree → Tree → Option (Unit {0})
eq_zero js (lit zero) b = comes_to b (named nat_zero) js
eq_zero js a (lit zero) = comes_to a (named nat_zero) js
eq_zero js _ _ = None

-- Lit n == x, or x == Lit n
abbrev pub eq_succ : List Claim → Left → Tree → Tree → Option (Unit {0})
eq_succ ps js (lit (suc n)) (app f x) = do
  u ← test (is_same_tree f (named nat_succ))
  r ← equal ps js (lit n) x
  ends r
eq_succ ps js (app f x) (lit (suc n)) = do
  u ← test (is_same_tree f (named nat_succ))
  r ← equal ps js x (lit n)
  ends r
eq_succ ps js _ _ = None

-- the expansion of a == b
abbrev pub eq_str_left : Place → List Claim → Left → Tree → Tree → Option (Unit {0})
eq_str_left w ps js (str s) b = do
  o ← found w (expansion_of s)
  x ← tree_in o
  r ← equal ps js x b
  ends r
eq_str_left w ps js _ b = None

abbrev pub eq_str_right : Place → List Claim → Left → Tree → Tree → Option (Unit {0})
eq_str_right w ps js a (str s) = do
  o ← found w (expansion_of s)
  x ← tree_in o
  r ← equal ps js a x
  ends r
eq_str_right w ps js a _ = None

abbrev pub eq_test : Place → List Claim → EqualityRule → Tree → Tree → Left → Option (Unit {0})
eq_test w ps reduce_rule a b js = eq_reduce ps js a b
eq_test w ps sorts_rule a b js = eq_sorts js a b
eq_test w ps consts_rule a b js = eq_consts js a b
eq_test w ps apps_rule a b js = eq_apps ps js a b
eq_test w ps (lams_rule x) a b js = eq_lams ps js x a b
eq_test w ps (pis_rule x) a b js = eq_pis ps js x a b
eq_test w ps projs_rule a b js = eq_projs ps js a b
eq_test w ps eta_rule a b js = eq_eta ps js a b
eq_test w ps struct_left_rule a b js = eq_struct w ps js a b
eq_test w ps struct_right_rule a b js = eq_struct w ps js b a
eq_test w ps unit_rule a b js = eq_unit w ps js a b
eq_test w ps proof_rule a b js = eq_proof ps js a b
eq_test w ps zero_rule a b js = eq_zero js a b
eq_test w ps succ_rule a b js = eq_succ ps js a b
eq_test w ps str_left_rule a b js = eq_str_left w ps js a b
eq_test w ps str_right_rule a b js = eq_str_right w ps js a b
