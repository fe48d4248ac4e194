-- Lines of typing, a test for each rule: e => T.
use Rattle.std.specs.Prelude.{ℕ, zero, suc, ◌+◌, Bool, true, false, ◌&&◌, nat_eq, nat_lt, List, []}
use Rattle.std.specs.Prelude.{◌∷◌, length, Option, Some, None}
use Rattle.lk_tree.specs.Tree.{Name, succ_level, imax_level, Tree, sort, const, lam, pi, let_in}
use Rattle.lk_tree.specs.Tree.{proj, lit, str, local}
use Rattle.lk_tree.specs.Bind.{opened, has_var}
use Rattle.lk_tree.specs.Level.{is_zero_level}
use Rattle.lk_tree.specs.Levels.{put_levels}
use Rattle.lk_tree.specs.Spine.{head, args}
use Rattle.lk_rulebook.specs.Place.{Place, Kind, Block, BlockType, Ctor, a_type}
use Rattle.lk_rulebook.specs.Names.{named, nat, string}
use Rattle.lk_tree.specs.Mentions.{same_name}
use Rattle.lk_questions.specs.Steps.{is_same_tree}
use Rattle.lk_questions.specs.Shapes.{nat_shape, string_shape}
use Rattle.lk_rulebook.specs.Claims.{Claim}
use Rattle.lk_written.specs.Line.{TypingRule, sort_rule, local_rule, const_rule, app_rule, let_rule}
use Rattle.lk_written.specs.Line.{lit_rule, str_rule, proj_rule, lam_rule, pi_rule}
use Rattle.lk_questions.specs.Tests.{◌>>=◌, test, found}
use Rattle.lk_written.specs.Premises.{as_const, fresh_local, Left, ends, typing, typed, reduced}
use Rattle.lk_written.specs.Premises.{equal, to_pi, sorted, is_prop_by, arguments_over}

-- T is this tree, and no premise is left
abbrev pub comes_to : Tree → Tree → Left → Option (Unit {0})
comes_to T e js = do
  u ← ends js
  test (is_same_tree T e)

abbrev pub type_sort : Left → Tree → Tree → Option (Unit {0})
type_sort js (sort l) T = comes_to T (sort (succ_level l)) js
type_sort js _ T = None

abbrev pub type_local : Left → Tree → Tree → Option (Unit {0})
type_local js (local k A) T = comes_to T A js
type_local js _ T = None

abbrev pub type_const : Place → Left → Tree → Tree → Option (Unit {0})
type_const w js (const c ls) T = do
  g ← w.means c
  u ← test (nat_eq (length ls) (length g.levels))
  comes_to T (put_levels g.levels ls g.type) js
type_const w js _ T = None

-- for each x: F >> Pi A B, x => X, X == A; then F is B[x]
abbrev pub applied_type : List Claim → Left → Tree → List Tree → Option (Tree × Left)
applied_type ps js F [] = Some (F, js)
applied_type ps js F (x ∷ xs) = do
  p ← to_pi ps js F
  X ← typed ps p.1 x
  r ← equal ps X.1 X.0 p.0.0
  applied_type ps r (opened p.0.1 x) xs

-- f => F; e is f x1 .. xn, n at least 1, f as the first premise states it
abbrev pub type_app : List Claim → Left → Tree → Tree → Option (Unit {0})
type_app ps js e T = do
  f ← typing ps js
  xs ← arguments_over f.left e []
  F ← applied_type ps f.after f.right xs
  comes_to T F.0 F.1

-- sort A = l, b[x] => B[x]
abbrev pub type_lam : List Claim → Left → Tree → Tree → Tree → Option (Unit {0})
type_lam ps js x (lam A b) (pi C B) = do
  u ← test (is_same_tree C A)
  k ← fresh_local A (lam A b ∷ pi A B ∷ []) x
  l ← sorted ps js A
  T ← typed ps l.1 (opened b (local k A))
  comes_to T.0 (opened B (local k A)) T.1
type_lam ps js x _ _ = None

-- sort A = u, sort of B[x] = v
abbrev pub type_pi : List Claim → Left → Tree → Tree → Tree → Option (Unit {0})
type_pi ps js x (pi A B) T = do
  k ← fresh_local A (pi A B ∷ []) x
  u ← sorted ps js A
  v ← sorted ps u.1 (opened B (local k A))
  comes_to T (sort (imax_level u.0 v.0)) v.1
type_pi ps js x _ T = None

-- sort A = l, v => V, V == A, b[v] => B
abbrev pub type_let : List Claim → Left → Tree → Tree → Option (Unit {0})
type_let ps js (let_in A v b) T = do
  l ← sorted ps js A
  V ← typed ps l.1 v
  r ← equal ps V.1 V.0 A
  B ← typed ps r (opened b v)
  comes_to T B.0 B.1
type_let ps js _ T = None

abbrev pub type_lit : Place → Left → Tree → Tree → Option (Unit {0})
type_lit w js (lit n) T = do
  u ← found w nat_shape
  comes_to T (named nat) js
type_lit w js _ T = None

abbrev pub type_str : Place → Left → Tree → Tree → Option (Unit {0})
type_str w js (str s) T = do
  u ← found w string_shape
  comes_to T (named string) js
type_str w js _ T = None

-- r >> Pi A B for each of the first n of bs, which is put for it
abbrev pub past : List Claim → Left → List Tree → ℕ → Tree → Option (Tree × Left)
past ps js bs zero r = Some (r, js)
past ps js (b ∷ bs) (suc n) r = do
  p ← to_pi ps js r
  past ps p.1 bs n (opened p.0.1 b)
past ps js [] (suc n) r = None

-- A is a proposition, where that is due
abbrev pub prop_if : Bool → List Claim → Left → Tree → Option Left
prop_if true ps js A = is_prop_by ps js A
prop_if false ps js A = Some js

-- r >> Pi A B for each field from number j on, up to the one that is n further on; after each Pi
-- that its domain is a proposition, where q holds and, before the last, B mentions the variable
abbrev pub field_of : List Claim → Left → Name → Tree → Bool → ℕ → ℕ → Tree → Option (Tree × Left)
field_of ps js S s q j zero r = do
  p ← to_pi ps js r
  t ← prop_if q ps p.1 p.0.0
  Some (p.0.0, t)
field_of ps js S s q j (suc n) r = do
  p ← to_pi ps js r
  t ← prop_if (q && has_var 0 p.0.1) ps p.1 p.0.0
  field_of ps t S s q (suc j) n (opened p.0.1 (proj S j s))

abbrev pub the_type : Kind → Option (Block × BlockType)
the_type (a_type block ind) = Some (block, ind)
the_type _ = None

abbrev pub the_one : List Ctor → Option Ctor
the_one (c ∷ []) = Some c
the_one _ = None

-- s => T0, T0 >> T, sort T = l; then the Pis of the constructor's type
abbrev pub type_proj : Place → List Claim → Left → Tree → Tree → Option (Unit {0})
type_proj w ps js (proj S i s) A = do
  T₀ ← typed ps js s
  T ← reduced ps T₀.1 T₀.0
  h ← as_const (head T.0)
  u ← test (same_name h.0 S)
  g ← w.means S
  t ← the_type g.kind
  c ← the_one t.1.ctors
  v ← test ((nat_eq (length (args T.0)) (t.1.parameters + t.1.indices)
      && nat_eq (length h.1) (length c.levels)) && nat_lt i c.fields)
  l ← sorted ps T.1 T.0
  r ← past ps l.1 (args T.0) t.1.parameters (put_levels c.levels h.1 c.type)
  F ← field_of ps r.1 S s (is_zero_level l.0) 0 i r.0
  comes_to A F.0 F.1
type_proj w ps js _ A = None

abbrev pub type_test : Place → List Claim → TypingRule → Tree → Tree → Left → Option (Unit {0})
type_test w ps sort_rule e T js = type_sort js e T
type_test w ps local_rule e T js = type_local js e T
type_test w ps const_rule e T js = type_const w js e T
type_test w ps app_rule e T js = type_app ps js e T
type_test w ps (lam_rule x) e T js = type_lam ps js x e T
type_test w ps (pi_rule x) e T js = type_pi ps js x e T
type_test w ps let_rule e T js = type_let ps js e T
type_test w ps lit_rule e T js = type_lit w js e T
type_test w ps str_rule e T js = type_str w js e T
type_test w ps proj_rule e T js = type_proj w ps js e T
