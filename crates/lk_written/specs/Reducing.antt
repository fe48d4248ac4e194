-- Lines of reduction, a test for each rule: a >> b.
use Rattle.std.specs.Prelude.{ℕ, ◌+◌, Bool, true, false, ◌&&◌, not, nat_eq, nat_le, List, [], ◌∷◌}
use Rattle.std.specs.Prelude.{◌++◌, length, take, drop, Option, Some, None, slice_get}
use Rattle.lk_tree.specs.Tree.{Name, Level, Tree, const, app, lam, let_in, proj}
use Rattle.lk_tree.specs.Bind.{opened}
use Rattle.lk_tree.specs.Level.{is_zero_level}
use Rattle.lk_tree.specs.Levels.{put_levels}
use Rattle.lk_tree.specs.Spine.{apply, head, args}
use Rattle.lk_tree.specs.Operations.{op_value}
use Rattle.lk_rulebook.specs.Place.{Place, Entry, Kind, Block, BlockType, Ctor, Recursor, RecRule}
use Rattle.lk_rulebook.specs.Place.{a_ctor, a_rec}
use Rattle.lk_rulebook.specs.Names.{quot_mk, quot_lift, quot_ind}
use Rattle.lk_tree.specs.Mentions.{same_name}
use Rattle.lk_rulebook.specs.Structures.{is_structure_like, projections, before_indices}
use Rattle.lk_rulebook.specs.Structures.{before_major}
use Rattle.lk_rulebook.specs.Literals.{may_give}
use Rattle.lk_questions.specs.Steps.{is_same_tree, value_of}
use Rattle.lk_questions.specs.Core.{lambdas, beta}
use Rattle.lk_questions.specs.Shapes.{nat_shape}
use Rattle.lk_questions.specs.Strings.{text_to_ctor}
use Rattle.lk_questions.specs.Literals.{ops, op_named, numeral_of, result_of}
use Rattle.lk_questions.specs.Iota.{has_one_ctor}
use Rattle.lk_questions.specs.Quotients.{by_quot}
use Rattle.lk_rulebook.specs.Claims.{Claim}
use Rattle.lk_written.specs.Line.{ReductionRule, chain_rule, head_rule, beta_rule, zeta_rule}
use Rattle.lk_written.specs.Line.{delta_rule, field_rule, major_rule, k_rule, expand_rule}
use Rattle.lk_written.specs.Line.{lift_rule, ind_rule, operation_rule, iota_rule}
use Rattle.lk_questions.specs.Tests.{◌>>=◌, test, found}
use Rattle.lk_written.specs.Premises.{as_const, Left, ends, typed, reduction, reduced, equal}
use Rattle.lk_written.specs.Premises.{sorted, arguments_over}
use Rattle.lk_written.specs.Typing.{comes_to}
use Rattle.lk_questions.specs.Tests.{reads}

-- a >> c, c >> b
abbrev pub red_chain : List Claim → Left → Tree → Tree → Option (Unit {0})
red_chain ps js a b = do
  c ← reduction ps js
  d ← reduction ps c.after
  u ← test (is_same_tree c.left a && is_same_tree d.left c.right)
  comes_to b d.right d.after

-- f >> g; a is f x1 .. xn, n at least 1, f as the premise states it
abbrev pub red_head : List Claim → Left → Tree → Tree → Option (Unit {0})
red_head ps js a b = do
  f ← reduction ps js
  xs ← arguments_over f.left a []
  comes_to b (apply f.right xs) f.after

abbrev pub is_applied_lam : Tree → List Tree → Bool
is_applied_lam (lam A b) (x ∷ xs) = true
is_applied_lam _ _ = false

-- as many of the lambdas at the head as there are arguments for are opened with them
abbrev pub red_beta : Left → Tree → Tree → Option (Unit {0})
red_beta js a b = do
  u ← test (is_applied_lam (head a) (args a))
  comes_to b (beta (lambdas (head a)) (head a) (args a)) js

abbrev pub opened_let : Tree → Option Tree
opened_let (let_in A v b) = Some (opened b v)
opened_let _ = None

abbrev pub red_zeta : Left → Tree → Tree → Option (Unit {0})
red_zeta js a b = do
  h ← opened_let (head a)
  comes_to b (apply h (args a)) js

abbrev pub red_delta : Place → Left → Tree → Tree → Option (Unit {0})
red_delta w js a b = do
  c ← as_const (head a)
  g ← w.means c.0
  v ← value_of g.kind
  u ← test (nat_eq (length c.1) (length g.levels))
  comes_to b (apply (put_levels g.levels c.1 v) (args a)) js

abbrev pub the_ctor : Kind → Option (Block × BlockType × Ctor)
the_ctor (a_ctor block ind c) = Some (block, ind, c)
the_ctor _ = None

abbrev pub the_recursor : Kind → Option Recursor
the_recursor (a_rec r) = Some r
the_recursor _ = None

abbrev pub the_rule : List RecRule → Option RecRule
the_rule (r ∷ []) = Some r
the_rule _ = None

-- s >> m
abbrev pub red_field : Place → List Claim → Left → Tree → Tree → Option (Unit {0})
red_field w ps js (proj S i s) b = do
  m ← reduced ps js s
  x ← found w (text_to_ctor m.0)
  h ← as_const (head x)
  g ← w.means h.0
  c ← the_ctor g.kind
  u ← test (same_name c.1.name S)
  y ← slice_get (args x) (c.2.parameters + i)
  comes_to b y m.1
red_field w ps js _ b = None

-- the recursor, where h is one that takes so many arguments before the major premise
abbrev pub major_of : Place → Tree → ℕ → Option (Name × List Level × Entry × Recursor)
major_of w h n = do
  R ← as_const h
  g ← w.means R.0
  r ← the_recursor g.kind
  u ← test (nat_eq n (before_major r))
  Some (R.0, R.1, g, r)

-- e >> m
abbrev pub red_major : Place → List Claim → Left → Tree → Tree → Option (Unit {0})
red_major w ps js (app f e) (app g n) = do
  R ← major_of w (head f) (length (args f))
  u ← test (is_same_tree g f)
  m ← reduced ps js e
  v ← reads w m.0 n
  ends m.1
red_major w ps js _ _ = None

abbrev pub red_iota : Place → ℕ → Left → Tree → Tree → Option (Unit {0})
red_iota w i js (app f e) b = do
  R ← major_of w (head f) (length (args f))
  rule ← slice_get R.3.rules i
  c ← as_const (head e)
  g ← w.means c.0
  k ← the_ctor g.kind
  u ← test ((same_name rule.ctor c.0 && nat_eq (length R.1) (length R.2.levels))
      && nat_eq (length (args e)) (k.2.parameters + rule.fields))
  comes_to b (apply (apply (put_levels R.2.levels R.1 rule.value)
      (take (before_indices R.3) (args f))) (drop k.2.parameters (args e))) js
red_iota w i js _ b = None

-- e => T0, T0 >> T, d => D, T == D
abbrev pub red_k : Place → List Claim → Left → Tree → Tree → Option (Unit {0})
red_k w ps js (app f e) (app g d) = do
  R ← major_of w (head f) (length (args f))
  u ← test (is_same_tree g f && R.3.k)
  rule ← the_rule R.3.rules
  m ← w.means rule.ctor
  k ← the_ctor m.kind
  T₀ ← typed ps js e
  T ← reduced ps T₀.1 T₀.0
  J ← as_const (head T.0)
  v ← test (same_name k.1.name J.0 && nat_le k.2.parameters (length (args T.0)))
  x ← test (is_same_tree d (apply (const rule.ctor J.1) (take k.2.parameters (args T.0))))
  D ← typed ps T.1 d
  r ← equal ps D.1 T.0 D.0
  ends r
red_k w ps js _ _ = None

-- m => T0, T0 >> T, sort T = l
abbrev pub red_expand : Place → List Claim → Left → Tree → Tree → Option (Unit {0})
red_expand w ps js (app f m) (app g n) = do
  R ← major_of w (head f) (length (args f))
  u ← test (is_same_tree g f)
  rule ← the_rule R.3.rules
  e ← w.means rule.ctor
  k ← the_ctor e.kind
  T₀ ← typed ps js m
  T ← reduced ps T₀.1 T₀.0
  J ← as_const (head T.0)
  v ← test (same_name k.1.name J.0 && (has_one_ctor k.1.ctors
      && (is_structure_like k.0 k.1 k.2 && nat_eq (length (args T.0)) k.2.parameters)))
  x ← test (is_same_tree n (apply (const rule.ctor J.1)
      (args T.0 ++ projections J.0 m 0 k.2.fields)))
  l ← sorted ps T.1 T.0
  y ← test (not (is_zero_level l.0))
  ends l.1
red_expand w ps js _ _ = None

-- c is given by a quot unit
abbrev pub is_quot : Place → Name → Option (Unit {0})
is_quot w c = do
  g ← w.means c
  test (by_quot g.kind)

-- e is Quot.mk A r a
abbrev pub mk_of : Tree → List Tree → Option Tree
mk_of (const c ks) (A ∷ r ∷ a ∷ []) = do
  u ← test (same_name c quot_mk)
  Some a
mk_of _ _ = None

-- m >> Quot.mk A' r' a
abbrev pub red_quot : Place → List Claim → Left → Name → Name → Tree → Tree → Tree →
    Option (Unit {0})
red_quot w ps js c q f m b = do
  u ← test (same_name c q)
  v ← is_quot w q
  x ← is_quot w quot_mk
  n ← reduced ps js m
  a ← mk_of (head n.0) (args n.0)
  comes_to b (app f a) n.1

abbrev pub red_lift : Place → List Claim → Left → Tree → Tree → Option (Unit {0})
red_lift w ps js (app (app (app (app (app (app (const c ls) A) r) B) f) h) m) b =
    red_quot w ps js c quot_lift f m b
red_lift w ps js _ b = None

abbrev pub red_ind : Place → List Claim → Left → Tree → Tree → Option (Unit {0})
red_ind w ps js (app (app (app (app (app (const c ls) A) r) B) h) m) b =
    red_quot w ps js c quot_ind h m b
red_ind w ps js _ b = None

abbrev pub no_levels : List Level → Option (Unit {0})
no_levels [] = Some tt
no_levels (l ∷ ls) = None

-- each argument >> a numeral
abbrev pub numbers : List Claim → Left → List Tree → Option (List ℕ × Left)
numbers ps js [] = Some ([], js)
numbers ps js (e ∷ es) = do
  v ← reduced ps js e
  n ← numeral_of v.0
  ns ← numbers ps v.1 es
  Some (n ∷ ns.0, ns.1)

abbrev pub tree_in : Option Tree → Option Tree
tree_in (Some t) = Some t
tree_in None = None

abbrev pub red_operation : Place → List Claim → Left → Tree → Tree → Option (Unit {0})
red_operation w ps js a b = do
  c ← as_const (head a)
  u ← no_levels c.1
  op ← op_named ops c.0
  g ← w.means c.0
  v ← test (may_give op g.kind)
  s ← found w nat_shape
  ns ← numbers ps js (args a)
  o ← found w (result_of (op_value op ns.0))
  r ← tree_in o
  comes_to b r ns.1

abbrev pub red_test : Place → List Claim → ReductionRule → Tree → Tree → Left → Option (Unit {0})
red_test w ps chain_rule a b js = red_chain ps js a b
red_test w ps head_rule a b js = red_head ps js a b
red_test w ps beta_rule a b js = red_beta js a b
red_test w ps zeta_rule a b js = red_zeta js a b
red_test w ps delta_rule a b js = red_delta w js a b
red_test w ps field_rule a b js = red_field w ps js a b
red_test w ps major_rule a b js = red_major w ps js a b
red_test w ps (iota_rule i) a b js = red_iota w i js a b
red_test w ps k_rule a b js = red_k w ps js a b
red_test w ps expand_rule a b js = red_expand w ps js a b
red_test w ps lift_rule a b js = red_lift w ps js a b
red_test w ps ind_rule a b js = red_ind w ps js a b
red_test w ps operation_rule a b js = red_operation w ps js a b
