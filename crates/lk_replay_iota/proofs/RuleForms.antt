-- The rules of recursors.
use Rattle.std.proofs.Common.{◌≡◌, ℕ, ◌+◌, Bool, true, false, ◌&&◌, nat_eq, List, length, take, drop, Option, Some, None, refl, sym, ap, ◌∙◌}
use Rattle.std.specs.Prelude.{slice_get}
use Rattle.lk_tree.specs.Tree.{Name, Level, Tree, app}
use Rattle.lk_tree.specs.Levels.{put_levels}
use Rattle.lk_tree.specs.Mentions.{same_name}
use Rattle.lk_tree.specs.Spine.{apply, head, args}
use Rattle.lk_rulebook.specs.Place.{Place, Entry, Kind, Block, BlockType, Ctor, Recursor, RecRule, an_axiom, a_def, a_thm, an_opaque, a_quot, a_type, a_ctor, a_rec}
use Rattle.lk_rulebook.specs.Structures.{before_indices, before_major}
use Rattle.lk_questions.specs.Iota.{CtorApp}
use Rattle.lk_questions.specs.Tests.{◌>>=◌, test}
use Rattle.lk_written.specs.Premises.{Left, as_const}
use Rattle.lk_written.specs.Reducing.{the_ctor, the_recursor, major_of, red_iota}
use Rattle.lk_written.specs.Typing.{comes_to}
use Rattle.lk_constructor.specs.Looking.{app_at}
use Rattle.lk_premises.proofs.Binding.{bind_bind, bind_same}
use Rattle.lk_replay_iota.specs.Recursors.{Ruled, ruled_by, nth_ruled}
use Rattle.lk_replay_iota.specs.Rules.{right_side, constructor_read, rule_read, entry_read}
use Rattle.lk_replay_iota.proofs.AtConstructor.{by_constructor}

-- the levels are tested last
levels_last : (a b c : Bool) (k : Option (Unit {0})) → (test ((a && b) && c) >>= λ u. k) ≡ (test (a && c) >>= λ u. test b >>= λ v. k)
levels_last true true true k = refl
levels_last true true false k = refl
levels_last true false true k = refl
levels_last true false false k = refl
levels_last false b c k = refl

-- a value that is made of another one
pub some_then : {A B C : Type 0} (o : Option A) (f : A → B) (k : B → Option C) → ((o >>= λ x. Some (f x)) >>= k) ≡ (o >>= λ x. k (f x))
some_then (Some x) f k = refl
some_then None f k = refl

-- a test that comes later
test_last : {X : Type 0} (t : Bool) (o : Option X) (f : X → Option (Unit {0})) → (test t >>= λ u. o >>= f) ≡ (o >>= λ x. test t >>= λ z. f x)
test_last true o f = refl
test_last false (Some x) f = refl
test_last false None f = refl

-- what a recursor goes on with: its name, its levels, its entry and itself
abbrev pub found_recursor : ℕ → Name × List Level → Entry → Kind → Option (Name × List Level × Entry × Recursor)
found_recursor n c g kd = do
  r ← the_recursor kd
  u ← test (nat_eq n (before_major r))
  Some (c.0, c.1, g, r)

-- a recursor is looked for with all that comes behind it
pub major_then : {A : Type 0} (w : Place) (h : Tree) (n : ℕ) (k : Name × List Level × Entry × Recursor → Option A) →
    (major_of w h n >>= k) ≡ (as_const h >>= λ c. w.means c.0 >>= λ g. found_recursor n c g g.kind >>= k)
major_then w h n k =
    sym (bind_bind (as_const h) (λ c. w.means c.0 >>= λ g. found_recursor n c g g.kind) k (λ c. w.means c.0 >>= λ g. found_recursor n c g g.kind >>= k)
    (λ c. bind_bind (w.means c.0) (λ g. found_recursor n c g g.kind) k (λ g. found_recursor n c g g.kind >>= k) (λ g. refl)))

module _ (w : Place) (i : ℕ) (js : Left) (f e b : Tree) where
  -- behind the recursor
  abbrev behind : Name × List Level × Entry × Recursor → Option (Unit {0})
  behind R = do
    rule ← slice_get R.3.rules i
    c ← as_const (head e)
    g ← w.means c.0
    k ← the_ctor g.kind
    u ← test ((same_name rule.ctor c.0 && nat_eq (length R.1) (length R.2.levels))
        && nat_eq (length (args e)) (k.2.parameters + rule.fields))
    comes_to b (apply (apply (put_levels R.2.levels R.1 rule.value) (take (before_indices R.3) (args f))) (drop k.2.parameters (args e))) js

  by_rule : (ls : List Level) (g : Entry) (r : Recursor) (rule : RecRule) →
      (as_const (head e) >>= λ c. w.means c.0 >>= λ d. the_ctor d.kind >>= λ k.
      test ((same_name rule.ctor c.0 && nat_eq (length ls) (length g.levels)) && nat_eq (length (args e)) (k.2.parameters + rule.fields)) >>= λ u.
      right_side js (put_levels g.levels ls rule.value) (before_indices r) f k.2.parameters e b)
      ≡ (app_at w (head e) (args e) >>= λ k. constructor_read js ls g.levels (ruled_by r rule) f e b k)
  by_rule ls g r rule =
      bind_same (as_const (head e)) _ _
      (λ c. bind_same (w.means c.0) _ _
      (λ d. bind_same (the_ctor d.kind) _ _
      (λ k. levels_last (same_name rule.ctor c.0) (nat_eq (length ls) (length g.levels)) (nat_eq (length (args e)) (k.2.parameters + rule.fields))
      (right_side js (put_levels g.levels ls rule.value) (before_indices r) f k.2.parameters e b))))
      ∙ by_constructor w (args e)
      (λ n B t k. test (same_name rule.ctor n && nat_eq (length (args e)) (k.parameters + rule.fields)) >>= λ u. test (nat_eq (length ls) (length g.levels)) >>= λ v.
      right_side js (put_levels g.levels ls rule.value) (before_indices r) f k.parameters e b)
      (head e)

  -- behind the rule
  abbrev long : List Level → Entry → Recursor → RecRule → Option (Unit {0})
  long ls g r rule = do
    c ← as_const (head e)
    d ← w.means c.0
    k ← the_ctor d.kind
    u ← test ((same_name rule.ctor c.0 && nat_eq (length ls) (length g.levels))
        && nat_eq (length (args e)) (k.2.parameters + rule.fields))
    right_side js (put_levels g.levels ls rule.value) (before_indices r) f k.2.parameters e b

  by_recursor : (c : Name × List Level) (g : Entry) (kd : Kind) →
      (found_recursor (length (args f)) c g kd >>= behind) ≡ ((the_recursor kd >>= nth_ruled i) >>= λ u. rule_read w js c.1 g.levels f e b u)
  by_recursor c g (a_rec r) =
      some_then (test (nat_eq (length (args f)) (before_major r))) (λ u. (c.0, c.1, g, r)) behind
      ∙ test_last (nat_eq (length (args f)) (before_major r)) (slice_get r.rules i) (long c.1 g r)
      ∙ bind_same (slice_get r.rules i) _ _ (λ x. bind_same (test (nat_eq (length (args f)) (before_major r))) _ _ (λ z. by_rule c.1 g r x))
      ∙ sym (some_then (slice_get r.rules i) (λ x. ruled_by r x) (λ u. rule_read w js c.1 g.levels f e b u))
  by_recursor c g _ = refl

  pub iota_read : red_iota w i js (app f e) b ≡ (as_const (head f) >>= λ c. w.means c.0 >>= λ g. entry_read w i js c.1 g f e b)
  iota_read =
      major_then w (head f) (length (args f)) behind
      ∙ bind_same (as_const (head f)) _ _ (λ c. bind_same (w.means c.0) _ _ (λ g. by_recursor c g g.kind))
