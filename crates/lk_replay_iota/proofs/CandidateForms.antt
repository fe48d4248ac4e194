-- A major premise that is taken for a constructor because of its type.
use Rattle.std.proofs.Common.{◌≡◌, ℕ, Bool, true, false, ◌&&◌, nat_eq, nat_le, List, [], length, take, Option, Some, None, refl, sym, ap, ◌∙◌, if◌then◌else◌}
use Rattle.lk_tree.specs.Tree.{Name, Level, Tree, const, app}
use Rattle.lk_tree.specs.Mentions.{same_name}
use Rattle.lk_tree.specs.Spine.{apply, head, args}
use Rattle.lk_rulebook.specs.Place.{Place, Entry, Kind, Block, BlockType, Ctor, Recursor, RecRule, an_axiom, a_def, a_thm, an_opaque, a_quot, a_type, a_ctor, a_rec}
use Rattle.lk_rulebook.specs.Structures.{before_major}
use Rattle.lk_rulebook.specs.Claims.{Claim}
use Rattle.lk_questions.specs.Iota.{CtorApp, levels_at}
use Rattle.lk_questions.specs.Steps.{is_same_tree}
use Rattle.lk_questions.specs.Tests.{◌>>=◌, test}
use Rattle.lk_written.specs.Premises.{Left, as_const, ends, typed, reduced, equal}
use Rattle.lk_written.specs.Reducing.{the_ctor, the_recursor, the_rule, red_k}
use Rattle.lk_constructor.specs.Looking.{ctor_at}
use Rattle.lk_premises.specs.Reading.{ends_equal}
use Rattle.lk_premises.proofs.Binding.{bind_bind, bind_same}
use Rattle.lk_replay_iota.specs.Recursors.{Ruled, ruled_by, only_ruled}
use Rattle.lk_replay_iota.specs.Candidates.{types_agree, candidate_read, typed_read, constructor_read, rule_read, entry_read, function_read}
use Rattle.lk_replay_iota.proofs.AtConstructor.{by_name}
use Rattle.lk_replay_iota.proofs.RuleForms.{some_then, major_then, found_recursor}

-- three tests as two
three_tests : {A : Type 0} (a b c : Bool) (k : Option A) → (test (a && b) >>= λ u. test c >>= λ v. k) ≡ (test a >>= λ u. test (b && c) >>= λ v. k)
three_tests true true c k = refl
three_tests true false c k = refl
three_tests false b c k = refl

-- the levels of a type, by its name
pub by_levels : {A : Type 0} (J : Name) (h : Tree) (k : List Level → Option A) → (as_const h >>= λ c. test (same_name J c.0) >>= λ u. k c.1) ≡ (levels_at J h >>= k)
by_levels J (const c ks) k = go (same_name J c)
  where
    go : (b : Bool) → (test b >>= λ u. k ks) ≡ ((if b then Some ks else None) >>= k)
    go true = refl
    go false = refl
by_levels J _ k = refl

-- tests that stand apart
tests_apart : {X : Type 0} (t s k : Bool) (o : Option X) (f : X → Option (Unit {0})) → (test t >>= λ u. test (s && k) >>= λ v. o >>= f) ≡ (test s >>= λ u. o >>= λ x. test (k && t) >>= λ z. f x)
tests_apart true true true (Some x) f = refl
tests_apart true true true None f = refl
tests_apart true true false (Some x) f = refl
tests_apart true true false None f = refl
tests_apart true false k o f = refl
tests_apart false true true (Some x) f = refl
tests_apart false true true None f = refl
tests_apart false true false (Some x) f = refl
tests_apart false true false None f = refl
tests_apart false false k o f = refl

pub none_behind : {A : Type 0} (o : Option A) (k : A → Option (Unit {0})) → ((v : A) → k v ≡ None) → (o >>= k) ≡ None
none_behind (Some v) k e = e v
none_behind None k e = refl

-- a test that comes first
pub test_first : {A B : Type 0} (s : Bool) (o : Option A) (p : A → Option B) (k : A → B → Option (Unit {0})) →
    (o >>= λ c. p c >>= λ y. test s >>= λ u. k c y) ≡ (test s >>= λ u. o >>= λ c. p c >>= λ y. k c y)
test_first true o p k = refl
test_first false o p k = none_behind o _ (λ c. none_behind (p c) _ (λ y. refl))

module _ (w : Place) (ps : List Claim) (js : Left) (e d : Tree) where
  -- behind the constructor
  by_candidate : (c J : Name) (p : ℕ) →
      (typed ps js e >>= λ T₀. reduced ps T₀.1 T₀.0 >>= λ T. as_const (head T.0) >>= λ x. test (same_name J x.0 && nat_le p (length (args T.0))) >>= λ v.
      test (is_same_tree d (apply (const c x.1) (take p (args T.0)))) >>= λ y. typed ps T.1 d >>= λ D. equal ps D.1 T.0 D.0 >>= λ r. ends r)
      ≡ constructor_read ps js e d c J p
  unfolding types_agree ends_equal
  by_candidate c J p =
      bind_same (typed ps js e) _ _
      (λ T₀. bind_same (reduced ps T₀.1 T₀.0) _ _
      (λ T. bind_same (as_const (head T.0)) _ _
      (λ x. three_tests (same_name J x.0) (nat_le p (length (args T.0))) (is_same_tree d (apply (const c x.1) (take p (args T.0)))) (types_agree ps T.1 T.0 d))
      ∙ by_levels J (head T.0) (λ ls. candidate_read ps T.1 c p ls T.0 d)))

  -- behind the only rule
  abbrev long : RecRule → Option (Unit {0})
  long rule = do
    m ← w.means rule.ctor
    k ← the_ctor m.kind
    T₀ ← typed ps js e
    T ← reduced ps T₀.1 T₀.0
    J ← as_const (head T.0)
    v ← test (same_name k.1.name J.0 && nat_le k.2.parameters (length (args T.0)))
    x ← test (is_same_tree d (apply (const rule.ctor J.1) (take k.2.parameters (args T.0))))
    D ← typed ps T.1 d
    r ← equal ps D.1 T.0 D.0
    ends r

  by_rule : (rule : RecRule) → long rule ≡ (ctor_at w rule.ctor [] [] >>= λ k. constructor_read ps js e d rule.ctor k.ind.name k.ctor.parameters)
  by_rule rule =
      bind_same (w.means rule.ctor) _ _ (λ m. bind_same (the_ctor m.kind) _ _ (λ k. by_candidate rule.ctor k.1.name k.2.parameters))
      ∙ by_name w [] rule.ctor [] (λ B t k. constructor_read ps js e d rule.ctor t.name k.parameters)

  module _ (f g : Tree) where
    -- behind the recursor
    abbrev behind : Name × List Level × Entry × Recursor → Option (Unit {0})
    behind R = do
      u ← test (is_same_tree g f && R.3.k)
      rule ← the_rule R.3.rules
      long rule

    by_recursor : (c : Name × List Level) (y : Entry) (kd : Kind) →
        (found_recursor (length (args f)) c y kd >>= behind) ≡ (test (is_same_tree g f) >>= λ u. entry_read w ps js kd f e d)
    by_recursor c y (a_rec r) =
        some_then (test (nat_eq (length (args f)) (before_major r))) (λ u. (c.0, c.1, y, r)) behind
        ∙ tests_apart (nat_eq (length (args f)) (before_major r)) (is_same_tree g f) r.k (the_rule r.rules) long
        ∙ bind_same (test (is_same_tree g f)) _ _
        (λ u. bind_same (the_rule r.rules) _ _ (λ x. bind_same (test (r.k && nat_eq (length (args f)) (before_major r))) _ _ (λ z. by_rule x))
        ∙ sym (some_then (the_rule r.rules) (λ x. ruled_by r x) (λ u. rule_read w ps js f e d u)))
    by_recursor c y _ = sym (none_behind (test (is_same_tree g f)) _ (λ u. refl))

    pub k_read : red_k w ps js (app f e) (app g d) ≡ (test (is_same_tree g f) >>= λ u. function_read w ps js f e d)
    k_read =
        major_then w (head f) (length (args f)) behind
        ∙ bind_same (as_const (head f)) _ _ (λ c. bind_same (w.means c.0) _ _ (λ y. by_recursor c y y.kind))
        ∙ test_first (is_same_tree g f) (as_const (head f)) (λ c. w.means c.0) (λ c y. entry_read w ps js y.kind f e d)
