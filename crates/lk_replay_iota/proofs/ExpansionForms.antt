-- A major premise in the type of a structure.
use Rattle.std.proofs.Common.{◌≡◌, ℕ, Bool, true, false, ◌&&◌, nat_eq, List, [], ◌∷◌, ◌++◌, length, Option, Some, None, refl, sym, ap, ◌∙◌, if◌then◌else◌}
use Rattle.std.specs.Prelude.{not}
use Rattle.lk_tree.specs.Tree.{Name, Level, Tree, const, app, name_discrete}
use Rattle.lk_tree.specs.Level.{is_zero_level}
use Rattle.lk_tree.specs.Mentions.{same_name}
use Rattle.lk_tree.specs.Spine.{apply, head, args}
use Rattle.lk_rulebook.specs.Place.{Place, Entry, Kind, Block, BlockType, Ctor, Recursor, RecRule, an_axiom, a_def, a_thm, an_opaque, a_quot, a_type, a_ctor, a_rec}
use Rattle.lk_rulebook.specs.Structures.{is_structure_like, projections, before_major}
use Rattle.lk_rulebook.specs.Claims.{Claim}
use Rattle.lk_questions.specs.Iota.{CtorApp, has_one_ctor, levels_at}
use Rattle.lk_questions.specs.Steps.{is_same_tree}
use Rattle.lk_questions.specs.Tests.{◌>>=◌, test}
use Rattle.lk_written.specs.Premises.{Left, as_const, ends, typed, reduced, sorted}
use Rattle.lk_written.specs.Reducing.{the_ctor, the_recursor, the_rule, red_expand}
use Rattle.lk_constructor.specs.Looking.{ctor_at}
use Rattle.lk_store.specs.Contents.{Contents}
use Rattle.lk_mentions.specs.declared.structures.Structure.{Structure}
use Rattle.lk_mentions.specs.Structures.{is_alone, structure_by, IsStructureIf}
use Rattle.lk_premises.proofs.Binding.{bind_same}
use Rattle.lk_replay_iota.specs.Recursors.{Ruled, ruled_by, only_ruled}
use Rattle.lk_replay_iota.specs.Expansions.{sort_read, expansion_read, levels_read, constructor_read, rule_read, entry_read, function_read}
use Rattle.lk_replay_iota.proofs.CandidateForms.{none_behind, test_first}
use Rattle.lk_replay_iota.proofs.AtConstructor.{by_name}
use Rattle.lk_replay_iota.proofs.RuleForms.{some_then, major_then, found_recursor}

-- a type by its name, which is that of its head then
named_type : {A : Type 0} (J : Name) (h : Tree) (q : Bool) (k : Name → List Level → Option A) →
    (as_const h >>= λ c. test (same_name J c.0 && q) >>= λ u. k c.0 c.1) ≡ (levels_at J h >>= λ ls. test q >>= λ u. k J ls)
named_type J (const c ks) q k = go (name_discrete J c)
  where
    go : (d : Dec (J ≡ c)) → (test ((elim d [ yes e ↦ true | no f ↦ false ]) && q) >>= λ u. k c ks)
        ≡ ((if (elim d [ yes e ↦ true | no f ↦ false ]) then Some ks else None) >>= λ ls. test q >>= λ u. k J ls)
    go (yes e) = ap (λ z. test q >>= λ u. k z ks) (sym e)
    go (no f) = refl
named_type J _ q k = refl

-- tests that stand apart
tests_apart : {X : Type 0} (t s : Bool) (o : Option X) (f : X → Option (Unit {0})) → (test t >>= λ u. test s >>= λ v. o >>= f) ≡ (test s >>= λ u. o >>= λ x. test t >>= λ z. f x)
tests_apart true s o f = refl
tests_apart false true (Some x) f = refl
tests_apart false true None f = refl
tests_apart false false o f = refl

module _ (w : Place) (ps : List Claim) (js : Left) (m n : Tree) where
  -- behind the constructor
  by_type : (c : Name) (B : Block) (t : BlockType) (k : Ctor) →
      (typed ps js m >>= λ T₀. reduced ps T₀.1 T₀.0 >>= λ T. as_const (head T.0) >>= λ J.
      test (same_name t.name J.0 && (has_one_ctor t.ctors && (is_structure_like B t k && nat_eq (length (args T.0)) k.parameters))) >>= λ v.
      test (is_same_tree n (apply (const c J.1) (args T.0 ++ projections J.0 m 0 k.fields))) >>= λ x. sorted ps T.1 T.0 >>= λ l. test (not (is_zero_level l.0)) >>= λ y. ends l.1)
      ≡ (typed ps js m >>= λ T₀. reduced ps T₀.1 T₀.0 >>= λ T. levels_at t.name (head T.0) >>= λ ls.
      test (has_one_ctor t.ctors && (is_structure_like B t k && nat_eq (length (args T.0)) k.parameters)) >>= λ v. expansion_read ps T.1 c t.name k.fields ls m T.0 n)
  unfolding sort_read
  by_type c B t k =
      bind_same (typed ps js m) _ _
      (λ T₀. bind_same (reduced ps T₀.1 T₀.0) _ _
      (λ T. named_type t.name (head T.0) (has_one_ctor t.ctors && (is_structure_like B t k && nat_eq (length (args T.0)) k.parameters))
      (λ J ls. expansion_read ps T.1 c J k.fields ls m T.0 n)))

  -- behind the only rule
  abbrev long : RecRule → Option (Unit {0})
  long rule = do
    e ← w.means rule.ctor
    k ← the_ctor e.kind
    T₀ ← typed ps js m
    T ← reduced ps T₀.1 T₀.0
    J ← as_const (head T.0)
    v ← test (same_name k.1.name J.0 && (has_one_ctor k.1.ctors
        && (is_structure_like k.0 k.1 k.2 && nat_eq (length (args T.0)) k.2.parameters)))
    x ← test (is_same_tree n (apply (const rule.ctor J.1) (args T.0 ++ projections J.0 m 0 k.2.fields)))
    l ← sorted ps T.1 T.0
    y ← test (not (is_zero_level l.0))
    ends l.1

  by_rule : (rule : RecRule) → long rule ≡ (ctor_at w rule.ctor [] [] >>= λ k. constructor_read ps js rule.ctor m n k)
  by_rule rule =
      bind_same (w.means rule.ctor) _ _ (λ d. bind_same (the_ctor d.kind) _ _ (λ k. by_type rule.ctor k.0 k.1 k.2))
      ∙ by_name w [] rule.ctor []
      (λ B t k. typed ps js m >>= λ T₀. reduced ps T₀.1 T₀.0 >>= λ T. levels_at t.name (head T.0) >>= λ ls.
      test (has_one_ctor t.ctors && (is_structure_like B t k && nat_eq (length (args T.0)) k.parameters)) >>= λ v. expansion_read ps T.1 rule.ctor t.name k.fields ls m T.0 n)

  module _ (f g : Tree) where
    -- behind the recursor
    abbrev behind : Name × List Level × Entry × Recursor → Option (Unit {0})
    behind R = do
      u ← test (is_same_tree g f)
      rule ← the_rule R.3.rules
      long rule

    by_recursor : (c : Name × List Level) (y : Entry) (kd : Kind) →
        (found_recursor (length (args f)) c y kd >>= behind) ≡ (test (is_same_tree g f) >>= λ u. entry_read w ps js kd f m n)
    by_recursor c y (a_rec r) =
        some_then (test (nat_eq (length (args f)) (before_major r))) (λ u. (c.0, c.1, y, r)) behind
        ∙ tests_apart (nat_eq (length (args f)) (before_major r)) (is_same_tree g f) (the_rule r.rules) long
        ∙ bind_same (test (is_same_tree g f)) _ _
        (λ u. bind_same (the_rule r.rules) _ _ (λ x. bind_same (test (nat_eq (length (args f)) (before_major r))) _ _ (λ z. by_rule x))
        ∙ sym (some_then (the_rule r.rules) (λ x. ruled_by r x) (λ u. rule_read w ps js f m n u)))
    by_recursor c y _ = sym (none_behind (test (is_same_tree g f)) _ (λ u. refl))

    pub expand_read : red_expand w ps js (app f m) (app g n) ≡ (test (is_same_tree g f) >>= λ u. function_read w ps js f m n)
    expand_read =
        major_then w (head f) (length (args f)) behind
        ∙ bind_same (as_const (head f)) _ _ (λ c. bind_same (w.means c.0) _ _ (λ y. by_recursor c y y.kind))
        ∙ test_first (is_same_tree g f) (as_const (head f)) (λ c. w.means c.0) (λ c y. entry_read w ps js y.kind f m n)

one_constructor : (ks : List Ctor) → has_one_ctor ks ≡ is_alone ks
one_constructor [] = refl
one_constructor (k ∷ []) = refl
one_constructor (k ∷ l ∷ ks) = refl

-- whether the constructor is that of a structure
module _ (d : Contents) (k : CtorApp) where
  structure_found : (s : Structure) → IsStructureIf d (Some s) (structure_by k.block k.ind k.ctor) → (is_alone k.ind.ctors && is_structure_like k.block k.ind k.ctor) ≡ true
  structure_found s h = go (is_alone k.ind.ctors && is_structure_like k.block k.ind k.ctor) h
    where
      go : (b : Bool) → IsStructureIf d (Some s) (if b then Some (k.ind, k.ctor) else None) → b ≡ true
      go true i = refl
      go false i = absurd i

  structure_lost : IsStructureIf d None (structure_by k.block k.ind k.ctor) → (is_alone k.ind.ctors && is_structure_like k.block k.ind k.ctor) ≡ false
  structure_lost h = go (is_alone k.ind.ctors && is_structure_like k.block k.ind k.ctor) h
    where
      go : (b : Bool) → IsStructureIf d None (if b then Some (k.ind, k.ctor) else None) → b ≡ false
      go true i = absurd i
      go false i = refl

  -- three tests, the last one apart
  apart : (a b c : Bool) → (a && (b && c)) ≡ ((a && b) && c)
  apart true b c = refl
  apart false b c = refl

  module _ (ps : List Claim) (js : Left) (c : Name) (m T n : Tree) (ls : List Level) where
    tested : (z : Bool) → (is_alone k.ind.ctors && is_structure_like k.block k.ind k.ctor) ≡ z →
        levels_read ps js c m T n k ls ≡ (test (z && nat_eq (length (args T)) k.ctor.parameters) >>= λ v. expansion_read ps js c k.ind.name k.ctor.fields ls m T n)
    tested z h =
        ap (λ y. test y >>= λ v. expansion_read ps js c k.ind.name k.ctor.fields ls m T n)
        (ap (λ y. y && (is_structure_like k.block k.ind k.ctor && nat_eq (length (args T)) k.ctor.parameters)) (one_constructor k.ind.ctors)
        ∙ apart (is_alone k.ind.ctors) (is_structure_like k.block k.ind k.ctor) (nat_eq (length (args T)) k.ctor.parameters)
        ∙ ap (λ y. y && nat_eq (length (args T)) k.ctor.parameters) h)

    levels_lost_as : (is_alone k.ind.ctors && is_structure_like k.block k.ind k.ctor) ≡ false → levels_read ps js c m T n k ls ≡ None
    levels_lost_as h = tested false h

    levels_found_as : (is_alone k.ind.ctors && is_structure_like k.block k.ind k.ctor) ≡ true → nat_eq (length (args T)) k.ctor.parameters ≡ true →
        levels_read ps js c m T n k ls ≡ expansion_read ps js c k.ind.name k.ctor.fields ls m T n
    levels_found_as h e = tested true h ∙ ap (λ y. test y >>= λ v. expansion_read ps js c k.ind.name k.ctor.fields ls m T n) e

  pub levels_found : (s : Structure) → IsStructureIf d (Some s) (structure_by k.block k.ind k.ctor) → (ps : List Claim) (js : Left) (c : Name) (m T n : Tree) (ls : List Level) →
      nat_eq (length (args T)) k.ctor.parameters ≡ true → levels_read ps js c m T n k ls ≡ expansion_read ps js c k.ind.name k.ctor.fields ls m T n
  levels_found s h ps js c m T n ls e = levels_found_as ps js c m T n ls (structure_found s h) e

  pub levels_lost : IsStructureIf d None (structure_by k.block k.ind k.ctor) → (ps : List Claim) (js : Left) (c : Name) (m T n : Tree) (ls : List Level) →
      levels_read ps js c m T n k ls ≡ None
  levels_lost h ps js c m T n ls = levels_lost_as ps js c m T n ls (structure_lost h)
