-- A recursor with one of its rules.
use Rattle.std.proofs.Common.{◌≡◌, ℕ, Bool, true, false, nat_eq, List, [], ◌∷◌, length, map, Option, Some, None, option_map, refl, sym, ap, ◌∙◌, arith}
use Rattle.std.specs.Prelude.{slice_get, IfSome}
use Rattle.std.proofs.lemmas.Option.{slice_get-map}
use Rattle.lk_tree.specs.Tree.{Name, Level, Tree}
use Rattle.lk_rulebook.specs.Place.{Kind, Entry, Recursor as PlainRecursor, RecRule, an_axiom, a_def, a_thm, an_opaque, a_quot, a_type, a_ctor, a_rec}
use Rattle.lk_rulebook.specs.Structures.{before_major}
use Rattle.lk_questions.specs.Tests.{◌>>=◌, test, passes}
use Rattle.lk_written.specs.Reducing.{the_recursor, the_rule}
use Rattle.lk_store.specs.Contents.{Contents, name_at, tree_at, Extends}
use Rattle.lk_env.specs.declared.unit.Recursor.{Recursor}
use Rattle.lk_env.specs.declared.unit.RecursorRule.{RecursorRule}
use Rattle.lk_env.specs.Units.{rule_at}
use Rattle.lk_env.specs.Lent.{recursor_in, given_recursor}
use Rattle.lk_replay_iota.specs.declared.recursors.Ruled.{Ruled as StoredRuled}
use Rattle.lk_replay_iota.specs.Majors.{has_before}
use Rattle.lk_replay_iota.specs.Recursors.{Ruled, ruled_by, nth_ruled, only_ruled, ruled_in, ruled_at, IsRuledIn}

recursor_is : (k : Kind) → the_recursor k ≡ recursor_in k
recursor_is (a_rec r) = refl
recursor_is _ = refl

pub no_recursor : (f : PlainRecursor → Option Ruled) (k : Kind) → recursor_in k ≡ None → ruled_in f k ≡ None
no_recursor f k h = ap (λ o. o >>= f) (recursor_is k ∙ h)

module _ (c : Contents) (k : Kind) (r : Recursor) (rules : List RecursorRule) (is : recursor_in k ≡ Some (given_recursor c r rules)) where
  abbrev whole : PlainRecursor
  whole = given_recursor c r rules

  pub nth_found : (i : ℕ) (rule : RecursorRule) → slice_get rules i ≡ Some rule → ruled_in (nth_ruled i) k ≡ Some (ruled_by whole (rule_at c rule))
  nth_found i rule h =
      ap (λ o. o >>= nth_ruled i) (recursor_is k ∙ is)
      ∙ ap (λ o. o >>= λ (x : RecRule). Some (ruled_by whole x)) (slice_get-map (rule_at c) rules i ∙ ap (option_map (rule_at c)) h)

  pub nth_lost : (i : ℕ) → slice_get rules i ≡ None → ruled_in (nth_ruled i) k ≡ None
  nth_lost i h =
      ap (λ o. o >>= nth_ruled i) (recursor_is k ∙ is)
      ∙ ap (λ o. o >>= λ (x : RecRule). Some (ruled_by whole x)) (slice_get-map (rule_at c) rules i ∙ ap (option_map (rule_at c)) h)

  pub only_found : (rule : RecursorRule) → rules ≡ rule ∷ [] → ruled_in only_ruled k ≡ Some (ruled_by whole (rule_at c rule))
  only_found rule h =
      ap (λ o. o >>= only_ruled) (recursor_is k ∙ is)
      ∙ ap (λ (rs : List RecursorRule). the_rule (map (rule_at c) rs) >>= λ x. Some (ruled_by whole x)) h

  pub only_lost : (length rules ≡ 1 → ⊥) → ruled_in only_ruled k ≡ None
  only_lost h =
      ap (λ o. o >>= only_ruled) (recursor_is k ∙ is) ∙ ap (λ o. o >>= λ (x : RecRule). Some (ruled_by whole x)) (go rules h)
    where
      go : (rs : List RecursorRule) → (length rs ≡ 1 → ⊥) → the_rule (map (rule_at c) rs) ≡ None
      go [] f = refl
      go (x ∷ []) f = absurd (f refl)
      go (x ∷ y ∷ rs) f = refl

-- its numbers are those of a larger store too
pub ruled_known : (c d : Contents) → Extends c d → (o : Option StoredRuled) → IfSome o (IsRuledIn c) → IfSome o (IsRuledIn d)
ruled_known c d x None k = tt
ruled_known c d x (Some u) k =
    let names = x.names.longer in
    let trees = x.trees.longer in
    let name = k.constructor_in in
    let value = k.value_in in
    record { constructor_in = omega arith; value_in = omega arith }

-- the numbers stand for the same in a larger store
pub ruled_steady : (c d : Contents) → Extends c d → (o : Option StoredRuled) → IfSome o (IsRuledIn c) → option_map (ruled_at d) o ≡ option_map (ruled_at c) o
ruled_steady c d x None k = refl
ruled_steady c d x (Some u) k =
    ap (λ (n : Name). Some (record { before = u.before; shared = u.shared; k = u.k; rule = record { ctor = n; fields = u.rule.fields; value = tree_at d u.rule.value } })) (x.names.same u.rule.constructor k.constructor_in)
    ∙ ap (λ (t : Tree). Some (record { before = u.before; shared = u.shared; k = u.k; rule = record { ctor = name_at c u.rule.constructor; fields = u.rule.fields; value = t } })) (x.trees.same u.rule.value k.value_in)

-- just as many arguments as stand before the major premise
module _ (n : ℕ) where
  passed : (b : Bool) → b ≡ passes (test b)
  passed true = refl
  passed false = refl

  pub before_given : (k : Kind) (m : ℕ) → option_map before_major (recursor_in k) ≡ Some m → nat_eq n m ≡ passes (has_before n k)
  before_given (a_rec r) m h = let same : before_major r ≡ m = cc in ap (nat_eq n) (sym same) ∙ passed (nat_eq n (before_major r))
  before_given _ m h = absurd (cc)

  pub before_lost : (k : Kind) → option_map before_major (recursor_in k) ≡ None → false ≡ passes (has_before n k)
  before_lost (a_rec r) h = absurd (cc)
  before_lost _ h = refl

  pub before_all : {A : Type 0} (v : PlainRecursor → A) (k : Kind) → passes (the_recursor k >>= λ r. test (nat_eq n (before_major r)) >>= λ u. Some (v r)) ≡ passes (has_before n k)
  before_all v (a_rec r) = go (nat_eq n (before_major r))
    where
      go : (b : Bool) → passes (test b >>= λ u. Some (v r)) ≡ passes (test b)
      go true = refl
      go false = refl
  before_all v _ = refl
