-- The rules that are found of a recursor.
use Rattle.std.proofs.Common.{◌≡◌, ℕ, zero, suc, ◌+◌, Bool, false, ◌&&◌, nat_eq, List, [], ◌∷◌, length, map, None, Some, refl, ap, sym, subst, ◌∙◌, arith, if◌then◌else◌}
use Rattle.std.specs.Prelude.{All, slice_get}
use Rattle.std.proofs.lemmas.List.Elements.{All-head, All-tail}
use Rattle.lk_tree.specs.Tree.{Name}
use Rattle.lk_tree.specs.Mentions.{same_name}
use Rattle.lk_rulebook.specs.Place.{Place, Kind, Recursor as PlainRecursor, RecRule, a_rec}
use Rattle.lk_questions.specs.Iota.{fitting_rule}
use Rattle.lk_store.specs.Contents.{Contents, name_at, Extends}
use Rattle.lk_env.specs.declared.unit.RecursorRule.{RecursorRule}
use Rattle.lk_env.specs.declared.unit.Recursor.{Recursor}
use Rattle.lk_env.specs.Units.{rule_at, IsRuleIn}
use Rattle.lk_env.specs.Lent.{recursor_in, given_recursor}
use Rattle.lk_derive_iota.specs.Only.{only_at}

-- a rule that does not fit is passed
pub rule_passed : (c : Contents) (rest more : List RecursorRule) (rule : RecursorRule) (x : Name) (p n : ℕ) (b : Bool) → rest ≡ rule ∷ more → b ≡ (same_name (name_at c rule.constructor) x && nat_eq n (p + rule.fields)) → b ≡ false →
    fitting_rule (map (rule_at c) rest) x p n ≡ fitting_rule (map (rule_at c) more) x p n
rule_passed c rest more rule x p n b one is off =
    ap (λ rs. fitting_rule (map (rule_at c) rs) x p n) one ∙ ap (λ (t : Bool). if t then Some (rule_at c rule) else fitting_rule (map (rule_at c) more) x p n) (sym is ∙ off)

-- its place is one further on
pub place_passed : (rest more all : List RecursorRule) (rule : RecursorRule) (k j : ℕ) → rest ≡ rule ∷ more → ((i : ℕ) → slice_get rest i ≡ slice_get all (k + i)) → j ≡ k + 1 → (i : ℕ) → slice_get more i ≡ slice_get all (j + i)
place_passed rest more all rule k j one at next i =
    let s : k + suc i ≡ j + i = omega arith in
    sym (ap (λ rs. slice_get rs (suc i)) one) ∙ at (suc i) ∙ ap (slice_get all) s

-- the rules of a recursor that are given
pub rules_are : (base : Contents) (k : Kind) (r : PlainRecursor) (u : Recursor) (rules : List RecursorRule) → recursor_in k ≡ Some (given_recursor base u rules) → k ≡ a_rec r → r.rules ≡ map (rule_at base) rules
rules_are base k r u rules h kind =
    let both : Some r ≡ Some (given_recursor base u rules) = sym (ap recursor_in kind) ∙ h in
    let one : r ≡ given_recursor base u rules = cc in
    ap (λ (q : PlainRecursor). q.rules) one

pub no_rules : (k : Kind) (r : PlainRecursor) → recursor_in k ≡ None → k ≡ a_rec r → ⊥
no_rules k r h kind = let both : Some r ≡ None = sym (ap recursor_in kind) ∙ h in absurd (cc)

pub rules_steady : (c d : Contents) (rs : List RecursorRule) → Extends c d → All (IsRuleIn c) rs → map (rule_at d) rs ≡ map (rule_at c) rs
rules_steady c d [] x h = refl
rules_steady c d (r ∷ rs) x h =
    let first = All-head (IsRuleIn c) r rs h in
    let name = x.names.same r.constructor first.constructor_in in
    let value = x.trees.same r.value first.value_in in
    let others = rules_steady c d rs x (All-tail (IsRuleIn c) r rs h) in
    rw (name, value, others) refl

module _ (c : Contents) (rules : List RecursorRule) (rs : List RecRule) (are : rs ≡ map (rule_at c) rules) where
  -- there is not just one rule
  pub none_at : (w : Place) → (length rules ≡ 1 → ⊥) → only_at w rs ≡ None
  none_at w h = ap (only_at w) are ∙ go rules h
    where
      go : (rules : List RecursorRule) → (length rules ≡ 1 → ⊥) → only_at w (map (rule_at c) rules) ≡ None
      go [] h = refl
      go (r ∷ []) h = absurd (h refl)
      go (r ∷ s ∷ more) h = refl

  -- what is so of the name of the only rule is so of the rules
  pub only_is : (rule : RecursorRule) → rules ≡ rule ∷ [] → (P : List RecRule → Type 0) → P (rule_at c rule ∷ []) → P rs
  only_is rule one P h = subst P (sym (are ∙ ap (map (rule_at c)) one)) h

-- a rule of the list that it is given by
pub rule_placed : (c : Contents) (rules : List RecursorRule) (n : ℕ) (r : RecursorRule) → slice_get rules n ≡ Some r → slice_get (map (rule_at c) rules) n ≡ Some (rule_at c r)
rule_placed c [] n r e = absurd cc
rule_placed c (s ∷ rs) zero r e = let i : s ≡ r = cc in ap (λ z. Some (rule_at c z)) i
rule_placed c (s ∷ rs) (suc n) r e = rule_placed c rs n r e

-- the first of what is left is there
pub found_place : (rest more all : List RecursorRule) (rule : RecursorRule) (k : ℕ) → rest ≡ rule ∷ more → ((i : ℕ) → slice_get rest i ≡ slice_get all (k + i)) → slice_get all k ≡ Some rule
found_place rest more all rule k one at =
    let z : k + 0 ≡ k = omega arith in
    sym (ap (slice_get all) z) ∙ sym (at 0) ∙ ap (λ rs. slice_get rs 0) one

-- the recursor of a kind
pub recursor_is : (k : Kind) (r q : PlainRecursor) → recursor_in k ≡ Some q → k ≡ a_rec r → q ≡ r
recursor_is k r q h e = let one : Some r ≡ Some q = sym (ap recursor_in e) ∙ h in let two : r ≡ q = cc in sym two
