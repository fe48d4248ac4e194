-- A unit whose closure has not changed keeps its verdict. What is in a closure need not be decided
-- for it: that the verdicts differ is refuted by each decision, and so they are the same.
use Rattle.std.proofs.Common.{◌≡◌, ℕ, zero, suc, ◌<◌, ◌≤◌, ◌⊎◌, inl, inr, Bool, true, false, sym, ap, subst, arith, refl}
use Rattle.std.proofs.lemmas.Bool.{cases_eq, cases_lt}
use denote.Enum.Bare.{tag_one}
use denote.Enum.Declared.{tag_of}
use Rattle.lk_tree.specs.declared.rule.Rule.{Rule}
use Rattle.lk_tree.specs.contracts.rule.Rule.{the_type}
use Rattle.lk_rulebook.specs.Units.{Library}
use Rattle.lk_rulebook.specs.Spelled.{library_spelled}
use Rattle.lk_questions.specs.Table.{steps}
use Rattle.lk_verdict.specs.Verdict.{PlainVerdict, says_yes, says_no, says_steps, plain_verdict}
use Rattle.lk_verdict.proofs.Spelled.{spelled_clear}
use Rattle.lk_uses.specs.Closure.{IsInClosure, KeepsClosure, IsUnchanged}
use Rattle.lk_closure.proofs.Least.{closure_earlier, verdict_unchanged}

-- rules, and verdicts, that are not apart are the same
one_rule : (a b : Rule) → ((a ≡ b → ⊥) → ⊥) → a ≡ b
one_rule a b not_apart = go (cases_eq (tag_of the_type a) (tag_of the_type b))
  where
    go : (tag_of the_type a ≡ tag_of the_type b) ⊎ (tag_of the_type a ≡ tag_of the_type b → ⊥) → a ≡ b
    go (inl e) = tag_one the_type tt a b e
    go (inr f) = absurd (not_apart (λ e. f (ap (tag_of the_type) e)))

one_verdict : (a b : PlainVerdict) → ((a ≡ b → ⊥) → ⊥) → a ≡ b
one_verdict says_yes says_yes not_apart = refl
one_verdict says_yes (says_no q) not_apart = absurd (not_apart (λ e. cc))
one_verdict says_yes says_steps not_apart = absurd (not_apart (λ e. cc))
one_verdict (says_no r) says_yes not_apart = absurd (not_apart (λ e. cc))
one_verdict (says_no r) (says_no q) not_apart = ap says_no (one_rule r q (λ f. not_apart (λ e. let s : r ≡ q = cc in f s)))
one_verdict (says_no r) says_steps not_apart = absurd (not_apart (λ e. cc))
one_verdict says_steps says_yes not_apart = absurd (not_apart (λ e. cc))
one_verdict says_steps (says_no q) not_apart = absurd (not_apart (λ e. cc))
one_verdict says_steps says_steps not_apart = refl

-- Whether a unit is in the closure of unit n.
module _ (us : Library) (n : ℕ) where
  abbrev IsDecided : ℕ → Type 0
  IsDecided k = IsInClosure us n k ⊎ (IsInClosure us n k → ⊥)

  one_more : (k : ℕ) → ((j : ℕ) → j < k → IsDecided j) → IsDecided k → (j : ℕ) → j < suc k → IsDecided j
  one_more k before here j l = go (cases_eq j k)
    where
      go : (j ≡ k) ⊎ (j ≡ k → ⊥) → IsDecided j
      go (inl e) = subst IsDecided (sym e) here
      go (inr f) = before j (omega (arith, l, f))

  -- that the first k units are decided is not refuted
  not_refuted : (k : ℕ) → (((j : ℕ) → j < k → IsDecided j) → ⊥) → ⊥
  not_refuted zero f = f (λ j l. absurd (omega (arith, l)))
  not_refuted (suc k) f = not_refuted k (λ d. f (one_more k d (inr (λ m. f (one_more k d (inl m))))))

  -- the closure has no unit after n
  all_decided : ((j : ℕ) → j < suc n → IsDecided j) → (j : ℕ) → IsDecided j
  all_decided d j = go (cases_lt j (suc n))
    where
      go : (j < suc n) ⊎ (suc n ≤ j) → IsDecided j
      go (inl l) = d j l
      go (inr g) = inr (λ m. let l = closure_earlier us n j m in omega (arith, l, g))

  abbrev is_in : (k : ℕ) → IsDecided k → Bool
  is_in k (inl m) = true
  is_in k (inr f) = false

  keeps : (d : (j : ℕ) → IsDecided j) → KeepsClosure us n (λ k. is_in k (d k))
  keeps d = record { each = λ k m. each k m (d k); only = λ k e. only k (d k) e }
    where
      each : (k : ℕ) → IsInClosure us n k → (x : IsDecided k) → is_in k x ≡ true
      each k m (inl i) = refl
      each k m (inr f) = absurd (f m)

      only : (k : ℕ) (x : IsDecided k) → is_in k x ≡ true → IsInClosure us n k
      only k (inl i) e = i
      only k (inr f) e = absurd cc

pub same_verdict : (us vs : Library) (n budget : ℕ) → library_spelled us ≡ true → library_spelled vs ≡ true
    → IsUnchanged us vs n → plain_verdict steps vs n budget ≡ plain_verdict steps us n budget
same_verdict us vs n budget us_spelled vs_spelled h =
    one_verdict (plain_verdict steps vs n budget) (plain_verdict steps us n budget)
    (λ apart. not_refuted us n (suc n) (λ d.
    apart (verdict_unchanged us vs n (λ k. is_in us n k (all_decided us n d k)) budget (spelled_clear us us_spelled)
    (spelled_clear vs vs_spelled) (keeps us n (all_decided us n d)) h)))
