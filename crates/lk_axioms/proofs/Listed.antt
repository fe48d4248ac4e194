-- Lists of just the numbers with a property, and findings.
use Rattle.std.proofs.Common.{ℕ, ◌+◌, ◌⊎◌, inl, inr, List, [], refl, sym, subst, ◌∙◌, arith}
use Rattle.std.specs.List.Sorted.{IsStrictlyIncreasing}
use Rattle.lk_reach.specs.Axioms.{IsListOf}
use Rattle.lk_axioms.specs.declared.finding.Finding.{Finding}
use Rattle.lk_axioms.specs.Lists.{set_at, Keeps, IsUnion}
use Rattle.lk_axioms.specs.Gives.{IsFinding, IsJoined}

pub none_listed : (P : ℕ → Type 0) → ((k : ℕ) → P k → ⊥) → IsListOf P []
none_listed P none = record { rising = λ k l. absurd (omega (arith, l)); each = λ k c. absurd (omega (arith, c.1)); all = λ k h. absurd (none k h) }

pub listed_as : (P Q : ℕ → Type 0) (ks : List ℕ) → ((k : ℕ) → P k → Q k) → ((k : ℕ) → Q k → P k) → IsListOf P ks → IsListOf Q ks
listed_as P Q ks to from h = record { rising = h.rising; each = λ k c. to k (h.each k c); all = λ k q. h.all k (from k q) }

pub union_listed : (P Q R : ℕ → Type 0) (xs ys zs : List ℕ) → IsStrictlyIncreasing zs → IsUnion xs ys zs → IsListOf P xs → IsListOf Q ys
    → ((k : ℕ) → R k → P k ⊎ Q k) → ((k : ℕ) → P k → R k) → ((k : ℕ) → Q k → R k) → IsListOf R zs
union_listed P Q R xs ys zs r u p q from left right = record {
  rising = r;
  each = λ k c. elim (u.each k c) [ inl d ↦ left k (p.each k d) | inr d ↦ right k (q.each k d) ];
  all = λ k h. elim (from k h) [ inl d ↦ u.left k (p.all k d) | inr d ↦ u.right k (q.all k d) ];
}

pub Keeps-refl : (sets : List (List ℕ)) → Keeps sets sets
Keeps-refl sets = record { longer = omega arith; same = λ k l. refl }

pub Keeps-trans : (a b d : List (List ℕ)) → Keeps a b → Keeps b d → Keeps a d
Keeps-trans a b d h i = record { longer = omega (arith, h.longer, i.longer); same = λ k l. i.same k (omega (arith, l, h.longer)) ∙ h.same k l }

-- more sets
pub still : (P : ℕ → ℕ → Type 0) (n : ℕ) (old new : List (List ℕ)) (f : Finding) → Keeps old new → IsFinding P n old f → IsFinding P n new f
still P n old new f k h = record {
  set_in = omega (arith, h.set_in, k.longer);
  holds = λ m l b. subst (IsListOf (P m)) (sym (k.same f.set h.set_in)) (h.holds m l b);
}

-- a later unit
pub later_on : (P : ℕ → ℕ → Type 0) (n : ℕ) (sets : List (List ℕ)) (f : Finding) → IsFinding P n sets f → IsFinding P (n + 1) sets f
later_on P n sets f h = record { set_in = h.set_in; holds = λ m l b. h.holds m (omega (arith, l)) b }

pub finds_as : (P Q : ℕ → ℕ → Type 0) (n : ℕ) (sets : List (List ℕ)) (f : Finding) → ((m k : ℕ) → P m k → Q m k) → ((m k : ℕ) → Q m k → P m k) → IsFinding P n sets f → IsFinding Q n sets f
finds_as P Q n sets f to from h = record { set_in = h.set_in; holds = λ m l b. listed_as (P m) (Q m) (set_at sets f.set) (to m) (from m) (h.holds m l b) }

pub finds_both : (P Q R : ℕ → ℕ → Type 0) (n : ℕ) (old new : List (List ℕ)) (a b r : Finding) → IsFinding P n old a → IsFinding Q n old b → IsJoined old new a b r
    → ((m k : ℕ) → R m k → P m k ⊎ Q m k) → ((m k : ℕ) → P m k → R m k) → ((m k : ℕ) → Q m k → R m k) → IsFinding R n new r
finds_both P Q R n old new a b r p q j from left right = record {
  set_in = j.united.set_in;
  holds = λ m l below. union_listed (P m) (Q m) (R m) (set_at old a.set) (set_at old b.set) (set_at new r.set) j.united.rising j.united.union
      (p.holds m l (omega (arith, below, j.below))) (q.holds m l (omega (arith, below, j.below))) (from m) (left m) (right m);
}
