-- A lambda, and another tree as one.
use Rattle.std.proofs.Common.{◌≡◌, List, true, false, Option, Some, None, refl}
use Rattle.lk_tree.specs.Tree.{Tree, lam}
use Rattle.lk_rulebook.specs.Claims.{Claim}
use Rattle.lk_questions.specs.Tests.{◌>>=◌, test}
use Rattle.lk_questions.specs.Same.{eta_long, is_lam}
use Rattle.lk_written.specs.Premises.{Left, ends, typed, equal, to_pi}
use Rattle.lk_written.specs.Equal.{is_neutral, eq_eta}
use Rattle.lk_premises.proofs.Binding.{bind_bind, bind_same}
use Rattle.lk_premises.specs.Reading.{ends_equal}
use Rattle.lk_replay_equal.specs.Parts.{domain_read, lam_and_long, long_and_lam}

module _ (ps : List Claim) (js : Left) where
  -- the domain is read first
  by_domain : (o : Tree) (k : Tree × Left → Option (Unit {0})) →
      (typed ps js o >>= λ T. to_pi ps T.1 T.0 >>= λ p. k (p.0.0, p.1)) ≡ (domain_read ps js o >>= k)
  unfolding domain_read
  by_domain o k =
      bind_bind (typed ps js o) (λ T. to_pi ps T.1 T.0 >>= λ p. Some (p.0.0, p.1)) k (λ T. to_pi ps T.1 T.0 >>= λ p. k (p.0.0, p.1))
      (λ T. bind_bind (to_pi ps T.1 T.0) (λ p. Some (p.0.0, p.1)) k (λ p. k (p.0.0, p.1)) (λ p. refl))

  first_by : (e o : Tree) → (test (is_neutral o) >>= λ u. typed ps js o >>= λ T. to_pi ps T.1 T.0 >>= λ p. equal ps p.1 e (eta_long p.0.0 o) >>= λ r. ends r)
      ≡ lam_and_long ps js e o
  unfolding ends_equal
  first_by e o = bind_same (test (is_neutral o)) _ _ (λ u. by_domain o (λ A. ends_equal ps A.1 e (eta_long A.0 o)))

  second_by : (o e : Tree) → (test (is_neutral o) >>= λ u. typed ps js o >>= λ T. to_pi ps T.1 T.0 >>= λ p. equal ps p.1 (eta_long p.0.0 o) e >>= λ r. ends r)
      ≡ long_and_lam ps js o e
  unfolding ends_equal
  second_by o e = bind_same (test (is_neutral o)) _ _ (λ u. by_domain o (λ A. ends_equal ps A.1 (eta_long A.0 o) e))

  pub eta_first : (a b : Tree) → is_lam a ≡ true → eq_eta ps js a b ≡ lam_and_long ps js a b
  eta_first (lam A x) b h = first_by (lam A x) b
  eta_first _ b h = absurd (cc)

  pub eta_second : (a b : Tree) → is_lam a ≡ false → is_lam b ≡ true → eq_eta ps js a b ≡ long_and_lam ps js a b
  eta_second (lam A x) b h k = absurd (cc)
  eta_second a (lam A x) h k = second_by a (lam A x)
  eta_second a _ h k = absurd (cc)

  pub eta_neither : (a b : Tree) → is_lam a ≡ false → is_lam b ≡ false → eq_eta ps js a b ≡ None
  eta_neither (lam A x) b h k = absurd (cc)
  eta_neither a (lam A x) h k = absurd (cc)
  eta_neither a b h k = refl
