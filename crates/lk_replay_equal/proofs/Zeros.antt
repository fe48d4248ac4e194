-- Numbers, and zero and successors.
use Rattle.std.proofs.Common.{◌≡◌, ℕ, zero, suc, Bool, true, false, Option, Some, None, List, refl, ap}
use Rattle.lk_tree.specs.Tree.{Tree, app, lit}
use Rattle.lk_rulebook.specs.Claims.{Claim}
use Rattle.lk_written.specs.Premises.{Left}
use Rattle.lk_written.specs.Equal.{eq_zero, eq_succ}
use Rattle.lk_replay_equal.specs.Numbers.{is_zero, zero_is, before}

pub zero_first : (js : Left) (a b : Tree) → is_zero a ≡ true → eq_zero js a b ≡ zero_is js b
zero_first js (lit zero) b h = refl
zero_first js (lit (suc n)) b h = absurd (cc)
zero_first js _ b h = absurd (cc)

pub zero_second : (js : Left) (a b : Tree) → is_zero a ≡ false → is_zero b ≡ true → eq_zero js a b ≡ zero_is js a
zero_second js (lit zero) b h k = absurd (cc)
zero_second js (lit (suc n)) (lit zero) h k = refl
zero_second js a (lit zero) h k = refl
zero_second js a (lit (suc n)) h k = absurd (cc)
zero_second js a _ h k = absurd (cc)

pub zero_neither : (js : Left) (a b : Tree) → is_zero a ≡ false → is_zero b ≡ false → eq_zero js a b ≡ None
zero_neither js (lit zero) b h k = absurd (cc)
zero_neither js (lit (suc m)) (lit zero) h k = absurd (cc)
zero_neither js (lit (suc m)) (lit (suc n)) h k = refl
zero_neither js (lit (suc m)) _ h k = refl
zero_neither js a (lit zero) h k = absurd (cc)
zero_neither js a (lit (suc n)) h k = refl
zero_neither js a _ h k = refl

pub before_is : (e : Tree) (n : ℕ) → before e ≡ Some n → e ≡ lit (suc n)
before_is (lit zero) n h = absurd (cc)
before_is (lit (suc m)) n h = let same : m ≡ n = cc in ap (λ x. lit (suc x)) same
before_is _ n h = absurd (cc)

pub none_before : (ps : List Claim) (js : Left) (f x b : Tree) → before b ≡ None → eq_succ ps js (app f x) b ≡ None
none_before ps js f x (lit zero) h = refl
none_before ps js f x (lit (suc n)) h = absurd (cc)
none_before ps js f x _ h = refl

pub no_successor : (ps : List Claim) (js : Left) (a b : Tree) → before a ≡ None → ((f x : Tree) → a ≡ app f x → ⊥) → eq_succ ps js a b ≡ None
no_successor ps js (app f x) b h k = absurd (k f x refl)
no_successor ps js (lit zero) b h k = refl
no_successor ps js (lit (suc n)) b h k = absurd (cc)
no_successor ps js _ b h k = refl
