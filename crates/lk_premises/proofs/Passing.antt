-- What is behind a test that passes.
use Rattle.std.proofs.Common.{◌≡◌, true, Option, Some, None, refl}
use Rattle.lk_questions.specs.Tests.{◌>>=◌, passes}

pub behind : {A : Type 0} (o : Option A) (k : Option (Unit {0})) → passes o ≡ true → passes (o >>= λ s. k) ≡ passes k
behind (Some s) k h = refl
behind None k h = absurd (cc)
