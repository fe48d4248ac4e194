-- Steps that may give nothing, one behind the other.
use Rattle.std.proofs.Common.{◌≡◌, Option, Some, None, refl}
use Rattle.lk_questions.specs.Tests.{◌>>=◌}

-- steps in two parts
pub bind_bind : {A B C : Type 0} (o : Option A) (f : A → Option B) (g : B → Option C) (h : A → Option C) → ((v : A) → h v ≡ (f v >>= g)) → (o >>= h) ≡ ((o >>= f) >>= g)
bind_bind (Some v) f g h e = e v
bind_bind None f g h e = refl

-- what goes on is the same, whatever comes before
pub bind_same : {A B : Type 0} (o : Option A) (h k : A → Option B) → ((v : A) → h v ≡ k v) → (o >>= h) ≡ (o >>= k)
bind_same (Some v) h k e = e v
bind_same None h k e = refl
