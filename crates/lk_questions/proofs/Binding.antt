-- Programs one after another.
use Rattle.std.proofs.Common.{◌≡◌, refl, ap}
use Rattle.std.proofs.Math.Path.{fun_ext}
use Rattle.lk_questions.specs.Program.{Program, done, refuse, ask, look, ◌>>=◌}

pub bind_bind : {A B C : Type 0} (p : Program A) (f : A → Program B) (k : B → Program C) → ((p >>= f) >>= k) ≡ (p >>= λ v. f v >>= k)
bind_bind (done v) f k = refl
bind_bind (refuse r) f k = refl
bind_bind (ask q g) f k = ap (ask q) (fun_ext (λ v. bind_bind (g v) f k))
bind_bind (look r c g) f k = ap (look r c) (fun_ext (λ e. bind_bind (g e) f k))
