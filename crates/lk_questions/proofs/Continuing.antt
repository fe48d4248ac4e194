-- A program that goes on with the value of another one.
use Rattle.std.proofs.Common.{◌≡◌, ℕ, Option, None, refl, ap}
use Rattle.std.proofs.Math.Path.{fun_ext}
use Rattle.lk_rulebook.specs.Place.{Place}
use Rattle.lk_questions.specs.Program.{Program, done, refuse, ask, look, ◌>>=◌}
use Rattle.lk_questions.specs.Erased.{Value, asks, with_answer, looked, erased, erased_then}

pub then_is : {R A : Type 0} (w : Place) (f : A → Value) (h : R → Program A) (t : Option ℕ) (p : Program R) → erased_then w (λ u v. erased w f u (h v)) t p ≡ erased w f t (p >>= h)
then_is w f h t (done v) = refl
then_is w f h t (refuse r) = refl
then_is w f h t (ask q g) = ap (λ k. asks t q (with_answer q k)) (fun_ext (λ v. then_is w f h None (g v)))
then_is w f h t (look r c g) = ap (λ k. looked r t (w.means c) (w.origin c) (w.flaw c) k) (fun_ext (λ u. fun_ext (λ e. then_is w f h u (g e))))
