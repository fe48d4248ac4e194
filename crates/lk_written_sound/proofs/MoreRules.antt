-- What the rules of literals and of eta state can be written.
use Rattle.std.proofs.Common.{ℕ, suc, ◌≡◌, true, List, [], ◌∷◌, Some, refl, arith}
use Rattle.std.specs.Str.{chars}
use Rattle.lk_tree.specs.Tree.{Tree, var, app, lam, pi, lit, str}
use Rattle.lk_tree.specs.Spine.{IsNeutral}
use Rattle.lk_tree.specs.WellFormed.{IsWellFormed}
use Rattle.lk_rulebook.specs.Place.{Place}
use Rattle.lk_rulebook.specs.Names.{named, nat, nat_zero, nat_succ, string}
use Rattle.lk_rulebook.specs.Shapes.{HasNat, HasString}
use Rattle.lk_rulebook.specs.Literals.{Expands, expansion}
use Rattle.lk_questions.specs.Steps.{is_same_tree}
use Rattle.lk_questions.specs.Shapes.{nat_shape, string_shape}
use Rattle.lk_questions.specs.Strings.{expansion_of}
use Rattle.lk_questions.specs.Same.{eta_long}
use Rattle.lk_rulebook.specs.Claims.{Claim, types, reduces, equals}
use Rattle.lk_written.specs.Line.{lit_rule, str_rule, zero_rule, succ_rule, eta_rule, str_left_rule, str_right_rule}
use Rattle.lk_questions.specs.Tests.{◌>>=◌, test, passes, found}
use Rattle.lk_written.specs.Premises.{Left, typed, equal, to_pi, ends}
use Rattle.lk_written.specs.Equal.{is_neutral, eq_eta}
use Rattle.lk_rulebook.specs.Claims.{IsShaped}
use Rattle.lk_written.specs.Written.{CanWrite}
use Rattle.lk_claims.proofs.Facts.{same_self}
use Rattle.lk_written_sound.proofs.Writings.{next, last_type, last_equal, go_on, go_test, comes_itself, with_reduct, with_equal, equal_next, go_typed, go_equal, go_pi}
use Rattle.lk_written_sound.proofs.EqualRules.{neutral_passes}

-- where the shape passes its test
pub can_lit : (w : Place) (n : ℕ) → HasNat w → found w nat_shape ≡ Some tt → IsWellFormed (lit n) → CanWrite w (types (lit n) (named nat))
can_lit w n h t f = record { shaped = (f, tt); written = λ ps. last_type w ps lit_rule (lit n) (named nat) [] (f, tt) (go_on (found w nat_shape) tt _ t (comes_itself (named nat))) }

pub can_str : (w : Place) (s : List ℕ) → HasString w → found w string_shape ≡ Some tt → CanWrite w (types (str s) (named string))
can_str w s h t = record { shaped = (tt, tt); written = λ ps. last_type w ps str_rule (str s) (named string) [] (tt, tt) (go_on (found w string_shape) tt _ t (comes_itself (named string))) }

pub can_zero_left : (w : Place) → CanWrite w (equals (lit 0) (named nat_zero))
can_zero_left w = record { shaped = (omega arith, tt); written = λ ps. last_equal w ps zero_rule (lit 0) (named nat_zero) [] (omega arith, tt) (comes_itself (named nat_zero)) }

pub can_zero_right : (w : Place) → CanWrite w (equals (named nat_zero) (lit 0))
can_zero_right w = record { shaped = (tt, omega arith); written = λ ps. last_equal w ps zero_rule (named nat_zero) (lit 0) [] (tt, omega arith) (comes_itself (named nat_zero)) }

pub can_succ_left : (w : Place) (n : ℕ) (x : Tree) → IsWellFormed (lit (suc n)) → CanWrite w (equals (lit n) x) → CanWrite w (equals (lit (suc n)) (app (named nat_succ) x))
can_succ_left w n x f h = record {
  shaped = (f, (tt, h.shaped.1));
  written = λ ps.
      next w ps (equals (lit n) x) (equals (lit (suc n)) (app (named nat_succ) x)) (h.written ps) (λ qs k i e.
      last_equal w qs succ_rule (lit (suc n)) (app (named nat_succ) x) (with_equal (lit n) x i []) (f, (tt, h.shaped.1))
      (go_test (is_same_tree (named nat_succ) (named nat_succ)) _ (same_self (named nat_succ))
      (go_equal qs i [] (lit n) x _ e refl)));
}

pub can_succ_right : (w : Place) (n : ℕ) (x : Tree) → IsWellFormed (lit (suc n)) → CanWrite w (equals x (lit n)) → CanWrite w (equals (app (named nat_succ) x) (lit (suc n)))
can_succ_right w n x f h = record {
  shaped = ((tt, h.shaped.0), f);
  written = λ ps.
      next w ps (equals x (lit n)) (equals (app (named nat_succ) x) (lit (suc n))) (h.written ps) (λ qs k i e.
      last_equal w qs succ_rule (app (named nat_succ) x) (lit (suc n)) (with_equal x (lit n) i []) ((tt, h.shaped.0), f)
      (go_test (is_same_tree (named nat_succ) (named nat_succ)) _ (same_self (named nat_succ))
      (go_equal qs i [] x (lit n) _ e refl)));
}

-- a lambda stands second
pub second_lam : (ps : List Claim) (js : Left) (o A b : Tree) → IsNeutral o →
    passes (test (is_neutral o) >>= λ u. typed ps js o >>= λ T. to_pi ps T.1 T.0 >>= λ p. equal ps p.1 (eta_long p.0.0 o) (lam A b) >>= λ r. ends r) ≡ true → passes (eq_eta ps js o (lam A b)) ≡ true
second_lam ps js (lam C d) A b n h = absurd n
second_lam ps js o A b n h = h

pub can_eta_right : (w : Place) (o T A B A' b : Tree) → IsNeutral o → CanWrite w (types o T) → CanWrite w (reduces T (pi A B)) → CanWrite w (equals (lam A' b) (lam A (app o (var 0)))) → CanWrite w (equals (lam A' b) o)
can_eta_right w o T A B A' b n ho hT hq =
    let h : IsShaped (equals (lam A' b) o) = (hq.shaped.0, ho.shaped.0) in
    let G : Claim = equals (lam A' b) o in
    record {
      shaped = h;
      written = λ ps.
          next w ps (types o T) G (ho.written ps) (λ p₁ k₁ i e.
          next w p₁ (reduces T (pi A B)) G (hT.written p₁) (λ p₂ k₂ j e₂.
          next w p₂ (equals (lam A' b) (lam A (app o (var 0)))) G (hq.written p₂) (λ qs k₃ m e₃.
          let last : Left = with_equal (lam A' b) (eta_long A o) m [] in
          let more : Left = with_reduct T (pi A B) j last in
          last_equal w qs eta_rule (lam A' b) o (i ∷ more) h
          (go_test (is_neutral o) _ (neutral_passes o n)
          (go_typed qs i more o T _ (k₃ i (types o T) (k₂ i (types o T) e))
          (go_pi qs j last T A B _ (k₃ j (reduces T (pi A B)) e₂) (λ y. equal_next qs m [] T (lam A' b) (eta_long A o) e₃ refl)
          (go_equal qs m [] (lam A' b) (eta_long A o) _ e₃ refl)))))));
    }

pub can_eta_left : (w : Place) (o T A B A' b : Tree) → IsNeutral o → CanWrite w (types o T) → CanWrite w (reduces T (pi A B)) → CanWrite w (equals (lam A (app o (var 0))) (lam A' b)) → CanWrite w (equals o (lam A' b))
can_eta_left w o T A B A' b n ho hT hq =
    let h : IsShaped (equals o (lam A' b)) = (ho.shaped.0, hq.shaped.1) in
    let G : Claim = equals o (lam A' b) in
    record {
      shaped = h;
      written = λ ps.
          next w ps (types o T) G (ho.written ps) (λ p₁ k₁ i e.
          next w p₁ (reduces T (pi A B)) G (hT.written p₁) (λ p₂ k₂ j e₂.
          next w p₂ (equals (lam A (app o (var 0))) (lam A' b)) G (hq.written p₂) (λ qs k₃ m e₃.
          let last : Left = with_equal (eta_long A o) (lam A' b) m [] in
          let more : Left = with_reduct T (pi A B) j last in
          last_equal w qs eta_rule o (lam A' b) (i ∷ more) h
          (second_lam qs (i ∷ more) o A' b n
          (go_test (is_neutral o) _ (neutral_passes o n)
          (go_typed qs i more o T _ (k₃ i (types o T) (k₂ i (types o T) e))
          (go_pi qs j last T A B _ (k₃ j (reduces T (pi A B)) e₂) (λ y. equal_next qs m [] T (eta_long A o) (lam A' b) e₃ refl)
          (go_equal qs m [] (eta_long A o) (lam A' b) _ e₃ refl))))))));
    }

-- where the text passes its test
pub can_str_left : (w : Place) (s : List ℕ) (b : Tree) → Expands w s → found w (expansion_of s) ≡ Some (Some (expansion (chars s))) → CanWrite w (equals (expansion (chars s)) b) → CanWrite w (equals (str s) b)
can_str_left w s b x t h = record {
  shaped = (tt, h.shaped.1);
  written = λ ps.
      next w ps (equals (expansion (chars s)) b) (equals (str s) b) (h.written ps) (λ qs k i e.
      last_equal w qs str_left_rule (str s) b (with_equal (expansion (chars s)) b i []) (tt, h.shaped.1)
      (go_on (found w (expansion_of s)) (Some (expansion (chars s))) _ t
      (go_equal qs i [] (expansion (chars s)) b _ e refl)));
}

pub can_str_right : (w : Place) (s : List ℕ) (a : Tree) → Expands w s → found w (expansion_of s) ≡ Some (Some (expansion (chars s))) → CanWrite w (equals a (expansion (chars s))) → CanWrite w (equals a (str s))
can_str_right w s a x t h = record {
  shaped = (h.shaped.0, tt);
  written = λ ps.
      next w ps (equals a (expansion (chars s))) (equals a (str s)) (h.written ps) (λ qs k i e.
      last_equal w qs str_right_rule a (str s) (with_equal a (expansion (chars s)) i []) (h.shaped.0, tt)
      (go_on (found w (expansion_of s)) (Some (expansion (chars s))) _ t
      (go_equal qs i [] a (expansion (chars s)) _ e refl)));
}
