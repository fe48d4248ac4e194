-- What the rule of operations on numbers states can be written, whether their laws hold or not.
use Rattle.std.proofs.Common.{ℕ, ◌≡◌, true, List, [], ◌∷◌, Some, refl, subst, sym}
use Rattle.lk_tree.specs.Tree.{Tree, name_discrete, part_discrete, const, app}
use Rattle.lk_tree.specs.WellFormed.{AllWellFormed}
use Rattle.lk_tree.proofs.Spines.{fine_apply}
use Rattle.lk_tree.specs.Decide.{list_discrete, both_discrete}
use native.Mathlib.Decide.{ℕ_discrete}
use Rattle.lk_tree.specs.Operations.{Op, succ, log2, add, sub, mul, div, modulo, gcd, beq, ble, land, lor, xor, shift_left, shift_right, pow, op_value}
use Rattle.lk_tree.specs.Spine.{apply, head, args}
use Rattle.lk_rulebook.specs.Place.{Place}
use Rattle.lk_rulebook.specs.Names.{named, op_name}
use Rattle.lk_rulebook.specs.Shapes.{HasNat}
use Rattle.lk_rulebook.specs.Literals.{IsNumeral, may_give, IsOperation, IsResult}
use Rattle.lk_rulebook.specs.Formers.{IsFormer}
use Rattle.lk_rulebook.proofs.Texts.{result_fine}
use Rattle.lk_questions.specs.Shapes.{nat_shape}
use Rattle.lk_questions.specs.Literals.{ops, op_named, numeral_of, result_of}
use Rattle.lk_rulebook.specs.Claims.{Claim, reduces}
use Rattle.lk_written.specs.Line.{operation_rule}
use Rattle.lk_questions.specs.Tests.{found, passes}
use Rattle.lk_written.specs.Premises.{Left, as_const, reduced}
use Rattle.lk_written.specs.Reducing.{numbers, red_operation}
use Rattle.lk_rulebook.specs.Claims.{IsShaped}
use Rattle.lk_written.specs.Written.{Stands, IsWritten, CanWrite, KeepsNumerals}
use Rattle.lk_claims.specs.Follows.{EachNumeral, no_numeral, a_numeral}
use Rattle.lk_claims.proofs.Facts.{some_on}
use Rattle.lk_claims.proofs.Numerals.{numeral_right}
use Rattle.lk_written_sound.proofs.Numerals.{numeral_alone}
use Rattle.lk_written_sound.proofs.Writings.{Stays, next, last_reduct, go_on, go_test, comes_itself, NoReduct, with_reduct, reduct_next, reduced_there}
use Rattle.lk_written_sound.proofs.MajorRules.{const_head, const_args}

numerals_fine : (w : Place) {es : List Tree} {ns : List ℕ} → EachNumeral (CanWrite w) es ns → AllWellFormed es
numerals_fine w no_numeral = tt
numerals_fine w (a_numeral h e k) = (h.shaped.0, numerals_fine w k)

-- what is applied is no Sort and no Pi
no_former : (h : Tree) (xs : List Tree) → (IsFormer h → ⊥) → IsFormer (apply h xs) → ⊥
no_former h [] f z = f z
no_former h (x ∷ xs) f z = no_former (app h x) xs (λ y. y) z

-- no reduction of a numeral is next
abbrev NumeralsPass : List Claim → Left → Type 0
NumeralsPass qs js = (e : Tree) (n : ℕ) → IsNumeral e n → NoReduct qs js e

numerals_first : (w : Place) → HasNat w → KeepsNumerals w → (d : Claim) {es : List Tree} {ns : List ℕ} → EachNumeral (CanWrite w) es ns → (ps : List Claim) →
    ((qs : List Claim) → Stays ps qs → (js : Left) → NumeralsPass qs js → numbers qs js es ≡ Some (ns, []) → IsWritten w qs d) → IsWritten w ps d
numerals_first w nat kept d no_numeral ps f = f ps (λ n c x. x) [] (λ e n i. refl) refl
numerals_first w nat kept d (a_numeral {e = e} {v = v} {n = n} {es = es} {ns = ns} h t k) ps f =
    next w ps (reduces e v) d (h.written ps) (λ p₁ k₁ i x.
    numerals_first w nat kept d k p₁ (λ qs k₂ js pass y.
    let at : Stands qs i (reduces e v) = k₂ i (reduces e v) x in
    f qs (λ n c z. k₂ n c (k₁ n c z)) (with_reduct e v i js)
    (λ z m g. reduct_next qs i js z e v (λ s. numeral_alone w nat kept e v h m (subst (λ y. IsNumeral y m) (sym s) g)) at (pass z m g))
    (some_on (reduced qs (with_reduct e v i js) e) (v, js) _ (n ∷ ns, []) (reduced_there qs i js e v at (λ s. pass e n (subst (λ y. IsNumeral y n) (sym s) (numeral_right v n t))))
    (some_on (numeral_of v) n _ (n ∷ ns, []) t
    (some_on (numbers qs js es) (ns, []) _ (n ∷ ns, []) y refl)))))

-- each operation is found by its name
op_there : (op : Op) → op_named ops (op_name op) ≡ Some op
unfolding name_discrete part_discrete list_discrete both_discrete ℕ_discrete
op_there succ = refl
op_there log2 = refl
op_there add = refl
op_there sub = refl
op_there mul = refl
op_there div = refl
op_there modulo = refl
op_there gcd = refl
op_there beq = refl
op_there ble = refl
op_there land = refl
op_there lor = refl
op_there xor = refl
op_there shift_left = refl
op_there shift_right = refl
op_there pow = refl

pub operation_passes : (w : Place) (qs : List Claim) (js : Left) (op : Op) (es : List Tree) (ns : List ℕ) (r a : Tree) (i : IsOperation w op) → head a ≡ const (op_name op) [] → args a ≡ es → found w nat_shape ≡ Some tt → numbers qs js es ≡ Some (ns, []) →
    found w (result_of (op_value op ns)) ≡ Some (Some r) → passes (red_operation w qs js a r) ≡ true
operation_passes w qs js op es ns r a i ha aa s n t =
    go_on (as_const (head a)) (op_name op, []) _ (rw ha refl)
    (go_on (op_named ops (op_name op)) op _ (op_there op)
    (go_on (w.means (op_name op)) i.entry _ i.given
    (go_test (may_give op i.entry.kind) _ i.kind
    (go_on (found w nat_shape) tt _ s
    (go_on (numbers qs js (args a)) (ns, []) _ (subst (λ ys. numbers qs js ys ≡ Some (ns, [])) (sym aa) n)
    (go_on (found w (result_of (op_value op ns))) (Some r) _ t (comes_itself r)))))))

pub can_operation : (w : Place) → KeepsNumerals w → (op : Op) (es : List Tree) (ns : List ℕ) (r : Tree) → IsOperation w op → HasNat w → found w nat_shape ≡ Some tt → EachNumeral (CanWrite w) es ns → IsResult w (op_value op ns) r → found w (result_of (op_value op ns)) ≡ Some (Some r) →
    CanWrite w (reduces (apply (named (op_name op)) es) r)
can_operation w kept op es ns r i hn s h hr t =
    let a : Tree = apply (named (op_name op)) es in
    let x : IsShaped (reduces a r) = (fine_apply (named (op_name op)) es tt (numerals_fine w h), result_fine hr, λ z. absurd (no_former (named (op_name op)) es (λ y. y) z)) in
    record {
      shaped = x;
      written = λ ps. numerals_first w hn kept (reduces a r) h ps (λ qs k js pass n. last_reduct w qs operation_rule a r js x (operation_passes w qs js op es ns r a i (const_head (op_name op) [] es) (const_args (op_name op) [] es) s n t));
    }
