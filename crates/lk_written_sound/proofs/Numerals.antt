-- A numeral reduces to itself alone in what can be written, where Nat.zero has no value.
use Rattle.std.proofs.Common.{ℕ, ◌≡◌, inl, inr, true, ◌&&◌, List, [], Option, Some, None, refl, subst, ◌∙◌}
use Rattle.std.specs.Prelude.{slice_get}
use Rattle.lk_tree.specs.Tree.{Tree, lit}
use Rattle.lk_tree.specs.Operations.{Op, succ, log2, add, sub, mul, div, modulo, gcd, beq, ble, land, lor, xor, shift_left, shift_right, pow, Value, op_value}
use Rattle.lk_tree.specs.Spine.{head, args}
use Rattle.lk_rulebook.specs.Place.{Place}
use Rattle.lk_rulebook.specs.Names.{named, nat_zero}
use Rattle.lk_rulebook.specs.Shapes.{HasNat}
use Rattle.lk_rulebook.specs.Literals.{IsNumeral, of_lit, of_zero, may_give}
use Rattle.lk_questions.specs.Steps.{is_same_tree, value_of}
use Rattle.lk_questions.specs.Shapes.{nat_shape}
use Rattle.lk_questions.specs.Literals.{ops, op_named, result_of}
use Rattle.lk_rulebook.specs.Claims.{Claim, types, reduces, equals}
use Rattle.lk_questions.specs.Tests.{◌>>=◌, passes, found}
use Rattle.lk_claims.proofs.Pieces.{same_tree, halves, has_value}
use Rattle.lk_written.specs.Line.{ReductionRule, chain_rule, head_rule, beta_rule, zeta_rule, delta_rule, field_rule, major_rule, k_rule, expand_rule, lift_rule, ind_rule, operation_rule, iota_rule, Line, ty, rd, cv, claim_of}
use Rattle.lk_written.specs.Premises.{Left, reduction}
use Rattle.lk_written.specs.Typing.{comes_to}
use Rattle.lk_written.specs.Reducing.{tree_in, red_chain, red_test}
use Rattle.lk_written.specs.Section.{are_fine, line_holds, claims_by}
use Rattle.lk_written.specs.Written.{Stands, IsWritten, CanWrite, KeepsNumerals}
use Rattle.lk_written_sound.proofs.Premises.{IfSome, Each, claim_there, on_some, on_test, on_reduction, passed}
use Rattle.lk_written_sound.proofs.Lines.{each_line, some_holds}
use Rattle.lk_written_sound.proofs.Typings.{comes_right}

-- a numeral is said to reduce to itself alone
abbrev Keeps : Tree → Tree → Type 0
Keeps a b = (n : ℕ) → IsNumeral a n → a ≡ b

abbrev ClaimKeeps : Claim → Type 0
ClaimKeeps (types e T) = Unit {0}
ClaimKeeps (reduces a b) = Keeps a b
ClaimKeeps (equals a b) = Unit {0}

chain_keeps : (ps : List Claim) → Each ClaimKeeps ps → (js : Left) (a b : Tree) → IfSome (red_chain ps js a b) (λ u. Keeps a b)
chain_keeps ps k js a b =
    let Q : Unit {0} → Type 0 = λ u. Keeps a b in
    on_reduction ClaimKeeps ps k js _ Q (λ c hc.
    on_reduction ClaimKeeps ps k c.after _ Q (λ e he.
    on_test (is_same_tree c.left a && is_same_tree e.left c.right) _ Q (λ t.
    let x : (is_same_tree c.left a ≡ true) × (is_same_tree e.left c.right ≡ true) = halves (is_same_tree c.left a) (is_same_tree e.left c.right) t in
    let first : Keeps a c.right = subst (λ z. Keeps z c.right) (same_tree c.left a x.0) hc in
    let second : Keeps c.right e.right = subst (λ z. Keeps z e.right) (same_tree e.left c.right x.1) he in
    comes_right b e.right e.after (λ b. Keeps a b) (λ n i. let s : a ≡ c.right = first n i in s ∙ second n (subst (λ z. IsNumeral z n) s i)))))

no_result : (op : Op) → op_value op [] ≡ None
no_result succ = refl
no_result log2 = refl
no_result add = refl
no_result sub = refl
no_result mul = refl
no_result div = refl
no_result modulo = refl
no_result gcd = refl
no_result beq = refl
no_result ble = refl
no_result land = refl
no_result lor = refl
no_result xor = refl
no_result shift_left = refl
no_result shift_right = refl
no_result pow = refl

nothing_computed : (w : Place) (o : Option Value) (b : Tree) (js : Left) (Q : Unit {0} → Type 0) → o ≡ None → IfSome (found w (result_of o) >>= λ o. tree_in o >>= λ r. comes_to b r js) Q
nothing_computed w None b js Q e = tt
nothing_computed w (Some v) b js Q e = absurd cc

-- no rule but that of two reductions states one of a literal
lit_keeps : (w : Place) (ps : List Claim) → Each ClaimKeeps ps → (r : ReductionRule) (n : ℕ) (b : Tree) (js : Left) → IfSome (red_test w ps r (lit n) b js) (λ u. Keeps (lit n) b)
unfolding head args
lit_keeps w ps k chain_rule n b js = chain_keeps ps k js (lit n) b
lit_keeps w ps k head_rule n b js = on_some (reduction ps js) _ (λ u. Keeps (lit n) b) (λ f e. tt)
lit_keeps w ps k beta_rule n b js = tt
lit_keeps w ps k zeta_rule n b js = tt
lit_keeps w ps k delta_rule n b js = tt
lit_keeps w ps k field_rule n b js = tt
lit_keeps w ps k major_rule n b js = tt
lit_keeps w ps k k_rule n b js = tt
lit_keeps w ps k expand_rule n b js = tt
lit_keeps w ps k lift_rule n b js = tt
lit_keeps w ps k ind_rule n b js = tt
lit_keeps w ps k operation_rule n b js = tt
lit_keeps w ps k (iota_rule i) n b js = tt

-- nor one of Nat.zero
zero_keeps : (w : Place) → HasNat w → KeepsNumerals w → (ps : List Claim) → Each ClaimKeeps ps → (r : ReductionRule) (b : Tree) (js : Left) → IfSome (red_test w ps r (named nat_zero) b js) (λ u. Keeps (named nat_zero) b)
unfolding head args
zero_keeps w nat kept ps k chain_rule b js = chain_keeps ps k js (named nat_zero) b
zero_keeps w nat kept ps k head_rule b js = on_some (reduction ps js) _ (λ u. Keeps (named nat_zero) b) (λ f e. tt)
zero_keeps w nat kept ps k beta_rule b js = tt
zero_keeps w nat kept ps k zeta_rule b js = tt
zero_keeps w nat kept ps k delta_rule b js =
    let Q : Unit {0} → Type 0 = λ u. Keeps (named nat_zero) b in
    on_some (w.means nat_zero) _ Q (λ g m. on_some (value_of g.kind) _ Q (λ v e. absurd (kept nat g v m (has_value g g.kind v refl e))))
zero_keeps w nat kept ps k field_rule b js = tt
zero_keeps w nat kept ps k major_rule b js = tt
zero_keeps w nat kept ps k k_rule b js = tt
zero_keeps w nat kept ps k expand_rule b js = tt
zero_keeps w nat kept ps k lift_rule b js = tt
zero_keeps w nat kept ps k ind_rule b js = tt
zero_keeps w nat kept ps k operation_rule b js =
    let Q : Unit {0} → Type 0 = λ u. Keeps (named nat_zero) b in
    on_some (op_named ops nat_zero) _ Q (λ op i.
    on_some (w.means nat_zero) _ Q (λ g m.
    on_test (may_give op g.kind) _ Q (λ y.
    on_some (found w nat_shape) _ Q (λ u z. nothing_computed w (op_value op []) b js Q (no_result op)))))
zero_keeps w nat kept ps k (iota_rule i) b js = tt

rule_keeps : (w : Place) → HasNat w → KeepsNumerals w → (ps : List Claim) → Each ClaimKeeps ps → (r : ReductionRule) (a b : Tree) (js : Left) → passes (red_test w ps r a b js) ≡ true → Keeps a b
rule_keeps w nat kept ps k r a b js h n of_lit = passed (red_test w ps r (lit n) b js) (Keeps (lit n) b) (lit_keeps w ps k r n b js) h n of_lit
rule_keeps w nat kept ps k r a b js h n of_zero = passed (red_test w ps r (named nat_zero) b js) (Keeps (named nat_zero) b) (zero_keeps w nat kept ps k r b js) h 0 of_zero

line_keeps : (w : Place) → HasNat w → KeepsNumerals w → (ps : List Claim) → Each ClaimKeeps ps → (l : Line) → line_holds w ps l ≡ true → ClaimKeeps (claim_of l)
line_keeps w nat kept ps k (ty r e T js) h = tt
line_keeps w nat kept ps k (rd r a b js) h = rule_keeps w nat kept ps k r a b js (halves (are_fine a b) (passes (red_test w ps r a b js)) h).1
line_keeps w nat kept ps k (cv r a b js) h = tt

standing : (qs : List Claim) (j : ℕ) (a b : Tree) → Each ClaimKeeps qs → Stands qs j (reduces a b) → Keeps a b
standing qs j a b k (inl e) = λ n i. e
standing qs j a b k (inr h) = some_holds (slice_get qs j) ClaimKeeps (reduces a b) (claim_there ClaimKeeps qs k j) h

pub numeral_alone : (w : Place) → HasNat w → KeepsNumerals w → (a b : Tree) → CanWrite w (reduces a b) → (n : ℕ) → IsNumeral a n → a ≡ b
numeral_alone w nat kept a b h =
    let x : IsWritten w [] (reduces a b) = h.written [] in
    let all : Each ClaimKeeps x.claims = some_holds (claims_by w [] x.lines) (Each ClaimKeeps) x.claims (each_line w ClaimKeeps (line_keeps w nat kept) x.lines [] tt) x.holds in
    standing x.claims x.place a b all x.stands
