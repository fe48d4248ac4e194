-- What a section that holds states is derived, and its unit is good.
use Rattle.std.proofs.Common.{◌≡◌, true, List, [], ◌∷◌, Option, Some, None, subst, nat_eq, length}
use Rattle.lk_tree.specs.Tree.{Name, Level, zero_level, Tree}
use Rattle.lk_tree.specs.Level.{SameLevel, is_zero_level}
use Rattle.lk_tree.specs.WellFormed.{IsWellFormed}
use Rattle.lk_tree.proofs.Zero.{zero_level_same}
use Rattle.lk_rulebook.specs.Place.{Place, Hint, a_def}
use Rattle.lk_rulebook.specs.Quotients.{IsQuotient}
use Rattle.lk_rulebook.specs.Rules.{HasType, Reduces, IsDefEq, MeetsLaws, meets, AllHold, no_more_laws, holds}
use Rattle.lk_rulebook.proofs.Scopes.{well_formed_of_type}
use Rattle.lk_rulebook.specs.Shapes.{HasNat}
use Rattle.lk_rulebook.specs.Literals.{CanBeStated}
use Rattle.lk_rulebook.specs.NumberLaws.{Law, laws_of, stated_by}
use Rattle.lk_tree.specs.Operations.{Op}
use Rattle.lk_rulebook.specs.Units.{Body, as_axiom, as_def, as_thm, as_opaque, as_quot, Decl}
use Rattle.lk_questions.specs.Sound.{IsSoundPlace}
use Rattle.lk_questions.specs.QuotientUnits.{quot_steps}
use Rattle.lk_questions.specs.Shapes.{nat_shape}
use Rattle.lk_questions.specs.NumberLaws.{lawful_op, def_given, held_given}
use Rattle.lk_rulebook.specs.Derived.{IsOf, BodyDerived, DeclDerived}
use Rattle.lk_claims.proofs.Pieces.{halves, Some_inj, equal_numbers, no_item}
use Rattle.lk_claims.proofs.Shaped.{sound_nat_shape}
use Rattle.lk_claims.proofs.NumberLaws.{AllFine, laws_fine, HasLaws, sound_def_given, lawful_of}
use Rattle.lk_claims.proofs.QuotChecks.{sound_quot_steps}
use Rattle.lk_rulebook.specs.Claims.{Claim, Derived, AllDerived}
use Rattle.lk_written.specs.Line.{TypingRule, sort_rule, local_rule, const_rule, app_rule, let_rule, lit_rule, str_rule, proj_rule, lam_rule, pi_rule, ReductionRule, chain_rule, head_rule, beta_rule, zeta_rule, delta_rule, field_rule, major_rule, k_rule, expand_rule, lift_rule, ind_rule, operation_rule, iota_rule, EqualityRule, reduce_rule, sorts_rule, consts_rule, apps_rule, projs_rule, lams_rule, pis_rule, eta_rule, struct_left_rule, struct_right_rule, unit_rule, proof_rule, zero_rule, succ_rule, str_left_rule, str_right_rule, Line, ty, rd, cv, claim_of}
use Rattle.lk_questions.specs.Tests.{passes, found}
use Rattle.lk_written.specs.Premises.{is_fine, Left, equal}
use Rattle.lk_written.specs.Typing.{type_test}
use Rattle.lk_written.specs.Reducing.{red_test}
use Rattle.lk_written.specs.Equal.{eq_test}
use Rattle.lk_written.specs.Section.{Section, are_fine, line_holds, claims_by, value_read, value_test, laws_read, laws_test, body_test, parts_test, section_test}
use Rattle.lk_written_sound.proofs.Premises.{IfSome, Each, if_map, if_bind, on_some, on_test, passed, if_none_left, fine_right, found_right, equal_right, on_typed, on_equal, on_sorted}
use Rattle.lk_written_sound.proofs.Lines.{each_line, some_holds}
use Rattle.lk_written_sound.proofs.Typings.{sort_is as type_sort_is, local_is, const_is, app_is, lam_is, pi_is, let_is, lit_is, str_is}
use Rattle.lk_written_sound.proofs.Projs.{proj_is}
use Rattle.lk_written_sound.proofs.Reductions.{chain_is, head_is, beta_is, zeta_is, delta_is, field_is, lift_is, ind_is}
use Rattle.lk_written_sound.proofs.Majors.{major_is, iota_is, k_is, expand_is}
use Rattle.lk_written_sound.proofs.Operations.{operation_is}
use Rattle.lk_written_sound.proofs.Equalities.{reduce_is, sorts_is, consts_is, apps_is, lams_is, pis_is, projs_is, eta_is, struct_is, unit_is, proof_is, zero_is, succ_is, str_left_is, str_right_is}

type_line : (w : Place) → IsSoundPlace w → (ps : List Claim) → AllDerived w ps → (r : TypingRule) (e T : Tree) (js : Left) → IsWellFormed e → IsWellFormed T → IfSome (type_test w ps r e T js) (λ u. HasType w e T)
type_line w ok ps d sort_rule e T js fe fT = type_sort_is w js e T
type_line w ok ps d local_rule e T js fe fT = local_is w js e T fe
type_line w ok ps d const_rule e T js fe fT = const_is w js e T fT
type_line w ok ps d app_rule e T js fe fT = app_is w ps d js e T
type_line w ok ps d (lam_rule x) e T js fe fT = lam_is w ps d js x e T
type_line w ok ps d (pi_rule x) e T js fe fT = pi_is w ps d js x e T
type_line w ok ps d let_rule e T js fe fT = let_is w ps d js e T
type_line w ok ps d lit_rule e T js fe fT = lit_is w js e T fe
type_line w ok ps d str_rule e T js fe fT = str_is w js e T
type_line w ok ps d proj_rule e T js fe fT = proj_is w ok.stated ps d js e T fe

red_line : (w : Place) → IsSoundPlace w → (ps : List Claim) → AllDerived w ps → (r : ReductionRule) (a b : Tree) (js : Left) → IsWellFormed a → IsWellFormed b → IfSome (red_test w ps r a b js) (λ u. Reduces w a b)
red_line w ok ps d chain_rule a b js fa fb = chain_is w ps d js a b
red_line w ok ps d head_rule a b js fa fb = head_is w ps d js a b fa
red_line w ok ps d beta_rule a b js fa fb = beta_is w js a b fa
red_line w ok ps d zeta_rule a b js fa fb = zeta_is w js a b fa
red_line w ok ps d delta_rule a b js fa fb = delta_is w js a b fa fb
red_line w ok ps d field_rule a b js fa fb = field_is w ps d js a b fa fb
red_line w ok ps d major_rule a b js fa fb = major_is w ps d js a b fa
red_line w ok ps d (iota_rule i) a b js fa fb = iota_is w i js a b fa fb
red_line w ok ps d k_rule a b js fa fb = k_is w ps d js a b fa
red_line w ok ps d expand_rule a b js fa fb = expand_is w ok.stated ps d js a b fa
red_line w ok ps d lift_rule a b js fa fb = lift_is w ps d js a b fa
red_line w ok ps d ind_rule a b js fa fb = ind_is w ps d js a b fa
red_line w ok ps d operation_rule a b js fa fb = operation_is w ok.lawful ps d js a b fa

eq_line : (w : Place) → IsSoundPlace w → (ps : List Claim) → AllDerived w ps → (r : EqualityRule) (a b : Tree) (js : Left) → IsWellFormed a → IsWellFormed b → IfSome (eq_test w ps r a b js) (λ u. IsDefEq w a b)
eq_line w ok ps d reduce_rule a b js fa fb = reduce_is w ps d js a b fa fb
eq_line w ok ps d sorts_rule a b js fa fb = sorts_is w js a b
eq_line w ok ps d consts_rule a b js fa fb = consts_is w js a b
eq_line w ok ps d apps_rule a b js fa fb = apps_is w ps d js a b fa
eq_line w ok ps d (lams_rule x) a b js fa fb = lams_is w ps d js x a b fa
eq_line w ok ps d (pis_rule x) a b js fa fb = pis_is w ps d js x a b fa
eq_line w ok ps d projs_rule a b js fa fb = projs_is w ps d js a b fa
eq_line w ok ps d eta_rule a b js fa fb = eta_is w ps d js a b fa
eq_line w ok ps d struct_left_rule a b js fa fb = struct_is w ok.stated ps d js a b (IsDefEq w a b) (λ p. p.0)
eq_line w ok ps d struct_right_rule a b js fa fb = struct_is w ok.stated ps d js b a (IsDefEq w a b) (λ p. p.1)
eq_line w ok ps d unit_rule a b js fa fb = unit_is w ps d js a b
eq_line w ok ps d proof_rule a b js fa fb = proof_is w ps d js a b
eq_line w ok ps d zero_rule a b js fa fb = zero_is w js a b
eq_line w ok ps d succ_rule a b js fa fb = succ_is w ps d js a b fa fb
eq_line w ok ps d str_left_rule a b js fa fb = str_left_is w ps d js a b
eq_line w ok ps d str_right_rule a b js fa fb = str_right_is w ps d js a b fa

both_fine : (a b : Tree) → are_fine a b ≡ true → IsWellFormed a × IsWellFormed b
both_fine a b h = let x : (is_fine 0 a ≡ true) × (is_fine 0 b ≡ true) = halves (is_fine 0 a) (is_fine 0 b) h in (fine_right 0 a x.0, fine_right 0 b x.1)

pub line_right : (w : Place) → IsSoundPlace w → (ps : List Claim) → AllDerived w ps → (l : Line) → line_holds w ps l ≡ true → Derived w (claim_of l)
line_right w ok ps d (ty r e T js) h =
    let x : (are_fine e T ≡ true) × (passes (type_test w ps r e T js) ≡ true) = halves (are_fine e T) (passes (type_test w ps r e T js)) h in
    let f : IsWellFormed e × IsWellFormed T = both_fine e T x.0 in
    passed (type_test w ps r e T js) (HasType w e T) (type_line w ok ps d r e T js f.0 f.1) x.1
line_right w ok ps d (rd r a b js) h =
    let x : (are_fine a b ≡ true) × (passes (red_test w ps r a b js) ≡ true) = halves (are_fine a b) (passes (red_test w ps r a b js)) h in
    let f : IsWellFormed a × IsWellFormed b = both_fine a b x.0 in
    passed (red_test w ps r a b js) (Reduces w a b) (red_line w ok ps d r a b js f.0 f.1) x.1
line_right w ok ps d (cv r a b js) h =
    let x : (are_fine a b ≡ true) × (passes (eq_test w ps r a b js) ≡ true) = halves (are_fine a b) (passes (eq_test w ps r a b js)) h in
    let f : IsWellFormed a × IsWellFormed b = both_fine a b x.0 in
    passed (eq_test w ps r a b js) (IsDefEq w a b) (eq_line w ok ps d r a b js f.0 f.1) x.1

all_derived : (w : Place) (ps : List Claim) → Each (Derived w) ps → AllDerived w ps
all_derived w [] d = tt
all_derived w (c ∷ cs) d = (d.0, all_derived w cs d.1)

-- each line states what is derived
claims_right : (w : Place) → IsSoundPlace w → (ls : List Line) → IfSome (claims_by w [] ls) (λ qs. AllDerived w qs)
claims_right w ok ls = if_map (claims_by w [] ls) (Each (Derived w)) (λ qs. AllDerived w qs) (each_line w (Derived w) (λ ps d l h. line_right w ok ps (all_derived w ps d) l h) ls [] tt) (λ qs d. all_derived w qs d)

value_right : (w : Place) (ps : List Claim) → AllDerived w ps → (js : Left) (type value : Tree) → IfSome (value_read ps js type value) (λ r. IsOf w value type)
value_right w ps d js type value =
    on_typed w ps d js value _ (λ r. IsOf w value type) (λ V h.
    if_map (equal ps V.1 V.0 type) (λ r. IsDefEq w V.0 type) (λ r. IsOf w value type) (equal_right w ps d V.1 V.0 type (well_formed_of_type h).1) (λ r q. record { inferred = V.0; types = h; equals = q }))

value_alone : (w : Place) (ps : List Claim) → AllDerived w ps → (js : Left) (type value : Tree) → IfSome (value_test ps js type value) (λ u. IsOf w value type)
value_alone w ps d js type value =
    if_bind (value_read ps js type value) _ (λ r. IsOf w value type) (λ u. IsOf w value type) (value_right w ps d js type value) (λ r h. if_none_left r (IsOf w value type) h)

laws_right : (w : Place) (ps : List Claim) → AllDerived w ps → (js : Left) (laws : List Law) → AllFine laws → IfSome (laws_read w ps js laws) (λ u. AllHold w laws)
laws_right w ps d js [] f = if_none_left js (AllHold w []) no_more_laws
laws_right w ps d js (law ∷ laws) f =
    on_some (found w (held_given law.holds)) _ (λ u. AllHold w (law ∷ laws)) (λ u e.
    on_equal w ps d js law.left law.right f.0.0 _ (λ u. AllHold w (law ∷ laws)) (λ r q.
    if_map (laws_read w ps r laws) (λ u. AllHold w laws) (λ u. AllHold w (law ∷ laws)) (laws_right w ps d r laws f.1) (λ u more. holds q more)))

lawful_right : (w : Place) (ps : List Claim) → AllDerived w ps → (js : Left) (o : Option Op) (ls : List Name) (type : Tree) (h : Hint) (value : Tree) → IsWellFormed value →
    IfSome (laws_test w ps js o ls value) (λ u. HasLaws w (record { levels = ls; type = type; kind = a_def h value }) o)
lawful_right w ps d js None ls type h value f = if_none_left js _ (λ op e. absurd cc)
lawful_right w ps d js (Some op) ls type h value f =
    let G : Type 0 = HasLaws w (record { levels = ls; type = type; kind = a_def h value }) (Some op) in
    if_bind (found w nat_shape) _ (λ u. HasNat w) (λ u. G) (found_right w nat_shape (λ u. HasNat w) (sound_nat_shape w)) (λ u shape.
    on_test (nat_eq (length ls) 0) _ (λ u. G) (λ n.
    if_bind (found w (def_given (stated_by op))) _ (λ u. CanBeStated w (stated_by op)) (λ u. G) (found_right w (def_given (stated_by op)) (λ u. CanBeStated w (stated_by op)) (sound_def_given w (stated_by op))) (λ y stated.
    if_map (laws_read w ps js (laws_of op value)) (λ u. AllHold w (laws_of op value)) (λ u. G) (laws_right w ps d js (laws_of op value) (laws_fine op value f))
    (λ u all p e. (shape, subst (λ q. MeetsLaws w q (record { levels = ls; type = type; kind = a_def h value })) (Some_inj e) (meets (λ t. no_item ls (equal_numbers (length ls) 0 n)) stated all))))))

body_right : (w : Place) (ps : List Claim) → AllDerived w ps → (js : Left) (d : Decl) (l : Level) (b : Body) → IfSome (body_test w ps js d l b) (λ u. BodyDerived w d l b)
body_right w ps h js d l as_axiom = if_none_left js (Unit {0}) tt
body_right w ps h js d l (as_def i value) =
    if_bind (value_read ps js d.type value) _ (λ r. IsOf w value d.type) (λ u. BodyDerived w d l (as_def i value)) (value_right w ps h js d.type value) (λ r v.
    if_map (laws_test w ps r (lawful_op d.name) d.levels value) _ (λ u. BodyDerived w d l (as_def i value)) (lawful_right w ps h r (lawful_op d.name) d.levels d.type i value (well_formed_of_type v.types).0) (λ u laws. (v, lawful_of w d i value laws)))
body_right w ps h js d l (as_opaque value) = value_alone w ps h js d.type value
body_right w ps h js d l (as_thm value) = on_test (is_zero_level l) _ (λ u. IsOf w value d.type × SameLevel l zero_level)
    (λ z. if_map (value_test ps js d.type value) (λ u. IsOf w value d.type) (λ u. IsOf w value d.type × SameLevel l zero_level) (value_alone w ps h js d.type value) (λ u i. (i, zero_level_same l z)))
body_right w ps h js d l as_quot = if_bind (found w (quot_steps d.name d.levels d.type)) _ (λ u. IsQuotient w d.name d.levels d.type) (λ u. IsQuotient w d.name d.levels d.type)
    (found_right w (quot_steps d.name d.levels d.type) (λ u. IsQuotient w d.name d.levels d.type) (sound_quot_steps w d.name d.levels d.type)) (λ u q. if_none_left js (IsQuotient w d.name d.levels d.type) q)

parts_right : (w : Place) (ps : List Claim) → AllDerived w ps → (js : Left) (d : Decl) → IfSome (parts_test w ps js d) (λ u. DeclDerived w d)
parts_right w ps h js d =
    on_sorted w ps h js d.type _ (λ u. DeclDerived w d) (λ l s.
    if_map (body_test w ps l.1 d l.0 d.body) (λ u. BodyDerived w d l.0 d.body) (λ u. DeclDerived w d) (body_right w ps h l.1 d l.0 d.body) (λ u b. record { level = l.0; sorted = s; body = b }))

pub section_right : (w : Place) → IsSoundPlace w → (d : Decl) (s : Section) → IfSome (section_test w d s) (λ u. DeclDerived w d)
section_right w ok d s = if_bind (claims_by w [] s.lines) _ (λ ps. AllDerived w ps) (λ u. DeclDerived w d) (claims_right w ok s.lines) (λ ps h. parts_right w ps h s.parts d)

pub lines_right : (w : Place) → IsSoundPlace w → (ls : List Line) (qs : List Claim) → claims_by w [] ls ≡ Some qs → AllDerived w qs
lines_right w ok ls qs e = some_holds (claims_by w [] ls) (λ qs. AllDerived w qs) qs (claims_right w ok ls) e
