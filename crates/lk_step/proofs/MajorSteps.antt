-- Steps of reduction by what a major premise is, or by the numbers that arguments come to, hold.
use Rattle.std.proofs.Common.{ℕ, ◌≡◌, true, false, List, [], ◌∷◌, ◌++◌, Some, refl, subst, sym, ap, ◌∙◌}
use Rattle.lk_tree.specs.Tree.{Name, Level, Tree, sort, const, app}
use Rattle.lk_tree.specs.Level.{is_zero_level}
use Rattle.lk_tree.specs.Operations.{Op, op_value}
use Rattle.lk_tree.specs.Spine.{apply}
use Rattle.lk_tree.specs.WellFormed.{IsWellFormed, AllWellFormed}
use Rattle.lk_tree.proofs.Spines.{fine_apply}
use Rattle.lk_rulebook.specs.Place.{Place}
use Rattle.lk_rulebook.specs.Names.{named, op_name, quot_mk, quot_lift, quot_ind}
use Rattle.lk_rulebook.specs.Shapes.{HasNat}
use Rattle.lk_rulebook.specs.Literals.{IsNumeral, IsOperation}
use Rattle.lk_rulebook.specs.Quotients.{IsQuot}
use Rattle.lk_rulebook.specs.Structures.{Structure, StructureAt, structure_type, expanded, ctor_app, RecApp, on_major, HasOnlyRule, KMajor, k_type}
use Rattle.lk_rulebook.specs.Claims.{Claim, types, reduces, equals}
use Rattle.lk_questions.specs.Shapes.{nat_shape}
use Rattle.lk_questions.specs.Literals.{numeral_of, result_of}
use Rattle.lk_questions.specs.Tests.{passes, found}
use Rattle.lk_claims.proofs.Facts.{some_on}
use Rattle.lk_claims.proofs.Numerals.{numeral_right}
use Rattle.lk_written.specs.Line.{k_rule, expand_rule, lift_rule, ind_rule, operation_rule}
use Rattle.lk_written.specs.Premises.{Left, reduced, sorted}
use Rattle.lk_written.specs.Reducing.{numbers, red_k, red_expand, red_quot}
use Rattle.lk_written.specs.Written.{CanWrite, KeepsNumerals}
use Rattle.lk_written_sound.proofs.Writings.{with_reduct}
use Rattle.lk_written_sound.proofs.Numerals.{numeral_alone}
use Rattle.lk_written_sound.proofs.MajorRules.{const_head, const_args, major_there, k_passes, quot_passes}
use Rattle.lk_written_sound.proofs.StructureRules.{expand_passes}
use Rattle.lk_written_sound.proofs.OperationRule.{operation_passes}
use Rattle.lk_step.specs.Steps.{reduction, AreNamed, StepHolds}
use Rattle.lk_step.specs.MajorSteps.{k_claims, expand_claims, KeepsNumeral, Agrees, AllAgree, IsAny, AreNumerals, no_numeral, a_numeral, MajorSteps}
use Rattle.lk_step.proofs.Naming.{Named, NextIsOther, none_next, Gives, reduced_gives, sorted_gives, step_reduces}
use Rattle.lk_step.proofs.StructureSteps.{four_numbers}

k_step : (w : Place) (R : RecApp w) (k : KMajor R) (e T₀ D : Tree) → IsWellFormed e → IsWellFormed (ctor_app k.ctor) →
    StepHolds w (reduction k_rule (on_major R e) (on_major R (ctor_app k.ctor)) (k_claims e T₀ (k_type k) (ctor_app k.ctor) D))
k_step w R k e T₀ D fe fd =
    let F : Tree = apply (const R.name R.levels) R.front in
    let T : Tree = k_type k in
    let d : Tree = ctor_app k.ctor in
    step_reduces w k_rule (app F e) (app F d) (k_claims e T₀ T d D) (R.fine, fe) (R.fine, fd) (λ ps js h.
    let n : AreNamed ps (k_claims e T₀ T d D) js = h.are in
    subst (λ z. passes (red_k w ps z (app F e) (app F d)) ≡ true) (sym (four_numbers ps js e T₀ T d D T D n))
    (k_passes w ps n.0 n.4.0 n.4.4.0 n.4.4.4.0 R k e T₀ D F T d (const_head R.name R.levels R.front) (const_args R.name R.levels R.front)
    (const_head k.ctor.ind.name k.ctor.levels (k.ctor.args ++ k.rest)) (const_args k.ctor.ind.name k.ctor.levels (k.ctor.args ++ k.rest)) refl n.3 n.4.3 n.4.4.3 n.4.4.4.3))

expand_step : (w : Place) (R : RecApp w) (S : StructureAt w) (m T₀ U : Tree) (l : Level) → HasOnlyRule R S.structure.ctor_name → is_zero_level l ≡ false → IsWellFormed m → IsWellFormed (expanded S m) →
    StepHolds w (reduction expand_rule (on_major R m) (on_major R (expanded S m)) (expand_claims m T₀ (structure_type S) U l))
expand_step w R S m T₀ U l o z fm fx =
    let s : Structure w = S.structure in
    let F : Tree = apply (const R.name R.levels) R.front in
    let T : Tree = structure_type S in
    let x : Tree = expanded S m in
    let last : List Claim = types T U ∷ reduces U (sort l) ∷ [] in
    step_reduces w expand_rule (app F m) (app F x) (expand_claims m T₀ T U l) (R.fine, fm) (R.fine, fx) (λ ps js h.
    let n : AreNamed ps (expand_claims m T₀ T U l) js = h.are in
    let rest : Named ps (types T U ∷ reduces U (sort l) ∷ []) n.4.1 = record { are = n.4.4 } in
    let read : Gives ps [] (sorted ps n.4.1 T) l = sorted_gives rest (λ e. tt) in
    let none : read.more ≡ [] = read.named.are in
    subst (λ y. passes (red_expand w ps y (app F m) (app F x)) ≡ true) (sym (n.2 ∙ ap (λ y. n.0 ∷ y) n.4.2))
    (expand_passes w ps n.0 n.4.0 n.4.1 R.name s R.levels S.levels S.params m T₀ F T x l R.entry R.recursor o.rule o.one_rule o.for_ctor S.params_are
    (major_there w R.name R.levels R.front R.entry R.recursor R.given R.kind R.front_is) (const_head s.ind.name S.levels S.params) (const_args s.ind.name S.levels S.params) refl
    n.3 n.4.3 (none_next ps last n.4.1 T₀ n.4.4 tt) (subst (λ y. sorted ps n.4.1 T ≡ Some (l, y)) none read.given) z))

quot_named : (w : Place) (ps : List Claim) (js : Left) (q : Name) (f m : Tree) (ks : List Level) (A r a : Tree) → IsQuot w q → IsQuot w quot_mk →
    AreNamed ps (reduces m (apply (const quot_mk ks) (A ∷ r ∷ a ∷ [])) ∷ []) js → passes (red_quot w ps js q q f m (app f a)) ≡ true
quot_named w ps js q f m ks A r a i im n =
    subst (λ z. passes (red_quot w ps z q q f m (app f a)) ≡ true) (sym (n.2 ∙ ap (λ z. with_reduct m (apply (const quot_mk ks) (A ∷ r ∷ a ∷ [])) n.0 z) n.4))
    (quot_passes w ps n.0 q f m ks A r a i im n.3)

lift_step : (w : Place) (ls ks : List Level) (A r B f h m A' r' a : Tree) → IsQuot w quot_lift → IsQuot w quot_mk → AllWellFormed (A ∷ r ∷ B ∷ f ∷ h ∷ m ∷ []) → IsWellFormed a →
    StepHolds w (reduction lift_rule (apply (const quot_lift ls) (A ∷ r ∷ B ∷ f ∷ h ∷ m ∷ [])) (app f a) (reduces m (apply (const quot_mk ks) (A' ∷ r' ∷ a ∷ [])) ∷ []))
lift_step w ls ks A r B f h m A' r' a i im fs fa =
    step_reduces w lift_rule (apply (const quot_lift ls) (A ∷ r ∷ B ∷ f ∷ h ∷ m ∷ [])) (app f a) (reduces m (apply (const quot_mk ks) (A' ∷ r' ∷ a ∷ [])) ∷ [])
    (fine_apply (const quot_lift ls) (A ∷ r ∷ B ∷ f ∷ h ∷ m ∷ []) tt fs) (fs.1.1.1.0, fa) (λ ps js n. quot_named w ps js quot_lift f m ks A' r' a i im n.are)

ind_step : (w : Place) (ls ks : List Level) (A r B h m A' r' a : Tree) → IsQuot w quot_ind → IsQuot w quot_mk → AllWellFormed (A ∷ r ∷ B ∷ h ∷ m ∷ []) → IsWellFormed a →
    StepHolds w (reduction ind_rule (apply (const quot_ind ls) (A ∷ r ∷ B ∷ h ∷ m ∷ [])) (app h a) (reduces m (apply (const quot_mk ks) (A' ∷ r' ∷ a ∷ [])) ∷ []))
ind_step w ls ks A r B h m A' r' a i im fs fa =
    step_reduces w ind_rule (apply (const quot_ind ls) (A ∷ r ∷ B ∷ h ∷ m ∷ [])) (app h a) (reduces m (apply (const quot_mk ks) (A' ∷ r' ∷ a ∷ [])) ∷ [])
    (fine_apply (const quot_ind ls) (A ∷ r ∷ B ∷ h ∷ m ∷ []) tt fs) (fs.1.1.1.0, fa) (λ ps js n. quot_named w ps js quot_ind h m ks A' r' a i im n.are)

-- what is named first of these is no reduction of a numeral
numerals_other : {es : List Tree} {ns : List ℕ} {cs : List Claim} → AreNumerals KeepsNumeral es ns cs → (x : Tree) (m : ℕ) → IsNumeral x m → NextIsOther cs x
numerals_other no_numeral x m g = tt
numerals_other (a_numeral keeps t k) x m g = ((λ s. keeps m (subst (λ y. IsNumeral y m) (sym s) g)), numerals_other k x m g)

numbers_named : (ps : List Claim) {es : List Tree} {ns : List ℕ} {cs : List Claim} → AreNumerals KeepsNumeral es ns cs → (js : Left) → Named ps cs js → numbers ps js es ≡ Some (ns, [])
numbers_named ps no_numeral js h = let e : js ≡ [] = h.are in subst (λ z. numbers ps z [] ≡ Some ([], [])) (sym e) refl
numbers_named ps (a_numeral {e = e} {v = v} {n = n} {es = es} {ns = ns} {cs = cs} keeps t k) js h =
    let read : Gives ps cs (reduced ps js e) v = reduced_gives h (λ s. numerals_other k e n (subst (λ y. IsNumeral y n) (sym s) (numeral_right v n t))) in
    some_on (reduced ps js e) (v, read.more) _ (n ∷ ns, []) read.given
    (some_on (numeral_of v) n _ (n ∷ ns, []) t
    (some_on (numbers ps read.more es) (ns, []) _ (n ∷ ns, []) (numbers_named ps k read.more read.named) refl))

operation_step : (w : Place) (op : Op) (es : List Tree) (ns : List ℕ) (r : Tree) (cs : List Claim) → IsOperation w op → found w nat_shape ≡ Some tt → AreNumerals KeepsNumeral es ns cs →
    found w (result_of (op_value op ns)) ≡ Some (Some r) → AllWellFormed es → IsWellFormed r → StepHolds w (reduction operation_rule (apply (named (op_name op)) es) r cs)
operation_step w op es ns r cs i s all t fes fr =
    step_reduces w operation_rule (apply (named (op_name op)) es) r cs (fine_apply (named (op_name op)) es tt fes) fr (λ ps js h.
    operation_passes w ps js op es ns r (apply (named (op_name op)) es) i (const_head (op_name op) [] es) (const_args (op_name op) [] es) s (numbers_named ps all js h) t)

-- where equal trees reduce to equal ones, what is named first of these is no reduction of e but to itself
agreed_other : (e v : Tree) → e ≡ v → (cs : List Claim) → Agrees e v cs → NextIsOther cs e
agreed_other e v s [] h = tt
agreed_other e v s (types x T ∷ cs) h = tt
agreed_other e v s (reduces a b ∷ cs) h = ((λ x. x ∙ s ∙ sym (h.0 x)), agreed_other e v s cs h.1)
agreed_other e v s (equals a b ∷ cs) h = agreed_other e v s cs h

agreed_named : (ps : List Claim) {es : List Tree} {ns : List ℕ} {cs : List Claim} → AreNumerals IsAny es ns cs → AllAgree cs → (js : Left) → Named ps cs js → numbers ps js es ≡ Some (ns, [])
agreed_named ps no_numeral all js h = let e : js ≡ [] = h.are in subst (λ z. numbers ps z [] ≡ Some ([], [])) (sym e) refl
agreed_named ps (a_numeral {e = e} {v = v} {n = n} {es = es} {ns = ns} {cs = cs} any t k) all js h =
    let read : Gives ps cs (reduced ps js e) v = reduced_gives h (λ s. agreed_other e v s cs all.0) in
    some_on (reduced ps js e) (v, read.more) _ (n ∷ ns, []) read.given
    (some_on (numeral_of v) n _ (n ∷ ns, []) t
    (some_on (numbers ps read.more es) (ns, []) _ (n ∷ ns, []) (agreed_named ps k all.1 read.more read.named) refl))

agreed_operation_step : (w : Place) (op : Op) (es : List Tree) (ns : List ℕ) (r : Tree) (cs : List Claim) → IsOperation w op → found w nat_shape ≡ Some tt → AreNumerals IsAny es ns cs → AllAgree cs →
    found w (result_of (op_value op ns)) ≡ Some (Some r) → AllWellFormed es → IsWellFormed r → StepHolds w (reduction operation_rule (apply (named (op_name op)) es) r cs)
agreed_operation_step w op es ns r cs i s all agree t fes fr =
    step_reduces w operation_rule (apply (named (op_name op)) es) r cs (fine_apply (named (op_name op)) es tt fes) fr (λ ps js h.
    operation_passes w ps js op es ns r (apply (named (op_name op)) es) i (const_head (op_name op) [] es) (const_args (op_name op) [] es) s (agreed_named ps all agree js h) t)

-- what can be written keeps numerals
numerals_keep : (w : Place) → HasNat w → KeepsNumerals w → {es : List Tree} {ns : List ℕ} {cs : List Claim} → AreNumerals (CanWrite w) es ns cs → AreNumerals KeepsNumeral es ns cs
numerals_keep w nat kept no_numeral = no_numeral
numerals_keep w nat kept (a_numeral {e = e} {v = v} h t k) = a_numeral (numeral_alone w nat kept e v h) t (numerals_keep w nat kept k)

numerals_fine : (w : Place) {es : List Tree} {ns : List ℕ} {cs : List Claim} → AreNumerals (CanWrite w) es ns cs → AllWellFormed es
numerals_fine w no_numeral = tt
numerals_fine w (a_numeral h t k) = (h.shaped.0, numerals_fine w k)

written_operation_step : (w : Place) → KeepsNumerals w → HasNat w → (op : Op) (es : List Tree) (ns : List ℕ) (r : Tree) (cs : List Claim) → IsOperation w op → found w nat_shape ≡ Some tt → AreNumerals (CanWrite w) es ns cs →
    found w (result_of (op_value op ns)) ≡ Some (Some r) → IsWellFormed r → StepHolds w (reduction operation_rule (apply (named (op_name op)) es) r cs)
written_operation_step w kept nat op es ns r cs i s all t fr = operation_step w op es ns r cs i s (numerals_keep w nat kept all) t (numerals_fine w all) fr

pub major_steps : (w : Place) → MajorSteps w
major_steps w = record {
  k = λ R k e T₀ D fe fd. k_step w R k e T₀ D fe fd;
  expand = λ R S m T₀ U l o z fm fx. expand_step w R S m T₀ U l o z fm fx;
  lift = λ ls ks A r B f h m A' r' a i im fs fa. lift_step w ls ks A r B f h m A' r' a i im fs fa;
  ind = λ ls ks A r B h m A' r' a i im fs fa. ind_step w ls ks A r B h m A' r' a i im fs fa;
  operation = λ op es ns r cs i s all t fes fr. operation_step w op es ns r cs i s all t fes fr;
  written_operation = λ kept nat op es ns r cs i s all t fr. written_operation_step w kept nat op es ns r cs i s all t fr;
  operation_agreed = λ op es ns r cs i s all agree t fes fr. agreed_operation_step w op es ns r cs i s all agree t fes fr;
}
