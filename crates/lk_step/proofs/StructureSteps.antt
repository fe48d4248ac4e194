-- Steps of conversion by what a type is hold: eta of structures, and types without fields.
use Rattle.std.proofs.Common.{ℕ, suc, ◌≡◌, true, length, List, [], ◌∷◌, ◌++◌, Some, subst, sym, ap, ◌∙◌}
use Rattle.lk_tree.specs.Tree.{Name, Level, Tree, const, proj}
use Rattle.lk_tree.specs.Spine.{apply, IsHeadNormal}
use Rattle.lk_tree.specs.WellFormed.{IsWellFormed}
use Rattle.lk_rulebook.specs.Place.{Place}
use Rattle.lk_rulebook.specs.Structures.{Structure, StructureAt, structure_value, UnitLike}
use Rattle.lk_rulebook.specs.Claims.{Claim, types, reduces, equals}
use Rattle.lk_questions.specs.Tests.{passes}
use Rattle.lk_claims.proofs.Facts.{some_on}
use Rattle.lk_written.specs.Line.{unit_rule, struct_left_rule, struct_right_rule}
use Rattle.lk_written.specs.Premises.{Left, equal}
use Rattle.lk_written.specs.Equal.{fields_equal, eq_struct, eq_unit}
use Rattle.lk_written_sound.proofs.Writings.{with_reduct, with_equal}
use Rattle.lk_written_sound.proofs.MajorRules.{const_head, const_args}
use Rattle.lk_written_sound.proofs.StructureRules.{unit_passes, struct_passes}
use Rattle.lk_step.specs.Steps.{equality, AreNamed, StepHolds}
use Rattle.lk_step.specs.Equal.{field_claims, unit_claims, struct_claims}
use Rattle.lk_step.proofs.Naming.{Named, Leaves, equal_leaves, step_equals}

-- the numbers of four premises
pub four_numbers : (ps : List Claim) (js : Left) (e T₀ T d D x y : Tree) (n : AreNamed ps (types e T₀ ∷ reduces T₀ T ∷ types d D ∷ equals x y ∷ []) js) →
    js ≡ n.0 ∷ with_reduct T₀ T n.4.0 (n.4.4.0 ∷ with_equal x y n.4.4.4.0 [])
four_numbers ps js e T₀ T d D x y n =
    n.2 ∙ ap (λ z. n.0 ∷ z) (n.4.2 ∙ ap (λ z. with_reduct T₀ T n.4.0 z) (n.4.4.2 ∙ ap (λ z. n.4.4.0 ∷ z) (n.4.4.4.2 ∙ ap (λ z. with_equal x y n.4.4.4.0 z) n.4.4.4.4)))

pub unit_step : (w : Place) (u : UnitLike w) (ls : List Level) (bs : List Tree) (a b A B : Tree) → IsHeadNormal a → IsHeadNormal b → length bs ≡ u.ind.parameters → IsWellFormed a → IsWellFormed b →
    StepHolds w (equality unit_rule a b (unit_claims a b A B (apply (const u.name ls) bs)))
unit_step w u ls bs a b A B na nb count fa fb =
    let T : Tree = apply (const u.name ls) bs in
    step_equals w unit_rule a b (unit_claims a b A B T) fa fb (λ ps js h.
    let n : AreNamed ps (unit_claims a b A B T) js = h.are in
    subst (λ z. passes (eq_unit w ps z a b) ≡ true) (sym (four_numbers ps js a A T b B A B n))
    (unit_passes w ps n.0 n.4.0 n.4.4.0 n.4.4.4.0 u ls bs a b A B T na nb count (const_head u.name ls bs) (const_args u.name ls bs) n.3 n.4.3 n.4.4.3 n.4.4.4.3))

fields_named : (ps : List Claim) (J : Name) (a : Tree) (j : ℕ) (xs : List Tree) (js : Left) → Named ps (field_claims J a j xs) js → fields_equal ps js J a j xs ≡ Some []
fields_named ps J a j [] js h = let e : js ≡ [] = h.are in ap (λ z. Some z) e
fields_named ps J a j (x ∷ xs) js h =
    let read : Leaves ps (field_claims J a (suc j) xs) (equal ps js (proj J j a) x) = equal_leaves h in
    some_on (equal ps js (proj J j a) x) read.more _ [] read.given (fields_named ps J a (suc j) xs read.more read.named)

struct_named : (w : Place) (S : StructureAt w) (xs : List Tree) (a A B : Tree) → IsHeadNormal a → length xs ≡ S.structure.ctor.fields → (ps : List Claim) (js : Left) →
    Named ps (struct_claims a (structure_value S xs) A B (field_claims S.structure.ind.name a 0 xs)) js → passes (eq_struct w ps js a (structure_value S xs)) ≡ true
struct_named w S xs a A B na count ps js h =
    let s : Structure w = S.structure in
    let b : Tree = structure_value S xs in
    let n : AreNamed ps (struct_claims a b A B (field_claims s.ind.name a 0 xs)) js = h.are in
    let fields : fields_equal ps n.4.4.1 s.ind.name a 0 xs ≡ Some [] = fields_named ps s.ind.name a 0 xs n.4.4.1 (record { are = n.4.4.4 }) in
    subst (λ z. passes (eq_struct w ps z a b) ≡ true) (sym (n.2 ∙ ap (λ z. n.0 ∷ z) (n.4.2 ∙ ap (λ z. n.4.0 ∷ z) n.4.4.2)))
    (struct_passes w ps n.0 n.4.0 n.4.4.0 n.4.4.1 s S.levels S.params xs a b A B na S.params_are count
    (const_head s.ctor_name S.levels (S.params ++ xs)) (const_args s.ctor_name S.levels (S.params ++ xs)) n.3 n.4.3 n.4.4.3 fields)

pub struct_left_step : (w : Place) (S : StructureAt w) (xs : List Tree) (a A B : Tree) → IsHeadNormal a → length xs ≡ S.structure.ctor.fields → IsWellFormed a → IsWellFormed (structure_value S xs) →
    StepHolds w (equality struct_left_rule a (structure_value S xs) (struct_claims a (structure_value S xs) A B (field_claims S.structure.ind.name a 0 xs)))
struct_left_step w S xs a A B na count fa fb =
    step_equals w struct_left_rule a (structure_value S xs) (struct_claims a (structure_value S xs) A B (field_claims S.structure.ind.name a 0 xs)) fa fb
    (λ ps js h. struct_named w S xs a A B na count ps js h)

pub struct_right_step : (w : Place) (S : StructureAt w) (xs : List Tree) (a A B : Tree) → IsHeadNormal a → length xs ≡ S.structure.ctor.fields → IsWellFormed a → IsWellFormed (structure_value S xs) →
    StepHolds w (equality struct_right_rule (structure_value S xs) a (struct_claims a (structure_value S xs) A B (field_claims S.structure.ind.name a 0 xs)))
struct_right_step w S xs a A B na count fa fb =
    step_equals w struct_right_rule (structure_value S xs) a (struct_claims a (structure_value S xs) A B (field_claims S.structure.ind.name a 0 xs)) fb fa
    (λ ps js h. struct_named w S xs a A B na count ps js h)
