-- A structure, as the rules of projections take it.
use Rattle.std.proofs.Common.{ℕ, suc, ◌≡◌, ◌<◌, ◌+◌, false, nat_eq, List, [], ◌∷◌, length, Option, Some, None, refl, subst, sym, ap, ◌∙◌, arith}
use Rattle.std.proofs.lemmas.Bool.Decides.{nat_tests}
use Rattle.lk_tree.specs.Tree.{Name, Level, Tree, const, sort, proj}
use Rattle.lk_tree.specs.Level.{is_zero_level}
use Rattle.lk_tree.specs.Levels.{put_levels}
use Rattle.lk_tree.specs.Spine.{apply, head, args}
use Rattle.lk_tree.specs.WellFormed.{IsWellFormed, AllWellFormed}
use Rattle.lk_tree.proofs.Spines.{well_formed_of_apply}
use Rattle.lk_tree.proofs.Within.{apply_head_args, fine_put_levels}
use Rattle.lk_rulebook.specs.Place.{Place, Entry, a_type, BlockType, Ctor}
use Rattle.lk_rulebook.specs.WellStated.{WellStated, KindStated, CtorsStated}
use Rattle.lk_rulebook.specs.Structures.{Projectable, projectable_type}
use Rattle.lk_rulebook.specs.Claims.{types, reduces}
use Rattle.lk_questions.specs.Query.{infer, whnf}
use Rattle.lk_questions.specs.Iota.{levels_at}
use Rattle.lk_claims.proofs.Facts.{same_name_levels}
use Rattle.lk_claims.proofs.Pieces.{Some_inj}
use Rattle.lk_written.specs.Line.{proj_rule}
use Rattle.lk_store.specs.Contents.{Contents, Extends, IsTree}
use Rattle.lk_store.specs.Store.{contents_of}
use Rattle.lk_env.specs.StoredLibrary.{StoredLibrary}
use Rattle.lk_ask.specs.Constants.{IsAtLevels}
use Rattle.lk_structure.specs.declared.structure.Structure.{Structure}
use Rattle.lk_structure.specs.Structures.{with_one, structure_in, IsStructure, IsStructureIf}
use Rattle.lk_structure.proofs.Structured.{some_structure, none_structure, lent_is, stated_is}
use Rattle.lk_step.specs.Rows.{a_claim}
use Rattle.lk_step.specs.Shaped.{IsShapedAnswer}
use Rattle.lk_step.specs.Steps.{typing, StepHolds}
use Rattle.lk_step.proofs.Shapes.{shaped_answer}
use Rattle.lk_step.proofs.TypingSteps.{typing_steps}
use Rattle.lk_derive_types.specs.Projections.{ParametersFinish}
use Rattle.lk_derive_types.specs.Subjects.{IsStructureType, constructor_type, IsStructureRead}
use Rattle.lk_derive_types.proofs.SubjectRuns.{ProjectionRun}

module _ (w : Place) (S : Name) (T : Tree) (s : IsStructureType w S T) where
  abbrev projectable : Projectable w
  projectable = record { name = S; levels = s.levels; args = args T; entry = s.entry; block = s.block; ind = s.ind; ctor = s.ctor; given = s.given; kind = s.kind; args_are = s.count; one_ctor = s.one_ctor; levels_are = s.level_count }

  type_is : projectable_type projectable ≡ T
  type_is = subst (λ h. apply h (args T) ≡ T) (same_name_levels S T s.levels (head T) refl s.levels_are) (apply_head_args T)

  pub arguments_fine : IsWellFormed T → AllWellFormed (args T)
  arguments_fine f = (well_formed_of_apply (const S s.levels) (args T) (subst IsWellFormed (sym type_is) f)).1

  -- its constructor's type is closed
  pub constructor_fine : WellStated w → IsWellFormed (constructor_type s)
  constructor_fine ok =
      let k : KindStated (a_type s.block s.ind) = subst KindStated s.kind (ok S s.entry s.given).1 in
      let c : CtorsStated (s.ctor ∷ []) = subst CtorsStated s.one_ctor k.0.1 in
      fine_put_levels s.ctor.levels s.levels 0 s.ctor.type c.0.0

  -- what gives the name has this structure
  pub structure_is : (g : Entry) → w.means S ≡ Some g → structure_in g.kind ≡ Some (s.ind, s.ctor)
  structure_is g m =
      let same : g ≡ s.entry = Some_inj (sym m ∙ s.given) in
      ap (λ (e : Entry). structure_in e.kind) same ∙ (ap structure_in s.kind ∙ ap (with_one s.ind) s.one_ctor)

  pub structure_there : w.means S ≡ None → ⊥
  structure_there m = let e : Some s.entry ≡ None = sym s.given ∙ m in absurd cc

  -- what is put for the levels of its constructor
  pub levels_there : (c : Contents) (ps : List Name) (ls : List Level) (t : Tree) → ps ≡ s.ctor.levels → ls ≡ s.levels → IsAtLevels c ps ls t None → ⊥
  levels_there c ps ls t p l h =
      let n : length s.levels ≡ length s.ctor.levels = s.level_count in
      let e : nat_eq (length s.levels) (length s.ctor.levels) ≡ false = subst (λ qs. nat_eq (length s.levels) (length qs) ≡ false) p (subst (λ ms. nat_eq (length ms) (length ps) ≡ false) l h) in
      absurd (grind (arith, nat_tests))

  pub constructor_there : (c : Contents) (ps : List Name) (ls : List Level) (t : Tree) (r : ℕ) → ps ≡ s.ctor.levels → ls ≡ s.levels → t ≡ s.ctor.type → IsAtLevels c ps ls t (Some r) → IsTree c r (constructor_type s)
  constructor_there c ps ls t r p l e h =
      subst (λ z. IsTree c r (put_levels s.ctor.levels s.levels z)) e (subst (λ ms. IsTree c r (put_levels s.ctor.levels ms t)) l (subst (λ qs. IsTree c r (put_levels qs ls t)) p h.1))

-- what is read of the library that is lent
pub structure_read : (l m : StoredLibrary) (c : Contents) (r : Structure) → l ≡ m → Extends (contents_of m.tables) c → r.constructor.stated < length (contents_of l.tables).trees → (w : Place) (S : Name) (T : Tree) (s : IsStructureType w S T) (g : Entry) → w.means S ≡ Some g →
    IsStructureIf l (Some r) (structure_in g.kind) → IsStructureRead m c s r
structure_read l m c r same over known w S T s g means h =
    let f : (p : BlockType × Ctor) × (structure_in g.kind ≡ Some p) × IsStructure l r p = some_structure l r (structure_in g.kind) h in
    let e : f.0 ≡ (s.ind, s.ctor) = Some_inj (sym f.1 ∙ structure_is w S T s g means) in
    let i : IsStructure l r (s.ind, s.ctor) = subst (IsStructure l r) e f.2 in
    record { structure = lent_is l m c r same over known (s.ind, s.ctor) i; type_is = stated_is l m c r same over known (s.ind, s.ctor) i }

not_both : {A : Type 0} (o : Option A) (v : A) → o ≡ Some v → o ≡ None → ⊥
not_both o v h k = let e : Some v ≡ None = sym h ∙ k in absurd cc

pub structure_found : (l : StoredLibrary) (w : Place) (S : Name) (T : Tree) (s : IsStructureType w S T) (g : Entry) → w.means S ≡ Some g → IsStructureIf l None (structure_in g.kind) → ⊥
structure_found l w S T s g means h = not_both (structure_in g.kind) (s.ind, s.ctor) (structure_is w S T s g means) (none_structure l (structure_in g.kind) h)

-- whatever is noted of the parameters and the fields, together with what is noted before it is a row
pub projection_finish : (w : Place) → WellStated w → (S : Name) (i : ℕ) (s T₀ T Z : Tree) (l : Level) (R : Tree) (most : ℕ) → IsWellFormed s → (r : ProjectionRun w S i s T₀ T Z l R most) →
    ParametersFinish w S i s (is_zero_level l) (args T) r.structure.ind.parameters (constructor_type r.structure) R r.left
    (infer s ∷ whnf T₀ ∷ infer T ∷ whnf Z ∷ []) (types s T₀ ∷ reduces T₀ T ∷ types T Z ∷ reduces Z (sort l) ∷ [])
projection_finish w ok S i s T₀ T Z l R most f r = λ qs ks ds U m parameters fields shaped claims less.
    let p : r.cost ≡ suc (r.first + (r.second + (r.third + (r.fourth + r.left)))) = r.paid in
    let s₀ : IsShapedAnswer (infer s) T₀ = shaped_answer w ok (infer s) T₀ r.first f r.typed in
    let s₁ : IsShapedAnswer (whnf T₀) T = shaped_answer w ok (whnf T₀) T r.second s₀.0.1 r.reduced in
    let s₂ : IsShapedAnswer (infer T) Z = shaped_answer w ok (infer T) Z r.third s₁.0.1 r.sort_typed in
    let sR : IsShapedAnswer (infer (proj S i s)) R = shaped_answer w ok (infer (proj S i s)) R r.cost f r.answered in
    record {
      cost = r.cost;
      answered = r.answered;
      spent = r.first + (r.second + (r.third + (r.fourth + m)));
      asked = a_claim (infer s) T₀ r.first f r.typed tt (a_claim (whnf T₀) T r.second s₀.0.1 r.reduced tt (a_claim (infer T) Z r.third s₁.0.1 r.sort_typed tt (a_claim (whnf Z) (sort l) r.fourth s₂.0.1 r.sorted tt claims)));
      less = omega (arith, p, less);
      holds = subst (λ t. StepHolds w (typing proj_rule (proj S i s) R (types s T₀ ∷ reduces T₀ t ∷ types t Z ∷ reduces Z (sort l) ∷ ks))) (type_is w S T r.structure)
          ((typing_steps w).projs (projectable w S T r.structure) i s T₀ Z U R l ks ds r.below parameters fields shaped f sR.0.1);
    }

-- the head of a structure's type has levels
pub levels_told : (w : Place) (S : Name) (T : Tree) → IsStructureType w S T → levels_at S (head T) ≡ None → ⊥
levels_told w S T s h = let e : Some s.levels ≡ None = sym s.levels_are ∙ h in absurd cc

pub levels_same : (w : Place) (S : Name) (T : Tree) (s : IsStructureType w S T) (ls : List Level) → levels_at S (head T) ≡ Some ls → ls ≡ s.levels
levels_same w S T s ls h = Some_inj (sym h ∙ s.levels_are)
