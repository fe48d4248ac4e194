-- What is expected of the ideal rules at a place whose units are lawful, and whose operations and
-- String are what their names say; not shown at any place.
use Rattle.std.specs.Prelude.{ℕ, zero, suc, ◌≡◌, ◌<◌, ◌⊎◌, ◌+◌, List, [], ◌∷◌, length, map, Some}
use Rattle.std.specs.Prelude.{slice_get, true}
use Rattle.lk_tree.specs.Tree.{Name, Level, zero_level, Tree, sort, const, app, lam, pi, proj, lit}
use Rattle.lk_tree.specs.Bind.{opened}
use Rattle.lk_tree.specs.Spine.{apply}
use Rattle.lk_tree.specs.WellFormed.{HasLocal}
use Rattle.lk_rulebook.specs.Place.{Place}
use Rattle.lk_rulebook.specs.Structures.{StructureAt, structure_type, structure_value, expanded}
use Rattle.lk_rulebook.specs.Structures.{Projectable, projectable_type, ctor_type, CtorApp}
use Rattle.lk_rulebook.specs.Structures.{ctor_app, RecApp, on_major, HasRule, rule_result, KMajor}
use Rattle.lk_rulebook.specs.Structures.{k_type}
use Rattle.lk_rulebook.specs.Names.{named, nat, nat_zero, nat_succ, op_name, string, quot_mk}
use Rattle.lk_rulebook.specs.Names.{quot_lift, quot_ind}
use Rattle.lk_rulebook.specs.Shapes.{HasNat}
use Rattle.lk_rulebook.specs.Literals.{by_def, IsOperation, IsResult, expansion, Expands}
use Rattle.lk_rulebook.specs.Quotients.{IsQuot}
use Rattle.lk_tree.specs.Operations.{Op, op_value}
use Rattle.std.specs.Str.{chars}
use Rattle.lk_rulebook.specs.Rules.{HasValue, IsGivenAt, at_levels}
use Rattle.lk_declarative.specs.Guarded.{IdealType, IdealEquals, GuardedExpands}

-- each Local's type has a sort
abbrev pub LawfulLocals : Place → Tree → Type 0
LawfulLocals w e = (k : ℕ) (T : Tree) → HasLocal k T e → (l : Level) × IdealType w T (sort l)

-- each of the first n of bs has the type of the next domain of r
abbrev pub Fits : Place → ℕ → List Tree → Tree → Type 0
Fits w zero bs r = Unit {0}
Fits w (suc n) [] r = Unit {0}
Fits w (suc n) (b ∷ bs) r = (A B : Tree) (l : Level) →
    IdealEquals w r (pi A B) → IdealType w (pi A B) (sort l) →
    IdealType w b A × Fits w n bs (opened B b)

pub record Expected (w : Place) : Type 0 where
  -- of the rules: types have sorts, a tree has one type, equal Pis have equal domains (Pi
  -- injectivity), and a body may be opened with what has the domain for a type (substitution)
  pub sorted : {e A : Tree} → IdealType w e A → (l : Level) × IdealType w A (sort l)
  pub one_type : {e A B : Tree} → IdealType w e A → IdealType w e B → IdealEquals w A B
  pub domains : {A B C D : Tree} {l m : Level} → IdealType w (pi A B) (sort l) →
      IdealType w (pi C D) (sort m) → IdealEquals w (pi A B) (pi C D) → IdealEquals w A C
  pub bodies : {A b B a : Tree} → IdealType w (lam A b) (pi A B) → IdealType w a A →
      IdealType w (opened b a) (opened B a)
  -- of what the units give: a value has the types of its name, what a recursor's rule gives those
  -- of the redex, and a field those of the projection
  pub values : {c : Name} {ls : List Level} {v X : Tree} (g : IsGivenAt w c ls) →
      HasValue g.entry v → IdealType w (const c ls) X → IdealType w (at_levels g v) X
  pub results : (R : RecApp w) (c : CtorApp w) (h : HasRule R c) {X : Tree} →
      IdealType w (on_major R (ctor_app c)) X → IdealType w (rule_result R c h) X
  pub fields : (c : CtorApp w) {i : ℕ} {x X : Tree} →
      slice_get c.args (c.ctor.parameters + i) ≡ Some x →
      IdealType w (proj c.ind.name i (ctor_app c)) X → IdealType w x X
  -- a projection keeps its types where the structure is replaced by an equal one
  pub replaced : (S : Name) (i : ℕ) (s m U X : Tree) → IdealType w (proj S i s) X →
      IdealType w s U → IdealEquals w s m → IdealType w m U → IdealType w (proj S i m) X
  pub numbers : HasNat w →
      IdealType w (named nat_zero) (named nat) ×
      IdealType w (named nat_succ) (pi (named nat) (named nat))
  -- what a quotient's function gives has the types of the redex, and so has what an operation
  -- gives; an expansion is a String
  pub lifted : (ls ks : List Level) {A r B f h A' r' a X : Tree} → IsQuot w quot_lift →
      IsQuot w quot_mk →
      IdealType w (apply (const quot_lift ls)
      (A ∷ r ∷ B ∷ f ∷ h ∷ apply (const quot_mk ks) (A' ∷ r' ∷ a ∷ []) ∷ [])) X →
      IdealType w (app f a) X
  pub induced : (ls ks : List Level) {A r B h A' r' a X : Tree} → IsQuot w quot_ind →
      IsQuot w quot_mk →
      IdealType w (apply (const quot_ind ls)
      (A ∷ r ∷ B ∷ h ∷ apply (const quot_mk ks) (A' ∷ r' ∷ a ∷ []) ∷ [])) X →
      IdealType w (app h a) X
  pub computed : (op : Op) (ns : List ℕ) (r X : Tree) (o : IsOperation w op) →
      by_def o.entry.kind ≡ true → HasNat w → IsResult w (op_value op ns) r →
      IdealType w (apply (named (op_name op)) (map lit ns)) X → IdealType w r X
  pub texts : {s : List ℕ} → Expands w s → IdealType w (expansion (chars s)) (named string)
  -- the type of a major premise of a recursor with k 1 is a proposition
  pub proofs : (R : RecApp w) (k : KMajor R) {l : Level} → IdealType w (k_type k) (sort l) →
      IdealType w (k_type k) (sort zero_level)
  -- what structure eta makes of m has the type of m
  pub written_out : (S : StructureAt w) {m : Tree} →
      IdealType w m (structure_type S) → GuardedExpands true w S.structure.ctor (structure_type S) →
      IdealType w (expanded S m) (structure_type S)
  -- a member of a structure-like type is a proof, or has all its projections
  pub members : (S : StructureAt w) (xs : List Tree) {a B : Tree} →
      length xs ≡ S.structure.ctor.fields →
      IdealType w a B → IdealType w (structure_value S xs) B →
      IdealType w B (sort zero_level) ⊎ ((j : ℕ) → j < S.structure.ctor.fields →
      (U : Tree) × IdealType w (proj S.structure.ind.name j a) U)
  -- the constructor of a structure has a type that has a sort, and the parameters of the
  -- structure's type fit it
  pub constructors : (S : Projectable w) {l : Level} → IdealType w (projectable_type S) (sort l) →
      ((m : Level) × IdealType w (ctor_type S) (sort m)) ×
      Fits w S.ind.parameters S.args (ctor_type S)
