-- The declarative rules with typing premises where they lacked them: beta asks that the function
-- and its argument have their types, and a tree is given a type by conversion, or as a Local, only
-- where that type has a sort. Where p is true, projections too are equal, and reduce, only where
-- they have a type. All else is as in Declared.
use Rattle.std.specs.Prelude.{ℕ, suc, ◌≡◌, ◌<◌, ◌+◌, List, [], ◌∷◌, length, map, Some, slice_get}
use Rattle.std.specs.Prelude.{Bool, true}
use Rattle.lk_tree.specs.Tree.{Name, Level, zero_level, succ_level, imax_level, Tree, var, sort}
use Rattle.lk_tree.specs.Tree.{const, app, lam, pi, let_in, proj, lit, str, local}
use Rattle.lk_tree.specs.Level.{SameLevel}
use Rattle.lk_tree.specs.Bind.{opened, Fresh, has_var}
use Rattle.lk_tree.specs.Spine.{apply}
use Rattle.lk_tree.specs.WellFormed.{IsWellFormed, AllWellFormed}
use Rattle.lk_rulebook.specs.Place.{Place, Ctor}
use Rattle.lk_rulebook.specs.Structures.{UnitLike, StructureAt, structure_type, structure_value}
use Rattle.lk_rulebook.specs.Structures.{expanded, Projectable, projectable_type, ctor_type}
use Rattle.lk_rulebook.specs.Structures.{CtorApp, ctor_app, RecApp, on_major, HasRule, rule_result}
use Rattle.lk_rulebook.specs.Structures.{KMajor, k_type}
use Rattle.lk_rulebook.specs.Names.{named, nat, nat_zero, nat_succ, op_name, string, quot_mk}
use Rattle.lk_rulebook.specs.Names.{quot_lift, quot_ind}
use Rattle.lk_rulebook.specs.Shapes.{HasNat, HasString}
use Rattle.lk_rulebook.specs.Literals.{by_def, IsOperation, IsResult, expansion, Expands}
use Rattle.lk_rulebook.specs.Quotients.{IsQuot}
use Rattle.lk_tree.specs.Operations.{Op, op_value}
use Rattle.std.specs.Str.{chars}
use Rattle.lk_rulebook.specs.Rules.{HasValue, IsGivenAt, at_levels, SameLevels, Field, field_at}
use Rattle.lk_rulebook.specs.Rules.{IsInProp}

mutual
  -- e : A at w
  pub data GuardedType (p : Bool) (w : Place) : Tree → Tree → Type 0 where
    typed_sort : {l : Level} → GuardedType p w (sort l) (sort (succ_level l))
    typed_local : {k : ℕ} {T : Tree} {l : Level} → IsWellFormed (local k T) →
        GuardedType p w T (sort l) → GuardedType p w (local k T) T
    typed_const : {c : Name} {ls : List Level} (g : IsGivenAt w c ls) →
        IsWellFormed (at_levels g g.entry.type) →
        GuardedType p w (const c ls) (at_levels g g.entry.type)
    typed_app : {f a A B : Tree} → GuardedType p w f (pi A B) → GuardedType p w a A →
        GuardedType p w (app f a) (opened B a)
    -- B is stated closed, and opened with the Local of the binder
    typed_lam : {A b B : Tree} {l : Level} {k : ℕ} →
        Fresh k (lam A b ∷ pi A B ∷ []) →
        GuardedType p w A (sort l) → GuardedType p w (opened b (local k A)) (opened B (local k A)) →
        GuardedType p w (lam A b) (pi A B)
    typed_pi : {A B : Tree} {u v : Level} {k : ℕ} →
        Fresh k (pi A B ∷ []) →
        GuardedType p w A (sort u) → GuardedType p w (opened B (local k A)) (sort v) →
        GuardedType p w (pi A B) (sort (imax_level u v))
    typed_let : {A v b B : Tree} {l : Level} →
        GuardedType p w A (sort l) → GuardedType p w v A → GuardedType p w (opened b v) B →
        GuardedType p w (let_in A v b) B
    typed_lit : {n : ℕ} → HasNat w → IsWellFormed (lit n) → GuardedType p w (lit n) (named nat)
    typed_str : {s : List ℕ} → HasString w → GuardedType p w (str s) (named string)
    typed_proj : (S : Projectable w) {i : ℕ} {e T A : Tree} {l : Level} →
        GuardedType p w e (projectable_type S) → i < S.ctor.fields →
        GuardedType p w (projectable_type S) (sort l) →
        GuardedParameters p w T S.ind.parameters S.args (ctor_type S) →
        GuardedField p w (field_at S.name e l i) A 0 T → GuardedType p w (proj S.name i e) A
    typed_conv : {e A B : Tree} {l : Level} → GuardedType p w e A → GuardedEquals p w A B →
        GuardedType p w B (sort l) → GuardedType p w e B

  -- a ~ b at w
  pub data GuardedEquals (p : Bool) (w : Place) : Tree → Tree → Type 0 where
    same_refl : {a : Tree} → IsWellFormed a → GuardedEquals p w a a
    same_sym : {a b : Tree} → GuardedEquals p w a b → GuardedEquals p w b a
    same_trans : {a b c : Tree} → GuardedEquals p w a b → GuardedEquals p w b c →
        GuardedEquals p w a c
    same_sort : {l m : Level} → SameLevel l m → GuardedEquals p w (sort l) (sort m)
    same_const : {c : Name} {ls ms : List Level} → SameLevels ls ms →
        GuardedEquals p w (const c ls) (const c ms)
    same_app : {f g a b : Tree} → GuardedEquals p w f g → GuardedEquals p w a b →
        GuardedEquals p w (app f a) (app g b)
    same_lam : {A A' b b' : Tree} {k : ℕ} →
        Fresh k (lam A b ∷ lam A' b' ∷ []) →
        GuardedEquals p w A A' → GuardedEquals p w (opened b (local k A)) (opened b' (local k A)) →
        GuardedEquals p w (lam A b) (lam A' b')
    same_pi : {A A' B B' : Tree} {k : ℕ} →
        Fresh k (pi A B ∷ pi A' B' ∷ []) →
        GuardedEquals p w A A' → GuardedEquals p w (opened B (local k A)) (opened B' (local k A)) →
        GuardedEquals p w (pi A B) (pi A' B')
    same_proj : {S : Name} {i : ℕ} {s t T : Tree} →
        (p ≡ true → GuardedType p w (proj S i s) T) → GuardedEquals p w s t →
        GuardedEquals p w (proj S i s) (proj S i t)
    same_beta : {A b a B : Tree} → GuardedType p w (lam A b) (pi A B) → GuardedType p w a A →
        GuardedEquals p w (app (lam A b) a) (opened b a)
    same_zeta : {A v b : Tree} → IsWellFormed (let_in A v b) →
        GuardedEquals p w (let_in A v b) (opened b v)
    same_delta : {c : Name} {ls : List Level} {v : Tree} (g : IsGivenAt w c ls) →
        HasValue g.entry v → IsWellFormed (at_levels g v) →
        GuardedEquals p w (const c ls) (at_levels g v)
    same_iota : (R : RecApp w) (c : CtorApp w) (h : HasRule R c) →
        IsWellFormed (ctor_app c) → IsWellFormed (rule_result R c h) →
        GuardedEquals p w (on_major R (ctor_app c)) (rule_result R c h)
    same_proj_ctor : (c : CtorApp w) {i : ℕ} {x T : Tree} →
        (p ≡ true → GuardedType p w (proj c.ind.name i (ctor_app c)) T) →
        slice_get c.args (c.ctor.parameters + i) ≡ Some x → IsWellFormed (ctor_app c) →
        IsWellFormed x →
        GuardedEquals p w (proj c.ind.name i (ctor_app c)) x
    same_lit_zero : GuardedEquals p w (lit 0) (named nat_zero)
    same_lit_succ : {n : ℕ} → IsWellFormed (lit (suc n)) →
        GuardedEquals p w (lit (suc n)) (app (named nat_succ) (lit n))
    same_quot_lift : (ls ks : List Level) {A r B f h A' r' a : Tree} →
        IsQuot w quot_lift → IsQuot w quot_mk →
        AllWellFormed (A ∷ r ∷ B ∷ f ∷ h ∷ A' ∷ r' ∷ a ∷ []) →
        GuardedEquals p w (apply (const quot_lift ls)
        (A ∷ r ∷ B ∷ f ∷ h ∷ apply (const quot_mk ks) (A' ∷ r' ∷ a ∷ []) ∷ [])) (app f a)
    same_quot_ind : (ls ks : List Level) {A r B h A' r' a : Tree} →
        IsQuot w quot_ind → IsQuot w quot_mk → AllWellFormed (A ∷ r ∷ B ∷ h ∷ A' ∷ r' ∷ a ∷ []) →
        GuardedEquals p w (apply (const quot_ind ls)
        (A ∷ r ∷ B ∷ h ∷ apply (const quot_mk ks) (A' ∷ r' ∷ a ∷ []) ∷ [])) (app h a)
    same_op : (op : Op) (ns : List ℕ) (r : Tree) (o : IsOperation w op) →
        by_def o.entry.kind ≡ true →
        HasNat w → AllWellFormed (map lit ns) → IsResult w (op_value op ns) r →
        GuardedEquals p w (apply (named (op_name op)) (map lit ns)) r
    same_str : {s : List ℕ} → Expands w s → GuardedEquals p w (str s) (expansion (chars s))
    same_eta : {o A B : Tree} → GuardedType p w o (pi A B) →
        GuardedEquals p w o (lam A (app o (var 0)))
    same_struct_eta : (S : StructureAt w) {m : Tree} →
        GuardedType p w m (structure_type S) →
        GuardedExpands p w S.structure.ctor (structure_type S) → GuardedEquals p w m (expanded S m)
    same_unit : (U : UnitLike w) (ls : List Level) (bs : List Tree) (a b : Tree) →
        length bs ≡ U.ind.parameters →
        GuardedType p w a (apply (const U.name ls) bs) →
        GuardedType p w b (apply (const U.name ls) bs) → GuardedEquals p w a b
    same_struct_ext : (S : StructureAt w) (xs : List Tree) {a T : Tree} →
        length xs ≡ S.structure.ctor.fields → GuardedType p w a T →
        GuardedType p w (structure_value S xs) T →
        GuardedProjects p w S.structure.ind.name a 0 xs → GuardedEquals p w a (structure_value S xs)
    same_proof : {a b A : Tree} → GuardedType p w a A → GuardedType p w b A →
        GuardedType p w A (sort zero_level) → GuardedEquals p w a b
    same_k : (R : RecApp w) (k : KMajor R) {e : Tree} →
        GuardedType p w e (k_type k) → GuardedType p w (ctor_app k.ctor) (k_type k) →
        GuardedEquals p w (on_major R e) (on_major R (ctor_app k.ctor))

  -- there are no fields, or T is no proposition
  pub data GuardedExpands (p : Bool) (w : Place) : Ctor → Tree → Type 0 where
    no_fields_at : {ctor : Ctor} {T : Tree} → ctor.fields ≡ 0 → GuardedExpands p w ctor T
    no_proposition_at : {ctor : Ctor} {T : Tree} {l : Level} → GuardedType p w T (sort l) →
        (SameLevel l zero_level → ⊥) → GuardedExpands p w ctor T

  -- Proj(J, j, a) ~ x for each x, with j rising
  pub data GuardedProjects (p : Bool) (w : Place) : Name → Tree → ℕ → List Tree → Type 0 where
    none_projects : {J : Name} {a : Tree} {j : ℕ} → GuardedProjects p w J a j []
    next_projects : {J : Name} {a x : Tree} {j : ℕ} {xs : List Tree} →
        GuardedEquals p w (proj J j a) x → GuardedProjects p w J a (suc j) xs →
        GuardedProjects p w J a j (x ∷ xs)

  -- T is left of r after n Pis, the first n of bs put in
  pub data GuardedParameters (p : Bool) (w : Place) : Tree → ℕ → List Tree → Tree → Type 0 where
    past_none : {T : Tree} {bs : List Tree} → GuardedParameters p w T 0 bs T
    past_one : {b : Tree} {bs : List Tree} {n : ℕ} {r A B T : Tree} →
        GuardedEquals p w r (pi A B) → GuardedParameters p w T n bs (opened B b) →
        GuardedParameters p w T (suc n) (b ∷ bs) r

  -- A is the field's domain, where r begins with field number j; in Prop it is a proposition, and
  -- so is the domain of each earlier field whose variable the rest of the type mentions
  pub data GuardedField (p : Bool) (w : Place) : Field → Tree → ℕ → Tree → Type 0 where
    field_here : {f : Field} {r A B : Tree} →
        GuardedEquals p w r (pi A B) → (IsInProp f → GuardedType p w A (sort zero_level)) →
        GuardedField p w f A f.number r
    field_past : {f : Field} {j : ℕ} {r A D B : Tree} →
        GuardedEquals p w r (pi D B) →
        (IsInProp f → has_var 0 B ≡ true → GuardedType p w D (sort zero_level)) →
        GuardedField p w f A (suc j) (opened B (proj f.structure j f.subject)) →
        GuardedField p w f A j r

-- typing premises also at projections
abbrev pub IdealType : Place → Tree → Tree → Type 0
IdealType w e A = GuardedType true w e A

abbrev pub IdealEquals : Place → Tree → Tree → Type 0
IdealEquals w a b = GuardedEquals true w a b
