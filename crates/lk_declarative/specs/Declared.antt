-- The declarative rules: typing and conversion at a place, the least two relations that meet the
-- rules. Conversion is an equivalence, a tree of a type has each type that is convertible to it,
-- and beta asks nothing of the argument. These relations relate everything: see `collapse`. The
-- judgement that answers are proved against is the directed one. They depart from the textbook's
-- declarative rules in this: the type of a lambda is stated closed, and opened with the Local of
-- its binder, whose number bounds the lambda and its type; structure eta reads what is
-- structure-like at the constructor, and for structures without fields at the type; what a unit
-- with a loose variable or a wide literal gives means nothing. What is asked of constants,
-- structures, constructors and recursors is said by the rule book's own records.
use Rattle.std.specs.Prelude.{ℕ, suc, ◌≡◌, ◌<◌, ◌+◌, List, [], ◌∷◌, length, map, Some, slice_get}
use Rattle.std.specs.Prelude.{true}
use Rattle.lk_tree.specs.Tree.{Name, Level, zero_level, succ_level, imax_level, Tree, var, sort}
use Rattle.lk_tree.specs.Tree.{const, app, lam, pi, let_in, proj, lit, str, local}
use Rattle.lk_tree.specs.Level.{SameLevel}
use Rattle.lk_tree.specs.Bind.{opened, Fresh, has_var}
use Rattle.lk_tree.specs.Spine.{apply}
use Rattle.lk_tree.specs.WellFormed.{IsWellFormed, AllWellFormed}
use Rattle.lk_rulebook.specs.Place.{Place, Ctor}
use Rattle.lk_rulebook.specs.Structures.{UnitLike, StructureAt, structure_type, structure_value}
use Rattle.lk_rulebook.specs.Structures.{expanded, Projectable, projectable_type, ctor_type}
use Rattle.lk_rulebook.specs.Structures.{CtorApp, ctor_app, RecApp, on_major, HasRule, rule_result}
use Rattle.lk_rulebook.specs.Structures.{KMajor, k_type}
use Rattle.lk_rulebook.specs.Names.{named, nat, nat_zero, nat_succ, op_name, string, quot_mk}
use Rattle.lk_rulebook.specs.Names.{quot_lift, quot_ind}
use Rattle.lk_rulebook.specs.Shapes.{HasNat, HasString}
use Rattle.lk_rulebook.specs.Literals.{by_def, IsOperation, IsResult, expansion, Expands}
use Rattle.lk_rulebook.specs.Quotients.{IsQuot}
use Rattle.lk_tree.specs.Operations.{Op, op_value}
use Rattle.std.specs.Str.{chars}
use Rattle.lk_rulebook.specs.Rules.{HasValue, IsGivenAt, at_levels, SameLevels, Field, field_at}
use Rattle.lk_rulebook.specs.Rules.{IsInProp}

mutual
  -- e : A at w
  pub data IsDeclared (w : Place) : Tree → Tree → Type 0 where
    type_sort : {l : Level} → IsDeclared w (sort l) (sort (succ_level l))
    type_local : {k : ℕ} {T : Tree} → IsWellFormed (local k T) → IsDeclared w (local k T) T
    type_const : {c : Name} {ls : List Level} (g : IsGivenAt w c ls) →
        IsWellFormed (at_levels g g.entry.type) →
        IsDeclared w (const c ls) (at_levels g g.entry.type)
    type_app : {f a A B : Tree} → IsDeclared w f (pi A B) → IsDeclared w a A →
        IsDeclared w (app f a) (opened B a)
    -- B is stated closed, and opened with the Local of the binder
    type_lam : {A b B : Tree} {l : Level} {k : ℕ} →
        Fresh k (lam A b ∷ pi A B ∷ []) →
        IsDeclared w A (sort l) → IsDeclared w (opened b (local k A)) (opened B (local k A)) →
        IsDeclared w (lam A b) (pi A B)
    type_pi : {A B : Tree} {u v : Level} {k : ℕ} →
        Fresh k (pi A B ∷ []) →
        IsDeclared w A (sort u) → IsDeclared w (opened B (local k A)) (sort v) →
        IsDeclared w (pi A B) (sort (imax_level u v))
    type_let : {A v b B : Tree} {l : Level} →
        IsDeclared w A (sort l) → IsDeclared w v A → IsDeclared w (opened b v) B →
        IsDeclared w (let_in A v b) B
    type_lit : {n : ℕ} → HasNat w → IsWellFormed (lit n) → IsDeclared w (lit n) (named nat)
    type_str : {s : List ℕ} → HasString w → IsDeclared w (str s) (named string)
    type_proj : (S : Projectable w) {i : ℕ} {e T A : Tree} {l : Level} →
        IsDeclared w e (projectable_type S) → i < S.ctor.fields →
        IsDeclared w (projectable_type S) (sort l) →
        AfterParameters w T S.ind.parameters S.args (ctor_type S) →
        FieldDomain w (field_at S.name e l i) A 0 T → IsDeclared w (proj S.name i e) A
    type_conv : {e A B : Tree} → IsDeclared w e A → Converts w A B → IsDeclared w e B

  -- a ~ b at w
  pub data Converts (w : Place) : Tree → Tree → Type 0 where
    conv_refl : {a : Tree} → IsWellFormed a → Converts w a a
    conv_sym : {a b : Tree} → Converts w a b → Converts w b a
    conv_trans : {a b c : Tree} → Converts w a b → Converts w b c → Converts w a c
    conv_sort : {l m : Level} → SameLevel l m → Converts w (sort l) (sort m)
    conv_const : {c : Name} {ls ms : List Level} → SameLevels ls ms →
        Converts w (const c ls) (const c ms)
    conv_app : {f g a b : Tree} → Converts w f g → Converts w a b → Converts w (app f a) (app g b)
    conv_lam : {A A' b b' : Tree} {k : ℕ} →
        Fresh k (lam A b ∷ lam A' b' ∷ []) →
        Converts w A A' → Converts w (opened b (local k A)) (opened b' (local k A)) →
        Converts w (lam A b) (lam A' b')
    conv_pi : {A A' B B' : Tree} {k : ℕ} →
        Fresh k (pi A B ∷ pi A' B' ∷ []) →
        Converts w A A' → Converts w (opened B (local k A)) (opened B' (local k A)) →
        Converts w (pi A B) (pi A' B')
    conv_proj : {S : Name} {i : ℕ} {s t : Tree} → Converts w s t →
        Converts w (proj S i s) (proj S i t)
    conv_beta : {A b a : Tree} → IsWellFormed (app (lam A b) a) →
        Converts w (app (lam A b) a) (opened b a)
    conv_zeta : {A v b : Tree} → IsWellFormed (let_in A v b) →
        Converts w (let_in A v b) (opened b v)
    conv_delta : {c : Name} {ls : List Level} {v : Tree} (g : IsGivenAt w c ls) →
        HasValue g.entry v → IsWellFormed (at_levels g v) → Converts w (const c ls) (at_levels g v)
    conv_iota : (R : RecApp w) (c : CtorApp w) (h : HasRule R c) →
        IsWellFormed (ctor_app c) → IsWellFormed (rule_result R c h) →
        Converts w (on_major R (ctor_app c)) (rule_result R c h)
    conv_proj_ctor : (c : CtorApp w) {i : ℕ} {x : Tree} →
        slice_get c.args (c.ctor.parameters + i) ≡ Some x → IsWellFormed (ctor_app c) →
        IsWellFormed x →
        Converts w (proj c.ind.name i (ctor_app c)) x
    conv_lit_zero : Converts w (lit 0) (named nat_zero)
    conv_lit_succ : {n : ℕ} → IsWellFormed (lit (suc n)) →
        Converts w (lit (suc n)) (app (named nat_succ) (lit n))
    conv_quot_lift : (ls ks : List Level) {A r B f h A' r' a : Tree} →
        IsQuot w quot_lift → IsQuot w quot_mk →
        AllWellFormed (A ∷ r ∷ B ∷ f ∷ h ∷ A' ∷ r' ∷ a ∷ []) →
        Converts w (apply (const quot_lift ls)
        (A ∷ r ∷ B ∷ f ∷ h ∷ apply (const quot_mk ks) (A' ∷ r' ∷ a ∷ []) ∷ [])) (app f a)
    conv_quot_ind : (ls ks : List Level) {A r B h A' r' a : Tree} →
        IsQuot w quot_ind → IsQuot w quot_mk → AllWellFormed (A ∷ r ∷ B ∷ h ∷ A' ∷ r' ∷ a ∷ []) →
        Converts w (apply (const quot_ind ls)
        (A ∷ r ∷ B ∷ h ∷ apply (const quot_mk ks) (A' ∷ r' ∷ a ∷ []) ∷ [])) (app h a)
    -- Of an operation that is given by a def: what the successor makes of a literal is
    -- conv_lit_succ. The rule book asks, beside this, that the operation's laws hold of the def;
    -- this relation is the wider one, and trusts the def by its name.
    conv_op : (op : Op) (ns : List ℕ) (r : Tree) (o : IsOperation w op) →
        by_def o.entry.kind ≡ true →
        HasNat w → AllWellFormed (map lit ns) → IsResult w (op_value op ns) r →
        Converts w (apply (named (op_name op)) (map lit ns)) r
    conv_str : {s : List ℕ} → Expands w s → Converts w (str s) (expansion (chars s))
    conv_eta : {o A B : Tree} → IsDeclared w o (pi A B) → Converts w o (lam A (app o (var 0)))
    conv_struct_eta : (S : StructureAt w) {m : Tree} →
        IsDeclared w m (structure_type S) → MayExpand w S.structure.ctor (structure_type S) →
        Converts w m (expanded S m)
    conv_unit : (U : UnitLike w) (ls : List Level) (bs : List Tree) (a b : Tree) →
        length bs ≡ U.ind.parameters →
        IsDeclared w a (apply (const U.name ls) bs) → IsDeclared w b (apply (const U.name ls) bs) →
        Converts w a b
    conv_struct_ext : (S : StructureAt w) (xs : List Tree) {a T : Tree} →
        length xs ≡ S.structure.ctor.fields → IsDeclared w a T →
        IsDeclared w (structure_value S xs) T →
        EachProjects w S.structure.ind.name a 0 xs → Converts w a (structure_value S xs)
    conv_proof : {a b A : Tree} → IsDeclared w a A → IsDeclared w b A →
        IsDeclared w A (sort zero_level) → Converts w a b
    conv_k : (R : RecApp w) (k : KMajor R) {e : Tree} →
        IsDeclared w e (k_type k) → IsDeclared w (ctor_app k.ctor) (k_type k) →
        Converts w (on_major R e) (on_major R (ctor_app k.ctor))

  -- there are no fields, or T is no proposition
  pub data MayExpand (w : Place) : Ctor → Tree → Type 0 where
    no_fields : {ctor : Ctor} {T : Tree} → ctor.fields ≡ 0 → MayExpand w ctor T
    no_proposition : {ctor : Ctor} {T : Tree} {l : Level} → IsDeclared w T (sort l) →
        (SameLevel l zero_level → ⊥) → MayExpand w ctor T

  -- Proj(J, j, a) ~ x for each x, with j rising
  pub data EachProjects (w : Place) : Name → Tree → ℕ → List Tree → Type 0 where
    none_left : {J : Name} {a : Tree} {j : ℕ} → EachProjects w J a j []
    first_projects : {J : Name} {a x : Tree} {j : ℕ} {xs : List Tree} →
        Converts w (proj J j a) x → EachProjects w J a (suc j) xs → EachProjects w J a j (x ∷ xs)

  -- T is left of r after n Pis, the first n of bs put in
  pub data AfterParameters (w : Place) : Tree → ℕ → List Tree → Tree → Type 0 where
    after_none : {T : Tree} {bs : List Tree} → AfterParameters w T 0 bs T
    after_one : {b : Tree} {bs : List Tree} {n : ℕ} {r A B T : Tree} →
        Converts w r (pi A B) → AfterParameters w T n bs (opened B b) →
        AfterParameters w T (suc n) (b ∷ bs) r

  -- A is the field's domain, where r begins with field number j; in Prop it is a proposition, and
  -- so is the domain of each earlier field whose variable the rest of the type mentions
  pub data FieldDomain (w : Place) : Field → Tree → ℕ → Tree → Type 0 where
    this_field : {f : Field} {r A B : Tree} →
        Converts w r (pi A B) → (IsInProp f → IsDeclared w A (sort zero_level)) →
        FieldDomain w f A f.number r
    later_field : {f : Field} {j : ℕ} {r A D B : Tree} →
        Converts w r (pi D B) →
        (IsInProp f → has_var 0 B ≡ true → IsDeclared w D (sort zero_level)) →
        FieldDomain w f A (suc j) (opened B (proj f.structure j f.subject)) → FieldDomain w f A j r
