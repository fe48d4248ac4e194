-- The rule book: typing, reduction and conversion at a place, the least relations that meet the
-- rules. Typing is directed by the form of the tree, reduction is directed, and conversion is
-- neither symmetric nor transitive by rule.
use Rattle.std.specs.Prelude.{ℕ, suc, ◌≡◌, ◌<◌, ◌+◌, List, [], ◌∷◌, length, Some, slice_get, true}
use Rattle.std.specs.Str.{chars}
use Rattle.lk_tree.specs.Tree.{Name, Level, zero_level, succ_level, imax_level}
use Rattle.lk_tree.specs.Tree.{Tree, var, sort, const, app, lam, pi, let_in, proj, lit, str, local}
use Rattle.lk_tree.specs.Level.{SameLevel}
use Rattle.lk_tree.specs.Bind.{opened, Fresh, has_var}
use Rattle.lk_tree.specs.Levels.{put_levels}
use Rattle.lk_tree.specs.Spine.{apply, IsNeutral, IsHeadNormal}
use Rattle.lk_tree.specs.WellFormed.{IsWellFormed, AllWellFormed}
use Rattle.lk_tree.specs.Operations.{Op, op_value}
use Rattle.lk_rulebook.specs.Place.{Place, Entry, a_def, a_thm, Hint}
use Rattle.lk_rulebook.specs.Structures.{UnitLike, StructureAt, structure_type, structure_value}
use Rattle.lk_rulebook.specs.Structures.{expanded, Projectable, projectable_type, ctor_type}
use Rattle.lk_rulebook.specs.Structures.{CtorApp, ctor_app, RecApp, on_major, HasRule, rule_result}
use Rattle.lk_rulebook.specs.Structures.{HasOnlyRule, KMajor, k_type}
use Rattle.lk_rulebook.specs.Names.{named, nat, nat_zero, nat_succ, op_name, string}
use Rattle.lk_rulebook.specs.Names.{quot_mk, quot_lift, quot_ind}
use Rattle.lk_rulebook.specs.Shapes.{HasNat, HasString}
use Rattle.lk_rulebook.specs.NumberLaws.{Law, has_laws, stated_by}
use Rattle.lk_rulebook.specs.Literals.{IsNumeral, IsOperation, CanBeStated, laws_in, IsResult}
use Rattle.lk_rulebook.specs.Literals.{expansion, Expands, ReadsText, Reads}
use Rattle.lk_rulebook.specs.Quotients.{IsQuot}

-- the entry is of a def or thm with this value
pub data HasValue (g : Entry) : Tree → Type 0 where
  of_def : {h : Hint} {v : Tree} → g.kind ≡ a_def h v → HasValue g v
  of_thm : {v : Tree} → g.kind ≡ a_thm v → HasValue g v

-- c is given, and declares as many level parameters as there are levels
pub record IsGivenAt (w : Place) (c : Name) (ls : List Level) : Type 0 where
  pub entry : Entry
  pub given : w.means c ≡ Some entry
  pub levels_are : length ls ≡ length entry.levels

-- e{ls}
abbrev pub at_levels : {w : Place} {c : Name} {ls : List Level} → IsGivenAt w c ls → Tree → Tree
at_levels {ls = ls} g e = put_levels g.entry.levels ls e

-- levels equal in pairs
pub data SameLevels : List Level → List Level → Type 0 where
  none : SameLevels [] []
  more : {l m : Level} {ls ms : List Level} →
      SameLevel l m → SameLevels ls ms → SameLevels (l ∷ ls) (m ∷ ms)

-- field number `number` of a structure's subject, where the type of the subject has this sort
pub record Field : Type 0 where
  pub structure : Name
  pub subject : Tree
  pub sort : Level
  pub number : ℕ

-- field number i of e, where e's type is one of structure S and has the sort l
abbrev pub field_at : Name → Tree → Level → ℕ → Field
field_at S e l i = record { structure = S; subject = e; sort = l; number = i }

abbrev pub IsInProp : Field → Type 0
IsInProp f = SameLevel f.sort zero_level

mutual
  -- e => A at w
  pub data HasType (w : Place) : Tree → Tree → Type 0 where
    t_sort : {l : Level} → HasType w (sort l) (sort (succ_level l))
    t_local : {k : ℕ} {T : Tree} → IsWellFormed (local k T) → HasType w (local k T) T
    t_const : {c : Name} {ls : List Level} (g : IsGivenAt w c ls) →
        IsWellFormed (at_levels g g.entry.type) →
        HasType w (const c ls) (at_levels g g.entry.type)
    t_app : {f a F A B A' : Tree} →
        HasType w f F → Reduces w F (pi A B) → HasType w a A' → IsDefEq w A' A →
        HasType w (app f a) (opened B a)
    t_lam : {A b B : Tree} {l : Level} {k : ℕ} → Fresh k (lam A b ∷ pi A B ∷ []) →
        HasSort w A l → HasType w (opened b (local k A)) (opened B (local k A)) →
        HasType w (lam A b) (pi A B)
    t_pi : {A B : Tree} {u v : Level} {k : ℕ} → Fresh k (pi A B ∷ []) →
        HasSort w A u → HasSort w (opened B (local k A)) v →
        HasType w (pi A B) (sort (imax_level u v))
    t_let : {A v b V B : Tree} {l : Level} →
        HasSort w A l → HasType w v V → IsDefEq w V A → HasType w (opened b v) B →
        HasType w (let_in A v b) B
    t_lit : {n : ℕ} → HasNat w → IsWellFormed (lit n) → HasType w (lit n) (named nat)
    t_str : {s : List ℕ} → HasString w → HasType w (str s) (named string)
    t_proj : (S : Projectable w) {i : ℕ} {e T₀ T A : Tree} {l : Level} →
        HasType w e T₀ → Reduces w T₀ (projectable_type S) →
        i < S.ctor.fields → HasSort w (projectable_type S) l →
        IsTypeAfterParameters w T S.ind.parameters S.args (ctor_type S) →
        IsFieldType w (field_at S.name e l i) A 0 T →
        HasType w (proj S.name i e) A

  -- sort(A) = l
  pub data HasSort (w : Place) : Tree → Level → Type 0 where
    has_sort : {A S : Tree} {l : Level} → HasType w A S → Reduces w S (sort l) → HasSort w A l

  -- A is a proposition
  pub data IsProposition (w : Place) : Tree → Type 0 where
    is_prop : {A : Tree} {l : Level} →
        HasSort w A l → SameLevel l zero_level → IsProposition w A

  -- A is no proposition
  pub data IsNotProposition (w : Place) : Tree → Type 0 where
    not_prop : {A : Tree} {l : Level} →
        HasSort w A l → (SameLevel l zero_level → ⊥) → IsNotProposition w A

  -- a >> b at w
  pub data Reduces (w : Place) : Tree → Tree → Type 0 where
    r_refl : {a : Tree} → IsWellFormed a → Reduces w a a
    r_trans : {a b c : Tree} → Reduces w a b → Reduces w b c → Reduces w a c
    r_head : {f g a : Tree} → Reduces w f g → IsWellFormed a → Reduces w (app f a) (app g a)
    r_beta : {A b a : Tree} →
        IsWellFormed (app (lam A b) a) → Reduces w (app (lam A b) a) (opened b a)
    r_zeta : {A v b : Tree} →
        IsWellFormed (let_in A v b) → Reduces w (let_in A v b) (opened b v)
    r_delta : {c : Name} {ls : List Level} {v : Tree} (g : IsGivenAt w c ls) →
        HasValue g.entry v → IsWellFormed (at_levels g v) → Reduces w (const c ls) (at_levels g v)
    r_proj : (c : CtorApp w) {i : ℕ} {e m x : Tree} →
        Reduces w e m → ReadsText w m (ctor_app c) →
        slice_get c.args (c.ctor.parameters + i) ≡ Some x → IsWellFormed x →
        Reduces w (proj c.ind.name i e) x
    r_major : (R : RecApp w) {e m m' : Tree} →
        Reduces w e m → Reads w m m' → Reduces w (on_major R e) (on_major R m')
    r_iota : (R : RecApp w) (c : CtorApp w) (h : HasRule R c) →
        IsWellFormed (ctor_app c) → IsWellFormed (rule_result R c h) →
        Reduces w (on_major R (ctor_app c)) (rule_result R c h)
    r_k : (R : RecApp w) (k : KMajor R) {e T₀ D : Tree} →
        HasType w e T₀ → Reduces w T₀ (k_type k) →
        HasType w (ctor_app k.ctor) D → IsDefEq w (k_type k) D →
        Reduces w (on_major R e) (on_major R (ctor_app k.ctor))
    r_struct : (R : RecApp w) (S : StructureAt w) {m T₀ : Tree} →
        HasOnlyRule R S.structure.ctor_name → HasType w m T₀ → Reduces w T₀ (structure_type S) →
        IsNotProposition w (structure_type S) →
        Reduces w (on_major R m) (on_major R (expanded S m))
    r_quot_lift : (ls ks : List Level) {A r B f h e A' r' a : Tree} →
        IsQuot w quot_lift → IsQuot w quot_mk → AllWellFormed (A ∷ r ∷ B ∷ f ∷ h ∷ []) →
        Reduces w e (apply (const quot_mk ks) (A' ∷ r' ∷ a ∷ [])) →
        Reduces w (apply (const quot_lift ls) (A ∷ r ∷ B ∷ f ∷ h ∷ e ∷ [])) (app f a)
    r_quot_ind : (ls ks : List Level) {A r B h e A' r' a : Tree} →
        IsQuot w quot_ind → IsQuot w quot_mk → AllWellFormed (A ∷ r ∷ B ∷ h ∷ []) →
        Reduces w e (apply (const quot_mk ks) (A' ∷ r' ∷ a ∷ [])) →
        Reduces w (apply (const quot_ind ls) (A ∷ r ∷ B ∷ h ∷ e ∷ [])) (app h a)
    r_op : (op : Op) (es : List Tree) (ns : List ℕ) (r : Tree) (o : IsOperation w op) →
        HasNat w → MeetsLaws w op o.entry → ReduceToNumerals w es ns →
        IsResult w (op_value op ns) r →
        Reduces w (apply (named (op_name op)) es) r

  -- a == b at w; steps of beta and zeta at the head come first, by e_reduce, before parts or types
  -- are compared
  pub data IsDefEq (w : Place) : Tree → Tree → Type 0 where
    e_refl : {a : Tree} → IsWellFormed a → IsDefEq w a a
    e_reduce : {a b a' b' : Tree} →
        Reduces w a a' → Reduces w b b' → IsDefEq w a' b' → IsDefEq w a b
    e_sort : {l m : Level} → SameLevel l m → IsDefEq w (sort l) (sort m)
    e_const : {c : Name} {ls ms : List Level} →
        SameLevels ls ms → IsDefEq w (const c ls) (const c ms)
    e_app : {f g a b : Tree} → IsNeutral f → IsNeutral g →
        IsDefEq w f g → IsDefEq w a b → IsDefEq w (app f a) (app g b)
    e_lam : {A A' b b' : Tree} {k : ℕ} → Fresh k (lam A b ∷ lam A' b' ∷ []) →
        IsDefEq w A A' → IsDefEq w (opened b (local k A)) (opened b' (local k A)) →
        IsDefEq w (lam A b) (lam A' b')
    e_pi : {A A' B B' : Tree} {k : ℕ} → Fresh k (pi A B ∷ pi A' B' ∷ []) →
        IsDefEq w A A' → IsDefEq w (opened B (local k A)) (opened B' (local k A)) →
        IsDefEq w (pi A B) (pi A' B')
    e_proj : {S : Name} {i : ℕ} {s t : Tree} →
        IsDefEq w s t → IsDefEq w (proj S i s) (proj S i t)
    e_eta_left : {o T A B A' b : Tree} → IsNeutral o → HasType w o T → Reduces w T (pi A B) →
        IsDefEq w (lam A (app o (var 0))) (lam A' b) → IsDefEq w o (lam A' b)
    e_eta_right : {o T A B A' b : Tree} → IsNeutral o → HasType w o T → Reduces w T (pi A B) →
        IsDefEq w (lam A' b) (lam A (app o (var 0))) → IsDefEq w (lam A' b) o
    e_struct_left : (S : StructureAt w) (xs : List Tree) {a : Tree} →
        IsHeadNormal a → IsByFields w S xs a → IsDefEq w a (structure_value S xs)
    e_struct_right : (S : StructureAt w) (xs : List Tree) {a : Tree} →
        IsHeadNormal a → IsByFields w S xs a → IsDefEq w (structure_value S xs) a
    e_unit : (U : UnitLike w) (ls : List Level) (bs : List Tree) (a b A B : Tree) →
        IsHeadNormal a → IsHeadNormal b → length bs ≡ U.ind.parameters →
        HasType w a A → Reduces w A (apply (const U.name ls) bs) →
        HasType w b B → IsDefEq w A B → IsDefEq w a b
    e_proof : {a b A B : Tree} → IsHeadNormal a → IsHeadNormal b →
        HasType w a A → IsProposition w A → HasType w b B → IsDefEq w A B → IsDefEq w a b
    e_zero_left : IsDefEq w (lit 0) (named nat_zero)
    e_zero_right : IsDefEq w (named nat_zero) (lit 0)
    e_succ_left : {n : ℕ} {x : Tree} → IsWellFormed (lit (suc n)) →
        IsDefEq w (lit n) x → IsDefEq w (lit (suc n)) (app (named nat_succ) x)
    e_succ_right : {n : ℕ} {x : Tree} → IsWellFormed (lit (suc n)) →
        IsDefEq w x (lit n) → IsDefEq w (app (named nat_succ) x) (lit (suc n))
    e_str_left : {s : List ℕ} {b : Tree} →
        Expands w s → IsDefEq w (expansion (chars s)) b → IsDefEq w (str s) b
    e_str_right : {s : List ℕ} {a : Tree} →
        Expands w s → IsDefEq w a (expansion (chars s)) → IsDefEq w a (str s)

  -- the laws of the operation hold of what this entry gives: it has no level parameters, the laws
  -- can be stated, and their two sides are equal
  pub data MeetsLaws (w : Place) : Op → Entry → Type 0 where
    meets : {op : Op} {g : Entry} →
        (has_laws op ≡ true → g.levels ≡ []) → CanBeStated w (stated_by op) →
        AllHold w (laws_in op g.kind) → MeetsLaws w op g

  pub data AllHold (w : Place) : List Law → Type 0 where
    no_more_laws : AllHold w []
    holds : {law : Law} {laws : List Law} →
        IsDefEq w law.left law.right → AllHold w laws → AllHold w (law ∷ laws)

  -- each tree reduces to a numeral of its number
  pub data ReduceToNumerals (w : Place) : List Tree → List ℕ → Type 0 where
    no_more_numerals : ReduceToNumerals w [] []
    numeral : {e v : Tree} {n : ℕ} {es : List Tree} {ns : List ℕ} →
        Reduces w e v → IsNumeral v n → ReduceToNumerals w es ns →
        ReduceToNumerals w (e ∷ es) (n ∷ ns)

  -- a has the type of the structure's value at these fields, and each of its projections equals the
  -- field
  pub data IsByFields (w : Place) : (S : StructureAt w) → List Tree → Tree → Type 0 where
    by_fields : {S : StructureAt w} {xs : List Tree} {a A B : Tree} →
        length xs ≡ S.structure.ctor.fields →
        HasType w a A → HasType w (structure_value S xs) B → IsDefEq w A B →
        ProjectionsEqual w S.structure.ind.name a 0 xs → IsByFields w S xs a

  -- Proj(J, j, a) == x for each x, with j rising
  pub data ProjectionsEqual (w : Place) : Name → Tree → ℕ → List Tree → Type 0 where
    no_more_fields : {J : Name} {a : Tree} {j : ℕ} → ProjectionsEqual w J a j []
    project : {J : Name} {a x : Tree} {j : ℕ} {xs : List Tree} →
        IsDefEq w (proj J j a) x → ProjectionsEqual w J a (suc j) xs →
        ProjectionsEqual w J a j (x ∷ xs)

  -- T is left of r after n Pis, the first n of bs put in
  pub data IsTypeAfterParameters (w : Place) : Tree → ℕ → List Tree → Tree → Type 0 where
    no_more : {T : Tree} {bs : List Tree} → IsTypeAfterParameters w T 0 bs T
    next : {b : Tree} {bs : List Tree} {n : ℕ} {r A B T : Tree} →
        Reduces w r (pi A B) → IsTypeAfterParameters w T n bs (opened B b) →
        IsTypeAfterParameters w T (suc n) (b ∷ bs) r

  -- A is the field's domain, where r begins with field number j; in Prop it is a proposition, and
  -- so is the domain of each earlier field whose variable the rest of the type mentions
  pub data IsFieldType (w : Place) : Field → Tree → ℕ → Tree → Type 0 where
    here : {f : Field} {r A B : Tree} →
        Reduces w r (pi A B) → (IsInProp f → IsProposition w A) → IsFieldType w f A f.number r
    past : {f : Field} {j : ℕ} {r A D B : Tree} →
        Reduces w r (pi D B) → (IsInProp f → has_var 0 B ≡ true → IsProposition w D) →
        IsFieldType w f A (suc j) (opened B (proj f.structure j f.subject)) →
        IsFieldType w f A j r
