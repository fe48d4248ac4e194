-- What it is for a property of claims to follow the rules, where levels are compared and shapes
-- looked at by tests. The laws of operations on numbers are not asked.
use Rattle.std.specs.Prelude.{ℕ, zero, suc, ◌≡◌, ◌<◌, ◌+◌, Bool, ◌&&◌, true, List, [], ◌∷◌, length}
use Rattle.std.specs.Prelude.{Some, slice_get, false}
use Rattle.std.specs.Str.{chars}
use Rattle.lk_tree.specs.Tree.{Name, Level, succ_level, imax_level, Tree, var, sort, const, app}
use Rattle.lk_tree.specs.Tree.{lam, pi, let_in, proj, lit, str, local}
use Rattle.lk_tree.specs.Bind.{opened, Fresh, has_var}
use Rattle.lk_tree.specs.Level.{is_zero_level}
use Rattle.lk_tree.specs.LevelTest.{level_test}
use Rattle.lk_tree.specs.Operations.{Op, op_value}
use Rattle.lk_tree.specs.Spine.{apply, IsNeutral, IsHeadNormal}
use Rattle.lk_tree.specs.WellFormed.{IsWellFormed, AllWellFormed}
use Rattle.lk_rulebook.specs.Place.{Place}
use Rattle.lk_rulebook.specs.Structures.{UnitLike, StructureAt, structure_type, structure_value}
use Rattle.lk_rulebook.specs.Structures.{expanded, Projectable, projectable_type, ctor_type}
use Rattle.lk_rulebook.specs.Structures.{CtorApp, ctor_app, RecApp, on_major, HasRule, rule_result}
use Rattle.lk_rulebook.specs.Structures.{HasOnlyRule, KMajor, k_type}
use Rattle.lk_rulebook.specs.Quotients.{IsQuot}
use Rattle.lk_rulebook.specs.Names.{named, nat, nat_zero, nat_succ, op_name, string, quot_mk}
use Rattle.lk_rulebook.specs.Names.{quot_lift, quot_ind}
use Rattle.lk_rulebook.specs.Shapes.{HasNat, HasString}
use Rattle.lk_rulebook.specs.Literals.{IsOperation, IsResult, Expands, expansion, ReadsText, Reads}
use Rattle.lk_rulebook.specs.Rules.{HasValue, IsGivenAt, at_levels}
use Rattle.lk_questions.specs.Shapes.{nat_shape, string_shape}
use Rattle.lk_questions.specs.Literals.{numeral_of, result_of}
use Rattle.lk_questions.specs.Strings.{expansion_of, text_to_ctor}
use Rattle.lk_rulebook.specs.Claims.{Claim, types, reduces, equals}
use Rattle.lk_questions.specs.Tests.{reads}
use Rattle.lk_questions.specs.Tests.{passes, found, is_true, same_levels}

-- sort A = l
abbrev pub Sorts : (Claim → Type 0) → Tree → Level → Type 0
Sorts C A l = (S : Tree) × C (types A S) × C (reduces S (sort l))

-- Proj(J, j, a) == x for each x, with j rising
abbrev pub EachField : (Claim → Type 0) → Name → Tree → ℕ → List Tree → Type 0
EachField C J a j [] = Unit {0}
EachField C J a j (x ∷ xs) = C (equals (proj J j a) x) × EachField C J a (suc j) xs

-- A is a proposition, where that is due
pub data PropWhere (C : Claim → Type 0) : Bool → Tree → Type 0 where
  not_due : {A : Tree} → PropWhere C false A
  due : {A S : Tree} {l : Level} → C (types A S) → C (reduces S (sort l)) → is_zero_level l ≡ true →
      PropWhere C true A

-- T is left of r after n Pis, the first n of bs put in
pub data EachParameter (C : Claim → Type 0) : List Tree → ℕ → Tree → Tree → Type 0 where
  no_parameter : {bs : List Tree} {r : Tree} → EachParameter C bs zero r r
  parameter : {b : Tree} {bs : List Tree} {n : ℕ} {r A B T : Tree} → C (reduces r (pi A B)) →
      EachParameter C bs n (opened B b) T → EachParameter C (b ∷ bs) (suc n) r T

-- F is the domain of the field that is n further on than number j, with which r begins; where q
-- holds it is a proposition, and so is the domain of each earlier one whose variable the rest of
-- the type mentions
pub data FieldAt (C : Claim → Type 0) (S : Name) (s : Tree) (q : Bool) :
    ℕ → ℕ → Tree → Tree → Type 0 where
  this_field : {j : ℕ} {r F B : Tree} → C (reduces r (pi F B)) → PropWhere C q F →
      FieldAt C S s q j zero r F
  field_before : {j n : ℕ} {r A B F : Tree} → C (reduces r (pi A B)) →
      PropWhere C (q && has_var 0 B) A → FieldAt C S s q (suc j) n (opened B (proj S j s)) F →
      FieldAt C S s q j (suc n) r F

-- each tree reduces to a numeral of its number
pub data EachNumeral (C : Claim → Type 0) : List Tree → List ℕ → Type 0 where
  no_numeral : EachNumeral C [] []
  a_numeral : {e v : Tree} {n : ℕ} {es : List Tree} {ns : List ℕ} → C (reduces e v) →
      numeral_of v ≡ Some n → EachNumeral C es ns → EachNumeral C (e ∷ es) (n ∷ ns)

pub record FollowsTypes (w : Place) (C : Claim → Type 0) : Type 0 where
  pub sorts : (l : Level) → C (types (sort l) (sort (succ_level l)))
  pub locals : (k : ℕ) (T : Tree) → IsWellFormed (local k T) → C (types (local k T) T)
  pub consts : (c : Name) (ls : List Level) (g : IsGivenAt w c ls) →
      IsWellFormed (at_levels g g.entry.type) → C (types (const c ls) (at_levels g g.entry.type))
  pub apps : (f a F A B A' : Tree) → C (types f F) → C (reduces F (pi A B)) → C (types a A') →
      C (equals A' A) → C (types (app f a) (opened B a))
  pub lams : (A b B : Tree) (l : Level) (k : ℕ) → Fresh k (lam A b ∷ pi A B ∷ []) → Sorts C A l →
      C (types (opened b (local k A)) (opened B (local k A))) → C (types (lam A b) (pi A B))
  pub pis : (A B : Tree) (u v : Level) (k : ℕ) → Fresh k (pi A B ∷ []) → Sorts C A u →
      Sorts C (opened B (local k A)) v → C (types (pi A B) (sort (imax_level u v)))
  pub lets : (A v b V B : Tree) (l : Level) → Sorts C A l → C (types v V) → C (equals V A) →
      C (types (opened b v) B) → C (types (let_in A v b) B)
  pub lits : (n : ℕ) → HasNat w → found w nat_shape ≡ Some tt → IsWellFormed (lit n) →
      C (types (lit n) (named nat))
  pub strs : (s : List ℕ) → HasString w → found w string_shape ≡ Some tt →
      C (types (str s) (named string))
  pub projs : (S : Projectable w) (i : ℕ) (e T₀ T F : Tree) (l : Level) → C (types e T₀) →
      C (reduces T₀ (projectable_type S)) → i < S.ctor.fields → Sorts C (projectable_type S) l →
      EachParameter C S.args S.ind.parameters (ctor_type S) T →
      FieldAt C S.name e (is_zero_level l) 0 i T F → C (types (proj S.name i e) F)

pub record FollowsReductions (w : Place) (C : Claim → Type 0) : Type 0 where
  pub stay : (a : Tree) → IsWellFormed a → C (reduces a a)
  pub chain : (a b c : Tree) → C (reduces a b) → C (reduces b c) → C (reduces a c)
  pub head : (f g a : Tree) → C (reduces f g) → IsWellFormed a → C (reduces (app f a) (app g a))
  pub beta : (A b a : Tree) → IsWellFormed (app (lam A b) a) →
      C (reduces (app (lam A b) a) (opened b a))
  pub zeta : (A v b : Tree) → IsWellFormed (let_in A v b) → C (reduces (let_in A v b) (opened b v))
  pub delta : (c : Name) (ls : List Level) (g : IsGivenAt w c ls) (v : Tree) → HasValue g.entry v →
      IsWellFormed (at_levels g v) → C (reduces (const c ls) (at_levels g v))
  pub field : (c : CtorApp w) (i : ℕ) (e m x : Tree) → C (reduces e m) →
      ReadsText w m (ctor_app c) → found w (text_to_ctor m) ≡ Some (ctor_app c) →
      slice_get c.args (c.ctor.parameters + i) ≡ Some x → IsWellFormed x →
      C (reduces (proj c.ind.name i e) x)
  pub major : (R : RecApp w) (e m n : Tree) → C (reduces e m) → Reads w m n →
      passes (reads w m n) ≡ true → C (reduces (on_major R e) (on_major R n))
  pub iota : (R : RecApp w) (c : CtorApp w) (h : HasRule R c) → IsWellFormed (ctor_app c) →
      IsWellFormed (rule_result R c h) → C (reduces (on_major R (ctor_app c)) (rule_result R c h))
  pub lift : (ls ks : List Level) (A r B f h m A' r' a : Tree) → IsQuot w quot_lift →
      IsQuot w quot_mk → AllWellFormed (A ∷ r ∷ B ∷ f ∷ h ∷ []) →
      C (reduces m (apply (const quot_mk ks) (A' ∷ r' ∷ a ∷ []))) →
      C (reduces (apply (const quot_lift ls) (A ∷ r ∷ B ∷ f ∷ h ∷ m ∷ [])) (app f a))
  pub ind : (ls ks : List Level) (A r B h m A' r' a : Tree) → IsQuot w quot_ind → IsQuot w quot_mk →
      AllWellFormed (A ∷ r ∷ B ∷ h ∷ []) →
      C (reduces m (apply (const quot_mk ks) (A' ∷ r' ∷ a ∷ []))) →
      C (reduces (apply (const quot_ind ls) (A ∷ r ∷ B ∷ h ∷ m ∷ [])) (app h a))
  pub k : (R : RecApp w) (k : KMajor R) (e T₀ D : Tree) → C (types e T₀) →
      C (reduces T₀ (k_type k)) → C (types (ctor_app k.ctor) D) → C (equals (k_type k) D) →
      C (reduces (on_major R e) (on_major R (ctor_app k.ctor)))
  pub struct : (R : RecApp w) (S : StructureAt w) (m T₀ : Tree) (l : Level) →
      HasOnlyRule R S.structure.ctor_name → C (types m T₀) → C (reduces T₀ (structure_type S)) →
      Sorts C (structure_type S) l → is_zero_level l ≡ false →
      C (reduces (on_major R m) (on_major R (expanded S m)))
  pub operation : (op : Op) (es : List Tree) (ns : List ℕ) (r : Tree) → IsOperation w op →
      HasNat w → found w nat_shape ≡ Some tt → EachNumeral C es ns → IsResult w (op_value op ns) r →
      found w (result_of (op_value op ns)) ≡ Some (Some r) →
      C (reduces (apply (named (op_name op)) es) r)

pub record FollowsEqualities (w : Place) (C : Claim → Type 0) : Type 0 where
  pub same : (a : Tree) → IsWellFormed a → C (equals a a)
  pub reduce : (a b a' b' : Tree) → C (reduces a a') → C (reduces b b') → C (equals a' b') →
      C (equals a b)
  pub sorts : (l m : Level) → is_true (level_test l m) ≡ true → C (equals (sort l) (sort m))
  pub consts : (c : Name) (ls ms : List Level) → same_levels ls ms ≡ true →
      C (equals (const c ls) (const c ms))
  pub apps : (f g a b : Tree) → IsNeutral f → IsNeutral g → C (equals f g) → C (equals a b) →
      C (equals (app f a) (app g b))
  pub lams : (A A' b b' : Tree) (k : ℕ) → Fresh k (lam A b ∷ lam A' b' ∷ []) → C (equals A A') →
      C (equals (opened b (local k A)) (opened b' (local k A))) → C (equals (lam A b) (lam A' b'))
  pub pis : (A A' B B' : Tree) (k : ℕ) → Fresh k (pi A B ∷ pi A' B' ∷ []) → C (equals A A') →
      C (equals (opened B (local k A)) (opened B' (local k A))) → C (equals (pi A B) (pi A' B'))
  pub projs : (S : Name) (i : ℕ) (s t : Tree) → C (equals s t) →
      C (equals (proj S i s) (proj S i t))
  pub eta_left : (o T A B A' b : Tree) → IsNeutral o → C (types o T) → C (reduces T (pi A B)) →
      C (equals (lam A (app o (var 0))) (lam A' b)) → C (equals o (lam A' b))
  pub eta_right : (o T A B A' b : Tree) → IsNeutral o → C (types o T) → C (reduces T (pi A B)) →
      C (equals (lam A' b) (lam A (app o (var 0)))) → C (equals (lam A' b) o)
  pub proof : (a b A B : Tree) (l : Level) → IsHeadNormal a → IsHeadNormal b → C (types a A) →
      Sorts C A l → is_zero_level l ≡ true → C (types b B) → C (equals A B) → C (equals a b)
  pub zero_left : C (equals (lit 0) (named nat_zero))
  pub zero_right : C (equals (named nat_zero) (lit 0))
  pub succ_left : (n : ℕ) (x : Tree) → IsWellFormed (lit (suc n)) → C (equals (lit n) x) →
      C (equals (lit (suc n)) (app (named nat_succ) x))
  pub succ_right : (n : ℕ) (x : Tree) → IsWellFormed (lit (suc n)) → C (equals x (lit n)) →
      C (equals (app (named nat_succ) x) (lit (suc n)))
  pub str_left : (s : List ℕ) (b : Tree) → Expands w s →
      found w (expansion_of s) ≡ Some (Some (expansion (chars s))) →
      C (equals (expansion (chars s)) b) → C (equals (str s) b)
  pub str_right : (s : List ℕ) (a : Tree) → Expands w s →
      found w (expansion_of s) ≡ Some (Some (expansion (chars s))) →
      C (equals a (expansion (chars s))) → C (equals a (str s))
  pub unit : (u : UnitLike w) (ls : List Level) (bs : List Tree) (a b A B : Tree) → IsHeadNormal a →
      IsHeadNormal b → length bs ≡ u.ind.parameters →
      C (types a A) → C (reduces A (apply (const u.name ls) bs)) → C (types b B) → C (equals A B) →
      C (equals a b)
  pub struct_left : (S : StructureAt w) (xs : List Tree) (a A B : Tree) → IsHeadNormal a →
      length xs ≡ S.structure.ctor.fields → C (types a A) → C (types (structure_value S xs) B) →
      C (equals A B) → EachField C S.structure.ind.name a 0 xs →
      C (equals a (structure_value S xs))
  pub struct_right : (S : StructureAt w) (xs : List Tree) (a A B : Tree) → IsHeadNormal a →
      length xs ≡ S.structure.ctor.fields → C (types a A) → C (types (structure_value S xs) B) →
      C (equals A B) → EachField C S.structure.ind.name a 0 xs →
      C (equals (structure_value S xs) a)
