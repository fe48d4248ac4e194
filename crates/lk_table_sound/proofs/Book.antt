-- A property of claims that follows the rules at a place, and beside it the words of the rule book, each of which says of the property what it says there of
-- derivations. Levels are equal, shapes stand and literals are read where the tests say so.
use Rattle.std.proofs.Common.{ℕ, suc, arith, ◌≡◌, ◌<◌, ◌≤◌, ◌+◌, Bool, true, false, ◌&&◌, length, List, [], ◌∷◌, Option, Some, refl}
use Rattle.std.specs.Prelude.{slice_get}
use Rattle.std.specs.Str.{chars}
use Rattle.lk_tree.specs.Tree.{Name, Level, succ_level, imax_level, Tree, var, sort, const, app, lam, pi, let_in, proj, lit, str, local}
use Rattle.lk_tree.specs.Bind.{opened, Fresh, has_var}
use Rattle.lk_tree.specs.Level.{is_zero_level}
use Rattle.lk_tree.specs.LevelTest.{level_test}
use Rattle.lk_tree.specs.Operations.{Op, Value, op_value}
use Rattle.lk_tree.specs.Spine.{apply, IsNeutral, IsHeadNormal}
use Rattle.lk_tree.specs.WellFormed.{IsWellFormed, AllWellFormed, LocalsWithin}
use Rattle.lk_tree.proofs.Scans.{and_true}
use Rattle.lk_rulebook.specs.Place.{Place, Entry}
use Rattle.lk_rulebook.specs.Names.{named, nat, nat_zero, nat_succ, op_name, string, quot_mk, quot_lift, quot_ind}
use Rattle.lk_rulebook.specs.Structures.{structure_type, structure_value, expanded, projectable_type, ctor_type, ctor_app, on_major, HasRule, rule_result, HasOnlyRule, KMajor, k_type}
use Rattle.lk_rulebook.specs.Structures as structures
use Rattle.lk_rulebook.specs.WellStated as stated
use Rattle.lk_rulebook.specs.Shapes as shapes
use Rattle.lk_rulebook.specs.Quotients as quotients
use Rattle.lk_rulebook.specs.Literals.{expansion}
use Rattle.lk_rulebook.specs.Literals as literals
use Rattle.lk_rulebook.specs.Rules.{HasValue, IsGivenAt, at_levels}
use Rattle.lk_tree.proofs.Binding.{fine_more}
use Rattle.lk_questions.specs.Query.{Query, AnswerTo, core, whnf, infer, same}
use Rattle.lk_questions.specs.Program.{Program, done, refuse, ask, look, Table}
use Rattle.lk_questions.specs.Sound.{IsAskable, IfYes}
use Rattle.lk_questions.specs.Levels.{LevelTest}
use Rattle.lk_questions.specs.Shapes.{nat_shape, string_shape}
use Rattle.lk_questions.specs.Literals.{numeral_of, result_of}
use Rattle.lk_questions.specs.Strings.{expansion_of, text_to_ctor}
use Rattle.lk_rulebook.specs.Claims.{Claim, types, reduces, equals}
use Rattle.lk_rulebook.specs.Claims.{IsShaped}
use Rattle.lk_questions.specs.Tests.{passes, found, is_true, same_levels}
use Rattle.lk_questions.specs.Tests.{reads}
use Rattle.lk_claims.specs.Follows.{Sorts, EachField, PropWhere, not_due, due, EachParameter, no_parameter, parameter, FieldAt, this_field, field_before, EachNumeral, no_numeral, a_numeral, FollowsTypes, FollowsReductions, FollowsEqualities}

pub record Book : Type 1 where
  pub place : Place
  pub holds : Claim → Type 0
  pub shaped : (c : Claim) → holds c → IsShaped c
  pub typing : FollowsTypes place holds
  pub reduction : FollowsReductions place holds
  pub conversion : FollowsEqualities place holds

-- the three relations
pub record HasType (w : Book) (e T : Tree) : Type 0 where
  pub shown : w.holds (types e T)

pub record Reduces (w : Book) (a b : Tree) : Type 0 where
  pub shown : w.holds (reduces a b)

pub record IsDefEq (w : Book) (a b : Tree) : Type 0 where
  pub shown : w.holds (equals a b)

pub record HasSort (w : Book) (A : Tree) (l : Level) : Type 0 where
  pub between : Tree
  pub types : HasType w A between
  pub reduces : Reduces w between (sort l)

pub has_sort : {w : Book} {A S : Tree} {l : Level} → HasType w A S → Reduces w S (sort l) → HasSort w A l
has_sort {S = S} h r = record { between = S; types = h; reduces = r }

pub sorts : {w : Book} {A : Tree} {l : Level} → HasSort w A l → Sorts w.holds A l
sorts h = (h.between, h.types.shown, h.reduces.shown)

pub record IsProposition (w : Book) (A : Tree) : Type 0 where
  pub level : Level
  pub sorted : HasSort w A level
  pub is_zero : is_zero_level level ≡ true

pub is_prop : {w : Book} {A : Tree} {l : Level} → HasSort w A l → is_zero_level l ≡ true → IsProposition w A
is_prop {l = l} h z = record { level = l; sorted = h; is_zero = z }

pub record IsNotProposition (w : Book) (A : Tree) : Type 0 where
  pub level : Level
  pub sorted : HasSort w A level
  pub not_zero : is_zero_level level ≡ false

pub not_prop : {w : Book} {A : Tree} {l : Level} → HasSort w A l → is_zero_level l ≡ false → IsNotProposition w A
not_prop {l = l} h z = record { level = l; sorted = h; not_zero = z }

-- levels are equal by the test
pub record SameLevel (l m : Level) : Type 0 where
  pub shown : is_true (level_test l m) ≡ true

pub record SameLevels (ls ms : List Level) : Type 0 where
  pub shown : same_levels ls ms ≡ true

pub none : SameLevels [] []
none = record { shown = refl }

pub more : {l m : Level} {ls ms : List Level} → SameLevel l m → SameLevels ls ms → SameLevels (l ∷ ls) (m ∷ ms)
more {l = l} {m = m} {ls = ls} {ms = ms} h i = record { shown = and_true (is_true (level_test l m)) (same_levels ls ms) h.shown i.shown }

pub level_tested : (l m : Level) → level_test l m ≡ Some true → SameLevel l m
level_tested l m e = record { shown = rw e refl }

-- what is at the place
abbrev pub StructureAt : Book → Type 0
StructureAt w = structures.StructureAt w.place

abbrev pub UnitLike : Book → Type 0
UnitLike w = structures.UnitLike w.place

abbrev pub Projectable : Book → Type 0
Projectable w = structures.Projectable w.place

abbrev pub CtorApp : Book → Type 0
CtorApp w = structures.CtorApp w.place

abbrev pub RecApp : Book → Type 0
RecApp w = structures.RecApp w.place

abbrev pub IsQuot : Book → Name → Type 0
IsQuot w = quotients.IsQuot w.place

abbrev pub IsOperation : Book → Op → Type 0
IsOperation w = literals.IsOperation w.place

abbrev pub WellStated : Book → Type 0
WellStated w = stated.WellStated w.place

-- what the rules ask of shapes, and that its test is passed
pub record HasNat (w : Book) : Type 0 where
  pub rule : shapes.HasNat w.place
  pub tested : found w.place nat_shape ≡ Some tt

pub record HasString (w : Book) : Type 0 where
  pub rule : shapes.HasString w.place
  pub tested : found w.place string_shape ≡ Some tt

pub record Expands (w : Book) (s : List ℕ) : Type 0 where
  pub rule : literals.Expands w.place s
  pub tested : found w.place (expansion_of s) ≡ Some (Some (expansion (chars s)))

pub record ReadsText (w : Book) (m n : Tree) : Type 0 where
  pub rule : literals.ReadsText w.place m n
  pub tested : found w.place (text_to_ctor m) ≡ Some n

pub record Reads (w : Book) (m n : Tree) : Type 0 where
  pub rule : literals.Reads w.place m n
  pub tested : passes (reads w.place m n) ≡ true

pub record IsResult (w : Book) (o : Option Value) (r : Tree) : Type 0 where
  pub rule : literals.IsResult w.place o r
  pub tested : found w.place (result_of o) ≡ Some (Some r)

-- lists of premises
pub record ReduceToNumerals (w : Book) (es : List Tree) (ns : List ℕ) : Type 0 where
  pub shown : EachNumeral w.holds es ns

pub no_more_numerals : {w : Book} → ReduceToNumerals w [] []
no_more_numerals = record { shown = no_numeral }

pub numeral : {w : Book} {e v : Tree} {n : ℕ} {es : List Tree} {ns : List ℕ} → Reduces w e v → numeral_of v ≡ Some n → ReduceToNumerals w es ns → ReduceToNumerals w (e ∷ es) (n ∷ ns)
numeral h e k = record { shown = a_numeral h.shown e k.shown }

pub record ProjectionsEqual (w : Book) (J : Name) (a : Tree) (j : ℕ) (xs : List Tree) : Type 0 where
  pub shown : EachField w.holds J a j xs

pub no_more_fields : {w : Book} {J : Name} {a : Tree} {j : ℕ} → ProjectionsEqual w J a j []
no_more_fields = record { shown = tt }

pub project : {w : Book} {J : Name} {a x : Tree} {j : ℕ} {xs : List Tree} → IsDefEq w (proj J j a) x → ProjectionsEqual w J a (suc j) xs → ProjectionsEqual w J a j (x ∷ xs)
project h k = record { shown = (h.shown, k.shown) }

pub record IsTypeAfterParameters (w : Book) (T : Tree) (n : ℕ) (bs : List Tree) (r : Tree) : Type 0 where
  pub shown : EachParameter w.holds bs n r T

pub no_more : {w : Book} {bs : List Tree} {r : Tree} → IsTypeAfterParameters w r 0 bs r
no_more = record { shown = no_parameter }

pub next : {w : Book} {b : Tree} {bs : List Tree} {n : ℕ} {r A B T : Tree} → Reduces w r (pi A B) → IsTypeAfterParameters w T n bs (opened B b) → IsTypeAfterParameters w T (suc n) (b ∷ bs) r
next h k = record { shown = parameter h.shown k.shown }

-- the field that is n further on than number j
pub record IsFieldType (w : Book) (S : Name) (s : Tree) (l : Level) (j n : ℕ) (r F : Tree) : Type 0 where
  pub shown : FieldAt w.holds S s (is_zero_level l) j n r F

prop_where : {w : Book} {A : Tree} (q : Bool) → (q ≡ true → IsProposition w A) → PropWhere w.holds q A
prop_where {w = w} {A = A} true h = let p : IsProposition w A = h refl in due p.sorted.types.shown p.sorted.reduces.shown p.is_zero
prop_where false h = not_due

pub here : {w : Book} {S : Name} {s : Tree} {l : Level} {j : ℕ} {r A B : Tree} → Reduces w r (pi A B) → (is_zero_level l ≡ true → IsProposition w A) → IsFieldType w S s l j 0 r A
here {l = l} h p = record { shown = this_field h.shown (prop_where (is_zero_level l) p) }

pub past : {w : Book} {S : Name} {s : Tree} {l : Level} {j n : ℕ} {r A B F : Tree} → Reduces w r (pi A B) → ((is_zero_level l && has_var 0 B) ≡ true → IsProposition w A) → IsFieldType w S s l (suc j) n (opened B (proj S j s)) F →
    IsFieldType w S s l j (suc n) r F
past {l = l} {B = B} h p k = record { shown = field_before h.shown (prop_where (is_zero_level l && has_var 0 B) p) k.shown }

-- rules of typing
pub t_sort : {w : Book} {l : Level} → HasType w (sort l) (sort (succ_level l))
t_sort {w = w} {l = l} = record { shown = w.typing.sorts l }

pub t_local : {w : Book} {k : ℕ} {T : Tree} → IsWellFormed (local k T) → HasType w (local k T) T
t_local {w = w} {k = k} {T = T} f = record { shown = w.typing.locals k T f }

pub t_const : {w : Book} {c : Name} {ls : List Level} (g : IsGivenAt w.place c ls) → IsWellFormed (at_levels g g.entry.type) → HasType w (const c ls) (at_levels g g.entry.type)
t_const {w = w} {c = c} {ls = ls} g f = record { shown = w.typing.consts c ls g f }

pub t_app : {w : Book} {f a F A B A' : Tree} → HasType w f F → Reduces w F (pi A B) → HasType w a A' → IsDefEq w A' A → HasType w (app f a) (opened B a)
t_app {w = w} {f = f} {a = a} {F = F} {A = A} {B = B} {A' = A'} hf hF ha hq = record { shown = w.typing.apps f a F A B A' hf.shown hF.shown ha.shown hq.shown }

pub t_lam : {w : Book} {A b B : Tree} {l : Level} {k : ℕ} → Fresh k (lam A b ∷ pi A B ∷ []) → HasSort w A l → HasType w (opened b (local k A)) (opened B (local k A)) → HasType w (lam A b) (pi A B)
t_lam {w = w} {A = A} {b = b} {B = B} {l = l} {k = k} fresh hA hb = record { shown = w.typing.lams A b B l k fresh (sorts hA) hb.shown }

pub t_pi : {w : Book} {A B : Tree} {u v : Level} {k : ℕ} → Fresh k (pi A B ∷ []) → HasSort w A u → HasSort w (opened B (local k A)) v → HasType w (pi A B) (sort (imax_level u v))
t_pi {w = w} {A = A} {B = B} {u = u} {v = v} {k = k} fresh hA hB = record { shown = w.typing.pis A B u v k fresh (sorts hA) (sorts hB) }

pub t_let : {w : Book} {A v b V B : Tree} {l : Level} → HasSort w A l → HasType w v V → IsDefEq w V A → HasType w (opened b v) B → HasType w (let_in A v b) B
t_let {w = w} {A = A} {v = v} {b = b} {V = V} {B = B} {l = l} hA hv hq hb = record { shown = w.typing.lets A v b V B l (sorts hA) hv.shown hq.shown hb.shown }

pub t_lit : {w : Book} {n : ℕ} → HasNat w → IsWellFormed (lit n) → HasType w (lit n) (named nat)
t_lit {w = w} {n = n} h f = record { shown = w.typing.lits n h.rule h.tested f }

pub t_str : {w : Book} {s : List ℕ} → HasString w → HasType w (str s) (named string)
t_str {w = w} {s = s} h = record { shown = w.typing.strs s h.rule h.tested }

pub t_proj : {w : Book} (S : Projectable w) {i : ℕ} {e T₀ T A : Tree} {l : Level} → HasType w e T₀ → Reduces w T₀ (projectable_type S) → i < S.ctor.fields → HasSort w (projectable_type S) l →
    IsTypeAfterParameters w T S.ind.parameters S.args (ctor_type S) → IsFieldType w S.name e l 0 i T A → HasType w (proj S.name i e) A
t_proj {w = w} S {i = i} {e = e} {T₀ = T₀} {T = T} {A = A} {l = l} he hT less hS a b = record { shown = w.typing.projs S i e T₀ T A l he.shown hT.shown less (sorts hS) a.shown b.shown }

-- rules of reduction
pub r_refl : {w : Book} {a : Tree} → IsWellFormed a → Reduces w a a
r_refl {w = w} {a = a} f = record { shown = w.reduction.stay a f }

pub r_trans : {w : Book} {a b c : Tree} → Reduces w a b → Reduces w b c → Reduces w a c
r_trans {w = w} {a = a} {b = b} {c = c} h k = record { shown = w.reduction.chain a b c h.shown k.shown }

pub r_head : {w : Book} {f g a : Tree} → Reduces w f g → IsWellFormed a → Reduces w (app f a) (app g a)
r_head {w = w} {f = f} {g = g} {a = a} h fa = record { shown = w.reduction.head f g a h.shown fa }

pub r_beta : {w : Book} {A b a : Tree} → IsWellFormed (app (lam A b) a) → Reduces w (app (lam A b) a) (opened b a)
r_beta {w = w} {A = A} {b = b} {a = a} f = record { shown = w.reduction.beta A b a f }

pub r_zeta : {w : Book} {A v b : Tree} → IsWellFormed (let_in A v b) → Reduces w (let_in A v b) (opened b v)
r_zeta {w = w} {A = A} {v = v} {b = b} f = record { shown = w.reduction.zeta A v b f }

pub r_delta : {w : Book} {c : Name} {ls : List Level} {v : Tree} (g : IsGivenAt w.place c ls) → HasValue g.entry v → IsWellFormed (at_levels g v) → Reduces w (const c ls) (at_levels g v)
r_delta {w = w} {c = c} {ls = ls} {v = v} g h f = record { shown = w.reduction.delta c ls g v h f }

pub r_proj : {w : Book} (c : CtorApp w) {i : ℕ} {e m x : Tree} → Reduces w e m → ReadsText w m (ctor_app c) → slice_get c.args (c.ctor.parameters + i) ≡ Some x → IsWellFormed x → Reduces w (proj c.ind.name i e) x
r_proj {w = w} c {i = i} {e = e} {m = m} {x = x} h r at f = record { shown = w.reduction.field c i e m x h.shown r.rule r.tested at f }

pub r_major : {w : Book} (R : RecApp w) {e m m' : Tree} → Reduces w e m → Reads w m m' → Reduces w (on_major R e) (on_major R m')
r_major {w = w} R {e = e} {m = m} {m' = n} h r = record { shown = w.reduction.major R e m n h.shown r.rule r.tested }

pub r_iota : {w : Book} (R : RecApp w) (c : CtorApp w) (h : HasRule R c) → IsWellFormed (ctor_app c) → IsWellFormed (rule_result R c h) → Reduces w (on_major R (ctor_app c)) (rule_result R c h)
r_iota {w = w} R c h f g = record { shown = w.reduction.iota R c h f g }

pub r_k : {w : Book} (R : RecApp w) (k : KMajor R) {e T₀ D : Tree} → HasType w e T₀ → Reduces w T₀ (k_type k) → HasType w (ctor_app k.ctor) D → IsDefEq w (k_type k) D → Reduces w (on_major R e) (on_major R (ctor_app k.ctor))
r_k {w = w} R k {e = e} {T₀ = T₀} {D = D} he hT hD hq = record { shown = w.reduction.k R k e T₀ D he.shown hT.shown hD.shown hq.shown }

pub r_struct : {w : Book} (R : RecApp w) (S : StructureAt w) {m T₀ : Tree} → HasOnlyRule R S.structure.ctor_name → HasType w m T₀ → Reduces w T₀ (structure_type S) → IsNotProposition w (structure_type S) → Reduces w (on_major R m) (on_major R (expanded S m))
r_struct {w = w} R S {m = m} {T₀ = T₀} o hm hT z = record { shown = w.reduction.struct R S m T₀ z.level o hm.shown hT.shown (sorts z.sorted) z.not_zero }

pub r_quot_lift : {w : Book} (ls ks : List Level) {A r B f h e A' r' a : Tree} → IsQuot w quot_lift → IsQuot w quot_mk → AllWellFormed (A ∷ r ∷ B ∷ f ∷ h ∷ []) → Reduces w e (apply (const quot_mk ks) (A' ∷ r' ∷ a ∷ [])) →
    Reduces w (apply (const quot_lift ls) (A ∷ r ∷ B ∷ f ∷ h ∷ e ∷ [])) (app f a)
r_quot_lift {w = w} ls ks {A = A} {r = r} {B = B} {f = f} {h = h} {e = e} {A' = A'} {r' = r'} {a = a} i im ff he = record { shown = w.reduction.lift ls ks A r B f h e A' r' a i im ff he.shown }

pub r_quot_ind : {w : Book} (ls ks : List Level) {A r B h e A' r' a : Tree} → IsQuot w quot_ind → IsQuot w quot_mk → AllWellFormed (A ∷ r ∷ B ∷ h ∷ []) → Reduces w e (apply (const quot_mk ks) (A' ∷ r' ∷ a ∷ [])) →
    Reduces w (apply (const quot_ind ls) (A ∷ r ∷ B ∷ h ∷ e ∷ [])) (app h a)
r_quot_ind {w = w} ls ks {A = A} {r = r} {B = B} {h = h} {e = e} {A' = A'} {r' = r'} {a = a} i im ff he = record { shown = w.reduction.ind ls ks A r B h e A' r' a i im ff he.shown }

pub r_op : {w : Book} (op : Op) (es : List Tree) (ns : List ℕ) (r : Tree) → IsOperation w op → HasNat w → ReduceToNumerals w es ns → IsResult w (op_value op ns) r → Reduces w (apply (named (op_name op)) es) r
r_op {w = w} op es ns r i h s t = record { shown = w.reduction.operation op es ns r i h.rule h.tested s.shown t.rule t.tested }

-- rules of conversion
pub e_refl : {w : Book} {a : Tree} → IsWellFormed a → IsDefEq w a a
e_refl {w = w} {a = a} f = record { shown = w.conversion.same a f }

pub e_reduce : {w : Book} {a b a' b' : Tree} → Reduces w a a' → Reduces w b b' → IsDefEq w a' b' → IsDefEq w a b
e_reduce {w = w} {a = a} {b = b} {a' = a'} {b' = b'} h k q = record { shown = w.conversion.reduce a b a' b' h.shown k.shown q.shown }

pub e_sort : {w : Book} {l m : Level} → SameLevel l m → IsDefEq w (sort l) (sort m)
e_sort {w = w} {l = l} {m = m} h = record { shown = w.conversion.sorts l m h.shown }

pub e_const : {w : Book} {c : Name} {ls ms : List Level} → SameLevels ls ms → IsDefEq w (const c ls) (const c ms)
e_const {w = w} {c = c} {ls = ls} {ms = ms} h = record { shown = w.conversion.consts c ls ms h.shown }

pub e_app : {w : Book} {f g a b : Tree} → IsNeutral f → IsNeutral g → IsDefEq w f g → IsDefEq w a b → IsDefEq w (app f a) (app g b)
e_app {w = w} {f = f} {g = g} {a = a} {b = b} nf ng h k = record { shown = w.conversion.apps f g a b nf ng h.shown k.shown }

pub e_lam : {w : Book} {A A' b b' : Tree} {k : ℕ} → Fresh k (lam A b ∷ lam A' b' ∷ []) → IsDefEq w A A' → IsDefEq w (opened b (local k A)) (opened b' (local k A)) → IsDefEq w (lam A b) (lam A' b')
e_lam {w = w} {A = A} {A' = A'} {b = b} {b' = b'} {k = k} fresh h i = record { shown = w.conversion.lams A A' b b' k fresh h.shown i.shown }

pub e_pi : {w : Book} {A A' B B' : Tree} {k : ℕ} → Fresh k (pi A B ∷ pi A' B' ∷ []) → IsDefEq w A A' → IsDefEq w (opened B (local k A)) (opened B' (local k A)) → IsDefEq w (pi A B) (pi A' B')
e_pi {w = w} {A = A} {A' = A'} {B = B} {B' = B'} {k = k} fresh h i = record { shown = w.conversion.pis A A' B B' k fresh h.shown i.shown }

pub e_proj : {w : Book} {S : Name} {i : ℕ} {s t : Tree} → IsDefEq w s t → IsDefEq w (proj S i s) (proj S i t)
e_proj {w = w} {S = S} {i = i} {s = s} {t = t} h = record { shown = w.conversion.projs S i s t h.shown }

pub e_eta_left : {w : Book} {o T A B A' b : Tree} → IsNeutral o → HasType w o T → Reduces w T (pi A B) → IsDefEq w (lam A (app o (var 0))) (lam A' b) → IsDefEq w o (lam A' b)
e_eta_left {w = w} {o = o} {T = T} {A = A} {B = B} {A' = A'} {b = b} n h r q = record { shown = w.conversion.eta_left o T A B A' b n h.shown r.shown q.shown }

pub e_eta_right : {w : Book} {o T A B A' b : Tree} → IsNeutral o → HasType w o T → Reduces w T (pi A B) → IsDefEq w (lam A' b) (lam A (app o (var 0))) → IsDefEq w (lam A' b) o
e_eta_right {w = w} {o = o} {T = T} {A = A} {B = B} {A' = A'} {b = b} n h r q = record { shown = w.conversion.eta_right o T A B A' b n h.shown r.shown q.shown }

-- a has the type of the structure's value at these fields, and each of its projections equals the field
pub record IsByFields (w : Book) (S : StructureAt w) (xs : List Tree) (a : Tree) : Type 0 where
  pub count : length xs ≡ S.structure.ctor.fields
  pub left : Tree
  pub right : Tree
  pub left_type : HasType w a left
  pub right_type : HasType w (structure_value S xs) right
  pub same_type : IsDefEq w left right
  pub fields : ProjectionsEqual w S.structure.ind.name a 0 xs

pub by_fields : {w : Book} {S : StructureAt w} {xs : List Tree} {a A B : Tree} → length xs ≡ S.structure.ctor.fields → HasType w a A → HasType w (structure_value S xs) B → IsDefEq w A B → ProjectionsEqual w S.structure.ind.name a 0 xs → IsByFields w S xs a
by_fields {A = A} {B = B} n ha hb q all = record { count = n; left = A; right = B; left_type = ha; right_type = hb; same_type = q; fields = all }

pub e_struct_left : {w : Book} (S : StructureAt w) (xs : List Tree) {a : Tree} → IsHeadNormal a → IsByFields w S xs a → IsDefEq w a (structure_value S xs)
e_struct_left {w = w} S xs {a = a} na h = record { shown = w.conversion.struct_left S xs a h.left h.right na h.count h.left_type.shown h.right_type.shown h.same_type.shown h.fields.shown }

pub e_struct_right : {w : Book} (S : StructureAt w) (xs : List Tree) {a : Tree} → IsHeadNormal a → IsByFields w S xs a → IsDefEq w (structure_value S xs) a
e_struct_right {w = w} S xs {a = a} na h = record { shown = w.conversion.struct_right S xs a h.left h.right na h.count h.left_type.shown h.right_type.shown h.same_type.shown h.fields.shown }

pub e_unit : {w : Book} (u : UnitLike w) (ls : List Level) (bs : List Tree) (a b A B : Tree) → IsHeadNormal a → IsHeadNormal b → length bs ≡ u.ind.parameters → HasType w a A → Reduces w A (apply (const u.name ls) bs) → HasType w b B → IsDefEq w A B → IsDefEq w a b
e_unit {w = w} u ls bs a b A B na nb n ha hT hb q = record { shown = w.conversion.unit u ls bs a b A B na nb n ha.shown hT.shown hb.shown q.shown }

pub e_proof : {w : Book} {a b A B : Tree} → IsHeadNormal a → IsHeadNormal b → HasType w a A → IsProposition w A → HasType w b B → IsDefEq w A B → IsDefEq w a b
e_proof {w = w} {a = a} {b = b} {A = A} {B = B} na nb ha p hb q = record { shown = w.conversion.proof a b A B p.level na nb ha.shown (sorts p.sorted) p.is_zero hb.shown q.shown }

pub e_zero_left : {w : Book} → IsDefEq w (lit 0) (named nat_zero)
e_zero_left {w = w} = record { shown = w.conversion.zero_left }

pub e_zero_right : {w : Book} → IsDefEq w (named nat_zero) (lit 0)
e_zero_right {w = w} = record { shown = w.conversion.zero_right }

pub e_succ_left : {w : Book} {n : ℕ} {x : Tree} → IsWellFormed (lit (suc n)) → IsDefEq w (lit n) x → IsDefEq w (lit (suc n)) (app (named nat_succ) x)
e_succ_left {w = w} {n = n} {x = x} f h = record { shown = w.conversion.succ_left n x f h.shown }

pub e_succ_right : {w : Book} {n : ℕ} {x : Tree} → IsWellFormed (lit (suc n)) → IsDefEq w x (lit n) → IsDefEq w (app (named nat_succ) x) (lit (suc n))
e_succ_right {w = w} {n = n} {x = x} f h = record { shown = w.conversion.succ_right n x f h.shown }

pub e_str_left : {w : Book} {s : List ℕ} {b : Tree} → Expands w s → IsDefEq w (expansion (chars s)) b → IsDefEq w (str s) b
e_str_left {w = w} {s = s} {b = b} x h = record { shown = w.conversion.str_left s b x.rule x.tested h.shown }

pub e_str_right : {w : Book} {s : List ℕ} {a : Tree} → Expands w s → IsDefEq w a (expansion (chars s)) → IsDefEq w a (str s)
e_str_right {w = w} {s = s} {a = a} x h = record { shown = w.conversion.str_right s a x.rule x.tested h.shown }

-- the trees of what holds are closed and well scoped
pub well_formed_of_type : {w : Book} {e T : Tree} → HasType w e T → IsWellFormed e × IsWellFormed T
well_formed_of_type {w = w} {e = e} {T = T} h = w.shaped (types e T) h.shown

pub well_formed_of_reduct : {w : Book} {a b : Tree} → Reduces w a b → IsWellFormed a × IsWellFormed b
well_formed_of_reduct {w = w} {a = a} {b = b} h = let s : IsShaped (reduces a b) = w.shaped (reduces a b) h.shown in (s.0, s.1)

pub well_formed_of_long : {w : Book} {o T A B : Tree} → HasType w o T → Reduces w T (pi A B) → IsWellFormed (lam A (app o (var 0)))
well_formed_of_long {o = o} h r = ((well_formed_of_reduct r).1.0, (fine_more 0 1 o (omega arith) (well_formed_of_type h).0, omega arith))

-- what the answer of a question says
abbrev pub IsJustified : Book → (q : Query) → AnswerTo q → Type 0
IsJustified w (core e) v = (Reduces w e v × LocalsWithin e v) × IsHeadNormal v
IsJustified w (whnf e) v = Reduces w e v × LocalsWithin e v
IsJustified w (infer e) v = HasType w e v × LocalsWithin e v
IsJustified w (same a b) equal = IfYes equal (IsDefEq w a b)

-- whatever true answers p gets, it asks only what may be asked, and what it is done with has the property
abbrev pub IsSound : {A : Type 0} → Book → Program A → (A → Type 0) → Type 0
IsSound w (done v) P = P v
IsSound w (refuse r) P = Unit {0}
IsSound w (ask q k) P = IsAskable q × ((v : AnswerTo q) → IsJustified w q v → IsSound w (k v) P)
IsSound w (look r c k) P = (e : Entry) → w.place.means c ≡ Some e → IsSound w (k e) P

abbrev pub IsSoundTable : Table → Type 1
IsSoundTable table = (w : Book) → WellStated w → (q : Query) → IsAskable q → IsSound w (table q) (IsJustified w q)

abbrev pub IsLevelTest : LevelTest → Type 1
IsLevelTest test = (w : Book) (l m : Level) → IsSound w (test l m) (λ equal. IfYes equal (SameLevel l m))
