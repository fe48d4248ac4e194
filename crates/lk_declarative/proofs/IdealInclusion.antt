-- The directed judgement derives what the ideal rules derive, where these are as expected.
use Rattle.std.proofs.Common.{ℕ, suc, ◌≡◌, ◌<◌, ◌≤◌, ◌+◌, max, inl, inr, List, [], ◌∷◌, ◌++◌, length, map, refl, arith}
use Rattle.std.specs.Prelude.{Bool, true, false, ◌^◌}
use Rattle.lk_tree.specs.Tree.{Name, Level, zero_level, Tree, var, sort, const, app, lam, pi, let_in, proj, lit, local}
use Rattle.lk_tree.specs.Bind.{opened, open_at, bound, has_var}
use Rattle.lk_tree.specs.Spine.{apply}
use Rattle.lk_tree.specs.WellFormed.{IsWellFormed, AllWellFormed}
use Rattle.lk_tree.proofs.Lists.{AnyLocal, local_of_apply, local_of_arg}
use Rattle.lk_tree.specs.Operations.{Op, succ, log2, add, sub, mul, div, modulo, gcd, beq, ble, land, lor, xor, shift_left, shift_right, pow, op_value}
use Rattle.lk_rulebook.specs.Place.{Place, Ctor}
use Rattle.lk_rulebook.specs.Names.{named, nat, nat_succ, op_name, quot_lift, quot_ind}
use Rattle.lk_rulebook.specs.Shapes.{HasNat}
use Rattle.lk_rulebook.specs.Structures.{StructureAt, structure_type, structure_value, projectable_type, ctor_app, RecApp, KMajor, k_type}
use Rattle.lk_rulebook.specs.Literals.{IsNumeral, of_lit, of_zero, IsOperation, IsResult, ReadsText, as_it_is, as_text, Reads, by_text, as_zero, as_succ}
use Rattle.lk_tree.proofs.Spines.{well_formed_of_apply}
use Rattle.lk_rulebook.specs.Rules.{HasType, t_sort, t_local, t_const, t_app, t_lam, t_pi, t_let, t_lit, t_str, t_proj, HasSort, has_sort, IsProposition, is_prop, Reduces, r_refl, r_trans, r_head, r_beta, r_zeta, r_delta, r_proj, r_major, r_iota, r_k, r_struct, r_quot_lift, r_quot_ind, r_op, IsDefEq, e_refl, e_reduce, e_sort, e_const, e_app, e_lam, e_pi, e_proj, e_eta_left, e_eta_right, e_struct_left, e_struct_right, e_unit, e_proof, e_zero_left, e_zero_right, e_succ_left, e_succ_right, e_str_left, e_str_right, ReduceToNumerals, no_more_numerals, numeral, IsNotProposition, not_prop, IsByFields, by_fields, ProjectionsEqual, no_more_fields, project, IsTypeAfterParameters, no_more, next, Field, IsInProp, IsFieldType, here, past}
use Rattle.lk_declarative.specs.Guarded.{IdealType, typed_sort, typed_local, typed_const, typed_app, typed_lam, typed_pi, typed_let, typed_lit, typed_str, typed_proj, typed_conv, IdealEquals, same_refl, same_sym, same_trans, same_sort, same_const, same_app, same_lam, same_pi, same_proj, same_beta, same_zeta, same_delta, same_iota, same_proj_ctor, same_lit_zero, same_lit_succ, same_quot_lift, same_quot_ind, same_op, same_str, same_eta, same_struct_eta, same_unit, same_struct_ext, same_proof, GuardedExpands, no_proposition_at, GuardedProjects, none_projects, next_projects, GuardedParameters, past_none, past_one, GuardedField, field_here, field_past}
use Rattle.lk_declarative.specs.Expected.{LawfulLocals, Fits, Expected}
use Rattle.lk_declarative.proofs.GuardedScopes.{well_formed_of_type}
use Rattle.lk_declarative.proofs.Operated.{result_number, no_result}
use Rattle.lk_declarative.proofs.IdealParts.{AppParts, LamParts, PiParts, LetParts, LitParts, ProjParts, parts, lawful, lawful_open, as_lambda, opened_agree, closed_stays, unused}

pub record Kept (w : Place) (a b A : Tree) : Type 0 where
  pub equal : IdealEquals w a b
  pub typed : IdealType w b A

smaller_literal : (n : ℕ) → suc n < 2 ^ 128 → n < 2 ^ 128
smaller_literal n h = omega arith

body_at : {w : Place} → Expected w → {A B a : Tree} (p : PiParts w A B) → IdealType w a A → IdealType w (opened B a) (sort p.level)
unfolding open_at
body_at h p t = h.bodies (as_lambda p) t

domain_bound : (A b : Tree) (k : ℕ) → bound (lam A b) ≤ k → bound A ≤ k
unfolding bound
domain_bound A b k i = omega arith

pi_domain_bound : (A B : Tree) (k : ℕ) → bound (pi A B) ≤ k → bound A ≤ k
unfolding bound
pi_domain_bound A B k i = omega arith

lawful_local : {w : Place} (k : ℕ) {A : Tree} {l : Level} → IdealType w A (sort l) → LawfulLocals w (local k A)
lawful_local k {l = l} t n X (inl e) = rw (e.1) (l, t)
lawful_local k t n X (inr m) = lawful t n X m

pi_of : {w : Place} → Expected w → {f a X : Tree} (p : AppParts w f a X) → PiParts w p.domain p.body
pi_of h p = parts (h.sorted p.function).1

-- an argument replaced by an equal one
at_argument : {w : Place} → Expected w → {f e m X : Tree} (p : AppParts w f e X) → IdealType w (app f e) X → IdealType w m p.domain → IdealEquals w e m → Kept w (app f e) (app f m) X
at_argument h p t tm q = record {
  equal = same_app (same_refl (well_formed_of_type p.function).0) q;
  typed = typed_conv (typed_app p.function tm) (same_trans (opened_agree (pi_of h p) tm p.argument (same_sym q)) p.result) (h.sorted t).1;
}

beta_kept : {w : Place} → Expected w → {A b a X : Tree} → IdealType w (app (lam A b) a) X → Kept w (app (lam A b) a) (opened b a) X
beta_kept {w = w} h {A = A} {b = b} {a = a} {X = X} t =
    let p : AppParts w (lam A b) a X = parts t in
    let q : LamParts w A b = parts p.function in
    let ta : IdealType w a A = typed_conv p.argument (h.domains (h.sorted p.function).1 (h.sorted q.typed).1 (h.one_type p.function q.typed)) q.domain_typed in
    record { equal = same_beta q.typed ta; typed = typed_conv (h.bodies q.typed ta) (h.one_type (typed_app q.typed ta) t) (h.sorted t).1 }

zeta_kept : {w : Place} → Expected w → {A v b X : Tree} → IsWellFormed (let_in A v b) → IdealType w (let_in A v b) X → Kept w (let_in A v b) (opened b v) X
zeta_kept {w = w} h {v = v} {b = b} {X = X} f t =
    let p : LetParts w v b X = parts t in
    record { equal = same_zeta f; typed = typed_conv p.body_typed p.result (h.sorted t).1 }

-- a text that expands keeps its types
text_kept : {w : Place} → Expected w → {v m X : Tree} → ReadsText w v m → IdealType w v X → Kept w v m X
text_kept h as_it_is t = record { equal = same_refl (well_formed_of_type t).0; typed = t }
text_kept h (as_text x) t = record { equal = same_str x; typed = typed_conv (h.texts x) (h.one_type (typed_str x.shape) t) (h.sorted t).1 }

-- what is read as a constructor keeps its types
read_kept : {w : Place} → Expected w → {v m X : Tree} → Reads w v m → IdealType w v X → Kept w v m X
unfolding open_at
read_kept h (by_text r) t = text_kept h r t
read_kept {w = w} h {X = X} as_zero t =
    let p : LitParts w X = parts t in
    record { equal = same_lit_zero; typed = typed_conv (h.numbers p.has_nat).0 p.result (h.sorted t).1 }
read_kept {w = w} h {X = X} (as_succ {n = n}) t =
    let p : LitParts w X = parts t in
    let f : IsWellFormed (lit (suc n)) = (well_formed_of_type t).0 in
    record {
      equal = same_lit_succ f;
      typed = typed_conv (typed_app {B = named nat} (h.numbers p.has_nat).1 (typed_lit p.has_nat (smaller_literal n f))) p.result (h.sorted t).1;
    }

-- a numeral and its literal
numeral_kept : {w : Place} → Expected w → HasNat w → {v X : Tree} {n : ℕ} → IsNumeral v n → IdealType w v X → Kept w v (lit n) X
numeral_kept h k of_lit t = record { equal = same_refl (well_formed_of_type t).0; typed = t }
numeral_kept h k of_zero t = record {
  equal = same_sym same_lit_zero;
  typed = typed_conv (typed_lit {n = 0} k (omega arith)) (h.one_type (h.numbers k).0 t) (h.sorted t).1;
}

-- under arguments
applied_kept : {w : Place} → Expected w → {f g : Tree} (es : List Tree) {X : Tree} → IdealType w (apply f es) X → ((Y : Tree) → IdealType w f Y → Kept w f g Y) → Kept w (apply f es) (apply g es) X
applied_kept h [] t k = k _ t
applied_kept {w = w} h {f = f} {g = g} (e ∷ es) t k = applied_kept h es t (λ Y u.
    let p : AppParts w f e Y = parts u in
    let q : Kept w f g (pi p.domain p.body) = k (pi p.domain p.body) p.function in
    record { equal = same_app q.equal (same_refl (well_formed_of_type p.argument).0); typed = typed_conv (typed_app q.typed p.argument) p.result (h.sorted u).1 })

successor_kept : {w : Place} → Expected w → HasNat w → (ns : List ℕ) (r : Tree) {X : Tree} → IsResult w (op_value succ ns) r →
    IdealType w (apply (named nat_succ) (map lit ns)) X → Kept w (apply (named nat_succ) (map lit ns)) r X
unfolding open_at
successor_kept h k [] r g t = absurd (no_result g refl)
successor_kept {w = w} h k (n ∷ []) r {X = X} g t =
    let i : (r ≡ lit (suc n)) × IsWellFormed (lit (suc n)) = result_number (suc n) g refl in
    let e : IdealEquals w (named nat) X = h.one_type (typed_app {B = named nat} (h.numbers k).1 (typed_lit k (smaller_literal n i.1))) t in
    rw (i.0) (record { equal = same_sym (same_lit_succ i.1); typed = typed_conv (typed_lit k i.1) e (h.sorted t).1 })
successor_kept h k (n ∷ m ∷ ns) r g t = absurd (no_result g refl)

-- an operation on literals
operation_kept : {w : Place} → Expected w → (op : Op) (ns : List ℕ) (r X : Tree) → IsOperation w op → HasNat w → AllWellFormed (map lit ns) → IsResult w (op_value op ns) r →
    IdealType w (apply (named (op_name op)) (map lit ns)) X → Kept w (apply (named (op_name op)) (map lit ns)) r X
operation_kept h succ ns r X o k f g t = successor_kept h k ns r g t
operation_kept h log2 ns r X o k f g t = record { equal = same_op log2 ns r o o.kind k f g; typed = h.computed log2 ns r X o o.kind k g t }
operation_kept h add ns r X o k f g t = record { equal = same_op add ns r o o.kind k f g; typed = h.computed add ns r X o o.kind k g t }
operation_kept h sub ns r X o k f g t = record { equal = same_op sub ns r o o.kind k f g; typed = h.computed sub ns r X o o.kind k g t }
operation_kept h mul ns r X o k f g t = record { equal = same_op mul ns r o o.kind k f g; typed = h.computed mul ns r X o o.kind k g t }
operation_kept h div ns r X o k f g t = record { equal = same_op div ns r o o.kind k f g; typed = h.computed div ns r X o o.kind k g t }
operation_kept h modulo ns r X o k f g t = record { equal = same_op modulo ns r o o.kind k f g; typed = h.computed modulo ns r X o o.kind k g t }
operation_kept h gcd ns r X o k f g t = record { equal = same_op gcd ns r o o.kind k f g; typed = h.computed gcd ns r X o o.kind k g t }
operation_kept h beq ns r X o k f g t = record { equal = same_op beq ns r o o.kind k f g; typed = h.computed beq ns r X o o.kind k g t }
operation_kept h ble ns r X o k f g t = record { equal = same_op ble ns r o o.kind k f g; typed = h.computed ble ns r X o o.kind k g t }
operation_kept h land ns r X o k f g t = record { equal = same_op land ns r o o.kind k f g; typed = h.computed land ns r X o o.kind k g t }
operation_kept h lor ns r X o k f g t = record { equal = same_op lor ns r o o.kind k f g; typed = h.computed lor ns r X o o.kind k g t }
operation_kept h xor ns r X o k f g t = record { equal = same_op xor ns r o o.kind k f g; typed = h.computed xor ns r X o o.kind k g t }
operation_kept h shift_left ns r X o k f g t = record { equal = same_op shift_left ns r o o.kind k f g; typed = h.computed shift_left ns r X o o.kind k g t }
operation_kept h shift_right ns r X o k f g t = record { equal = same_op shift_right ns r o o.kind k f g; typed = h.computed shift_right ns r X o o.kind k g t }
operation_kept h pow ns r X o k f g t = record { equal = same_op pow ns r o o.kind k f g; typed = h.computed pow ns r X o o.kind k g t }

any_first : (k : ℕ) (T : Tree) (xs ys : List Tree) → AnyLocal k T xs → AnyLocal k T (xs ++ ys)
any_first k T [] ys h = absurd h
any_first k T (x ∷ xs) ys (inl h) = inl h
any_first k T (x ∷ xs) ys (inr h) = inr (any_first k T xs ys h)

lawful_built : {w : Place} {R : RecApp w} (k : KMajor R) → LawfulLocals w (k_type k) → LawfulLocals w (ctor_app k.ctor)
lawful_built k f n X m = let c = k.ctor in elim (local_of_apply n X (const c.name c.levels) c.args m) [
  | inl z ↦ absurd z
  | inr y ↦ f n X (local_of_arg n X (const c.ind.name c.levels) (c.args ++ k.rest) (any_first n X c.args k.rest y))
]

abbrev pub AllTyped : Place → List Tree → Type 0
AllTyped w [] = Unit {0}
AllTyped w (x ∷ xs) = ((U : Tree) × IdealType w x U) × AllTyped w xs

typed_args : {w : Place} (f : Tree) (xs : List Tree) {X : Tree} → IdealType w (apply f xs) X → ((Y : Tree) × IdealType w f Y) × AllTyped w xs
typed_args f [] t = ((_, t), tt)
typed_args {w = w} f (x ∷ xs) t =
    let r : ((Y : Tree) × IdealType w (app f x) Y) × AllTyped w xs = typed_args (app f x) xs t in
    let p : AppParts w f x r.0.0 = parts r.0.1 in
    ((pi p.domain p.body, p.function), ((p.domain, p.argument), r.1))

all_typed_after : (w : Place) (ps xs : List Tree) → AllTyped w (ps ++ xs) → AllTyped w xs
all_typed_after w [] xs t = t
all_typed_after w (x ∷ ps) xs t = all_typed_after w ps xs t.1

eta_typed : {w : Place} {o A B : Tree} → IdealType w o (pi A B) → PiParts w A B → IdealType w (lam A (app o (var 0))) (pi A B)
unfolding open_at bound
eta_typed {w = w} {o = o} {A = A} {B = B} t p =
    let k : ℕ = max (bound o) p.number in
    let x : IdealType w (local k A) A = typed_local ((well_formed_of_type p.domain_typed).0, omega (arith, p.above)) p.domain_typed in
    typed_lam {k = k} (omega (arith, p.above), (omega (arith, p.above), tt)) p.domain_typed (rw (closed_stays 0 (local k A) o (well_formed_of_type t).0) (typed_app t x))

field_order : {w : Place} {f : Field} {A : Tree} {j : ℕ} {r : Tree} → IsFieldType w f A j r → j ≤ f.number
field_order (here c h) = omega arith
field_order (past {f = f} {j = j} c h d) = let g : suc j ≤ f.number = field_order d in omega arith

-- another field of the same structure
abbrev other_field : Field → ℕ → Field
other_field f n = record { structure = f.structure; subject = f.subject; sort = f.sort; number = n }

-- the rest of a telescope, where what is put in has the domain for a type or is not used
next_body : {w : Place} → Expected w → {A B : Tree} (p : PiParts w A B) (x : Tree) → (has_var 0 B ≡ true → IdealType w x A) → IdealType w (opened B x) (sort p.level)
next_body {w = w} h {A = A} {B = B} p x f = go (has_var 0 B) refl
  where
    go : (b : Bool) → has_var 0 B ≡ b → IdealType w (opened B x) (sort p.level)
    go true e = body_at h p (f e)
    go false e = rw (unused 0 x (local p.number A) B e) p.body_typed

-- the recursor at its arguments before the major premise
abbrev rec_app : {w : Place} → RecApp w → Tree
rec_app R = apply (const R.name R.levels) R.front

mutual
  pub ideal_type : {w : Place} → Expected w → {e A : Tree} → HasType w e A → LawfulLocals w e → IdealType w e A
  ideal_type h t_sort g = typed_sort
  ideal_type h (t_local {k = k} {T = T} f) g = typed_local f (g k T (inl (refl, refl))).1
  ideal_type h (t_const c f) g = typed_const c f
  ideal_type {w = w} h (t_app {f = f} {a = a} {F = F} {A = A} {B = B} {A' = A'} d r x q) g =
      let tf : IdealType w f F = ideal_type h d (λ k X m. g k X (inl m)) in
      let kf : Kept w F (pi A B) _ = kept h r (h.sorted tf).1 in
      let p : PiParts w A B = parts kf.typed in
      let tx : IdealType w a A' = ideal_type h x (λ k X m. g k X (inr m)) in
      typed_app (typed_conv tf kf.equal kf.typed) (typed_conv tx (equal h q (h.sorted tx).1 p.domain_typed) p.domain_typed)
  ideal_type {w = w} h (t_lam {A = A} {b = b} {l = l} {k = k} fresh a f) g =
      let ta : IdealType w A (sort l) = ideal_sort h a (λ n X m. g n X (inl m)) in
      typed_lam fresh ta (ideal_type h f (lawful_open b (local k A) (λ n X m. g n X (inr m)) (lawful_local k ta)))
  ideal_type {w = w} h (t_pi {A = A} {B = B} {u = u} {k = k} fresh a f) g =
      let ta : IdealType w A (sort u) = ideal_sort h a (λ n X m. g n X (inl m)) in
      typed_pi fresh ta (ideal_sort h f (lawful_open B (local k A) (λ n X m. g n X (inr m)) (lawful_local k ta)))
  ideal_type {w = w} h (t_let {A = A} {v = v} {b = b} {V = V} {l = l} a x q f) g =
      let ta : IdealType w A (sort l) = ideal_sort h a (λ n X m. g n X (inl m)) in
      let tx : IdealType w v V = ideal_type h x (λ n X m. g n X (inr (inl m))) in
      typed_let ta (typed_conv tx (equal h q (h.sorted tx).1 ta) ta) (ideal_type h f (lawful_open b v (λ n X m. g n X (inr (inr m))) (λ n X m. g n X (inr (inl m)))))
  ideal_type h (t_lit k f) g = typed_lit k f
  ideal_type h (t_str k) g = typed_str k
  ideal_type {w = w} h (t_proj S {e = e} {T₀ = U} {T = T} {l = l} d r i t p v) g =
      let te : IdealType w e U = ideal_type h d g in
      let ks : Kept w U (projectable_type S) _ = kept h r (h.sorted te).1 in
      let tj : IdealType w e (projectable_type S) = typed_conv te ks.equal ks.typed in
      let tl : IdealType w (projectable_type S) (sort l) = ideal_sort h t (lawful ks.typed) in
      let cs : _ = h.constructors S tl in
      let ps : _ = ideal_parameters h p cs.0.1 cs.1 in
      typed_proj S tj i tl ps.0 (ideal_field h S.ctor.fields T (λ j C lt x. typed_proj S tj lt tl ps.0 x) (λ j C x. x) ps.1.1 i v)

  pub ideal_sort : {w : Place} → Expected w → {A : Tree} {l : Level} → HasSort w A l → LawfulLocals w A → IdealType w A (sort l)
  ideal_sort {w = w} h (has_sort {A = A} {S = S} t r) g =
      let ta : IdealType w A S = ideal_type h t g in
      typed_conv ta (kept h r (h.sorted ta).1).equal typed_sort

  pub ideal_prop : {w : Place} → Expected w → {A : Tree} → IsProposition w A → LawfulLocals w A → IdealType w A (sort zero_level)
  ideal_prop h (is_prop s z) g = typed_conv (ideal_sort h s g) (same_sort z) typed_sort

  pub kept : {w : Place} → Expected w → {a b A : Tree} → Reduces w a b → IdealType w a A → Kept w a b A
  kept h (r_refl f) t = record { equal = same_refl f; typed = t }
  kept h (r_trans c d) t =
      let k : _ = kept h c t in
      let n : _ = kept h d k.typed in
      record { equal = same_trans k.equal n.equal; typed = n.typed }
  kept {w = w} h {A = X} (r_head {f = f} {a = a} c fa) t =
      let p : AppParts w f a X = parts t in
      let k : _ = kept h c p.function in
      record { equal = same_app k.equal (same_refl fa); typed = typed_conv (typed_app k.typed p.argument) p.result (h.sorted t).1 }
  kept h (r_beta f) t = beta_kept h t
  kept h (r_zeta f) t = zeta_kept h f t
  kept h (r_delta g v f) t = record { equal = same_delta g v f; typed = h.values g v t }
  kept {w = w} h {A = X} (r_proj c {i = i} {e = e} {m = m} r rd x f) t =
      let p : ProjParts w e = parts t in
      let d : Kept w e m p.type = kept h r p.typed in
      let k : Kept w m (ctor_app c) p.type = text_kept h rd d.typed in
      let q : IdealEquals w e (ctor_app c) = same_trans d.equal k.equal in
      let tm : IdealType w (proj c.ind.name i (ctor_app c)) X = h.replaced c.ind.name i e (ctor_app c) p.type X t p.typed q k.typed in
      record {
        equal = same_trans (same_proj (λ z. t) q) (same_proj_ctor c (λ z. tm) x (well_formed_of_type k.typed).0 f);
        typed = h.fields c x tm;
      }
  kept {w = w} h {A = X} (r_major R {e = e} r rd) t =
      let p : AppParts w (rec_app R) e X = parts t in
      let q : _ = kept h r p.argument in
      let m : _ = read_kept h rd q.typed in
      at_argument h p t m.typed (same_trans q.equal m.equal)
  kept h (r_iota R c i f g) t = record { equal = same_iota R c i f g; typed = h.results R c i t }
  kept {w = w} h {A = X} (r_k R k {e = e} {T₀ = U} {D = D} he hr hd q) t =
      let p : AppParts w (rec_app R) e X = parts t in
      let te : IdealType w e U = ideal_type h he (lawful p.argument) in
      let n : Kept w U (k_type k) _ = kept h hr (h.sorted te).1 in
      let ti : IdealType w e (k_type k) = typed_conv te n.equal n.typed in
      let td : IdealType w (ctor_app k.ctor) D = ideal_type h hd (lawful_built k (lawful n.typed)) in
      let tj : IdealType w (ctor_app k.ctor) (k_type k) = typed_conv td (same_sym (equal h q n.typed (h.sorted td).1)) n.typed in
      at_argument h p t (typed_conv tj (h.one_type ti p.argument) (pi_of h p).domain_typed) (same_proof ti tj (h.proofs R k n.typed))
  kept {w = w} h {A = X} (r_struct R S {m = m} {T₀ = U} o hm r np) t =
      let p : AppParts w (rec_app R) m X = parts t in
      let tm : IdealType w m U = ideal_type h hm (lawful p.argument) in
      let q : Kept w U (structure_type S) _ = kept h r (h.sorted tm).1 in
      let ti : IdealType w m (structure_type S) = typed_conv tm q.equal q.typed in
      let x : GuardedExpands true w S.structure.ctor (structure_type S) = ideal_expands h np (lawful q.typed) in
      at_argument h p t (typed_conv (h.written_out S ti x) (h.one_type ti p.argument) (pi_of h p).domain_typed) (same_struct_eta S ti x)
  kept {w = w} h {A = X} (r_quot_lift ls ks {A = A} {r = r} {B = B} {f = f} {h = g} {e = e} i j ff d) t =
      let p : AppParts w (apply (const quot_lift ls) (A ∷ r ∷ B ∷ f ∷ g ∷ [])) e X = parts t in
      let q : _ = kept h d p.argument in
      let m : _ = (well_formed_of_type q.typed).0 in
      let k : _ = at_argument h p t q.typed q.equal in
      record {
        equal = same_trans k.equal (same_quot_lift ls ks i j (ff.0, (ff.1.0, (ff.1.1.0, (ff.1.1.1.0, (ff.1.1.1.1.0, (m.0.0.1, (m.0.1, (m.1, tt)))))))));
        typed = h.lifted ls ks i j k.typed;
      }
  kept {w = w} h {A = X} (r_quot_ind ls ks {A = A} {r = r} {B = B} {h = g} {e = e} i j ff d) t =
      let p : AppParts w (apply (const quot_ind ls) (A ∷ r ∷ B ∷ g ∷ [])) e X = parts t in
      let q : _ = kept h d p.argument in
      let m : _ = (well_formed_of_type q.typed).0 in
      let k : _ = at_argument h p t q.typed q.equal in
      record {
        equal = same_trans k.equal (same_quot_ind ls ks i j (ff.0, (ff.1.0, (ff.1.1.0, (ff.1.1.1.0, (m.0.0.1, (m.0.1, (m.1, tt))))))));
        typed = h.induced ls ks i j k.typed;
      }
  kept {w = w} h {A = X} (r_op op es ns r o n l s g) t =
      let k : Kept w (apply (named (op_name op)) es) (apply (named (op_name op)) (map lit ns)) X = numerals_kept h n s (named (op_name op)) t in
      let u : Kept w (apply (named (op_name op)) (map lit ns)) r X = operation_kept h op ns r X o n (well_formed_of_apply (named (op_name op)) (map lit ns) (well_formed_of_type k.typed).0).1 g k.typed in
      record { equal = same_trans k.equal u.equal; typed = u.typed }

  numerals_kept : {w : Place} → Expected w → HasNat w → {es : List Tree} {ns : List ℕ} → ReduceToNumerals w es ns → (f : Tree) {X : Tree} → IdealType w (apply f es) X → Kept w (apply f es) (apply f (map lit ns)) X
  numerals_kept h n no_more_numerals f t = record { equal = same_refl (well_formed_of_type t).0; typed = t }
  numerals_kept {w = w} h n (numeral {e = e} {v = v} {n = m} {es = es} {ns = ns} r i s) f {X = X} t =
      let first : Kept w (apply (app f e) es) (apply (app f (lit m)) es) X = applied_kept h es t (λ Y u.
      let p : AppParts w f e Y = parts u in
      let q : Kept w e v p.domain = kept h r p.argument in
      let l : Kept w v (lit m) p.domain = numeral_kept h n i q.typed in
      at_argument h p u l.typed (same_trans q.equal l.equal)) in
      let rest : Kept w (apply (app f (lit m)) es) (apply (app f (lit m)) (map lit ns)) X = numerals_kept h n s (app f (lit m)) first.typed in
      record { equal = same_trans first.equal rest.equal; typed = rest.typed }

  pub ideal_expands : {w : Place} → Expected w → {ctor : Ctor} {T : Tree} → IsNotProposition w T → LawfulLocals w T → GuardedExpands true w ctor T
  ideal_expands h (not_prop s n) g = no_proposition_at (ideal_sort h s g) n

  pub equal : {w : Place} → Expected w → {a b A B : Tree} → IsDefEq w a b → IdealType w a A → IdealType w b B → IdealEquals w a b
  equal h (e_refl f) t u = same_refl f
  equal h (e_reduce r s c) t u =
      let k : _ = kept h r t in
      let n : _ = kept h s u in
      same_trans k.equal (same_trans (equal h c k.typed n.typed) (same_sym n.equal))
  equal h (e_sort x) t u = same_sort x
  equal h (e_const x) t u = same_const x
  equal {w = w} h {A = X} {B = Y} (e_app {f = f} {g = g} {a = a} {b = b} n o c d) t u =
      let p : AppParts w f a X = parts t in
      let q : AppParts w g b Y = parts u in
      same_app (equal h c p.function q.function) (equal h d p.argument q.argument)
  equal {w = w} h (e_lam {A = A} {A' = A'} {b = b} {b' = b'} {k = k} fresh c d) t u =
      let p : LamParts w A b = parts t in
      let q : LamParts w A' b' = parts u in
      let e : IdealEquals w A A' = equal h c p.domain_typed q.domain_typed in
      let x : IdealType w (local k A) A = typed_local ((well_formed_of_type p.domain_typed).0, domain_bound A b k fresh.0) p.domain_typed in
      same_lam fresh e (equal h d (h.bodies p.typed x) (h.bodies q.typed (typed_conv x e q.domain_typed)))
  equal {w = w} h (e_pi {A = A} {A' = A'} {B = b} {B' = b'} {k = k} fresh c d) t u =
      let p : PiParts w A b = parts t in
      let q : PiParts w A' b' = parts u in
      let e : IdealEquals w A A' = equal h c p.domain_typed q.domain_typed in
      let x : IdealType w (local k A) A = typed_local ((well_formed_of_type p.domain_typed).0, pi_domain_bound A b k fresh.0) p.domain_typed in
      same_pi fresh e (equal h d (body_at h p x) (body_at h q (typed_conv x e q.domain_typed)))
  equal {w = w} h (e_proj {s = s} {t = r} c) t u =
      let p : ProjParts w s = parts t in
      let q : ProjParts w r = parts u in
      same_proj (λ e. t) (equal h c p.typed q.typed)
  equal {w = w} h (e_eta_left {o = o} {T = T} {A = A} {B = B} v ht r c) t u =
      let to : IdealType w o T = ideal_type h ht (lawful t) in
      let k : Kept w T (pi A B) _ = kept h r (h.sorted to).1 in
      let ti : IdealType w o (pi A B) = typed_conv to k.equal k.typed in
      same_trans (same_eta ti) (equal h c (eta_typed ti (parts k.typed)) u)
  equal {w = w} h (e_eta_right {o = o} {T = T} {A = A} {B = B} v ht r c) t u =
      let to : IdealType w o T = ideal_type h ht (lawful u) in
      let k : Kept w T (pi A B) _ = kept h r (h.sorted to).1 in
      let ti : IdealType w o (pi A B) = typed_conv to k.equal k.typed in
      same_trans (equal h c t (eta_typed ti (parts k.typed))) (same_sym (same_eta ti))
  equal h (e_struct_left S xs v f) t u = by_fields_equal h S xs f (lawful t) (lawful u)
  equal h (e_struct_right S xs v f) t u = same_sym (by_fields_equal h S xs f (lawful u) (lawful t))
  equal {w = w} h (e_unit i ls bs a b A B o v n ha r hb q) t u =
      let ta : IdealType w a A = ideal_type h ha (lawful t) in
      let tb : IdealType w b B = ideal_type h hb (lawful u) in
      let sa : IdealType w A _ = (h.sorted ta).1 in
      let k : Kept w A (apply (const i.name ls) bs) _ = kept h r sa in
      let e : IdealEquals w A B = equal h q sa (h.sorted tb).1 in
      same_unit i ls bs a b n (typed_conv ta k.equal k.typed) (typed_conv tb (same_trans (same_sym e) k.equal) k.typed)
  equal {w = w} h (e_proof {a = a} {b = b} {A = A} {B = B} o v ha p hb q) t u =
      let ta : IdealType w a A = ideal_type h ha (lawful t) in
      let tp : IdealType w A (sort zero_level) = ideal_prop h p (lawful (h.sorted ta).1) in
      let tb : IdealType w b B = ideal_type h hb (lawful u) in
      same_proof ta (typed_conv tb (same_sym (equal h q tp (h.sorted tb).1)) tp) tp
  equal h e_zero_left t u = same_lit_zero
  equal h e_zero_right t u = same_sym same_lit_zero
  equal {w = w} h {A = X} {B = Y} (e_succ_left {n = n} {x = x} f c) t u =
      let p : LitParts w X = parts t in
      let q : AppParts w (named nat_succ) x Y = parts u in
      same_trans (same_lit_succ f) (same_app (same_refl tt) (equal h c (typed_lit p.has_nat (smaller_literal n f)) q.argument))
  equal {w = w} h {A = X} {B = Y} (e_succ_right {n = n} {x = x} f c) t u =
      let p : LitParts w Y = parts u in
      let q : AppParts w (named nat_succ) x X = parts t in
      same_trans (same_app (same_refl tt) (equal h c q.argument (typed_lit p.has_nat (smaller_literal n f)))) (same_sym (same_lit_succ f))
  equal h (e_str_left x c) t u = same_trans (same_str x) (equal h c (h.texts x) u)
  equal h (e_str_right x c) t u = same_trans (equal h c t (h.texts x)) (same_sym (same_str x))

  by_fields_equal : {w : Place} → Expected w → (S : StructureAt w) (xs : List Tree) {a : Tree} → IsByFields w S xs a →
      LawfulLocals w a → LawfulLocals w (structure_value S xs) → IdealEquals w a (structure_value S xs)
  by_fields_equal {w = w} h S xs (by_fields {a = a} {A = A} {B = B} n ha hb q p) f g =
      let ta : IdealType w a A = ideal_type h ha f in
      let tb : IdealType w (structure_value S xs) B = ideal_type h hb g in
      let sb : IdealType w B _ = (h.sorted tb).1 in
      let tc : IdealType w a B = typed_conv ta (equal h q (h.sorted ta).1 sb) sb in
      let ts : _ = typed_args (const S.structure.ctor_name S.levels) (S.params ++ xs) tb in
      elim (h.members S xs n tc tb) [
        | inl z ↦ same_proof tc tb z
        | inr x ↦ same_struct_ext S xs n tc tb (ideal_projects h p (λ j lt. x j (omega arith)) (all_typed_after w S.params xs ts.1))
      ]

  pub ideal_projects : {w : Place} → Expected w → {J : Name} {a : Tree} {j : ℕ} {xs : List Tree} → ProjectionsEqual w J a j xs →
      ((i : ℕ) → i < j + length xs → (U : Tree) × IdealType w (proj J i a) U) → AllTyped w xs → GuardedProjects true w J a j xs
  ideal_projects h no_more_fields f t = none_projects
  ideal_projects h (project {j = j} {xs = xs} c p) f t =
      next_projects (equal h c (f j (omega arith)).1 t.0.1) (ideal_projects h p (λ i lt. f i (omega arith)) t.1)

  pub ideal_parameters : {w : Place} → Expected w → {T : Tree} {n : ℕ} {bs : List Tree} {r : Tree} {m : Level} → IsTypeAfterParameters w T n bs r → IdealType w r (sort m) → Fits w n bs r →
      GuardedParameters true w T n bs r × ((l : Level) × IdealType w T (sort l))
  ideal_parameters h {m = m} no_more t f = (past_none, (m, t))
  ideal_parameters {w = w} h {m = m} (next {r = r} {A = A} {B = B} c d) t f =
      let k : Kept w r (pi A B) (sort m) = kept h c t in
      let p : PiParts w A B = parts k.typed in
      let x : _ = f A B m k.equal k.typed in
      let y : _ = ideal_parameters h d (body_at h p x.0) x.1 in
      (past_one k.equal y.0, y.1)

  -- R is where the fields begin
  pub ideal_field : {w : Place} → Expected w → {f : Field} {A : Tree} {j : ℕ} {r : Tree} {m : Level} (fields : ℕ) (R : Tree) →
      ((n : ℕ) (C : Tree) → n < fields → GuardedField true w (other_field f n) C 0 R → IdealType w (proj f.structure n f.subject) C) →
      ((n : ℕ) (C : Tree) → GuardedField true w (other_field f n) C j r → GuardedField true w (other_field f n) C 0 R) →
      IdealType w r (sort m) → f.number < fields → IsFieldType w f A j r → GuardedField true w f A j r
  ideal_field {w = w} h fields R typed back t lt (here c x) =
      let k : _ = kept h c t in
      let p : PiParts w _ _ = parts k.typed in
      field_here k.equal (λ z. ideal_prop h (x z) (lawful p.domain_typed))
  ideal_field {w = w} h {m = m} fields R typed back t lt (past {f = f} {j = j} {r = r} {D = D} {B = B} c x d) =
      let k : Kept w r (pi D B) (sort m) = kept h c t in
      let p : PiParts w D B = parts k.typed in
      let y : (IsInProp f → has_var 0 B ≡ true → IdealType w D (sort zero_level)) = λ z e. ideal_prop h (x z e) (lawful p.domain_typed) in
      let o : suc j ≤ f.number = field_order d in
      let s : Tree = proj f.structure j f.subject in
      let ts : (has_var 0 B ≡ true → IdealType w s D) = λ e. typed j D (omega arith) (back j D (field_here {f = other_field f j} k.equal (λ z. y z e))) in
      field_past k.equal y (ideal_field h fields R typed (λ n C v. back n C (field_past {f = other_field f n} k.equal y v)) (next_body h p s ts) lt d)
