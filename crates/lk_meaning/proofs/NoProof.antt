-- No data type equals (P : Prop) -> P, so no tree with a rigid head, no literal, no Sort and no Pi is a proof of it.
use Rattle.std.proofs.Common.{ℕ, ◌≡◌, ◌++◌, refl, subst}
use Rattle.lk_tree.specs.Tree.{Name, Level, zero_level, Tree, var, sort, const, app, lam, pi, let_in, proj, lit, wide, str, local}
use Rattle.lk_tree.specs.Bind.{open_at, opened}
use Rattle.lk_rulebook.specs.Place.{Place}
use Rattle.lk_rulebook.specs.Formers.{IsFormer, SamePi}
use Rattle.lk_rulebook.proofs.Sorts.{former_stays, former_typed, sort_is_no_prop, same_former}
use Rattle.lk_rulebook.specs.Rules.{HasType, IsDefEq, e_refl, e_reduce, e_sort, e_const, e_app, e_lam, e_pi, e_proj, e_eta_left, e_eta_right, e_struct_left, e_struct_right, e_unit, e_proof, e_zero_left, e_zero_right, e_succ_left, e_succ_right, e_str_left, e_str_right}
use Rattle.lk_meaning.specs.Falsehood.{falsehood}
use Rattle.lk_meaning.specs.Rigid.{Heads, HeadsLocal, EndsInType, IsDataName, IsDataType, IsRigid}
use Rattle.lk_meaning.specs.Families.{IsArity}
use Rattle.lk_meaning.proofs.Rigid.{applied_heads, heads_typed, data_open, former_no_pi, former_no_constant, applied_former, former_second}
use Rattle.lk_meaning.proofs.Families.{family_rigid}
use Rattle.lk_meaning.proofs.Locals.{local_head, local_stays, rigid_not_local}

former_not_local : {w : Place} (k : ℕ) (T : Tree) {a b : Tree} → IsDefEq w a b → IsFormer a → HeadsLocal k T b → ⊥
former_not_local k T (e_refl {a = a} x) f h = go a f h
  where
    go : (a : Tree) → IsFormer a → HeadsLocal k T a → ⊥
    go (sort l) f h = h
    go (pi A B) f h = h
    go _ f h = absurd f
former_not_local k T (e_reduce p q e) f h = former_not_local k T e (subst IsFormer (former_stays p f) f) (local_stays k T q h)
former_not_local k T (e_eta_left v i r e) f h = former_no_pi i r f
former_not_local k T (e_eta_right v i r e) f h = former_not_local k T e f h
former_not_local k T (e_struct_left i xs v q) f h = absurd (local_head k T (const i.structure.ctor_name i.levels) (i.params ++ xs) h)
former_not_local k T (e_struct_right i xs v q) f h = absurd (applied_former (const i.structure.ctor_name i.levels) (i.params ++ xs) f)
former_not_local k T (e_unit i ls bs a b A B u v n ha r hb q) f h = former_no_constant i.name ls bs ha r f
former_not_local k T (e_proof u v ha p hb q) f h = sort_is_no_prop p (former_typed ha f).0 (former_typed ha f).1
former_not_local k T (e_sort x) f h = absurd h
former_not_local k T (e_pi fresh e g) f h = absurd h
former_not_local k T (e_const x) f h = absurd f
former_not_local k T (e_app u v e g) f h = absurd f
former_not_local k T (e_lam fresh e g) f h = absurd f
former_not_local k T (e_proj e) f h = absurd f
former_not_local k T e_zero_left f h = absurd f
former_not_local k T e_zero_right f h = absurd f
former_not_local k T (e_succ_left x e) f h = absurd f
former_not_local k T (e_succ_right x e) f h = absurd f
former_not_local k T (e_str_left x e) f h = absurd f
former_not_local k T (e_str_right x e) f h = absurd h

ends_arity : (T : Tree) → EndsInType T → IsArity T
ends_arity (pi A B) h = ends_arity B h
ends_arity (sort l) h = tt
ends_arity (var i) h = absurd h
ends_arity (const k ms) h = absurd h
ends_arity (app f a) h = absurd h
ends_arity (lam A b) h = absurd h
ends_arity (let_in A v b) h = absurd h
ends_arity (proj S i s) h = absurd h
ends_arity (lit n) h = absurd h
ends_arity wide h = absurd h
ends_arity (str s) h = absurd h
ends_arity (local k T) h = absurd h

data_rigid : (w : Place) (J : Name) → IsDataName w J → IsRigid w J
data_rigid w J d = family_rigid w J (record { entry = d.entry; block = d.block; own = d.own; given = d.given; kind = d.kind; arity = ends_arity d.entry.type d.above_prop })

data_not_local : (w : Place) (T : Tree) (k : ℕ) (U b : Tree) → IsDataType w T → IsDefEq w T b → HeadsLocal k U b → ⊥
data_not_local w (pi A B) k U b d e h = former_not_local k U e tt h
data_not_local w (sort l) k U b d e h = former_not_local k U e tt h
data_not_local w (app f a) k U b d e h = rigid_not_local k U (data_rigid w d.0 d.1) e (applied_heads d.0 (app f a) d.2) h
data_not_local w (const c ls) k U b d e h = rigid_not_local k U (data_rigid w d.0 d.1) e d.2 h
data_not_local w (var i) k U b d e h = absurd d
data_not_local w (lam A c) k U b d e h = absurd d
data_not_local w (let_in A v c) k U b d e h = absurd d
data_not_local w (proj S i s) k U b d e h = absurd d
data_not_local w (lit z) k U b d e h = absurd d
data_not_local w wide k U b d e h = absurd d
data_not_local w (str s) k U b d e h = absurd d
data_not_local w (local j T) k U b d e h = absurd d

false_body : (w : Place) (A B : Tree) → IsDataType w B → SamePi w A B (sort zero_level) (var 0) → ⊥
unfolding open_at
false_body w A B d s = data_not_local w (opened B (local s.number A)) s.number A (opened (var 0) (local s.number A)) (data_open w 0 (local s.number A) B d) s.bodies (refl, refl)

pub data_not_false : (w : Place) (T : Tree) → IsDataType w T → IsDefEq w T falsehood → ⊥
data_not_false w (pi A B) d e = false_body w A B d (same_former e tt tt)
data_not_false w (sort l) d e = same_former e tt tt
data_not_false w (app f a) d e = former_second (data_rigid w d.0 d.1) e (applied_heads d.0 (app f a) d.2) tt
data_not_false w (const c ls) d e = former_second (data_rigid w d.0 d.1) e d.2 tt
data_not_false w (var i) d e = absurd d
data_not_false w (lam A b) d e = absurd d
data_not_false w (let_in A v b) d e = absurd d
data_not_false w (proj S i s) d e = absurd d
data_not_false w (lit z) d e = absurd d
data_not_false w wide d e = absurd d
data_not_false w (str s) d e = absurd d
data_not_false w (local k T) d e = absurd d

pub rigid_no_proof : (w : Place) (c : Name) (e A : Tree) → IsRigid w c → Heads c e → HasType w e A → IsDefEq w A falsehood → ⊥
rigid_no_proof w c e A s h t q = data_not_false w A (heads_typed s t h) q

former_no_proof_of : (w : Place) (e A : Tree) (l : Level) → A ≡ sort l → IsDefEq w A falsehood → ⊥
former_no_proof_of w e A l i q = same_former (subst (λ T. IsDefEq w T falsehood) i q) tt tt

pub former_no_proof : (w : Place) (e A : Tree) → IsFormer e → HasType w e A → IsDefEq w A falsehood → ⊥
former_no_proof w e A f t q = former_no_proof_of w e A (former_typed t f).0 (former_typed t f).1 q
