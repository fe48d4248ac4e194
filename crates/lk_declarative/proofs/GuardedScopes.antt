-- What the guarded rules relate is closed and well scoped.
use Rattle.std.proofs.Common.{suc, ℕ, ◌<◌, map, arith}
use Rattle.std.specs.Prelude.{Bool, ◌^◌}
use Rattle.lk_tree.specs.Tree.{Tree, lit, local}
use Rattle.lk_tree.specs.WellFormed.{IsWellFormed}
use Rattle.lk_tree.proofs.Binding.{open_fine, fine_from_open, fine_more}
use Rattle.lk_tree.proofs.Spines.{fine_apply}
use Rattle.lk_rulebook.specs.Place.{Place}
use Rattle.lk_rulebook.specs.Names.{named, op_name}
use Rattle.lk_rulebook.specs.Rules.{Field}
use Rattle.lk_rulebook.proofs.Texts.{expansion_fine, result_fine}
use Rattle.lk_declarative.specs.Guarded.{GuardedType, typed_sort, typed_local, typed_const, typed_app, typed_lam, typed_pi, typed_let, typed_lit, typed_str, typed_proj, typed_conv, GuardedEquals, same_refl, same_sym, same_trans, same_sort, same_const, same_app, same_lam, same_pi, same_proj, same_beta, same_zeta, same_delta, same_iota, same_proj_ctor, same_lit_zero, same_lit_succ, same_quot_lift, same_quot_ind, same_op, same_str, same_eta, same_struct_eta, same_unit, same_struct_ext, same_proof, same_k, GuardedField, field_here, field_past}
use Rattle.lk_rulebook.proofs.Scopes.{expanded_fine}

smaller_literal : (n : ℕ) → suc n < 2 ^ 128 → n < 2 ^ 128
smaller_literal n h = omega arith

mutual
  pub well_formed_of_type : {p : Bool} {w : Place} {e A : Tree} → GuardedType p w e A → IsWellFormed e × IsWellFormed A
  well_formed_of_type typed_sort = (tt, tt)
  well_formed_of_type (typed_local f t) = (f, f.0)
  well_formed_of_type (typed_const g f) = (tt, f)
  well_formed_of_type (typed_app {a = a} {A = A} {B = B} f x) = (((well_formed_of_type f).0, (well_formed_of_type x).0), open_fine 0 a B (well_formed_of_type f).1.1 (well_formed_of_type x).0)
  well_formed_of_type (typed_lam {A = A} {b = b} {B = B} {k = k} fresh a f) =
      (((well_formed_of_type a).0, fine_from_open 0 (local k A) b (well_formed_of_type f).0), ((well_formed_of_type a).0, fine_from_open 0 (local k A) B (well_formed_of_type f).1))
  well_formed_of_type (typed_pi {A = A} {B = B} {k = k} fresh a f) = (((well_formed_of_type a).0, fine_from_open 0 (local k A) B (well_formed_of_type f).0), tt)
  well_formed_of_type (typed_let {v = v} {b = b} a x f) = (((well_formed_of_type a).0, (well_formed_of_type x).0, fine_from_open 0 v b (well_formed_of_type f).0), (well_formed_of_type f).1)
  well_formed_of_type (typed_lit h f) = (f, tt)
  well_formed_of_type (typed_str h) = (tt, tt)
  well_formed_of_type (typed_proj S e i s p f) = ((well_formed_of_type e).0, well_formed_of_field f)
  well_formed_of_type (typed_conv e c t) = ((well_formed_of_type e).0, (well_formed_of_equal c).1)

  pub well_formed_of_equal : {p : Bool} {w : Place} {a b : Tree} → GuardedEquals p w a b → IsWellFormed a × IsWellFormed b
  well_formed_of_equal (same_refl f) = (f, f)
  well_formed_of_equal (same_sym c) = ((well_formed_of_equal c).1, (well_formed_of_equal c).0)
  well_formed_of_equal (same_trans c d) = ((well_formed_of_equal c).0, (well_formed_of_equal d).1)
  well_formed_of_equal (same_sort h) = (tt, tt)
  well_formed_of_equal (same_const h) = (tt, tt)
  well_formed_of_equal (same_app c d) = (((well_formed_of_equal c).0, (well_formed_of_equal d).0), ((well_formed_of_equal c).1, (well_formed_of_equal d).1))
  well_formed_of_equal (same_lam {A = A} {b = b} {b' = b'} {k = k} fresh c d) =
      (((well_formed_of_equal c).0, fine_from_open 0 (local k A) b (well_formed_of_equal d).0), ((well_formed_of_equal c).1, fine_from_open 0 (local k A) b' (well_formed_of_equal d).1))
  well_formed_of_equal (same_pi {A = A} {B = b} {B' = b'} {k = k} fresh c d) =
      (((well_formed_of_equal c).0, fine_from_open 0 (local k A) b (well_formed_of_equal d).0), ((well_formed_of_equal c).1, fine_from_open 0 (local k A) b' (well_formed_of_equal d).1))
  well_formed_of_equal (same_proj g c) = well_formed_of_equal c
  well_formed_of_equal (same_beta {b = b} {a = a} f t) =
      (((well_formed_of_type f).0, (well_formed_of_type t).0), open_fine 0 a b (well_formed_of_type f).0.1 (well_formed_of_type t).0)
  well_formed_of_equal (same_zeta {v = v} {b = b} f) = (f, open_fine 0 v b f.2 f.1)
  well_formed_of_equal (same_delta g v f) = (tt, f)
  well_formed_of_equal (same_iota R c h f g) = ((R.fine, f), g)
  well_formed_of_equal (same_proj_ctor c t at f g) = (f, g)
  well_formed_of_equal same_lit_zero = (omega arith, tt)
  well_formed_of_equal (same_lit_succ {n = n} f) = (f, (tt, smaller_literal n f))
  well_formed_of_equal (same_quot_lift ls ks i j f) =
      let tail : _ = f.1.1.1.1.1 in
      (((((((tt, f.0), f.1.0), f.1.1.0), f.1.1.1.0), f.1.1.1.1.0), (((tt, tail.0), tail.1.0), tail.1.1.0)), (f.1.1.1.0, tail.1.1.0))
  well_formed_of_equal (same_quot_ind ls ks i j f) =
      let tail : _ = f.1.1.1.1 in
      ((((((tt, f.0), f.1.0), f.1.1.0), f.1.1.1.0), (((tt, tail.0), tail.1.0), tail.1.1.0)), (f.1.1.1.0, tail.1.1.0))
  well_formed_of_equal (same_op op ns r o d h f g) = (fine_apply (named (op_name op)) (map lit ns) tt f, result_fine g)
  well_formed_of_equal (same_str x) = (tt, expansion_fine x)
  well_formed_of_equal (same_eta {o = o} {A = A} h) =
      ((well_formed_of_type h).0, ((well_formed_of_type h).1.0, (fine_more 0 1 o (omega arith) (well_formed_of_type h).0, omega arith)))
  well_formed_of_equal (same_struct_eta S {m = m} h p) = ((well_formed_of_type h).0, expanded_fine S m (well_formed_of_type h).1 (well_formed_of_type h).0)
  well_formed_of_equal (same_unit i ls bs a b n ha hb) = ((well_formed_of_type ha).0, (well_formed_of_type hb).0)
  well_formed_of_equal (same_struct_ext S xs n ha hb p) = ((well_formed_of_type ha).0, (well_formed_of_type hb).0)
  well_formed_of_equal (same_proof a b p) = ((well_formed_of_type a).0, (well_formed_of_type b).0)
  well_formed_of_equal (same_k R k he hd) = ((R.fine, (well_formed_of_type he).0), (R.fine, (well_formed_of_type hd).0))

  pub well_formed_of_field : {p : Bool} {w : Place} {f : Field} {A : Tree} {j : ℕ} {r : Tree} → GuardedField p w f A j r → IsWellFormed A
  well_formed_of_field (field_here c h) = (well_formed_of_equal c).1.0
  well_formed_of_field (field_past c h f) = well_formed_of_field f
