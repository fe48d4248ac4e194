-- What the declarative rules relate is closed and well scoped.
use Rattle.std.proofs.Common.{suc, ℕ, ◌<◌, map, arith}
use Rattle.std.specs.Prelude.{◌^◌}
use Rattle.lk_tree.specs.Tree.{Tree, lit, local}
use Rattle.lk_tree.specs.WellFormed.{IsWellFormed}
use Rattle.lk_tree.proofs.Binding.{open_fine, fine_from_open, fine_more}
use Rattle.lk_tree.proofs.Spines.{fine_apply}
use Rattle.lk_rulebook.specs.Place.{Place}
use Rattle.lk_rulebook.proofs.Scopes.{expanded_fine}
use Rattle.lk_rulebook.specs.Names.{named, op_name}
use Rattle.lk_rulebook.specs.Rules.{Field}
use Rattle.lk_rulebook.proofs.Texts.{expansion_fine, result_fine}
use Rattle.lk_declarative.specs.Declared.{IsDeclared, type_sort, type_local, type_const, type_app, type_lam, type_pi, type_let, type_lit, type_str, type_proj, type_conv, Converts, conv_refl, conv_sym, conv_trans, conv_sort, conv_const, conv_app, conv_lam, conv_pi, conv_proj, conv_beta, conv_zeta, conv_delta, conv_iota, conv_proj_ctor, conv_lit_zero, conv_lit_succ, conv_quot_lift, conv_quot_ind, conv_op, conv_str, conv_eta, conv_struct_eta, conv_unit, conv_struct_ext, conv_proof, conv_k, FieldDomain, this_field, later_field}

smaller_literal : (n : ℕ) → suc n < 2 ^ 128 → n < 2 ^ 128
smaller_literal n h = omega arith

mutual
  pub well_formed_of_type : {w : Place} {e A : Tree} → IsDeclared w e A → IsWellFormed e × IsWellFormed A
  well_formed_of_type type_sort = (tt, tt)
  well_formed_of_type (type_local f) = (f, f.0)
  well_formed_of_type (type_const g f) = (tt, f)
  well_formed_of_type (type_app {a = a} {A = A} {B = B} f x) = (((well_formed_of_type f).0, (well_formed_of_type x).0), open_fine 0 a B (well_formed_of_type f).1.1 (well_formed_of_type x).0)
  well_formed_of_type (type_lam {A = A} {b = b} {B = B} {k = k} fresh a f) =
      (((well_formed_of_type a).0, fine_from_open 0 (local k A) b (well_formed_of_type f).0), ((well_formed_of_type a).0, fine_from_open 0 (local k A) B (well_formed_of_type f).1))
  well_formed_of_type (type_pi {A = A} {B = B} {k = k} fresh a f) = (((well_formed_of_type a).0, fine_from_open 0 (local k A) B (well_formed_of_type f).0), tt)
  well_formed_of_type (type_let {v = v} {b = b} a x f) = (((well_formed_of_type a).0, (well_formed_of_type x).0, fine_from_open 0 v b (well_formed_of_type f).0), (well_formed_of_type f).1)
  well_formed_of_type (type_lit h f) = (f, tt)
  well_formed_of_type (type_str h) = (tt, tt)
  well_formed_of_type (type_proj S e i s p f) = ((well_formed_of_type e).0, well_formed_of_field f)
  well_formed_of_type (type_conv e c) = ((well_formed_of_type e).0, (well_formed_of_conversion c).1)

  pub well_formed_of_conversion : {w : Place} {a b : Tree} → Converts w a b → IsWellFormed a × IsWellFormed b
  well_formed_of_conversion (conv_refl f) = (f, f)
  well_formed_of_conversion (conv_sym c) = ((well_formed_of_conversion c).1, (well_formed_of_conversion c).0)
  well_formed_of_conversion (conv_trans c d) = ((well_formed_of_conversion c).0, (well_formed_of_conversion d).1)
  well_formed_of_conversion (conv_sort h) = (tt, tt)
  well_formed_of_conversion (conv_const h) = (tt, tt)
  well_formed_of_conversion (conv_app c d) = (((well_formed_of_conversion c).0, (well_formed_of_conversion d).0), ((well_formed_of_conversion c).1, (well_formed_of_conversion d).1))
  well_formed_of_conversion (conv_lam {A = A} {b = b} {b' = b'} {k = k} fresh c d) =
      (((well_formed_of_conversion c).0, fine_from_open 0 (local k A) b (well_formed_of_conversion d).0), ((well_formed_of_conversion c).1, fine_from_open 0 (local k A) b' (well_formed_of_conversion d).1))
  well_formed_of_conversion (conv_pi {A = A} {B = b} {B' = b'} {k = k} fresh c d) =
      (((well_formed_of_conversion c).0, fine_from_open 0 (local k A) b (well_formed_of_conversion d).0), ((well_formed_of_conversion c).1, fine_from_open 0 (local k A) b' (well_formed_of_conversion d).1))
  well_formed_of_conversion (conv_proj c) = well_formed_of_conversion c
  well_formed_of_conversion (conv_beta {b = b} {a = a} f) = (f, open_fine 0 a b f.0.1 f.1)
  well_formed_of_conversion (conv_zeta {v = v} {b = b} f) = (f, open_fine 0 v b f.2 f.1)
  well_formed_of_conversion (conv_delta g v f) = (tt, f)
  well_formed_of_conversion (conv_iota R c h f g) = ((R.fine, f), g)
  well_formed_of_conversion (conv_proj_ctor c at f g) = (f, g)
  well_formed_of_conversion conv_lit_zero = (omega arith, tt)
  well_formed_of_conversion (conv_lit_succ {n = n} f) = (f, (tt, smaller_literal n f))
  well_formed_of_conversion (conv_quot_lift ls ks i j f) =
      let tail : _ = f.1.1.1.1.1 in
      (((((((tt, f.0), f.1.0), f.1.1.0), f.1.1.1.0), f.1.1.1.1.0), (((tt, tail.0), tail.1.0), tail.1.1.0)), (f.1.1.1.0, tail.1.1.0))
  well_formed_of_conversion (conv_quot_ind ls ks i j f) =
      let tail : _ = f.1.1.1.1 in
      ((((((tt, f.0), f.1.0), f.1.1.0), f.1.1.1.0), (((tt, tail.0), tail.1.0), tail.1.1.0)), (f.1.1.1.0, tail.1.1.0))
  well_formed_of_conversion (conv_op op ns r o d h f g) = (fine_apply (named (op_name op)) (map lit ns) tt f, result_fine g)
  well_formed_of_conversion (conv_str x) = (tt, expansion_fine x)
  well_formed_of_conversion (conv_eta {o = o} {A = A} h) =
      ((well_formed_of_type h).0, ((well_formed_of_type h).1.0, (fine_more 0 1 o (omega arith) (well_formed_of_type h).0, omega arith)))
  well_formed_of_conversion (conv_struct_eta S {m = m} h p) = ((well_formed_of_type h).0, expanded_fine S m (well_formed_of_type h).1 (well_formed_of_type h).0)
  well_formed_of_conversion (conv_unit i ls bs a b n ha hb) = ((well_formed_of_type ha).0, (well_formed_of_type hb).0)
  well_formed_of_conversion (conv_struct_ext S xs n ha hb p) = ((well_formed_of_type ha).0, (well_formed_of_type hb).0)
  well_formed_of_conversion (conv_proof a b p) = ((well_formed_of_type a).0, (well_formed_of_type b).0)
  well_formed_of_conversion (conv_k R k he hd) = ((R.fine, (well_formed_of_type he).0), (R.fine, (well_formed_of_type hd).0))

  pub well_formed_of_field : {w : Place} {f : Field} {A : Tree} {j : ℕ} {r : Tree} → FieldDomain w f A j r → IsWellFormed A
  well_formed_of_field (this_field c h) = (well_formed_of_conversion c).1.0
  well_formed_of_field (later_field c h f) = well_formed_of_field f
