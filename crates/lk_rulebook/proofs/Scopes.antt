-- What the rules relate is closed and well scoped.
use Rattle.std.proofs.Common.{zero, suc, ℕ, ◌++◌, List, arith}
use Rattle.lk_rulebook.specs.Names.{named, op_name}
use Rattle.lk_rulebook.proofs.Texts.{read_fine, result_fine}
use Rattle.lk_rulebook.specs.Structures.{StructureAt, structure_type, expanded, projections}
use Rattle.lk_tree.specs.Tree.{Name, Tree, var, app, lam, pi, const, local}
use Rattle.lk_tree.specs.WellFormed.{IsWellFormed, AllWellFormed}
use Rattle.lk_tree.proofs.Binding.{open_fine, fine_from_open, fine_more}
use Rattle.lk_tree.proofs.Spines.{fine_apply, well_formed_of_apply, all_fine_append}
use Rattle.lk_rulebook.specs.Place.{Place}
use Rattle.lk_rulebook.specs.Rules.{HasType, t_sort, t_local, t_const, t_app, t_lam, t_pi, t_let, t_lit, t_str, t_proj, HasSort, has_sort, Reduces, r_refl, r_trans, r_head, r_beta, r_zeta, r_delta, r_proj, r_major, r_iota, r_k, r_struct, r_quot_lift, r_quot_ind, r_op, IsDefEq, e_refl, e_reduce, e_sort, e_const, e_app, e_lam, e_pi, e_proj, e_eta_left, e_eta_right, e_struct_left, e_struct_right, e_unit, e_proof, e_zero_left, e_zero_right, e_succ_left, e_succ_right, e_str_left, e_str_right, ReduceToNumerals, no_more_numerals, numeral, by_fields, Field, IsFieldType, here, past}

projections_fine : (J : Name) (m : Tree) (j n : ℕ) → IsWellFormed m → AllWellFormed (projections J m j n)
projections_fine J m j zero f = tt
projections_fine J m j (suc n) f = (f, projections_fine J m (suc j) n f)

pub expanded_fine : {w : Place} (S : StructureAt w) (m : Tree) → IsWellFormed (structure_type S) → IsWellFormed m → IsWellFormed (expanded S m)
expanded_fine S m f g =
    let s = S.structure in
    fine_apply (const s.ctor_name S.levels) (S.params ++ projections s.ind.name m 0 s.ctor.fields) tt
    (all_fine_append S.params (projections s.ind.name m 0 s.ctor.fields) (well_formed_of_apply (const s.ind.name S.levels) S.params f).1 (projections_fine s.ind.name m 0 s.ctor.fields g))

mutual
  pub well_formed_of_type : {w : Place} {e A : Tree} → HasType w e A → IsWellFormed e × IsWellFormed A
  well_formed_of_type t_sort = (tt, tt)
  well_formed_of_type (t_local f) = (f, f.0)
  well_formed_of_type (t_const g f) = (tt, f)
  well_formed_of_type (t_app {a = a} {A = A} {B = B} f r x q) = (((well_formed_of_type f).0, (well_formed_of_type x).0), open_fine 0 a B (well_formed_of_reduct r).1.1 (well_formed_of_type x).0)
  well_formed_of_type (t_lam {A = A} {b = b} {B = B} {k = k} fresh a f) =
      ((well_formed_of_sort a, fine_from_open 0 (local k A) b (well_formed_of_type f).0), (well_formed_of_sort a, fine_from_open 0 (local k A) B (well_formed_of_type f).1))
  well_formed_of_type (t_pi {A = A} {B = B} {k = k} fresh a f) = ((well_formed_of_sort a, fine_from_open 0 (local k A) B (well_formed_of_sort f)), tt)
  well_formed_of_type (t_let {v = v} {b = b} a x q f) = ((well_formed_of_sort a, (well_formed_of_type x).0, fine_from_open 0 v b (well_formed_of_type f).0), (well_formed_of_type f).1)
  well_formed_of_type (t_lit h f) = (f, tt)
  well_formed_of_type (t_str h) = (tt, tt)
  well_formed_of_type (t_proj S e r i s p f) = ((well_formed_of_type e).0, well_formed_of_field f)

  pub well_formed_of_sort : {w : Place} {A : Tree} {l : _} → HasSort w A l → IsWellFormed A
  well_formed_of_sort (has_sort t r) = (well_formed_of_type t).0

  pub well_formed_of_reduct : {w : Place} {a b : Tree} → Reduces w a b → IsWellFormed a × IsWellFormed b
  well_formed_of_reduct (r_refl f) = (f, f)
  well_formed_of_reduct (r_trans c d) = ((well_formed_of_reduct c).0, (well_formed_of_reduct d).1)
  well_formed_of_reduct (r_head c f) = (((well_formed_of_reduct c).0, f), ((well_formed_of_reduct c).1, f))
  well_formed_of_reduct (r_beta {b = b} {a = a} f) = (f, open_fine 0 a b f.0.1 f.1)
  well_formed_of_reduct (r_zeta {v = v} {b = b} f) = (f, open_fine 0 v b f.2 f.1)
  well_formed_of_reduct (r_delta g v f) = (tt, f)
  well_formed_of_reduct (r_proj c r rd at f) = ((well_formed_of_reduct r).0, f)
  well_formed_of_reduct (r_major R r rd) = ((R.fine, (well_formed_of_reduct r).0), (R.fine, read_fine rd (well_formed_of_reduct r).1))
  well_formed_of_reduct (r_iota R c h f g) = ((R.fine, f), g)
  well_formed_of_reduct (r_k R k he hr hd q) = ((R.fine, (well_formed_of_type he).0), (R.fine, (well_formed_of_type hd).0))
  well_formed_of_reduct (r_struct R S {m = m} o h r p) = ((R.fine, (well_formed_of_type h).0), (R.fine, expanded_fine S m (well_formed_of_reduct r).1 (well_formed_of_type h).0))
  well_formed_of_reduct (r_quot_lift ls ks i j f r) =
      ((((((((tt, f.0), f.1.0), f.1.1.0), f.1.1.1.0), f.1.1.1.1.0), (well_formed_of_reduct r).0)), (f.1.1.1.0, (well_formed_of_reduct r).1.1))
  well_formed_of_reduct (r_quot_ind ls ks i j f r) =
      (((((((tt, f.0), f.1.0), f.1.1.0), f.1.1.1.0), (well_formed_of_reduct r).0)), (f.1.1.1.0, (well_formed_of_reduct r).1.1))
  well_formed_of_reduct (r_op op es ns r o h l s g) = (fine_apply (named (op_name op)) es tt (well_formed_of_numerals s), result_fine g)

  pub well_formed_of_equal : {w : Place} {a b : Tree} → IsDefEq w a b → IsWellFormed a × IsWellFormed b
  well_formed_of_equal (e_refl f) = (f, f)
  well_formed_of_equal (e_reduce r s c) = ((well_formed_of_reduct r).0, (well_formed_of_reduct s).0)
  well_formed_of_equal (e_sort h) = (tt, tt)
  well_formed_of_equal (e_const h) = (tt, tt)
  well_formed_of_equal (e_app u v c d) = (((well_formed_of_equal c).0, (well_formed_of_equal d).0), ((well_formed_of_equal c).1, (well_formed_of_equal d).1))
  well_formed_of_equal (e_lam {A = A} {b = b} {b' = b'} {k = k} fresh c d) =
      (((well_formed_of_equal c).0, fine_from_open 0 (local k A) b (well_formed_of_equal d).0), ((well_formed_of_equal c).1, fine_from_open 0 (local k A) b' (well_formed_of_equal d).1))
  well_formed_of_equal (e_pi {A = A} {B = b} {B' = b'} {k = k} fresh c d) =
      (((well_formed_of_equal c).0, fine_from_open 0 (local k A) b (well_formed_of_equal d).0), ((well_formed_of_equal c).1, fine_from_open 0 (local k A) b' (well_formed_of_equal d).1))
  well_formed_of_equal (e_proj c) = well_formed_of_equal c
  well_formed_of_equal (e_eta_left v h r c) = ((well_formed_of_type h).0, (well_formed_of_equal c).1)
  well_formed_of_equal (e_eta_right v h r c) = ((well_formed_of_equal c).0, (well_formed_of_type h).0)
  well_formed_of_equal (e_struct_left S xs v (by_fields n ha hb q p)) = ((well_formed_of_type ha).0, (well_formed_of_type hb).0)
  well_formed_of_equal (e_struct_right S xs v (by_fields n ha hb q p)) = ((well_formed_of_type hb).0, (well_formed_of_type ha).0)
  well_formed_of_equal (e_unit i ls bs a b A B u v n ha r hb q) = ((well_formed_of_type ha).0, (well_formed_of_type hb).0)
  well_formed_of_equal (e_proof u v a p b q) = ((well_formed_of_type a).0, (well_formed_of_type b).0)
  well_formed_of_equal e_zero_left = (omega arith, tt)
  well_formed_of_equal e_zero_right = (tt, omega arith)
  well_formed_of_equal (e_succ_left f c) = (f, (tt, (well_formed_of_equal c).1))
  well_formed_of_equal (e_succ_right f c) = ((tt, (well_formed_of_equal c).0), f)
  well_formed_of_equal (e_str_left x c) = (tt, (well_formed_of_equal c).1)
  well_formed_of_equal (e_str_right x c) = ((well_formed_of_equal c).0, tt)

  pub well_formed_of_numerals : {w : Place} {es : List Tree} {ns : List ℕ} → ReduceToNumerals w es ns → AllWellFormed es
  well_formed_of_numerals no_more_numerals = tt
  well_formed_of_numerals (numeral r i s) = ((well_formed_of_reduct r).0, well_formed_of_numerals s)

  pub well_formed_of_field : {w : Place} {f : Field} {A : Tree} {j : ℕ} {r : Tree} → IsFieldType w f A j r → IsWellFormed A
  well_formed_of_field (here c h) = (well_formed_of_reduct c).1.0
  well_formed_of_field (past c h f) = well_formed_of_field f

-- what an eta expansion is
pub well_formed_of_long : {w : Place} {o T A B : Tree} → HasType w o T → Reduces w T (pi A B) → IsWellFormed (lam A (app o (var 0)))
well_formed_of_long {o = o} h r = ((well_formed_of_reduct r).1.0, (fine_more 0 1 o (omega arith) (well_formed_of_type h).0, omega arith))
