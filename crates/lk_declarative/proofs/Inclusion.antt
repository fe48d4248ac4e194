-- Each rule of the directed judgement is a rule of the declarative one, or a short chain of its rules. That the
-- declarative conversion relates everything is not used here.
use Rattle.std.proofs.Common.{ℕ, ◌≡◌, suc, List, [], ◌∷◌, map, refl}
use Rattle.lk_tree.specs.Tree.{Name, Level, zero_level, Tree, sort, lit}
use Rattle.lk_tree.specs.WellFormed.{IsWellFormed, AllWellFormed}
use Rattle.lk_tree.specs.Spine.{apply}
use Rattle.lk_tree.specs.Operations.{Op, succ, log2, add, sub, mul, div, modulo, gcd, beq, ble, land, lor, xor, shift_left, shift_right, pow, op_value}
use Rattle.lk_rulebook.specs.Place.{Place, Ctor}
use Rattle.lk_rulebook.specs.Rules.{HasType, t_sort, t_local, t_const, t_app, t_lam, t_pi, t_let, t_lit, t_str, t_proj, HasSort, has_sort, IsProposition, is_prop, Reduces, r_refl, r_trans, r_head, r_beta, r_zeta, r_delta, r_proj, r_major, r_iota, r_k, r_struct, r_quot_lift, r_quot_ind, r_op, IsDefEq, e_refl, e_reduce, e_sort, e_const, e_app, e_lam, e_pi, e_proj, e_eta_left, e_eta_right, e_struct_left, e_struct_right, e_unit, e_proof, e_zero_left, e_zero_right, e_succ_left, e_succ_right, e_str_left, e_str_right, ReduceToNumerals, no_more_numerals, numeral, IsNotProposition, not_prop, by_fields, ProjectionsEqual, no_more_fields, project, IsTypeAfterParameters, no_more, next, Field, IsFieldType, here, past}
use Rattle.lk_rulebook.specs.Names.{named, nat_succ, op_name}
use Rattle.lk_rulebook.specs.Shapes.{HasNat}
use Rattle.lk_rulebook.specs.Literals.{IsNumeral, of_lit, of_zero, IsOperation, IsResult, ReadsText, as_it_is, as_text, Reads, by_text, as_zero, as_succ}
use Rattle.lk_tree.proofs.Spines.{well_formed_of_apply}
use Rattle.lk_declarative.specs.Declared.{IsDeclared, type_sort, type_local, type_const, type_app, type_lam, type_pi, type_let, type_lit, type_str, type_proj, type_conv, Converts, conv_refl, conv_sym, conv_trans, conv_sort, conv_const, conv_app, conv_lam, conv_pi, conv_proj, conv_beta, conv_zeta, conv_delta, conv_iota, conv_proj_ctor, conv_lit_zero, conv_lit_succ, conv_quot_lift, conv_quot_ind, conv_op, conv_str, conv_eta, conv_struct_eta, conv_unit, conv_struct_ext, conv_proof, conv_k, MayExpand, no_proposition, EachProjects, none_left, first_projects, AfterParameters, after_none, after_one, FieldDomain, this_field, later_field}
use Rattle.lk_declarative.proofs.Operated.{result_number, no_result}
use Rattle.lk_declarative.proofs.Scopes.{well_formed_of_conversion}

text_converts : {w : Place} {m m' : Tree} → ReadsText w m m' → IsWellFormed m → Converts w m m'
text_converts as_it_is f = conv_refl f
text_converts (as_text x) f = conv_str x

read_converts : {w : Place} {m m' : Tree} → Reads w m m' → IsWellFormed m → Converts w m m'
read_converts (by_text r) f = text_converts r f
read_converts as_zero f = conv_lit_zero
read_converts as_succ f = conv_lit_succ f

-- a numeral is its literal
numeral_converts : {w : Place} {v : Tree} {n : ℕ} → IsNumeral v n → IsWellFormed v → Converts w v (lit n)
numeral_converts of_lit f = conv_refl f
numeral_converts of_zero f = conv_sym conv_lit_zero

successor_converts : {w : Place} (ns : List ℕ) (r : Tree) → IsResult w (op_value succ ns) r → Converts w (apply (named nat_succ) (map lit ns)) r
successor_converts [] r g = absurd (no_result g refl)
successor_converts {w = w} (n ∷ []) r g =
    let i : (r ≡ lit (suc n)) × IsWellFormed (lit (suc n)) = result_number (suc n) g refl in
    rw (i.0) (conv_sym (conv_lit_succ i.1))
successor_converts (n ∷ m ∷ ns) r g = absurd (no_result g refl)

-- an operation on literals
operation_converts : {w : Place} (op : Op) (ns : List ℕ) (r : Tree) → IsOperation w op → HasNat w → AllWellFormed (map lit ns) → IsResult w (op_value op ns) r →
    Converts w (apply (named (op_name op)) (map lit ns)) r
operation_converts succ ns r o h f g = successor_converts ns r g
operation_converts log2 ns r o h f g = conv_op log2 ns r o o.kind h f g
operation_converts add ns r o h f g = conv_op add ns r o o.kind h f g
operation_converts sub ns r o h f g = conv_op sub ns r o o.kind h f g
operation_converts mul ns r o h f g = conv_op mul ns r o o.kind h f g
operation_converts div ns r o h f g = conv_op div ns r o o.kind h f g
operation_converts modulo ns r o h f g = conv_op modulo ns r o o.kind h f g
operation_converts gcd ns r o h f g = conv_op gcd ns r o o.kind h f g
operation_converts beq ns r o h f g = conv_op beq ns r o o.kind h f g
operation_converts ble ns r o h f g = conv_op ble ns r o o.kind h f g
operation_converts land ns r o h f g = conv_op land ns r o o.kind h f g
operation_converts lor ns r o h f g = conv_op lor ns r o o.kind h f g
operation_converts xor ns r o h f g = conv_op xor ns r o o.kind h f g
operation_converts shift_left ns r o h f g = conv_op shift_left ns r o o.kind h f g
operation_converts shift_right ns r o h f g = conv_op shift_right ns r o o.kind h f g
operation_converts pow ns r o h f g = conv_op pow ns r o o.kind h f g

mutual
  pub has_type : {w : Place} {e A : Tree} → HasType w e A → IsDeclared w e A
  has_type t_sort = type_sort
  has_type (t_local f) = type_local f
  has_type (t_const g f) = type_const g f
  has_type (t_app f r x q) = type_app (type_conv (has_type f) (converts r)) (type_conv (has_type x) (equal_converts q))
  has_type (t_lam fresh a f) = type_lam fresh (sort_has_type a) (has_type f)
  has_type (t_pi fresh a f) = type_pi fresh (sort_has_type a) (sort_has_type f)
  has_type (t_let a x q f) = type_let (sort_has_type a) (type_conv (has_type x) (equal_converts q)) (has_type f)
  has_type (t_lit h f) = type_lit h f
  has_type (t_str h) = type_str h
  has_type (t_proj S e r i s p f) = type_proj S (type_conv (has_type e) (converts r)) i (sort_has_type s) (after_parameters p) (field_domain f)

  pub sort_has_type : {w : Place} {A : Tree} {l : Level} → HasSort w A l → IsDeclared w A (sort l)
  sort_has_type (has_sort t r) = type_conv (has_type t) (converts r)

  pub is_proposition : {w : Place} {A : Tree} → IsProposition w A → IsDeclared w A (sort zero_level)
  is_proposition (is_prop s z) = type_conv (sort_has_type s) (conv_sort z)

  pub converts : {w : Place} {a b : Tree} → Reduces w a b → Converts w a b
  converts (r_refl f) = conv_refl f
  converts (r_trans c d) = conv_trans (converts c) (converts d)
  converts (r_head c f) = conv_app (converts c) (conv_refl f)
  converts (r_beta f) = conv_beta f
  converts (r_zeta f) = conv_zeta f
  converts (r_delta g v f) = conv_delta g v f
  converts (r_proj c r rd at f) =
      let q : _ = conv_trans (converts r) (text_converts rd (well_formed_of_conversion (converts r)).1) in
      conv_trans (conv_proj q) (conv_proj_ctor c at (well_formed_of_conversion q).1 f)
  converts (r_major R r rd) = conv_app (conv_refl R.fine) (conv_trans (converts r) (read_converts rd (well_formed_of_conversion (converts r)).1))
  converts (r_iota R c h f g) = conv_iota R c h f g
  converts (r_k R k he hr hd q) = conv_k R k (type_conv (has_type he) (converts hr)) (type_conv (has_type hd) (conv_sym (equal_converts q)))
  converts (r_struct R S o h r p) = conv_app (conv_refl R.fine) (conv_struct_eta S (type_conv (has_type h) (converts r)) (may_expand p))
  converts (r_quot_lift ls ks i j f r) =
      let q : _ = converts r in
      let m : _ = (well_formed_of_conversion q).1 in
      conv_trans (conv_app (conv_refl (((((tt, f.0), f.1.0), f.1.1.0), f.1.1.1.0), f.1.1.1.1.0)) q)
      (conv_quot_lift ls ks i j (f.0, (f.1.0, (f.1.1.0, (f.1.1.1.0, (f.1.1.1.1.0, (m.0.0.1, (m.0.1, (m.1, tt)))))))))
  converts (r_quot_ind ls ks i j f r) =
      let q : _ = converts r in
      let m : _ = (well_formed_of_conversion q).1 in
      conv_trans (conv_app (conv_refl ((((tt, f.0), f.1.0), f.1.1.0), f.1.1.1.0)) q)
      (conv_quot_ind ls ks i j (f.0, (f.1.0, (f.1.1.0, (f.1.1.1.0, (m.0.0.1, (m.0.1, (m.1, tt))))))))
  converts (r_op op es ns r o h l s g) =
      let q : _ = numerals_convert s (conv_refl {a = named (op_name op)} tt) in
      conv_trans q (operation_converts op ns r o h (well_formed_of_apply (named (op_name op)) (map lit ns) (well_formed_of_conversion q).1).1 g)

  numerals_convert : {w : Place} {es : List Tree} {ns : List ℕ} → ReduceToNumerals w es ns → {f g : Tree} → Converts w f g → Converts w (apply f es) (apply g (map lit ns))
  numerals_convert no_more_numerals c = c
  numerals_convert (numeral r i s) c = numerals_convert s (conv_app c (conv_trans (converts r) (numeral_converts i (well_formed_of_conversion (converts r)).1)))

  pub equal_converts : {w : Place} {a b : Tree} → IsDefEq w a b → Converts w a b
  equal_converts (e_refl f) = conv_refl f
  equal_converts (e_reduce r s c) = conv_trans (converts r) (conv_trans (equal_converts c) (conv_sym (converts s)))
  equal_converts (e_sort h) = conv_sort h
  equal_converts (e_const h) = conv_const h
  equal_converts (e_app u v c d) = conv_app (equal_converts c) (equal_converts d)
  equal_converts (e_lam fresh c d) = conv_lam fresh (equal_converts c) (equal_converts d)
  equal_converts (e_pi fresh c d) = conv_pi fresh (equal_converts c) (equal_converts d)
  equal_converts (e_proj c) = conv_proj (equal_converts c)
  equal_converts (e_eta_left v h r c) = conv_trans (conv_eta (type_conv (has_type h) (converts r))) (equal_converts c)
  equal_converts (e_eta_right v h r c) = conv_trans (equal_converts c) (conv_sym (conv_eta (type_conv (has_type h) (converts r))))
  equal_converts (e_struct_left S xs v (by_fields n ha hb q p)) =
      conv_struct_ext S xs n (type_conv (has_type ha) (equal_converts q)) (has_type hb) (each_projects p)
  equal_converts (e_struct_right S xs v (by_fields n ha hb q p)) =
      conv_sym (conv_struct_ext S xs n (type_conv (has_type ha) (equal_converts q)) (has_type hb) (each_projects p))
  equal_converts (e_unit i ls bs a b A B u v n ha r hb q) =
      conv_unit i ls bs a b n (type_conv (has_type ha) (converts r)) (type_conv (has_type hb) (conv_trans (conv_sym (equal_converts q)) (converts r)))
  equal_converts (e_proof u v a p b q) = conv_proof (has_type a) (type_conv (has_type b) (conv_sym (equal_converts q))) (is_proposition p)
  equal_converts e_zero_left = conv_lit_zero
  equal_converts e_zero_right = conv_sym conv_lit_zero
  equal_converts (e_succ_left f c) = conv_trans (conv_lit_succ f) (conv_app (conv_refl tt) (equal_converts c))
  equal_converts (e_succ_right f c) = conv_trans (conv_app (conv_refl tt) (equal_converts c)) (conv_sym (conv_lit_succ f))
  equal_converts (e_str_left x c) = conv_trans (conv_str x) (equal_converts c)
  equal_converts (e_str_right x c) = conv_trans (equal_converts c) (conv_sym (conv_str x))

  pub may_expand : {w : Place} {ctor : Ctor} {T : Tree} → IsNotProposition w T → MayExpand w ctor T
  may_expand (not_prop s n) = no_proposition (sort_has_type s) n

  pub each_projects : {w : Place} {J : Name} {a : Tree} {j : ℕ} {xs : List Tree} → ProjectionsEqual w J a j xs → EachProjects w J a j xs
  each_projects no_more_fields = none_left
  each_projects (project c p) = first_projects (equal_converts c) (each_projects p)

  pub after_parameters : {w : Place} {T : Tree} {n : ℕ} {bs : List Tree} {r : Tree} → IsTypeAfterParameters w T n bs r → AfterParameters w T n bs r
  after_parameters no_more = after_none
  after_parameters (next c p) = after_one (converts c) (after_parameters p)

  pub field_domain : {w : Place} {f : Field} {A : Tree} {j : ℕ} {r : Tree} → IsFieldType w f A j r → FieldDomain w f A j r
  field_domain (here c h) = this_field (converts c) (λ z. is_proposition (h z))
  field_domain (past c h f) = later_field (converts c) (λ z v. is_proposition (h z v)) (field_domain f)
