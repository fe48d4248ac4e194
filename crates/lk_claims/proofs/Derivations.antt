-- Derivations follow the rules, where the laws of operations hold.
use Rattle.std.proofs.Common.{ℕ, suc, ◌≡◌, ◌+◌, ◌⊎◌, inl, inr, Bool, true, false, ◌&&◌, List, [], ◌∷◌, refl, subst, arith}
use Rattle.lk_tree.specs.Tree.{Name, Level, zero_level, Tree}
use Rattle.lk_tree.specs.Bind.{has_var}
use Rattle.lk_tree.specs.Level.{SameLevel, is_zero_level}
use Rattle.lk_tree.proofs.Zero.{zero_level_same, not_zero_level}
use Rattle.lk_rulebook.specs.Place.{Place}
use Rattle.lk_rulebook.specs.Lawful.{IsLawfulPlace}
use Rattle.lk_rulebook.specs.Rules.{t_sort, t_local, t_const, t_app, t_lam, t_pi, t_let, t_lit, t_str, t_proj, has_sort, IsProposition, is_prop, r_refl, r_trans, r_head, r_beta, r_zeta, r_delta, r_proj, r_major, r_iota, r_k, r_struct, r_quot_lift, r_quot_ind, r_op, e_refl, e_reduce, e_sort, e_const, e_app, e_lam, e_pi, e_proj, e_eta_left, e_eta_right, e_struct_left, e_struct_right, e_unit, e_proof, e_zero_left, e_zero_right, e_succ_left, e_succ_right, e_str_left, e_str_right, ReduceToNumerals, no_more_numerals, numeral, not_prop, by_fields, ProjectionsEqual, no_more_fields, project, IsTypeAfterParameters, no_more, next, field_at, IsFieldType, here, past}
use Rattle.lk_rulebook.proofs.Sorts.{former_stays}
use Rattle.lk_rulebook.proofs.Scopes.{well_formed_of_type, well_formed_of_reduct, well_formed_of_equal}
use Rattle.lk_rulebook.specs.Claims.{Claim, types, reduces, equals, Derived, IsShaped}
use Rattle.lk_claims.specs.Follows.{EachField, PropWhere, not_due, due, EachParameter, no_parameter, parameter, FieldAt, this_field, field_before, EachNumeral, no_numeral, a_numeral, FollowsTypes, FollowsReductions, FollowsEqualities}
use Rattle.lk_claims.proofs.Facts.{level_right, levels_right}
use Rattle.lk_claims.proofs.Numerals.{numeral_right}

pub derived_shaped : (w : Place) (c : Claim) → Derived w c → IsShaped c
derived_shaped w (types e T) h = well_formed_of_type h
derived_shaped w (reduces a b) h = ((well_formed_of_reduct h).0, (well_formed_of_reduct h).1, λ f. former_stays h f)
derived_shaped w (equals a b) h = well_formed_of_equal h

true_or_not : (b : Bool) → (b ≡ true) ⊎ (b ≡ false)
true_or_not true = inl refl
true_or_not false = inr refl

zero_then : (l : Level) → SameLevel l zero_level → is_zero_level l ≡ true
zero_then l h = elim (true_or_not (is_zero_level l)) [ inl e ↦ e | inr e ↦ absurd (not_zero_level l e h) ]

both : (a b : Bool) → a ≡ true → b ≡ true → (a && b) ≡ true
both true b x y = y
both false b x y = absurd cc

numerals_derived : (w : Place) {es : List Tree} {ns : List ℕ} → EachNumeral (Derived w) es ns → ReduceToNumerals w es ns
numerals_derived w no_numeral = no_more_numerals
numerals_derived w (a_numeral {v = v} {n = n} h e k) = numeral h (numeral_right v n e) (numerals_derived w k)

fields_derived : (w : Place) (J : Name) (a : Tree) (j : ℕ) (xs : List Tree) → EachField (Derived w) J a j xs → ProjectionsEqual w J a j xs
fields_derived w J a j [] h = no_more_fields
fields_derived w J a j (x ∷ xs) h = project h.0 (fields_derived w J a (suc j) xs h.1)

parameters_derived : (w : Place) {bs : List Tree} {n : ℕ} {r T : Tree} → EachParameter (Derived w) bs n r T → IsTypeAfterParameters w T n bs r
parameters_derived w no_parameter = no_more
parameters_derived w (parameter h k) = next h (parameters_derived w k)

prop_derived : (w : Place) {q : Bool} {A : Tree} → PropWhere (Derived w) q A → q ≡ true → IsProposition w A
prop_derived w not_due e = absurd cc
prop_derived w (due {l = l} h k z) e = is_prop (has_sort h k) (zero_level_same l z)

-- field number i of s, of this structure, whose type has the sort l
field_derived : (w : Place) (S : Name) (s : Tree) (l : Level) (i : ℕ) {j n : ℕ} {r F : Tree} → j + n ≡ i → FieldAt (Derived w) S s (is_zero_level l) j n r F → IsFieldType w (field_at S s l i) F j r
field_derived w S s l i {j = j} {r = r} {F = F} e (this_field h p) =
    let x : j ≡ i = omega (arith, e) in subst (λ y. IsFieldType w (field_at S s l y) F j r) x (here {f = field_at S s l j} h (λ z. prop_derived w p (zero_then l z)))
field_derived w S s l i e (field_before {B = B} h p k) =
    past {f = field_at S s l i} h (λ z v. prop_derived w p (both (is_zero_level l) (has_var 0 B) (zero_then l z) v)) (field_derived w S s l i (omega (arith, e)) k)

pub types_derived : (w : Place) → FollowsTypes w (Derived w)
types_derived w = record {
  sorts = λ l. t_sort;
  locals = λ k T f. t_local f;
  consts = λ c ls g f. t_const g f;
  apps = λ f a F A B A' hf hF ha hq. t_app hf hF ha hq;
  lams = λ A b B l k fresh hA hb. t_lam {B = B} {k = k} fresh (has_sort hA.1 hA.2) hb;
  pis = λ A B u v k fresh hA hB. t_pi {k = k} fresh (has_sort hA.1 hA.2) (has_sort hB.1 hB.2);
  lets = λ A v b V B l hA hv hq hb. t_let (has_sort hA.1 hA.2) hv hq hb;
  lits = λ n h t f. t_lit h f;
  strs = λ s h t. t_str h;
  projs = λ S i e T₀ T F l he hT less hS a b. t_proj S {i = i} he hT less (has_sort hS.1 hS.2) (parameters_derived w a) (field_derived w S.name e l i (omega arith) b);
}

pub reductions_derived : (w : Place) → IsLawfulPlace w → FollowsReductions w (Derived w)
reductions_derived w laws = record {
  stay = λ a f. r_refl f;
  chain = λ a b c h g. r_trans h g;
  head = λ f g a h fa. r_head h fa;
  beta = λ A b a f. r_beta f;
  zeta = λ A v b f. r_zeta f;
  delta = λ c ls g v hv f. r_delta g hv f;
  field = λ c i e m x h rd t at f. r_proj c h rd at f;
  major = λ R e m n h rd t. r_major R h rd;
  iota = λ R c h f g. r_iota R c h f g;
  lift = λ ls ks A r B f h m A' r' a i im ff hm. r_quot_lift ls ks i im ff hm;
  ind = λ ls ks A r B h m A' r' a i im ff hm. r_quot_ind ls ks i im ff hm;
  k = λ R k e T₀ D he hT hD hq. r_k R k he hT hD hq;
  struct = λ R S m T₀ l o hm hT hS z. r_struct R S o hm hT (not_prop {l = l} (has_sort hS.1 hS.2) (not_zero_level l z));
  operation = λ op es ns r i hn s h hr t. r_op op es ns r i hn (laws op i) (numerals_derived w h) hr;
}

pub equalities_derived : (w : Place) → FollowsEqualities w (Derived w)
equalities_derived w = record {
  same = λ a f. e_refl f;
  reduce = λ a b a' b' ha hb hq. e_reduce ha hb hq;
  sorts = λ l m t. e_sort (level_right l m t);
  consts = λ c ls ms t. e_const (levels_right ls ms t);
  apps = λ f g a b nf ng hf ha. e_app nf ng hf ha;
  lams = λ A A' b b' k fresh hA hb. e_lam {k = k} fresh hA hb;
  pis = λ A A' b b' k fresh hA hb. e_pi {k = k} fresh hA hb;
  projs = λ S i s t h. e_proj h;
  eta_left = λ o T A B A' b n ho hT hq. e_eta_left n ho hT hq;
  eta_right = λ o T A B A' b n ho hT hq. e_eta_right n ho hT hq;
  proof = λ a b A B l na nb ha hA z hb hq. e_proof na nb ha (is_prop (has_sort hA.1 hA.2) (zero_level_same l z)) hb hq;
  zero_left = e_zero_left;
  zero_right = e_zero_right;
  succ_left = λ n x f h. e_succ_left f h;
  succ_right = λ n x f h. e_succ_right f h;
  str_left = λ s b x t h. e_str_left x h;
  str_right = λ s a x t h. e_str_right x h;
  unit = λ u ls bs a b A B na nb n ha hT hb hq. e_unit u ls bs a b A B na nb n ha hT hb hq;
  struct_left = λ S xs a A B na nx ha hb hq all. e_struct_left S xs na (by_fields nx ha hb hq (fields_derived w S.structure.ind.name a 0 xs all));
  struct_right = λ S xs a A B na nx ha hb hq all. e_struct_right S xs na (by_fields nx ha hb hq (fields_derived w S.structure.ind.name a 0 xs all));
}
