-- Sorts, Pis and types applied stay apart behind steps of beta and zeta at the head.
use Rattle.std.proofs.Common.{◌≡◌, inl, inr, List, [], ◌∷◌, ◌++◌, sym, subst}
use Rattle.lk_tree.specs.Tree.{Name, Tree, var, sort, const, app, lam, pi, let_in, proj, lit, wide, str, local}
use Rattle.lk_tree.specs.Spine.{apply, IsNeutral, IsHeadNormal}
use Rattle.lk_tree.proofs.Spines.{neutral_applied, normal_neutral}
use Rattle.lk_rulebook.specs.Place.{Place}
use Rattle.lk_rulebook.specs.Names.{named, op_name}
use Rattle.lk_rulebook.specs.Formers.{IsFormer}
use Rattle.lk_rulebook.specs.HeadSteps.{by_beta, by_zeta, RunsTo}
use Rattle.lk_rulebook.specs.Rules.{Reduces, r_refl, r_trans, r_head, r_beta, r_zeta, r_delta, r_proj, r_major, r_iota, r_k, r_struct, r_quot_lift, r_quot_ind, r_op, IsDefEq, e_refl, e_reduce, e_sort, e_const, e_app, e_lam, e_pi, e_proj, e_eta_left, e_eta_right, e_struct_left, e_struct_right, e_unit, e_proof, e_zero_left, e_zero_right, e_succ_left, e_succ_right, e_str_left, e_str_right}
use Rattle.lk_rulebook.proofs.Sorts.{same_former}
use Rattle.lk_rulebook.proofs.HeadSteps.{stays_there, in_spine, former_normal, past_step, forward, run_fine, one_end, constant_normal}
use Rattle.lk_meaning.specs.Rigid.{IsApplied}
use Rattle.lk_meaning.specs.Families.{IsFamily}
use Rattle.lk_meaning.specs.TypeForms.{IsTypeForm, by_former, by_family, SameTypeForm}
use Rattle.lk_meaning.proofs.Rigid.{IsTypeName, applied_of, applied_stays}
use Rattle.lk_meaning.proofs.Apart.{families, family_first, family_second}

applied_neutral : (J : Name) (F : Tree) → IsApplied J F → IsNeutral F
applied_neutral J (app f a) h = applied_neutral J f h
applied_neutral J (const c ls) h = tt
applied_neutral J (var i) h = absurd h
applied_neutral J (sort l) h = absurd h
applied_neutral J (lam A b) h = absurd h
applied_neutral J (pi A B) h = absurd h
applied_neutral J (let_in A v b) h = absurd h
applied_neutral J (proj S i s) h = absurd h
applied_neutral J (lit n) h = absurd h
applied_neutral J wide h = absurd h
applied_neutral J (str s) h = absurd h
applied_neutral J (local k T) h = absurd h

applied_normal : (J : Name) (F : Tree) → IsApplied J F → IsHeadNormal F
applied_normal J F h = normal_neutral F (applied_neutral J F h)

form_normal : {w : Place} (F : Tree) → IsTypeForm w F → IsHeadNormal F
form_normal F (by_former f) = former_normal F f
form_normal F (by_family J s h) = applied_normal J F h

family_name : {w : Place} {J : Name} → IsFamily w J → IsTypeName w J
family_name s = record { entry = s.entry; block = s.block; own = s.own; given = s.given; kind = s.kind }

-- a neutral tree that runs to J applied is J applied, and reduces to itself
at_rest : {w : Place} {J : Name} → IsTypeName w J → {a b : Tree} → Reduces w a b → IsNeutral a → (xs : List Tree) {F : Tree} → RunsTo (apply a xs) F → IsApplied J F → RunsTo (apply b xs) F
at_rest {J = J} s {a} {b} c n xs {F} r h =
    let e : apply a xs ≡ F = stays_there r (normal_neutral (apply a xs) (neutral_applied a xs n)) in
    let i : a ≡ b = applied_stays s c (applied_of J a xs (subst (IsApplied J) (sym e) h)) in
    subst (λ z. RunsTo (apply z xs) F) i r

forward_family : {w : Place} {J : Name} → IsTypeName w J → {a b : Tree} → Reduces w a b → (xs : List Tree) {F : Tree} → RunsTo (apply a xs) F → IsApplied J F → RunsTo (apply b xs) F
forward_family s (r_refl x) xs r h = r
forward_family s (r_trans c d) xs r h = forward_family s d xs (forward_family s c xs r h) h
forward_family s (r_head {a = a} c x) xs r h = forward_family s c (a ∷ xs) r h
forward_family {J = J} s (r_beta x) xs {F} r h = past_step (in_spine xs by_beta) r (applied_normal J F h)
forward_family {J = J} s (r_zeta x) xs {F} r h = past_step (in_spine xs by_zeta) r (applied_normal J F h)
forward_family s (r_delta g v x) xs r h = at_rest s (r_delta g v x) tt xs r h
forward_family s (r_proj c p q i x) xs r h = at_rest s (r_proj c p q i x) tt xs r h
forward_family s (r_major R p q) xs r h = at_rest s (r_major R p q) (neutral_applied (const R.name R.levels) R.front tt) xs r h
forward_family s (r_iota R c i x g) xs r h = at_rest s (r_iota R c i x g) (neutral_applied (const R.name R.levels) R.front tt) xs r h
forward_family s (r_k R k he hr hd q) xs r h = at_rest s (r_k R k he hr hd q) (neutral_applied (const R.name R.levels) R.front tt) xs r h
forward_family s (r_struct R t o hm p q) xs r h = at_rest s (r_struct R t o hm p q) (neutral_applied (const R.name R.levels) R.front tt) xs r h
forward_family s (r_quot_lift ls ks i j ff p) xs r h = at_rest s (r_quot_lift ls ks i j ff p) tt xs r h
forward_family s (r_quot_ind ls ks i j ff p) xs r h = at_rest s (r_quot_ind ls ks i j ff p) tt xs r h
forward_family s (r_op op es ns x i n m v g) xs r h = at_rest s (r_op op es ns x i n m v g) (neutral_applied (named (op_name op)) es tt) xs r h

forward_form : {w : Place} {a b F : Tree} → IsTypeForm w F → Reduces w a b → RunsTo a F → RunsTo b F
forward_form (by_former f) c r = forward c [] r f
forward_form (by_family J s h) c r = forward_family (family_name s) c [] r h

both_forms : {w : Place} {a b : Tree} → IsDefEq w a b → IsTypeForm w a → IsTypeForm w b → SameTypeForm w a b
both_forms e (by_former f) (by_former g) = inl (same_former e f g)
both_forms {w} {a} {b} e (by_former f) (by_family K t k) = absurd (family_second w K a b t e f k)
both_forms {w} {a} {b} e (by_family J s h) (by_former g) = absurd (family_first w J a b s e h g)
both_forms {w} {a} {b} e (by_family J s h) (by_family K t k) = inr (families w J K a b s t e h k).1

-- neither side has a step: they are the forms themselves
at_once : {w : Place} {a b F G : Tree} → IsDefEq w a b → IsHeadNormal a → IsHeadNormal b → RunsTo a F → RunsTo b G → IsTypeForm w F → IsTypeForm w G → SameTypeForm w F G
at_once {w} {a} {b} {F} {G} e n o r s f g =
    both_forms (subst (IsDefEq w F) (stays_there s o) (subst (λ z. IsDefEq w z b) (stays_there r n) e)) f g

not_a_form : {w : Place} (a : Tree) → IsTypeForm w a → (IsFormer a → ⊥) → ((J : Name) → IsApplied J a → ⊥) → ⊥
not_a_form a (by_former f) p q = p f
not_a_form a (by_family J s h) p q = q J h

pub forms_apart : {w : Place} {a b : Tree} → IsDefEq w a b → {F G : Tree} → RunsTo a F → RunsTo b G → IsTypeForm w F → IsTypeForm w G → SameTypeForm w F G
forms_apart {w} (e_refl x) {F} {G} r s f g = both_forms (subst (IsDefEq w F) (one_end r s (form_normal F f) (form_normal G g)) (e_refl (run_fine w r x))) f g
forms_apart (e_reduce p q e) r s f g = forms_apart e (forward_form f p r) (forward_form g q s) f g
forms_apart (e_sort x) r s f g = at_once (e_sort x) tt tt r s f g
forms_apart (e_const x) r s f g = at_once (e_const x) tt tt r s f g
forms_apart (e_app u v e d) r s f g = at_once (e_app u v e d) u v r s f g
forms_apart (e_lam fresh e d) r s f g = at_once (e_lam fresh e d) tt tt r s f g
forms_apart (e_pi fresh e d) r s f g = at_once (e_pi fresh e d) tt tt r s f g
forms_apart (e_proj e) r s f g = at_once (e_proj e) tt tt r s f g
forms_apart (e_eta_left {o = o} v t h e) r s f g = at_once (e_eta_left v t h e) (normal_neutral o v) tt r s f g
forms_apart (e_eta_right {o = o} v t h e) r s f g = at_once (e_eta_right v t h e) tt (normal_neutral o v) r s f g
forms_apart (e_struct_left i xs v q) r s f g =
    at_once (e_struct_left i xs v q) v (constant_normal i.structure.ctor_name i.levels (i.params ++ xs)) r s f g
forms_apart (e_struct_right i xs v q) r s f g =
    at_once (e_struct_right i xs v q) (constant_normal i.structure.ctor_name i.levels (i.params ++ xs)) v r s f g
forms_apart (e_unit i ls bs a b A B u v n ha p hb q) r s f g = at_once (e_unit i ls bs a b A B u v n ha p hb q) u v r s f g
forms_apart (e_proof u v ha p hb q) r s f g = at_once (e_proof u v ha p hb q) u v r s f g
forms_apart e_zero_left r s f g = at_once e_zero_left tt tt r s f g
forms_apart e_zero_right r s f g = at_once e_zero_right tt tt r s f g
forms_apart (e_succ_left x e) r s f g = at_once (e_succ_left x e) tt tt r s f g
forms_apart (e_succ_right x e) r s f g = at_once (e_succ_right x e) tt tt r s f g
forms_apart {w} (e_str_left {s = t} x e) r s f g = absurd (not_a_form (str t) (subst (IsTypeForm w) (sym (stays_there r tt)) f) (λ z. z) (λ J z. z))
forms_apart {w} (e_str_right {s = t} x e) r s f g = absurd (not_a_form (str t) (subst (IsTypeForm w) (sym (stays_there s tt)) g) (λ z. z) (λ J z. z))
