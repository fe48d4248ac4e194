-- Lines of conversion are derived.
use Rattle.std.proofs.Common.{ℕ, zero, suc, ◌≡◌, ◌≤◌, ◌+◌, true, ◌&&◌, nat_eq, length, take, drop, List, [], ◌∷◌, ◌++◌, Option, Some, None, refl, subst, ◌∙◌, sym, ap, arith, take-append-drop, length-drop}
use Rattle.std.specs.Str.{chars}
use Rattle.lk_tree.specs.Tree.{Name, Level, Tree, var, sort, const, app, lam, pi, let_in, proj, lit, wide, str, local}
use Rattle.lk_tree.specs.Bind.{opened, bound}
use Rattle.lk_tree.specs.LevelTest.{level_test}
use Rattle.lk_tree.specs.Spine.{apply, head, args, IsNeutral, IsHeadNormal}
use Rattle.lk_tree.specs.WellFormed.{IsWellFormed, IsWellFormedUnder}
use Rattle.lk_tree.proofs.Lists.{length_taken}
use Rattle.lk_rulebook.specs.Place.{Place, Entry, Block, BlockType, Ctor, a_type, a_ctor}
use Rattle.lk_rulebook.specs.Names.{named, nat_zero, nat_succ}
use Rattle.lk_rulebook.specs.Literals.{expansion, Expands}
use Rattle.lk_tree.specs.Mentions.{same_name}
use Rattle.lk_rulebook.specs.Structures.{is_structure_like, Structure, StructureAt, UnitLike}
use Rattle.lk_rulebook.specs.Rules.{HasType, Reduces, IsProposition, IsDefEq, e_reduce, e_sort, e_const, e_app, e_lam, e_pi, e_proj, e_eta_left, e_eta_right, e_struct_left, e_struct_right, IsByFields, by_fields, e_unit, e_proof, e_zero_left, e_zero_right, e_succ_left, e_succ_right, e_str_left, e_str_right, ProjectionsEqual, no_more_fields, project}
use Rattle.lk_tree.proofs.Binding.{fine_more}
use Rattle.lk_rulebook.proofs.Scopes.{well_formed_of_type, well_formed_of_reduct}
use Rattle.lk_rulebook.proofs.Texts.{expansion_fine}
use Rattle.lk_questions.specs.Steps.{is_same_tree}
use Rattle.lk_questions.specs.Iota.{has_one_ctor}
use Rattle.lk_questions.specs.Eta.{is_unit_like}
use Rattle.lk_questions.specs.Same.{eta_long}
use Rattle.lk_questions.specs.Strings.{expansion_of}
use Rattle.lk_rulebook.specs.WellStated.{WellStated}
use Rattle.lk_claims.proofs.Pieces.{same_tree, halves, equal_numbers, same_name_right, Some_inj}
use Rattle.lk_claims.proofs.Readings.{IfExpands, sound_expansion_of}
use Rattle.lk_claims.proofs.Facts.{the_ctor, listed_of, body_fine, bound_left, pi_bound_left}
use Rattle.lk_rulebook.specs.Claims.{Claim, AllDerived}
use Rattle.lk_questions.specs.Tests.{◌>>=◌, test, found, is_true, same_levels}
use Rattle.lk_written.specs.Premises.{Left, ends, typed, equal, to_pi, is_prop_by}
use Rattle.lk_written.specs.Typing.{the_type}
use Rattle.lk_written.specs.Reducing.{the_ctor as ctor_in, tree_in}
use Rattle.lk_written.specs.Equal.{is_neutral, is_head_normal, eq_reduce, eq_sorts, eq_consts, pairs_equal, spines_equal, eq_apps, eq_bodies, eq_lams, eq_pis, eq_projs, eq_eta, fields_equal, eq_struct, eq_unit, eq_proof, eq_zero, eq_succ, eq_str_left, eq_str_right}
use Rattle.lk_claims.proofs.Facts.{level_right, levels_right}
use Rattle.lk_written_sound.proofs.Premises.{IfSome, if_map, if_bind, on_some, on_test, if_test, on_none_left, if_none_left, found_right, equal_right, is_prop_right, on_typed, on_reduced, on_equal, on_pi, on_fresh}
use Rattle.lk_written_sound.proofs.Typings.{comes_right}
use Rattle.lk_written_sound.proofs.Projs.{on_const, spine_is, type_right}
use Rattle.lk_written_sound.proofs.Reductions.{ctor_right}
use Rattle.lk_written_sound.proofs.Operations.{tree_right}

neutral_right : (e : Tree) → is_neutral e ≡ true → IsNeutral e
neutral_right (app f a) h = neutral_right f h
neutral_right (lam A b) h = absurd cc
neutral_right (let_in A v b) h = absurd cc
neutral_right (var i) h = tt
neutral_right (sort l) h = tt
neutral_right (const c ls) h = tt
neutral_right (pi A B) h = tt
neutral_right (proj S i s) h = tt
neutral_right (lit n) h = tt
neutral_right wide h = tt
neutral_right (str s) h = tt
neutral_right (local k T) h = tt

normal_right : (e : Tree) → is_head_normal e ≡ true → IsHeadNormal e
normal_right (lam A b) h = tt
normal_right (app f a) h = neutral_right f h
normal_right (let_in A v b) h = absurd cc
normal_right (var i) h = tt
normal_right (sort l) h = tt
normal_right (const c ls) h = tt
normal_right (pi A B) h = tt
normal_right (proj S i s) h = tt
normal_right (lit n) h = tt
normal_right wide h = tt
normal_right (str s) h = tt
normal_right (local k T) h = tt

both_normal : (a b : Tree) → (is_head_normal a && is_head_normal b) ≡ true → IsHeadNormal a × IsHeadNormal b
both_normal a b h = let x : (is_head_normal a ≡ true) × (is_head_normal b ≡ true) = halves (is_head_normal a) (is_head_normal b) h in (normal_right a x.0, normal_right b x.1)

pub reduce_is : (w : Place) (ps : List Claim) → AllDerived w ps → (js : Left) (a b : Tree) → IsWellFormed a → IsWellFormed b → IfSome (eq_reduce ps js a b) (λ u. IsDefEq w a b)
reduce_is w ps d js a b fa fb =
    on_reduced w ps d js a fa _ (λ u. IsDefEq w a b) (λ x hx.
    on_reduced w ps d x.1 b fb _ (λ u. IsDefEq w a b) (λ y hy.
    on_equal w ps d y.1 x.0 y.0 (well_formed_of_reduct hx).1 _ (λ u. IsDefEq w a b) (λ r q.
    if_none_left r (IsDefEq w a b) (e_reduce hx hy q))))

pub sorts_is : (w : Place) (js : Left) (a b : Tree) → IfSome (eq_sorts js a b) (λ u. IsDefEq w a b)
sorts_is w js (sort l) (sort m) = on_none_left js _ (λ u. IsDefEq w (sort l) (sort m)) (if_test (is_true (level_test l m)) (IsDefEq w (sort l) (sort m)) (λ t. e_sort (level_right l m t)))
sorts_is w js _ _ = tt

pub consts_is : (w : Place) (js : Left) (a b : Tree) → IfSome (eq_consts js a b) (λ u. IsDefEq w a b)
consts_is w js (const c ls) (const d ms) = on_none_left js _ (λ u. IsDefEq w (const c ls) (const d ms)) (if_test (same_name d c && same_levels ls ms) (IsDefEq w (const c ls) (const d ms)) (λ t.
    let x : (same_name d c ≡ true) × (same_levels ls ms ≡ true) = halves (same_name d c) (same_levels ls ms) t in
    let i : d ≡ c = same_name_right d c x.0 in
    rw i (e_const (levels_right ls ms x.1))))
consts_is w js _ _ = tt

-- f and g applied to the pairs
lefts : Tree → List (Tree × Tree) → Tree
lefts f [] = f
lefts f (p ∷ more) = lefts (app f p.0) more

rights : Tree → List (Tree × Tree) → Tree
rights g [] = g
rights g (p ∷ more) = rights (app g p.1) more

abbrev LeftsFine : List (Tree × Tree) → Type 0
LeftsFine [] = Unit {0}
LeftsFine (p ∷ more) = IsWellFormed p.0 × LeftsFine more

pairs_right : (w : Place) (ps : List Claim) → AllDerived w ps → (js : Left) (f g : Tree) (more : List (Tree × Tree)) → IsNeutral f → IsNeutral g → IsDefEq w f g → LeftsFine more →
    IfSome (pairs_equal ps js more) (λ r. IsDefEq w (lefts f more) (rights g more))
unfolding lefts rights
pairs_right w ps d js f g [] nf ng h fm = h
pairs_right w ps d js f g (p ∷ more) nf ng h fm =
    on_equal w ps d js p.0 p.1 fm.0 _ (λ r. IsDefEq w (lefts (app f p.0) more) (rights (app g p.1) more)) (λ r q.
    pairs_right w ps d r (app f p.0) (app g p.1) more nf ng (e_app nf ng h q) fm.1)

spines_right : (w : Place) (ps : List Claim) → AllDerived w ps → (js : Left) (a b : Tree) (more : List (Tree × Tree)) → IsNeutral a → IsNeutral b → IsWellFormed a → LeftsFine more →
    IfSome (spines_equal ps js a b more) (λ r. IsDefEq w (lefts a more) (rights b more))
unfolding lefts rights
spines_right w ps d js (app f x) (app g y) more nf ng fa fm =
    go (equal ps js f g) (equal_right w ps d js f g fa.0) (spines_right w ps d js f g ((x, y) ∷ more) nf ng fa.0 (fa.1, fm))
  where
    go : (o : Option Left) → IfSome o (λ r. IsDefEq w f g) → IfSome (spines_equal ps js f g ((x, y) ∷ more)) (λ r. IsDefEq w (lefts (app f x) more) (rights (app g y) more)) →
        IfSome (elim o as (λ z. Option Left) [ Some r ↦ pairs_equal ps r ((x, y) ∷ more) | None ↦ spines_equal ps js f g ((x, y) ∷ more) ]) (λ r. IsDefEq w (lefts (app f x) more) (rights (app g y) more))
    go (Some r) h k = pairs_right w ps d r f g ((x, y) ∷ more) nf ng h (fa.1, fm)
    go None h k = k
spines_right w ps d js _ _ more nf ng fa fm = tt

pub apps_is : (w : Place) (ps : List Claim) → AllDerived w ps → (js : Left) (a b : Tree) → IsWellFormed a → IfSome (eq_apps ps js a b) (λ u. IsDefEq w a b)
unfolding lefts rights
apps_is w ps d js a b fa =
    let G : Type 0 = IsDefEq w a b in
    on_test (is_neutral a && is_neutral b) _ (λ u. G) (λ n.
    let x : (is_neutral a ≡ true) × (is_neutral b ≡ true) = halves (is_neutral a) (is_neutral b) n in
    if_bind (spines_equal ps js a b []) _ (λ r. G) (λ u. G) (spines_right w ps d js a b [] (neutral_right a x.0) (neutral_right b x.1) fa tt) (λ r h.
    if_none_left r G h))

-- the parts of two binders are equal, under a Local that is fresh for both
bodies_are : (w : Place) (ps : List Claim) → AllDerived w ps → (js : Left) (k : ℕ) (A b A' b' : Tree) (G : Type 0) → IsWellFormed A → IsWellFormedUnder 1 b → bound A ≤ k →
    (IsDefEq w A A' → IsDefEq w (opened b (local k A)) (opened b' (local k A)) → G) → IfSome (eq_bodies ps js k (A, b) (A', b')) (λ u. G)
bodies_are w ps d js k A b A' b' G fA fb le f =
    on_equal w ps d js A A' fA _ (λ u. G) (λ r p.
    on_equal w ps d r (opened b (local k A)) (opened b' (local k A)) (body_fine k A b fA fb le) _ (λ u. G) (λ s q.
    if_none_left s G (f p q)))

pub lams_is : (w : Place) (ps : List Claim) → AllDerived w ps → (js : Left) (x a b : Tree) → IsWellFormed a → IfSome (eq_lams ps js x a b) (λ u. IsDefEq w a b)
lams_is w ps d js x (lam A b) (lam A' b') fa =
    let G : Type 0 = IsDefEq w (lam A b) (lam A' b') in
    on_fresh A (lam A b ∷ lam A' b' ∷ []) x _ (λ u. G) (λ k fresh e. bodies_are w ps d js k A b A' b' G fa.0 fa.1 (bound_left A b k fresh.0) (λ p q. e_lam {k = k} fresh p q))
lams_is w ps d js x _ _ fa = tt

pub pis_is : (w : Place) (ps : List Claim) → AllDerived w ps → (js : Left) (x a b : Tree) → IsWellFormed a → IfSome (eq_pis ps js x a b) (λ u. IsDefEq w a b)
pis_is w ps d js x (pi A b) (pi A' b') fa =
    let G : Type 0 = IsDefEq w (pi A b) (pi A' b') in
    on_fresh A (pi A b ∷ pi A' b' ∷ []) x _ (λ u. G) (λ k fresh e. bodies_are w ps d js k A b A' b' G fa.0 fa.1 (pi_bound_left A b k fresh.0) (λ p q. e_pi {k = k} fresh p q))
pis_is w ps d js x _ _ fa = tt

pub projs_is : (w : Place) (ps : List Claim) → AllDerived w ps → (js : Left) (a b : Tree) → IsWellFormed a → IfSome (eq_projs ps js a b) (λ u. IsDefEq w a b)
projs_is w ps d js (proj S i s) (proj R j t) fa =
    let G : Type 0 = IsDefEq w (proj S i s) (proj R j t) in
    on_test (same_name R S && nat_eq j i) _ (λ u. G) (λ n.
    let x : (same_name R S ≡ true) × (nat_eq j i ≡ true) = halves (same_name R S) (nat_eq j i) n in
    let p : R ≡ S = same_name_right R S x.0 in
    let q : j ≡ i = equal_numbers j i x.1 in
    on_equal w ps d js s t fa _ (λ u. G) (λ r h.
    if_none_left r G (rw (p, q) (e_proj h))))
projs_is w ps d js _ _ fa = tt

eta_right : (w : Place) (ps : List Claim) → AllDerived w ps → (js : Left) (A' b o : Tree) → IsWellFormed (lam A' b) →
    IfSome (test (is_neutral o) >>= λ u. typed ps js o >>= λ T. to_pi ps T.1 T.0 >>= λ p. equal ps p.1 (lam A' b) (eta_long p.0.0 o) >>= λ r. ends r) (λ u. IsDefEq w (lam A' b) o)
eta_right w ps d js A' b o fl =
    let G : Type 0 = IsDefEq w (lam A' b) o in
    on_test (is_neutral o) _ (λ u. G) (λ n.
    on_typed w ps d js o _ (λ u. G) (λ T h.
    on_pi w ps d T.1 T.0 _ (λ u. G) (well_formed_of_type h).1 (λ p red.
    on_equal w ps d p.1 (lam A' b) (eta_long p.0.0 o) fl _ (λ u. G) (λ r q.
    if_none_left r G (e_eta_right (neutral_right o n) h red q)))))

-- o with its argument written out
long_fine : (A o : Tree) → IsWellFormed A → IsWellFormed o → IsWellFormed (eta_long A o)
long_fine A o fA fo = (fA, (fine_more 0 1 o (omega arith) fo, omega arith))

eta_left : (w : Place) (ps : List Claim) → AllDerived w ps → (js : Left) (A' b o : Tree) →
    IfSome (test (is_neutral o) >>= λ u. typed ps js o >>= λ T. to_pi ps T.1 T.0 >>= λ p. equal ps p.1 (eta_long p.0.0 o) (lam A' b) >>= λ r. ends r) (λ u. IsDefEq w o (lam A' b))
eta_left w ps d js A' b o =
    let G : Type 0 = IsDefEq w o (lam A' b) in
    on_test (is_neutral o) _ (λ u. G) (λ n.
    on_typed w ps d js o _ (λ u. G) (λ T h.
    on_pi w ps d T.1 T.0 _ (λ u. G) (well_formed_of_type h).1 (λ p red.
    on_equal w ps d p.1 (eta_long p.0.0 o) (lam A' b) (long_fine p.0.0 o (well_formed_of_reduct red).1.0 (well_formed_of_type h).0) _ (λ u. G) (λ r q.
    if_none_left r G (e_eta_left (neutral_right o n) h red q)))))

pub eta_is : (w : Place) (ps : List Claim) → AllDerived w ps → (js : Left) (a b : Tree) → IsWellFormed a → IfSome (eq_eta ps js a b) (λ u. IsDefEq w a b)
eta_is w ps d js (lam A' b) o fa = eta_right w ps d js A' b o fa
eta_is w ps d js o (lam A' b) fa = eta_left w ps d js A' b o
eta_is w ps d js _ _ fa = tt

fields_right : (w : Place) (ps : List Claim) → AllDerived w ps → (js : Left) (J : Name) (a : Tree) (j : ℕ) (xs : List Tree) → IsWellFormed a → IfSome (fields_equal ps js J a j xs) (λ r. ProjectionsEqual w J a j xs)
fields_right w ps d js J a j [] f = no_more_fields
fields_right w ps d js J a j (x ∷ xs) f =
    on_equal w ps d js (proj J j a) x f _ (λ r. ProjectionsEqual w J a j (x ∷ xs)) (λ r h.
    if_map (fields_equal ps r J a (suc j) xs) (λ r. ProjectionsEqual w J a (suc j) xs) (λ r. ProjectionsEqual w J a j (x ∷ xs)) (fields_right w ps d r J a (suc j) xs f) (λ r all. project h all))

struct_made : (w : Place) → WellStated w → (a b A B : Tree) (c : Name) (ks : List Level) (xs : List Tree) → b ≡ apply (const c ks) xs → (g : Entry) → w.means c ≡ Some g →
    (block : Block) (ind : BlockType) (ctor : Ctor) → g.kind ≡ a_ctor block ind ctor →
    (is_head_normal a && (nat_eq (length xs) (ctor.parameters + ctor.fields) && (has_one_ctor ind.ctors && is_structure_like block ind ctor))) ≡ true →
    HasType w a A → HasType w b B → IsDefEq w A B → ProjectionsEqual w ind.name a 0 (drop ctor.parameters xs) → IsDefEq w a b × IsDefEq w b a
struct_made w ok a b A B c ks xs e g m block ind ctor k t ha hb q all =
    let p : ℕ = ctor.parameters in
    let x : (is_head_normal a ≡ true) × ((nat_eq (length xs) (p + ctor.fields) && (has_one_ctor ind.ctors && is_structure_like block ind ctor)) ≡ true) = halves (is_head_normal a) (nat_eq (length xs) (p + ctor.fields) && (has_one_ctor ind.ctors && is_structure_like block ind ctor)) t in
    let y : (nat_eq (length xs) (p + ctor.fields) ≡ true) × ((has_one_ctor ind.ctors && is_structure_like block ind ctor) ≡ true) = halves (nat_eq (length xs) (p + ctor.fields)) (has_one_ctor ind.ctors && is_structure_like block ind ctor) x.1 in
    let z : (has_one_ctor ind.ctors ≡ true) × (is_structure_like block ind ctor ≡ true) = halves (has_one_ctor ind.ctors) (is_structure_like block ind ctor) y.1 in
    let count : length xs ≡ p + ctor.fields = equal_numbers (length xs) (p + ctor.fields) y.0 in
    let u : b ≡ apply (const c ks) (take p xs ++ drop p xs) = e ∙ ap (λ ys. apply (const c ks) ys) (sym (take-append-drop p xs)) in
    let hk : HasType w (apply (const c ks) (take p xs ++ drop p xs)) B = subst (λ b. HasType w b B) u hb in
    let m' : length (take p xs) ≡ p = length_taken p xs (omega (arith, count)) in
    let n' : length (drop p xs) ≡ ctor.fields = length-drop p xs ∙ omega (arith, count) in
    let na : IsHeadNormal a = normal_right a x.0 in
    let s : Structure w =
    record {
      ctor_name = c;
      entry = g;
      block = block;
      ind = ind;
      ctor = ctor;
      given = m;
      kind = k;
      one_ctor = the_ctor ctor ind.ctors z.0 (listed_of g block ind ctor k (ok c g m).1);
      like = z.1;
    } in
    let S : StructureAt w = record { structure = s; levels = ks; params = take p xs; params_are = m' } in
    let by : IsByFields w S (drop p xs) a = by_fields n' ha hk q all in
    let l : IsDefEq w a (apply (const c ks) (take p xs ++ drop p xs)) = e_struct_left S (drop p xs) na by in
    let r : IsDefEq w (apply (const c ks) (take p xs ++ drop p xs)) a = e_struct_right S (drop p xs) na by in
    (subst (λ b. IsDefEq w a b) (sym u) l, subst (λ b. IsDefEq w b a) (sym u) r)

pub struct_is : (w : Place) → WellStated w → (ps : List Claim) → AllDerived w ps → (js : Left) (a b : Tree) (G : Type 0) → (IsDefEq w a b × IsDefEq w b a → G) → IfSome (eq_struct w ps js a b) (λ u. G)
struct_is w ok ps d js a b G f =
    on_const (head b) _ (λ u. G) (λ h eh.
    on_some (w.means h.0) _ (λ u. G) (λ g m.
    if_bind (ctor_in g.kind) _ (λ k. g.kind ≡ a_ctor k.0 k.1 k.2) (λ u. G) (ctor_right g.kind) (λ k hk.
    on_test (is_head_normal a && (nat_eq (length (args b)) (k.2.parameters + k.2.fields) && (has_one_ctor k.1.ctors && is_structure_like k.0 k.1 k.2))) _ (λ u. G) (λ t.
    on_typed w ps d js a _ (λ u. G) (λ A hA.
    on_typed w ps d A.1 b _ (λ u. G) (λ B hB.
    on_equal w ps d B.1 A.0 B.0 (well_formed_of_type hA).1 _ (λ u. G) (λ r q.
    if_bind (fields_equal ps r k.1.name a 0 (drop k.2.parameters (args b))) _ (λ r. ProjectionsEqual w k.1.name a 0 (drop k.2.parameters (args b))) (λ u. G) (fields_right w ps d r k.1.name a 0 (drop k.2.parameters (args b)) (well_formed_of_type hA).0) (λ s all.
    if_none_left s G (f (struct_made w ok a b A.0 B.0 h.0 h.1 (args b) (spine_is b h.0 h.0 h.1 eh refl) g m k.0 k.1 k.2 hk t hA hB q all))))))))))

unit_made : (w : Place) (g : Entry) (J : Name) → w.means J ≡ Some g → (block : Block) (t : BlockType) → g.kind ≡ a_type block t → (cs : List Ctor) → t.ctors ≡ cs → (ls : List Level) (bs : List Tree) → is_unit_like block t cs bs ≡ true →
    (a b A T B : Tree) → T ≡ apply (const J ls) bs → IsHeadNormal a → IsHeadNormal b → HasType w a A → Reduces w A T → HasType w b B → IsDefEq w A B → IsDefEq w a b
unit_made w g J m block t k (c ∷ []) e ls bs h a b A T B eT na nb ha r hb q =
    let both : ((is_structure_like block t c && nat_eq c.fields 0) ≡ true) × (nat_eq (length bs) t.parameters ≡ true) = halves (is_structure_like block t c && nat_eq c.fields 0) (nat_eq (length bs) t.parameters) h in
    let more : (is_structure_like block t c ≡ true) × (nat_eq c.fields 0 ≡ true) = halves (is_structure_like block t c) (nat_eq c.fields 0) both.0 in
    let u : UnitLike w = record { name = J; entry = g; block = block; ind = t; ctor = c; given = m; kind = k; one_ctor = e; like = more.0; no_fields = equal_numbers c.fields 0 more.1 } in
    e_unit u ls bs a b A B na nb (equal_numbers (length bs) t.parameters both.1) ha (subst (λ T. Reduces w A T) eT r) hb q
unit_made w g J m block t k [] e ls bs h a b A T B eT na nb ha r hb q = absurd cc
unit_made w g J m block t k (c ∷ d ∷ cs) e ls bs h a b A T B eT na nb ha r hb q = absurd cc

pub unit_is : (w : Place) (ps : List Claim) → AllDerived w ps → (js : Left) (a b : Tree) → IfSome (eq_unit w ps js a b) (λ u. IsDefEq w a b)
unit_is w ps d js a b =
    let G : Type 0 = IsDefEq w a b in
    on_test (is_head_normal a && is_head_normal b) _ (λ u. G) (λ n. let nn : IsHeadNormal a × IsHeadNormal b = both_normal a b n in
    on_typed w ps d js a _ (λ u. G) (λ A hA.
    on_reduced w ps d A.1 A.0 (well_formed_of_type hA).1 _ (λ u. G) (λ T hT.
    on_const (head T.0) _ (λ u. G) (λ h eh.
    on_some (w.means h.0) _ (λ u. G) (λ g m.
    if_bind (the_type g.kind) _ (λ t. g.kind ≡ a_type t.0 t.1) (λ u. G) (type_right g.kind) (λ t k.
    on_test (is_unit_like t.0 t.1 t.1.ctors (args T.0)) _ (λ u. G) (λ v.
    on_typed w ps d T.1 b _ (λ u. G) (λ B hB.
    on_equal w ps d B.1 A.0 B.0 (well_formed_of_type hA).1 _ (λ u. G) (λ r q.
    if_none_left r G (unit_made w g h.0 m t.0 t.1 k t.1.ctors refl h.1 (args T.0) v a b A.0 T.0 B.0 (spine_is T.0 h.0 h.0 h.1 eh refl) nn.0 nn.1 hA hT hB q))))))))))

pub proof_is : (w : Place) (ps : List Claim) → AllDerived w ps → (js : Left) (a b : Tree) → IfSome (eq_proof ps js a b) (λ u. IsDefEq w a b)
proof_is w ps d js a b =
    let G : Type 0 = IsDefEq w a b in
    on_test (is_head_normal a && is_head_normal b) _ (λ u. G) (λ n. let nn : IsHeadNormal a × IsHeadNormal b = both_normal a b n in
    on_typed w ps d js a _ (λ u. G) (λ A hA.
    if_bind (is_prop_by ps A.1 A.0) _ (λ r. IsProposition w A.0) (λ u. G) (is_prop_right w ps d A.1 A.0) (λ r p.
    on_typed w ps d r b _ (λ u. G) (λ B hB.
    on_equal w ps d B.1 A.0 B.0 (well_formed_of_type hA).1 _ (λ u. G) (λ s q.
    if_none_left s G (e_proof nn.0 nn.1 hA p hB q))))))

pub zero_is : (w : Place) (js : Left) (a b : Tree) → IfSome (eq_zero js a b) (λ u. IsDefEq w a b)
zero_is w js (lit zero) b = comes_right b (named nat_zero) js (λ b. IsDefEq w (lit 0) b) e_zero_left
zero_is w js a (lit zero) = comes_right a (named nat_zero) js (λ a. IsDefEq w a (lit 0)) e_zero_right
zero_is w js _ _ = tt

succ_left : (w : Place) (ps : List Claim) → AllDerived w ps → (js : Left) (n : ℕ) (f x : Tree) → IsWellFormed (lit (suc n)) →
    IfSome (test (is_same_tree f (named nat_succ)) >>= λ u. equal ps js (lit n) x >>= λ r. ends r) (λ u. IsDefEq w (lit (suc n)) (app f x))
succ_left w ps d js n f x fn =
    let G : Type 0 = IsDefEq w (lit (suc n)) (app f x) in
    on_test (is_same_tree f (named nat_succ)) _ (λ u. G) (λ t. let e : f ≡ named nat_succ = same_tree f (named nat_succ) t in
    on_equal w ps d js (lit n) x (omega (arith, fn)) _ (λ u. G) (λ r q. if_none_left r G (rw e (e_succ_left fn q))))

succ_right : (w : Place) (ps : List Claim) → AllDerived w ps → (js : Left) (n : ℕ) (f x : Tree) → IsWellFormed (lit (suc n)) → IsWellFormed x →
    IfSome (test (is_same_tree f (named nat_succ)) >>= λ u. equal ps js x (lit n) >>= λ r. ends r) (λ u. IsDefEq w (app f x) (lit (suc n)))
succ_right w ps d js n f x fn fx =
    let G : Type 0 = IsDefEq w (app f x) (lit (suc n)) in
    on_test (is_same_tree f (named nat_succ)) _ (λ u. G) (λ t. let e : f ≡ named nat_succ = same_tree f (named nat_succ) t in
    on_equal w ps d js x (lit n) fx _ (λ u. G) (λ r q. if_none_left r G (rw e (e_succ_right fn q))))

pub succ_is : (w : Place) (ps : List Claim) → AllDerived w ps → (js : Left) (a b : Tree) → IsWellFormed a → IsWellFormed b → IfSome (eq_succ ps js a b) (λ u. IsDefEq w a b)
succ_is w ps d js (lit (suc n)) (app f x) fa fb = succ_left w ps d js n f x fa
succ_is w ps d js (app f x) (lit (suc n)) fa fb = succ_right w ps d js n f x fb fa.1
succ_is w ps d js _ _ fa fb = tt

expands_to : (w : Place) (s : List ℕ) (o : Option Tree) (x : Tree) → o ≡ Some x → IfExpands w s o → Expands w s × (x ≡ expansion (chars s))
expands_to w s (Some y) x e h = let i : y ≡ x = Some_inj e in rw (← i) h
expands_to w s None x e h = absurd cc

pub str_left_is : (w : Place) (ps : List Claim) → AllDerived w ps → (js : Left) (a b : Tree) → IfSome (eq_str_left w ps js a b) (λ u. IsDefEq w a b)
str_left_is w ps d js (str s) b =
    let G : Type 0 = IsDefEq w (str s) b in
    if_bind (found w (expansion_of s)) _ (IfExpands w s) (λ u. G) (found_right w (expansion_of s) (IfExpands w s) (sound_expansion_of w s)) (λ o h.
    if_bind (tree_in o) _ (λ x. o ≡ Some x) (λ u. G) (tree_right o) (λ x e.
    let y : Expands w s × (x ≡ expansion (chars s)) = expands_to w s o x e h in
    on_equal w ps d js x b (subst IsWellFormed (sym y.1) (expansion_fine y.0)) _ (λ u. G) (λ r q. if_none_left r G (e_str_left y.0 (subst (λ x. IsDefEq w x b) y.1 q)))))
str_left_is w ps d js _ b = tt

pub str_right_is : (w : Place) (ps : List Claim) → AllDerived w ps → (js : Left) (a b : Tree) → IsWellFormed a → IfSome (eq_str_right w ps js a b) (λ u. IsDefEq w a b)
str_right_is w ps d js a (str s) fa =
    let G : Type 0 = IsDefEq w a (str s) in
    if_bind (found w (expansion_of s)) _ (IfExpands w s) (λ u. G) (found_right w (expansion_of s) (IfExpands w s) (sound_expansion_of w s)) (λ o h.
    if_bind (tree_in o) _ (λ x. o ≡ Some x) (λ u. G) (tree_right o) (λ x e.
    let y : Expands w s × (x ≡ expansion (chars s)) = expands_to w s o x e h in
    on_equal w ps d js a x fa _ (λ u. G) (λ r q. if_none_left r G (e_str_right y.0 (subst (λ x. IsDefEq w a x) y.1 q)))))
str_right_is w ps d js a _ fa = tt
