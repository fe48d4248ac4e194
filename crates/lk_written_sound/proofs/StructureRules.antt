-- What rules of structures state can be written: eta, and types without fields.
use Rattle.std.proofs.Common.{ℕ, zero, suc, ◌≡◌, ◌+◌, Bool, true, ◌&&◌, nat_eq, length, drop, List, [], ◌∷◌, ◌++◌, Option, Some, refl, subst, ◌∙◌, sym, ap, arith, length-append, not, false}
use Rattle.std.specs.Prelude.{slice_get}
use Rattle.lk_tree.specs.Tree.{Name, Level, Tree, const, proj, sort, app}
use Rattle.lk_tree.specs.Spine.{apply, head, args, IsHeadNormal}
use Rattle.lk_tree.proofs.Scans.{and_true}
use Rattle.lk_rulebook.specs.Place.{Place, Entry, Block, BlockType, Ctor, Recursor, RecRule}
use Rattle.lk_tree.specs.Mentions.{same_name}
use Rattle.lk_rulebook.specs.Structures.{is_structure_like, Structure, StructureAt, structure_type, structure_value, expanded, UnitLike, projections, RecApp, on_major, HasOnlyRule}
use Rattle.lk_rulebook.proofs.Scopes.{expanded_fine}
use Rattle.lk_questions.specs.Iota.{has_one_ctor}
use Rattle.lk_questions.specs.Eta.{is_unit_like}
use Rattle.lk_tree.specs.Level.{is_zero_level}
use Rattle.lk_questions.specs.Steps.{is_same_tree}
use Rattle.lk_rulebook.specs.Claims.{Claim, types, reduces, equals}
use Rattle.lk_written.specs.Line.{unit_rule, struct_left_rule, struct_right_rule, expand_rule}
use Rattle.lk_questions.specs.Tests.{◌>>=◌, passes}
use Rattle.lk_written.specs.Premises.{Left, as_const, equal, sorted}
use Rattle.lk_written.specs.Typing.{the_type}
use Rattle.lk_written.specs.Reducing.{the_ctor, the_rule, major_of, red_expand}
use Rattle.lk_written.specs.Equal.{is_head_normal, fields_equal, eq_struct, eq_unit}
use Rattle.lk_claims.specs.Follows.{EachField}
use Rattle.lk_rulebook.specs.Claims.{IsShaped}
use Rattle.lk_written.specs.Written.{Stands, IsWritten, CanWrite, CanSort}
use Rattle.lk_claims.proofs.Facts.{same_self}
use Rattle.lk_written_sound.proofs.Writings.{are_equal, Stays, next, last_equal, go_on, go_test, NoReduct, equal_there, last_reduct, with_reduct, with_equal, sorted_there, typed_next, go_typed, go_reduced, go_equal}
use Rattle.lk_written_sound.proofs.EqualRules.{normal_passes, same_self_name}
use Rattle.lk_written_sound.proofs.MajorRules.{const_head, const_args, major_there}

empty_there : (block : Block) (ind : BlockType) (ctor : Ctor) (cs : List Ctor) (xs : List Tree) → cs ≡ ctor ∷ [] → is_structure_like block ind ctor ≡ true → ctor.fields ≡ 0 → length xs ≡ ind.parameters → is_unit_like block ind cs xs ≡ true
empty_there block ind ctor cs xs e l z n = rw e (and_true (is_structure_like block ind ctor && nat_eq ctor.fields 0) (nat_eq (length xs) ind.parameters) (and_true (is_structure_like block ind ctor) (nat_eq ctor.fields 0) l (are_equal ctor.fields 0 z)) (are_equal (length xs) ind.parameters n))

pub unit_passes : (w : Place) (qs : List Claim) (i j k m : ℕ) (u : UnitLike w) (ls : List Level) (bs : List Tree) (a b A B T : Tree) → IsHeadNormal a → IsHeadNormal b → length bs ≡ u.ind.parameters →
    head T ≡ const u.name ls → args T ≡ bs → slice_get qs i ≡ Some (types a A) → Stands qs j (reduces A T) → slice_get qs k ≡ Some (types b B) → Stands qs m (equals A B) → passes (eq_unit w qs (i ∷ with_reduct A T j (k ∷ with_equal A B m [])) a b) ≡ true
unit_passes w qs i j k m u ls bs a b A B T na nb n hT aT e₁ e₂ e₃ e₄ =
    let last : Left = with_equal A B m [] in
    go_test (is_head_normal a && is_head_normal b) _ (and_true (is_head_normal a) (is_head_normal b) (normal_passes a na) (normal_passes b nb))
    (go_typed qs i (with_reduct A T j (k ∷ last)) a A _ e₁
    (go_reduced qs j (k ∷ last) A T _ e₂ (λ y. typed_next qs k last A b B e₃)
    (go_on (as_const (head T)) (u.name, ls) _ (rw hT refl)
    (go_on (w.means u.name) u.entry _ u.given
    (go_on (the_type u.entry.kind) (u.block, u.ind) _ (rw u.kind refl)
    (go_test (is_unit_like u.block u.ind u.ind.ctors (args T)) _ (empty_there u.block u.ind u.ctor u.ind.ctors (args T) u.one_ctor u.like u.no_fields (ap (length {A = Tree}) aT ∙ n))
    (go_typed qs k last b B _ e₃
    (go_equal qs m [] A B _ e₄ refl))))))))

pub can_unit : (w : Place) (u : UnitLike w) (ls : List Level) (bs : List Tree) (a b A B : Tree) → IsHeadNormal a → IsHeadNormal b → length bs ≡ u.ind.parameters →
    CanWrite w (types a A) → CanWrite w (reduces A (apply (const u.name ls) bs)) → CanWrite w (types b B) → CanWrite w (equals A B) → CanWrite w (equals a b)
can_unit w u ls bs a b A B na nb n ha hT hb hq =
    let T : Tree = apply (const u.name ls) bs in
    let G : Claim = equals a b in
    let h : IsShaped (equals a b) = (ha.shaped.0, hb.shaped.0) in
    record {
      shaped = h;
      written = λ ps.
          next w ps (types a A) G (ha.written ps) (λ p₁ k₁ i e.
          next w p₁ (reduces A T) G (hT.written p₁) (λ p₂ k₂ j e₂.
          next w p₂ (types b B) G (hb.written p₂) (λ p₃ k₃ k e₃.
          next w p₃ (equals A B) G (hq.written p₃) (λ qs k₄ m e₄.
          last_equal w qs unit_rule a b (i ∷ with_reduct A T j (k ∷ with_equal A B m [])) h
          (unit_passes w qs i j k m u ls bs a b A B T na nb n (const_head u.name ls bs) (const_args u.name ls bs) (k₄ i (types a A) (k₃ i (types a A) (k₂ i (types a A) e))) (k₄ j (reduces A T) (k₃ j (reduces A T) e₂)) (k₄ k (types b B) e₃) e₄)))));
    }

fields_first : (w : Place) (J : Name) (a : Tree) (d : Claim) (j : ℕ) (xs : List Tree) → EachField (CanWrite w) J a j xs → (ps : List Claim) →
    ((qs : List Claim) → Stays ps qs → (js : Left) → fields_equal qs js J a j xs ≡ Some [] → IsWritten w qs d) → IsWritten w ps d
fields_first w J a d j [] h ps f = f ps (λ n c x. x) [] refl
fields_first w J a d j (x ∷ xs) h ps f =
    next w ps (equals (proj J j a) x) d (h.0.written ps) (λ p₁ k₁ i e.
    fields_first w J a d (suc j) xs h.1 p₁ (λ qs k₂ js t.
    f qs (λ n c y. k₂ n c (k₁ n c y)) (with_equal (proj J j a) x i js) (there (equal qs (with_equal (proj J j a) x i js) (proj J j a) x) js qs (equal_there qs i js (proj J j a) x (k₂ i (equals (proj J j a) x) e)) t)))
  where
    there : (o : Option Left) (js : Left) (qs : List Claim) → o ≡ Some js → fields_equal qs js J a (suc j) xs ≡ Some [] → (o >>= λ r. fields_equal qs r J a (suc j) xs) ≡ Some []
    there o js qs e t = rw e t

one_there : (cs : List Ctor) (c : Ctor) → cs ≡ c ∷ [] → has_one_ctor cs ≡ true
one_there cs c e = rw e refl

dropped : (n : ℕ) (ps xs : List Tree) → length ps ≡ n → drop n (ps ++ xs) ≡ xs
dropped zero [] xs e = refl
dropped zero (p ∷ ps) xs e = absurd (omega arith)
dropped (suc n) [] xs e = absurd (omega arith)
dropped (suc n) (p ∷ ps) xs e = dropped n ps xs (omega arith)

count_both : (ps xs : List Tree) (m n : ℕ) → length ps ≡ m → length xs ≡ n → length (ps ++ xs) ≡ m + n
count_both ps xs m n e i = omega (arith, length-append ps xs)

pub struct_passes : (w : Place) (qs : List Claim) (i j k : ℕ) (js : Left) (s : Structure w) (ks : List Level) (ps xs : List Tree) (a b A B : Tree) →
    IsHeadNormal a → length ps ≡ s.ctor.parameters → length xs ≡ s.ctor.fields → head b ≡ const s.ctor_name ks → args b ≡ ps ++ xs →
    slice_get qs i ≡ Some (types a A) → slice_get qs j ≡ Some (types b B) → Stands qs k (equals A B) → fields_equal qs js s.ind.name a 0 xs ≡ Some [] → passes (eq_struct w qs (i ∷ j ∷ with_equal A B k js) a b) ≡ true
struct_passes w qs i j k js s ks ps xs a b A B na np nx hb ab e₁ e₂ e₃ t =
    let like : Bool = is_structure_like s.block s.ind s.ctor in
    let one : Bool = has_one_ctor s.ind.ctors in
    let t' : fields_equal qs js s.ind.name a 0 (drop s.ctor.parameters (args b)) ≡ Some [] =
    ap (λ ys. fields_equal qs js s.ind.name a 0 ys) (ap (λ ys. drop s.ctor.parameters ys) ab ∙ dropped s.ctor.parameters ps xs np) ∙ t in
    go_on (as_const (head b)) (s.ctor_name, ks) _ (rw hb refl)
    (go_on (w.means s.ctor_name) s.entry _ s.given
    (go_on (the_ctor s.entry.kind) (s.block, s.ind, s.ctor) _ (rw s.kind refl)
    (go_test (is_head_normal a && (nat_eq (length (args b)) (s.ctor.parameters + s.ctor.fields) && (one && like))) _
    (and_true (is_head_normal a) (nat_eq (length (args b)) (s.ctor.parameters + s.ctor.fields) && (one && like)) (normal_passes a na)
    (and_true (nat_eq (length (args b)) (s.ctor.parameters + s.ctor.fields)) (one && like) (are_equal (length (args b)) (s.ctor.parameters + s.ctor.fields) (ap (length {A = Tree}) ab ∙ count_both ps xs s.ctor.parameters s.ctor.fields np nx))
    (and_true one like (one_there s.ind.ctors s.ctor s.one_ctor) s.like)))
    (go_typed qs i (j ∷ with_equal A B k js) a A _ e₁
    (go_typed qs j (with_equal A B k js) b B _ e₂
    (go_equal qs k js A B _ e₃
    (go_on (fields_equal qs js s.ind.name a 0 (drop s.ctor.parameters (args b))) [] _ t' refl)))))))

struct_written : (w : Place) (s : Structure w) (ks : List Level) (ys xs : List Tree) (a b A B : Tree) (G : Claim) →
    IsHeadNormal a → length ys ≡ s.ctor.parameters → length xs ≡ s.ctor.fields → head b ≡ const s.ctor_name ks → args b ≡ ys ++ xs →
    CanWrite w (types a A) → CanWrite w (types b B) → CanWrite w (equals A B) → EachField (CanWrite w) s.ind.name a 0 xs →
    ((qs : List Claim) (js : Left) → passes (eq_struct w qs js a b) ≡ true → IsWritten w qs G) → (ps : List Claim) → IsWritten w ps G
struct_written w s ks ys xs a b A B G na np nx hb ab ha hB hq all f ps =
    next w ps (types a A) G (ha.written ps) (λ p₁ k₁ i e.
    next w p₁ (types b B) G (hB.written p₁) (λ p₂ k₂ j e₂.
    next w p₂ (equals A B) G (hq.written p₂) (λ p₃ k₃ k e₃.
    fields_first w s.ind.name a G 0 xs all p₃ (λ qs k₄ js t.
    f qs (i ∷ j ∷ with_equal A B k js) (struct_passes w qs i j k js s ks ys xs a b A B na np nx hb ab (k₄ i (types a A) (k₃ i (types a A) (k₂ i (types a A) e))) (k₄ j (types b B) (k₃ j (types b B) e₂)) (k₄ k (equals A B) e₃) t)))))

pub can_struct_left : (w : Place) (S : StructureAt w) (xs : List Tree) (a A B : Tree) → IsHeadNormal a → length xs ≡ S.structure.ctor.fields → CanWrite w (types a A) → CanWrite w (types (structure_value S xs) B) → CanWrite w (equals A B) →
    EachField (CanWrite w) S.structure.ind.name a 0 xs → CanWrite w (equals a (structure_value S xs))
can_struct_left w S xs a A B na nx ha hb hq all =
    let s : Structure w = S.structure in
    let b : Tree = structure_value S xs in
    let h : IsShaped (equals a b) = (ha.shaped.0, hb.shaped.0) in
    record {
      shaped = h;
      written = struct_written w s S.levels S.params xs a b A B (equals a b) na S.params_are nx (const_head s.ctor_name S.levels (S.params ++ xs)) (const_args s.ctor_name S.levels (S.params ++ xs)) ha hb hq all
          (λ qs js t. last_equal w qs struct_left_rule a b js h t);
    }

pub can_struct_right : (w : Place) (S : StructureAt w) (xs : List Tree) (a A B : Tree) → IsHeadNormal a → length xs ≡ S.structure.ctor.fields → CanWrite w (types a A) → CanWrite w (types (structure_value S xs) B) → CanWrite w (equals A B) →
    EachField (CanWrite w) S.structure.ind.name a 0 xs → CanWrite w (equals (structure_value S xs) a)
can_struct_right w S xs a A B na nx ha hb hq all =
    let s : Structure w = S.structure in
    let b : Tree = structure_value S xs in
    let h : IsShaped (equals b a) = (hb.shaped.0, ha.shaped.0) in
    record {
      shaped = h;
      written = struct_written w s S.levels S.params xs a b A B (equals b a) na S.params_are nx (const_head s.ctor_name S.levels (S.params ++ xs)) (const_args s.ctor_name S.levels (S.params ++ xs)) ha hb hq all
          (λ qs js t. last_equal w qs struct_right_rule b a js h t);
    }

rule_there : (rs : List RecRule) (r : RecRule) → rs ≡ r ∷ [] → the_rule rs ≡ Some r
rule_there rs r e = rw e refl

pub expand_passes : (w : Place) (qs : List Claim) (i j : ℕ) (js : Left) (R : Name) (s : Structure w) (ks ls : List Level) (bs : List Tree) (m T₀ F T n : Tree) (l : Level) (entry : Entry) (recursor : Recursor) (rule : RecRule) →
    recursor.rules ≡ rule ∷ [] → rule.ctor ≡ s.ctor_name → length bs ≡ s.ctor.parameters → major_of w (head F) (length (args F)) ≡ Some (R, ks, entry, recursor) → head T ≡ const s.ind.name ls → args T ≡ bs →
    n ≡ apply (const s.ctor_name ls) (bs ++ projections s.ind.name m 0 s.ctor.fields) → slice_get qs i ≡ Some (types m T₀) → Stands qs j (reduces T₀ T) → NoReduct qs js T₀ → sorted qs js T ≡ Some (l, []) → is_zero_level l ≡ false →
    passes (red_expand w qs (i ∷ with_reduct T₀ T j js) (app F m) (app F n)) ≡ true
expand_passes w qs i j js R s ks ls bs m T₀ F T n l entry recursor rule one rc nb at hT aT en e₁ e₂ other so z =
    let like : Bool = is_structure_like s.block s.ind s.ctor in
    let alone : Bool = has_one_ctor s.ind.ctors in
    let target : Tree = apply (const rule.ctor ls) (args T ++ projections s.ind.name m 0 s.ctor.fields) in
    let same : n ≡ target = en ∙ (ap (λ z. apply (const z ls) (bs ++ projections s.ind.name m 0 s.ctor.fields)) (sym rc) ∙ ap (λ ys. apply (const rule.ctor ls) (ys ++ projections s.ind.name m 0 s.ctor.fields)) (sym aT)) in
    go_on (major_of w (head F) (length (args F))) (R, ks, entry, recursor) _ at
    (go_test (is_same_tree F F) _ (same_self F)
    (go_on (the_rule recursor.rules) rule _ (rule_there recursor.rules rule one)
    (go_on (w.means rule.ctor) s.entry _ (ap w.means rc ∙ s.given)
    (go_on (the_ctor s.entry.kind) (s.block, s.ind, s.ctor) _ (rw s.kind refl)
    (go_typed qs i (with_reduct T₀ T j js) m T₀ _ e₁
    (go_reduced qs j js T₀ T _ e₂ (λ y. other)
    (go_on (as_const (head T)) (s.ind.name, ls) _ (rw hT refl)
    (go_test (same_name s.ind.name s.ind.name && (alone && (like && nat_eq (length (args T)) s.ctor.parameters))) _
    (and_true (same_name s.ind.name s.ind.name) (alone && (like && nat_eq (length (args T)) s.ctor.parameters)) (same_self_name s.ind.name)
    (and_true alone (like && nat_eq (length (args T)) s.ctor.parameters) (one_there s.ind.ctors s.ctor s.one_ctor)
    (and_true like (nat_eq (length (args T)) s.ctor.parameters) s.like (are_equal (length (args T)) s.ctor.parameters (ap (length {A = Tree}) aT ∙ nb)))))
    (go_test (is_same_tree n target) _ (subst (λ z. is_same_tree n z ≡ true) same (same_self n))
    (go_on (sorted qs js T) (l, []) _ so
    (go_test (not (is_zero_level l)) _ (rw z refl) refl)))))))))))

pub can_expand : (w : Place) (R : RecApp w) (S : StructureAt w) (m T₀ : Tree) (l : Level) → HasOnlyRule R S.structure.ctor_name → CanWrite w (types m T₀) → CanWrite w (reduces T₀ (structure_type S)) → CanSort w (structure_type S) l → is_zero_level l ≡ false →
    CanWrite w (reduces (on_major R m) (on_major R (expanded S m)))
can_expand w R S m T₀ l o hm hT hS z =
    let s : Structure w = S.structure in
    let F : Tree = apply (const R.name R.levels) R.front in
    let T : Tree = structure_type S in
    let n : Tree = expanded S m in
    let U : Tree = hS.between in
    let G : Claim = reduces (app F m) (app F n) in
    let h : IsShaped (reduces (app F m) (app F n)) = ((R.fine, hm.shaped.0), (R.fine, expanded_fine S m hT.shaped.1 hm.shaped.0), λ y. absurd y) in
    record {
      shaped = h;
      written = λ ps.
          next w ps (types m T₀) G (hm.written ps) (λ p₁ k₁ i x.
          next w p₁ (reduces T₀ T) G (hT.written p₁) (λ p₂ k₂ j x₂.
          next w p₂ (types T U) G (hS.typed.written p₂) (λ p₃ k₃ u x₃.
          next w p₃ (reduces U (sort l)) G (hS.reduced.written p₃) (λ qs k₄ v x₄.
          let last : Left = with_reduct U (sort l) v [] in
          let at : slice_get qs u ≡ Some (types T U) = k₄ u (types T U) x₃ in
          last_reduct w qs expand_rule (app F m) (app F n) (i ∷ with_reduct T₀ T j (u ∷ last)) h
          (expand_passes w qs i j (u ∷ last) R.name s R.levels S.levels S.params m T₀ F T n l R.entry R.recursor o.rule o.one_rule o.for_ctor S.params_are
          (major_there w R.name R.levels R.front R.entry R.recursor R.given R.kind R.front_is) (const_head s.ind.name S.levels S.params) (const_args s.ind.name S.levels S.params) refl
          (k₄ i (types m T₀) (k₃ i (types m T₀) (k₂ i (types m T₀) x))) (k₄ j (reduces T₀ T) (k₃ j (reduces T₀ T) x₂)) (typed_next qs u last T₀ T U at) (sorted_there qs u v [] T U l at x₄ (λ y. refl)) z)))));
    }
