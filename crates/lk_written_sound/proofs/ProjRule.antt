-- What the rule of projections states can be written.
use Rattle.std.proofs.Common.{ℕ, ◌≡◌, ◌<◌, ◌+◌, Bool, true, ◌&&◌, nat_eq, nat_lt, length, List, [], ◌∷◌, Some, refl, subst, ap, ◌∙◌, sym, arith}
use Rattle.std.proofs.lemmas.Bool.Decides.{nat_tests}
use Rattle.std.specs.Prelude.{slice_get}
use Rattle.lk_tree.specs.Tree.{Name, Level, Tree, sort, const, pi, proj}
use Rattle.lk_tree.specs.Level.{is_zero_level}
use Rattle.lk_tree.specs.Bind.{has_var}
use Rattle.lk_tree.specs.WellFormed.{IsWellFormed}
use Rattle.lk_tree.specs.Mentions.{same_name}
use Rattle.lk_tree.specs.Spine.{head, args}
use Rattle.lk_tree.proofs.Scans.{and_true}
use Rattle.lk_rulebook.specs.Place.{Place}
use Rattle.lk_rulebook.specs.Formers.{IsFormer}
use Rattle.lk_rulebook.specs.Structures.{Projectable, projectable_type, ctor_type}
use Rattle.lk_rulebook.specs.Claims.{Claim, types, reduces}
use Rattle.lk_written.specs.Line.{proj_rule}
use Rattle.lk_questions.specs.Tests.{passes}
use Rattle.lk_written.specs.Premises.{Left, as_const, to_pi, sorted}
use Rattle.lk_written.specs.Typing.{past, prop_if, field_of, the_type, the_one, type_proj}
use Rattle.lk_rulebook.specs.Claims.{IsShaped}
use Rattle.lk_written.specs.Written.{Stands, IsWritten, CanWrite, CanSort}
use Rattle.lk_claims.specs.Follows.{PropWhere, not_due, due, EachParameter, no_parameter, parameter, FieldAt, this_field, field_before}
use Rattle.lk_claims.proofs.Facts.{some_on}
use Rattle.lk_written_sound.proofs.Writings.{are_equal, Stays, next, last_type, go_on, go_test, some_test, comes_itself, NoReduct, with_reduct, typed_next, reduct_next, to_pi_there, sorted_there, go_typed, go_reduced, go_sorted}
use Rattle.lk_written_sound.proofs.EqualRules.{same_self_name}
use Rattle.lk_written_sound.proofs.MajorRules.{const_head, const_args}

-- a claim that stands among those that are stated
pub record Placed (w : Place) (qs : List Claim) (c : Claim) : Type 0 where
  pub shaped : IsShaped c
  pub place : ℕ
  pub stands : Stands qs place c

placed_later : (w : Place) (ps qs : List Claim) → Stays ps qs → (c : Claim) → Placed w ps c → Placed w qs c
placed_later w ps qs k c h = record { shaped = h.shaped; place = h.place; stands = k h.place c h.stands }

-- the same of other claims
prop_map : {C D : Claim → Type 0} {q : Bool} {A : Tree} → ((c : Claim) → C c → D c) → PropWhere C q A → PropWhere D q A
prop_map f not_due = not_due
prop_map f (due h k z) = due (f _ h) (f _ k) z

parameters_map : {C D : Claim → Type 0} {bs : List Tree} {n : ℕ} {r T : Tree} → ((c : Claim) → C c → D c) → EachParameter C bs n r T → EachParameter D bs n r T
parameters_map f no_parameter = no_parameter
parameters_map f (parameter h k) = parameter (f _ h) (parameters_map f k)

-- the field's domain is closed and well scoped
field_fine : (w : Place) {S : Name} {s : Tree} {q : Bool} {j n : ℕ} {r F : Tree} → FieldAt (CanWrite w) S s q j n r F → IsWellFormed F
field_fine w (this_field h p) = h.shaped.1.0
field_fine w (field_before h p k) = field_fine w k

-- they are written one after the other
prop_first : (w : Place) (d : Claim) {q : Bool} {A : Tree} → PropWhere (CanWrite w) q A → (ps : List Claim) → ((qs : List Claim) → Stays ps qs → PropWhere (Placed w qs) q A → IsWritten w qs d) → IsWritten w ps d
prop_first w d not_due ps f = f ps (λ n c x. x) not_due
prop_first w d (due {A = A} {S = S} {l = l} h k z) ps f =
    next w ps (types A S) d (h.written ps) (λ p₁ k₁ i e.
    next w p₁ (reduces S (sort l)) d (k.written p₁) (λ qs k₂ j e₂.
    f qs (λ n c x. k₂ n c (k₁ n c x)) (due (record { shaped = h.shaped; place = i; stands = k₂ i (types A S) e }) (record { shaped = k.shaped; place = j; stands = e₂ }) z)))

parameters_first : (w : Place) (d : Claim) {bs : List Tree} {n : ℕ} {r T : Tree} → EachParameter (CanWrite w) bs n r T → (ps : List Claim) →
    ((qs : List Claim) → Stays ps qs → EachParameter (Placed w qs) bs n r T → IsWritten w qs d) → IsWritten w ps d
parameters_first w d no_parameter ps f = f ps (λ n c x. x) no_parameter
parameters_first w d (parameter {r = r} {A = A} {B = B} h k) ps f =
    next w ps (reduces r (pi A B)) d (h.written ps) (λ p₁ k₁ j e.
    parameters_first w d k p₁ (λ qs k₂ more.
    f qs (λ n c x. k₂ n c (k₁ n c x)) (parameter (record { shaped = h.shaped; place = j; stands = k₂ j (reduces r (pi A B)) e }) more)))

field_first : (w : Place) (d : Claim) {S : Name} {s : Tree} {q : Bool} {j n : ℕ} {r F : Tree} → FieldAt (CanWrite w) S s q j n r F → (ps : List Claim) →
    ((qs : List Claim) → Stays ps qs → FieldAt (Placed w qs) S s q j n r F → IsWritten w qs d) → IsWritten w ps d
field_first w d (this_field {r = r} {F = F} {B = B} h p) ps f =
    next w ps (reduces r (pi F B)) d (h.written ps) (λ p₁ k₁ i e.
    prop_first w d p p₁ (λ qs k₂ due.
    f qs (λ n c x. k₂ n c (k₁ n c x)) (this_field (record { shaped = h.shaped; place = i; stands = k₂ i (reduces r (pi F B)) e }) due)))
field_first w d (field_before {r = r} {A = A} {B = B} h p m) ps f =
    next w ps (reduces r (pi A B)) d (h.written ps) (λ p₁ k₁ i e.
    prop_first w d p p₁ (λ p₂ k₂ due.
    field_first w d m p₂ (λ qs k₃ more.
    f qs (λ n c x. k₃ n c (k₂ n c (k₁ n c x)))
    (field_before (record { shaped = h.shaped; place = i; stands = k₃ i (reduces r (pi A B)) (k₂ i (reduces r (pi A B)) e) }) (prop_map (λ c x. placed_later w p₂ qs k₃ c x) due) more))))

-- no reduction of a Sort or a Pi is next: those reduce to themselves alone, and that is not named
abbrev Settled : List Claim → Left → Type 0
Settled qs js = (S : Tree) → IsFormer S → NoReduct qs js S

settled_end : (qs : List Claim) → Settled qs []
settled_end qs S f = refl

settled_reduct : (w : Place) (qs : List Claim) (r b : Tree) (h : Placed w qs (reduces r b)) (js : Left) → Settled qs js → Settled qs (with_reduct r b h.place js)
settled_reduct w qs r b h js n S f = reduct_next qs h.place js S r b (λ e. h.shaped.2 (subst IsFormer (sym e) f)) h.stands (n S f)

-- what reduces to a Sort or a Pi is one, where it is that itself
sort_settled : (qs : List Claim) (js : Left) (S : Tree) (l : Level) → Settled qs js → S ≡ sort l → NoReduct qs js S
sort_settled qs js S l n e = n S (subst IsFormer (sym e) tt)

pi_settled : (qs : List Claim) (js : Left) (F A B : Tree) → Settled qs js → F ≡ pi A B → NoReduct qs js F
pi_settled qs js F A B n e = n F (subst IsFormer (sym e) tt)

-- the premises that name them, before others, are read
abbrev prop_premises : {w : Place} {qs : List Claim} {q : Bool} {A : Tree} → PropWhere (Placed w qs) q A → Left → Left
prop_premises not_due js = js
prop_premises (due {S = S} {l = l} h k z) js = h.place ∷ with_reduct S (sort l) k.place js

prop_next : (w : Place) (qs : List Claim) {q : Bool} {A : Tree} (h : PropWhere (Placed w qs) q A) (js : Left) → Settled qs js → Settled qs (prop_premises h js)
prop_next w qs not_due js n = n
prop_next w qs (due {A = A} {S = S} {l = l} h k z) js n = λ R f. typed_next qs h.place (with_reduct S (sort l) k.place js) R A S h.stands

prop_read : (w : Place) (qs : List Claim) {q : Bool} {A : Tree} (h : PropWhere (Placed w qs) q A) (js : Left) → Settled qs js → prop_if q qs (prop_premises h js) A ≡ Some js
prop_read w qs not_due js n = refl
prop_read w qs (due {A = A} {S = S} {l = l} h k z) js n =
    some_on (sorted qs (h.place ∷ with_reduct S (sort l) k.place js) A) (l, js) _ js (sorted_there qs h.place k.place js A S l h.stands k.stands (sort_settled qs js S l n)) (some_test (is_zero_level l) _ js z refl)

abbrev parameter_premises : {w : Place} {qs : List Claim} {bs : List Tree} {n : ℕ} {r T : Tree} → EachParameter (Placed w qs) bs n r T → Left → Left
parameter_premises no_parameter js = js
parameter_premises (parameter {r = r} {A = A} {B = B} h k) js = with_reduct r (pi A B) h.place (parameter_premises k js)

parameters_next : (w : Place) (qs : List Claim) {bs : List Tree} {n : ℕ} {r T : Tree} (h : EachParameter (Placed w qs) bs n r T) (js : Left) → Settled qs js → Settled qs (parameter_premises h js)
parameters_next w qs no_parameter js n = n
parameters_next w qs (parameter {r = r} {A = A} {B = B} h k) js n = settled_reduct w qs r (pi A B) h (parameter_premises k js) (parameters_next w qs k js n)

parameters_read : (w : Place) (qs : List Claim) {bs : List Tree} {n : ℕ} {r T : Tree} (h : EachParameter (Placed w qs) bs n r T) (js : Left) → Settled qs js → past qs (parameter_premises h js) bs n r ≡ Some (T, js)
parameters_read w qs no_parameter js n = refl
parameters_read w qs (parameter {b = b} {r = r} {A = A} {B = B} {T = T} h k) js n =
    let more : Left = parameter_premises k js in
    some_on (to_pi qs (with_reduct r (pi A B) h.place more) r) ((A, B), more) _ (T, js) (to_pi_there qs h.place more r A B h.stands (pi_settled qs more r A B (parameters_next w qs k js n))) (parameters_read w qs k js n)

abbrev field_premises : {w : Place} {qs : List Claim} {S : Name} {s : Tree} {q : Bool} {j n : ℕ} {r F : Tree} → FieldAt (Placed w qs) S s q j n r F → Left → Left
field_premises (this_field {r = r} {F = F} {B = B} h p) js = with_reduct r (pi F B) h.place (prop_premises p js)
field_premises (field_before {r = r} {A = A} {B = B} h p k) js = with_reduct r (pi A B) h.place (prop_premises p (field_premises k js))

field_next : (w : Place) (qs : List Claim) {S : Name} {s : Tree} {q : Bool} {j n : ℕ} {r F : Tree} (h : FieldAt (Placed w qs) S s q j n r F) (js : Left) → Settled qs js → Settled qs (field_premises h js)
field_next w qs (this_field {r = r} {F = F} {B = B} h p) js n = settled_reduct w qs r (pi F B) h (prop_premises p js) (prop_next w qs p js n)
field_next w qs (field_before {r = r} {A = A} {B = B} h p k) js n = settled_reduct w qs r (pi A B) h (prop_premises p (field_premises k js)) (prop_next w qs p (field_premises k js) (field_next w qs k js n))

field_read : (w : Place) (qs : List Claim) {S : Name} {s : Tree} {q : Bool} {j n : ℕ} {r F : Tree} (h : FieldAt (Placed w qs) S s q j n r F) (js : Left) → Settled qs js → field_of qs (field_premises h js) S s q j n r ≡ Some (F, js)
field_read w qs {q = q} (this_field {r = r} {F = F} {B = B} h p) js n =
    let more : Left = prop_premises p js in
    some_on (to_pi qs (with_reduct r (pi F B) h.place more) r) ((F, B), more) _ (F, js) (to_pi_there qs h.place more r F B h.stands (pi_settled qs more r F B (prop_next w qs p js n)))
    (some_on (prop_if q qs more F) js _ (F, js) (prop_read w qs p js n) refl)
field_read w qs {q = q} (field_before {r = r} {A = A} {B = B} {F = F} h p k) js n =
    let rest : Left = field_premises k js in
    let more : Left = prop_premises p rest in
    let m : Settled qs rest = field_next w qs k js n in
    some_on (to_pi qs (with_reduct r (pi A B) h.place more) r) ((A, B), more) _ (F, js) (to_pi_there qs h.place more r A B h.stands (pi_settled qs more r A B (prop_next w qs p rest m)))
    (some_on (prop_if (q && has_var 0 B) qs more A) rest _ (F, js) (prop_read w qs p rest m) (field_read w qs k js n))

pub is_less : (m n : ℕ) → m < n → nat_lt m n ≡ true
is_less m n e = grind (arith, nat_tests)

proj_passes : (w : Place) (qs : List Claim) (i j u v : ℕ) (p : Projectable w) (f : ℕ) (s T₀ T U R F : Tree) (l : Level) → f < p.ctor.fields → head T ≡ const p.name p.levels → args T ≡ p.args →
    slice_get qs i ≡ Some (types s T₀) → Stands qs j (reduces T₀ T) → slice_get qs u ≡ Some (types T U) → Stands qs v (reduces U (sort l)) →
    (a : EachParameter (Placed w qs) p.args p.ind.parameters (ctor_type p) R) (b : FieldAt (Placed w qs) p.name s (is_zero_level l) 0 f R F) →
    passes (type_proj w qs (i ∷ with_reduct T₀ T j (u ∷ with_reduct U (sort l) v (parameter_premises a (field_premises b [])))) (proj p.name f s) F) ≡ true
proj_passes w qs i j u v p f s T₀ T U R F l less hT aT e₁ e₂ e₃ e₄ a b =
    let S : Name = p.name in
    let ls : List Level = p.levels in
    let rest : Left = parameter_premises a (field_premises b []) in
    let sorts : Left = u ∷ with_reduct U (sort l) v rest in
    let fields : Settled qs (field_premises b []) = field_next w qs b [] (settled_end qs) in
    let settled : Settled qs rest = parameters_next w qs a (field_premises b []) fields in
    let ty : Tree = ctor_type p in
    let counts : Bool = nat_eq (length (args T)) (p.ind.parameters + p.ind.indices) && nat_eq (length ls) (length p.ctor.levels) in
    go_typed qs i (with_reduct T₀ T j sorts) s T₀ _ e₁
    (go_reduced qs j sorts T₀ T _ e₂ (λ y. typed_next qs u (with_reduct U (sort l) v rest) T₀ T U e₃)
    (go_on (as_const (head T)) (S, ls) _ (rw hT refl)
    (go_test (same_name S S) _ (same_self_name S)
    (go_on (w.means S) p.entry _ p.given
    (go_on (the_type p.entry.kind) (p.block, p.ind) _ (rw p.kind refl)
    (go_on (the_one p.ind.ctors) p.ctor _ (rw p.one_ctor refl)
    (go_test (counts && nat_lt f p.ctor.fields) _
    (and_true counts (nat_lt f p.ctor.fields)
    (and_true (nat_eq (length (args T)) (p.ind.parameters + p.ind.indices)) (nat_eq (length ls) (length p.ctor.levels))
    (are_equal (length (args T)) (p.ind.parameters + p.ind.indices) (ap (length {A = Tree}) aT ∙ p.args_are)) (are_equal (length ls) (length p.ctor.levels) p.levels_are))
    (is_less f p.ctor.fields less))
    (go_sorted qs u v rest T U l _ e₃ e₄ (sort_settled qs rest U l settled)
    (go_on (past qs rest (args T) p.ind.parameters ty) (R, field_premises b []) _ (subst (λ ys. past qs rest ys p.ind.parameters ty ≡ Some (R, field_premises b [])) (sym aT) (parameters_read w qs a (field_premises b []) fields))
    (go_on (field_of qs (field_premises b []) S s (is_zero_level l) 0 f R) (F, []) _ (field_read w qs b [] (settled_end qs)) (comes_itself F)))))))))))

pub can_proj : (w : Place) (p : Projectable w) (f : ℕ) (s T₀ R F : Tree) (l : Level) → CanWrite w (types s T₀) → CanWrite w (reduces T₀ (projectable_type p)) → f < p.ctor.fields → CanSort w (projectable_type p) l →
    EachParameter (CanWrite w) p.args p.ind.parameters (ctor_type p) R → FieldAt (CanWrite w) p.name s (is_zero_level l) 0 f R F → CanWrite w (types (proj p.name f s) F)
can_proj w p f s T₀ R F l hs hT less hS a b =
    let S : Name = p.name in
    let T : Tree = projectable_type p in
    let U : Tree = hS.between in
    let G : Claim = types (proj S f s) F in
    let h : IsShaped (types (proj S f s) F) = (hs.shaped.0, field_fine w b) in
    record {
      shaped = h;
      written = λ ps.
          next w ps (types s T₀) G (hs.written ps) (λ p₁ k₁ i e₁.
          next w p₁ (reduces T₀ T) G (hT.written p₁) (λ p₂ k₂ j e₂.
          next w p₂ (types T U) G (hS.typed.written p₂) (λ p₃ k₃ u e₃.
          next w p₃ (reduces U (sort l)) G (hS.reduced.written p₃) (λ p₄ k₄ v e₄.
          parameters_first w G a p₄ (λ p₅ k₅ x.
          field_first w G b p₅ (λ qs k₆ y.
          let z : EachParameter (Placed w qs) p.args p.ind.parameters (ctor_type p) R = parameters_map (λ c h. placed_later w p₅ qs k₆ c h) x in
          last_type w qs proj_rule (proj S f s) F (i ∷ with_reduct T₀ T j (u ∷ with_reduct U (sort l) v (parameter_premises z (field_premises y [])))) h
          (proj_passes w qs i j u v p f s T₀ T U R F l less (const_head p.name p.levels p.args) (const_args p.name p.levels p.args)
          (k₆ i (types s T₀) (k₅ i (types s T₀) (k₄ i (types s T₀) (k₃ i (types s T₀) (k₂ i (types s T₀) e₁)))))
          (k₆ j (reduces T₀ T) (k₅ j (reduces T₀ T) (k₄ j (reduces T₀ T) (k₃ j (reduces T₀ T) e₂))))
          (k₆ u (types T U) (k₅ u (types T U) (k₄ u (types T U) e₃)))
          (k₆ v (reduces U (sort l)) (k₅ v (reduces U (sort l)) e₄)) z y)))))));
    }
