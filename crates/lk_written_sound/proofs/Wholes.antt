-- A declaration whose parts can be written has a section that holds.
use Rattle.std.proofs.Common.{ℕ, nat_eq, length, ◌≡◌, Bool, true, false, List, [], ◌∷◌, Option, Some, None, refl}
use Rattle.std.specs.Prelude.{slice_get}
use Rattle.lk_tree.specs.Tree.{Name, Level, Tree, sort}
use Rattle.lk_tree.specs.Operations.{Op}
use Rattle.lk_rulebook.specs.NumberLaws.{Law, laws_of, stated_by}
use Rattle.lk_questions.specs.Shapes.{nat_shape}
use Rattle.lk_questions.specs.NumberLaws.{lawful_op, def_given, held_given}
use Rattle.lk_tree.specs.Level.{is_zero_level}
use Rattle.lk_tree.proofs.Scans.{and_true}
use Rattle.lk_rulebook.specs.Place.{Place}
use Rattle.lk_rulebook.specs.Units.{Body, as_axiom, as_def, as_thm, as_opaque, as_quot, Decl, LibraryUnit, of_decl, Library, place_of}
use Rattle.lk_rulebook.specs.Scan.{IsScanned, is_none, scan_of}
use Rattle.lk_rulebook.proofs.Scans.{scan_passes}
use Rattle.lk_questions.specs.QuotientUnits.{quot_steps}
use Rattle.lk_rulebook.specs.Claims.{Claim, types, reduces, equals}
use Rattle.lk_questions.specs.Tests.{passes, found}
use Rattle.lk_written.specs.Premises.{Left, typed}
use Rattle.lk_written.specs.Section.{Section, claims_by, value_read, value_test, laws_read, laws_test, body_test, parts_test, section_test, unit_section, section_holds}
use Rattle.lk_written.specs.Written.{Stands, CanBe, CanMeet, CanBeLawful, CanBody, CanDeclare}
use Rattle.lk_claims.proofs.Facts.{some_on}
use Rattle.lk_written_sound.proofs.Writings.{Stays, go_on, go_test, NoReduct, with_reduct, with_equal, typed_there, equal_there, typed_next, go_equal, go_sorted, Finishes, finish, go_first}

-- premises that the parts pass with
abbrev Parts : Place → Decl → List Claim → Type 0
Parts w d qs = (js : Left) × (passes (parts_test w qs js d) ≡ true)

-- and those of the body
abbrev BodyParts : Place → Decl → Level → Body → List Claim → Type 0
BodyParts w d l b qs = (js : Left) × (passes (body_test w qs js d l b) ≡ true)

-- where the two claims of a value stand
record ValueStands (qs : List Claim) (type value inferred : Tree) : Type 0 where
  typed_at : ℕ
  equal_at : ℕ
  is_typed : slice_get qs typed_at ≡ Some (types value inferred)
  is_equal : Stands qs equal_at (equals inferred type)

stands_later : (ps qs : List Claim) (type value V : Tree) → Stays ps qs → ValueStands ps type value V → ValueStands qs type value V
stands_later ps qs type value V k h = record { typed_at = h.typed_at; equal_at = h.equal_at; is_typed = k h.typed_at (types value V) h.is_typed; is_equal = k h.equal_at (equals V type) h.is_equal }

abbrev value_premises : {qs : List Claim} {type value V : Tree} → ValueStands qs type value V → Left → Left
value_premises {type = type} {V = V} h js = h.typed_at ∷ with_equal V type h.equal_at js

value_there : (qs : List Claim) (type value V : Tree) (h : ValueStands qs type value V) (js : Left) → value_read qs (value_premises h js) type value ≡ Some js
value_there qs type value V h js =
    some_on (typed qs (h.typed_at ∷ with_equal V type h.equal_at js) value) (V, with_equal V type h.equal_at js) _ js (typed_there qs h.typed_at (with_equal V type h.equal_at js) value V h.is_typed) (equal_there qs h.equal_at js V type h.is_equal)

value_written : (w : Place) (ps : List Claim) (type value : Tree) (P : List Claim → Type 0) (h : CanBe w value type) → ((qs : List Claim) → Stays ps qs → ValueStands qs type value h.inferred → Finishes w qs P) → Finishes w ps P
value_written w ps type value P h f =
    go_first w ps (types value h.inferred) P (h.typed.written ps) (λ p₁ k₁ i e.
    go_first w p₁ (equals h.inferred type) P (h.equal.written p₁) (λ qs k₂ j e₂.
    f qs (λ n c x. k₂ n c (k₁ n c x)) (record { typed_at = i; equal_at = j; is_typed = k₂ i (types value h.inferred) e; is_equal = e₂ })))

-- no reduction is next
abbrev NoneNext : List Claim → Left → Type 0
NoneNext qs js = (e : Tree) → NoReduct qs js e

value_next : (qs : List Claim) (type value V : Tree) (h : ValueStands qs type value V) (js : Left) → NoneNext qs (value_premises h js)
value_next qs type value V h js e = typed_next qs h.typed_at (with_equal V type h.equal_at js) e value V h.is_typed

value_alone : (w : Place) (ps : List Claim) (type value : Tree) (P : List Claim → Type 0) → CanBe w value type →
    ((qs : List Claim) → Stays ps qs → (js : Left) → NoneNext qs js → passes (value_test qs js type value) ≡ true → P qs) → Finishes w ps P
value_alone w ps type value P h f =
    value_written w ps type value P h (λ qs k s.
    finish w qs P (f qs k (value_premises s []) (value_next qs type value h.inferred s []) (go_on (value_read qs (value_premises s []) type value) [] _ (value_there qs type value h.inferred s []) refl)))

-- each law, one after the other
laws_written : (w : Place) (ps : List Claim) (laws : List Law) (P : List Claim → Type 0) → CanMeet w laws →
    ((qs : List Claim) → Stays ps qs → (js : Left) → passes (laws_read w qs js laws) ≡ true → P qs) → Finishes w ps P
laws_written w ps [] P h f = finish w ps P (f ps (λ n c x. x) [] refl)
laws_written w ps (law ∷ laws) P h f =
    go_first w ps (equals law.left law.right) P (h.0.1.written ps) (λ p₁ k₁ i e.
    laws_written w p₁ laws P h.1 (λ qs k₂ js x.
    f qs (λ n c y. k₂ n c (k₁ n c y)) (with_equal law.left law.right i js)
    (go_on (found w (held_given law.holds)) tt _ h.0.0
    (go_equal qs i js law.left law.right _ (k₂ i (equals law.left law.right) e) x))))

lawful_written : (w : Place) (ps : List Claim) (o : Option Op) (ls : List Name) (value : Tree) (P : List Claim → Type 0) → CanBeLawful w o ls value →
    ((qs : List Claim) → Stays ps qs → (js : Left) → passes (laws_test w qs js o ls value) ≡ true → P qs) → Finishes w ps P
lawful_written w ps None ls value P h f = finish w ps P (f ps (λ n c x. x) [] refl)
lawful_written w ps (Some op) ls value P h f =
    laws_written w ps (laws_of op value) P h.3 (λ qs k js x.
    f qs k js (go_on (found w nat_shape) tt _ h.0 (go_test (nat_eq (length ls) 0) _ h.1 (go_on (found w (def_given (stated_by op))) tt _ h.2 x))))

body_written : (w : Place) (ps : List Claim) (d : Decl) (l : Level) (b : Body) (P : List Claim → Type 0) → CanBody w d l b →
    ((qs : List Claim) → Stays ps qs → (js : Left) → NoneNext qs js → passes (body_test w qs js d l b) ≡ true → P qs) → Finishes w ps P
body_written w ps d l as_axiom P h f = finish w ps P (f ps (λ n c x. x) [] (λ e. refl) refl)
body_written w ps d l (as_def i value) P h f =
    let V : Tree = h.0.inferred in
    value_written w ps d.type value P h.0 (λ p₁ k₁ s.
    lawful_written w p₁ (lawful_op d.name) d.levels value P h.1 (λ qs k₂ js x.
    let t : ValueStands qs d.type value V = stands_later p₁ qs d.type value V k₂ s in
    f qs (λ n c y. k₂ n c (k₁ n c y)) (value_premises t js) (value_next qs d.type value V t js) (go_on (value_read qs (value_premises t js) d.type value) js _ (value_there qs d.type value V t js) x)))
body_written w ps d l (as_opaque value) P h f = value_alone w ps d.type value P h f
body_written w ps d l (as_thm value) P h f = value_alone w ps d.type value P h.0 (λ qs k js n x. f qs k js n (go_test (is_zero_level l) _ h.1 x))
body_written w ps d l as_quot P h f = finish w ps P (f ps (λ n c x. x) [] (λ e. refl) (go_on (found w (quot_steps d.name d.levels d.type)) tt _ h refl))

parts_written : (w : Place) (d : Decl) → CanDeclare w d → Finishes w [] (Parts w d)
parts_written w d h =
    let l : Level = h.level in
    let S : Tree = h.sorted.between in
    go_first w [] (types d.type S) (Parts w d) (h.sorted.typed.written []) (λ p₁ k₁ i e.
    go_first w p₁ (reduces S (sort l)) (Parts w d) (h.sorted.reduced.written p₁) (λ p₂ k₂ j e₂.
    body_written w p₂ d l d.body (Parts w d) h.body (λ qs k₃ js n x. (
      i ∷ with_reduct S (sort l) j js,
      go_sorted qs i j js d.type S l _ (k₃ i (types d.type S) (k₂ i (types d.type S) e)) (k₃ j (reduces S (sort l)) e₂) (λ y. n S) x,
    ))))

section_written : (w : Place) (d : Decl) → Finishes w [] (Parts w d) → (s : Section) × (passes (section_test w d s) ≡ true)
section_written w d f = (record { lines = f.lines; parts = f.has.0 }, go_on (claims_by w [] f.lines) f.claims _ f.holds f.has.1)

at_unit : (us : Library) (n : ℕ) (o : Option LibraryUnit) (u : LibraryUnit) (s : Section) → o ≡ Some u → unit_section us n u s ≡ true → elim o as (λ y. Bool) [ Some u ↦ unit_section us n u s | None ↦ false ] ≡ true
at_unit us n (Some v) u s e h = let i : v ≡ u = cc in rw i h
at_unit us n None u s e h = absurd cc

pub declaration_written : (us : Library) (n : ℕ) (d : Decl) → slice_get us n ≡ Some (of_decl d) → IsScanned us n (of_decl d) → CanDeclare (place_of us n []) d → (s : Section) × (section_holds us n s ≡ true)
declaration_written us n d at sc h =
    let w : Place = place_of us n [] in
    let x : (s : Section) × (passes (section_test w d s) ≡ true) = section_written w d (parts_written w d h) in
    let y : is_none (scan_of us n (of_decl d)) ≡ true = rw (scan_passes us n (of_decl d) sc) refl in
    (x.0, at_unit us n (slice_get us n) (of_decl d) x.0 at (and_true (is_none (scan_of us n (of_decl d))) (passes (section_test w d x.0)) y x.1))
