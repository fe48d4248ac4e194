-- The last line of a section holds where it names the parts of a declaration that is answered yes.
use Rattle.std.proofs.Common.{ℕ, ◌≡◌, true, nat_eq, length, List, [], ◌∷◌, Option, Some, None}
use Rattle.lk_tree.specs.Tree.{Name, Level, Tree}
use Rattle.lk_tree.specs.Level.{is_zero_level}
use Rattle.lk_tree.specs.Operations.{Op}
use Rattle.lk_rulebook.specs.Place.{Place}
use Rattle.lk_rulebook.specs.Units.{Body, as_axiom, as_def, as_thm, as_opaque, as_quot, Decl}
use Rattle.lk_rulebook.specs.NumberLaws.{Law, laws_of, stated_by}
use Rattle.lk_rulebook.specs.Claims.{Claim}
use Rattle.lk_questions.specs.Shapes.{nat_shape}
use Rattle.lk_questions.specs.QuotientUnits.{quot_steps}
use Rattle.lk_questions.specs.NumberLaws.{lawful_op, def_given, held_given}
use Rattle.lk_questions.specs.Tests.{passes, found}
use Rattle.lk_claims.proofs.Facts.{some_on}
use Rattle.lk_written.specs.Premises.{Left, typed, equal, sorted}
use Rattle.lk_written.specs.Section.{Section, claims_by, value_read, value_test, laws_read, laws_test, body_test, parts_test, section_test}
use Rattle.lk_written_sound.proofs.Writings.{go_on, go_test}
use Rattle.lk_step.proofs.Naming.{Named, Leaves, NextIsOther, typed_gives, sorted_gives, equal_leaves, go_gives, go_leaves, ends_named}
use Rattle.lk_derive.specs.Units.{AreMet, IsLawful, HasBody, HasParts, value_parts, law_parts, lawful_parts, body_parts, parts_of}

value_leaves : {ps cs : List Claim} {js : Left} {value V type : Tree} → Named ps (value_parts value V type cs) js → Leaves ps cs (value_read ps js type value)
value_leaves {ps} {cs} {js} {value} {V} {type} n =
    let t = typed_gives n in
    let e = equal_leaves t.named in
    record { more = e.more; given = some_on (typed ps js value) (V, t.more) _ e.more t.given e.given; named = e.named }

value_passes : {ps : List Claim} {js : Left} {value V type : Tree} → Named ps (value_parts value V type []) js → passes (value_test ps js type value) ≡ true
value_passes {ps} {js} {value} {V} {type} n = go_leaves (value_read ps js type value) _ (value_leaves n) (λ ks m. ends_named m)

module _ (w : Place) (most : ℕ) (ps : List Claim) where
  laws_pass : (laws : List Law) (js : Left) → AreMet w most laws → Named ps (law_parts laws) js → passes (laws_read w ps js laws) ≡ true
  laws_pass [] js h n = ends_named n
  laws_pass (law ∷ laws) js h n =
      go_on (found w (held_given law.holds)) tt _ h.0.0
      (go_leaves (equal ps js law.left law.right) _ (equal_leaves n) (λ ks m. laws_pass laws ks h.1 m))

  lawful_passes : (o : Option Op) (ls : List Name) (value : Tree) (js : Left) → IsLawful w most o ls value → Named ps (lawful_parts o value) js → passes (laws_test w ps js o ls value) ≡ true
  lawful_passes None ls value js h n = ends_named n
  lawful_passes (Some op) ls value js h n =
      go_on (found w nat_shape) tt _ h.0 (go_test (nat_eq (length ls) 0) _ h.1 (go_on (found w (def_given (stated_by op))) tt _ h.2 (laws_pass (laws_of op value) js h.3 n)))

  module _ (d : Decl) (l : Level) where
    body_passes : (b : Body) (h : HasBody w most d l b) (js : Left) → Named ps (body_parts w most d l b h) js → passes (body_test w ps js d l b) ≡ true
    body_passes as_axiom h js n = ends_named n
    body_passes (as_def i value) h js n =
        go_leaves (value_read ps js d.type value) _ (value_leaves n) (λ ks m. lawful_passes (lawful_op d.name) d.levels value ks h.1 m)
    body_passes (as_thm value) h js n = go_test (is_zero_level l) _ h.1 (value_passes n)
    body_passes (as_opaque value) h js n = value_passes n
    body_passes as_quot h js n = go_on (found w (quot_steps d.name d.levels d.type)) tt _ h (ends_named n)

    -- what is named behind the sort of the type is no reduction
    typing_next : (S : Tree) (b : Body) (h : HasBody w most d l b) → NextIsOther (body_parts w most d l b h) S
    typing_next S as_axiom h = tt
    typing_next S (as_def i value) h = tt
    typing_next S (as_thm value) h = tt
    typing_next S (as_opaque value) h = tt
    typing_next S as_quot h = tt

  parts_pass : (d : Decl) (h : HasParts w most d) (js : Left) → Named ps (parts_of w most d h) js → passes (parts_test w ps js d) ≡ true
  parts_pass d h js n =
      go_gives (sorted ps js d.type) h.level _ (sorted_gives n (λ e. typing_next d h.level h.sorted.between d.body h.body))
      (λ ks m. body_passes d h.level d.body h.body ks m)

pub section_passes : (w : Place) (most : ℕ) (d : Decl) (h : HasParts w most d) (s : Section) (ps : List Claim) → claims_by w [] s.lines ≡ Some ps → Named ps (parts_of w most d h) s.parts → passes (section_test w d s) ≡ true
section_passes w most d h s ps lines n = go_on (claims_by w [] s.lines) ps _ lines (parts_pass w most ps d h s.parts n)
