-- Whole sections: the lines one by one, each on those before it, and the last line, which names the
-- parts of a good unit.
use Rattle.std.specs.Prelude.{ℕ, suc, length, nat_eq, Bool, false, ◌&&◌, List, [], ◌∷◌, ◌++◌}
use Rattle.std.specs.Prelude.{Option, Some, None, slice_get, if◌then◌else◌}
use Rattle.lk_tree.specs.Tree.{Name, Level, Tree}
use Rattle.lk_tree.specs.Level.{is_zero_level}
use Rattle.lk_rulebook.specs.Place.{Place}
use Rattle.lk_rulebook.specs.Units.{Body, as_axiom, as_def, as_thm, as_opaque, as_quot, Decl}
use Rattle.lk_rulebook.specs.Units.{LibraryUnit, of_decl, of_block, Library, place_of}
use Rattle.lk_rulebook.specs.Scan.{is_none, scan_of}
use Rattle.lk_tree.specs.Operations.{Op}
use Rattle.lk_rulebook.specs.NumberLaws.{Law, laws_of, stated_by}
use Rattle.lk_questions.specs.QuotientUnits.{quot_steps}
use Rattle.lk_questions.specs.Shapes.{nat_shape}
use Rattle.lk_questions.specs.NumberLaws.{lawful_op, def_given, held_given}
use Rattle.lk_rulebook.specs.Claims.{Claim}
use Rattle.lk_written.specs.Line.{Line, ty, rd, cv, claim_of}
use Rattle.lk_questions.specs.Tests.{◌>>=◌, test, passes, found}
use Rattle.lk_written.specs.Premises.{is_fine, Left, ends, typed, equal, sorted}
use Rattle.lk_written.specs.Typing.{type_test}
use Rattle.lk_written.specs.Reducing.{red_test}
use Rattle.lk_written.specs.Equal.{eq_test}

-- the lines of a section, and the premises of its last line
pub record Section : Type 0 where
  pub lines : List Line
  pub parts : List ℕ

abbrev pub are_fine : Tree → Tree → Bool
are_fine a b = is_fine 0 a && is_fine 0 b

-- the line is an instance of its rule at w, where the lines before it state ps
abbrev pub line_holds : Place → List Claim → Line → Bool
line_holds w ps (ty r e T js) = are_fine e T && passes (type_test w ps r e T js)
line_holds w ps (rd r a b js) = are_fine a b && passes (red_test w ps r a b js)
line_holds w ps (cv r a b js) = are_fine a b && passes (eq_test w ps r a b js)

-- what the lines state, where each holds
abbrev pub claims_by : Place → List Claim → List Line → Option (List Claim)
claims_by w ps [] = Some ps
claims_by w ps (l ∷ ls) =
    if line_holds w ps l then claims_by w (ps ++ (claim_of l ∷ [])) ls else None

-- value => V, V == type; the premises after them
abbrev pub value_read : List Claim → Left → Tree → Tree → Option Left
value_read ps js type value = do
  V ← typed ps js value
  equal ps V.1 V.0 type

abbrev pub value_test : List Claim → Left → Tree → Tree → Option (Unit {0})
value_test ps js type value = do
  r ← value_read ps js type value
  ends r

-- left == right for each law; the name that a law holds is given
abbrev pub laws_read : Place → List Claim → Left → List Law → Option (Unit {0})
laws_read w ps js [] = ends js
laws_read w ps js (law ∷ laws) = do
  u ← found w (held_given law.holds)
  r ← equal ps js law.left law.right
  laws_read w ps r laws

-- of a def with these level parameters and this value that is named as an operation with laws: then
-- its laws
abbrev pub laws_test : Place → List Claim → Left → Option Op → List Name → Tree → Option (Unit {0})
laws_test w ps js None ls value = ends js
laws_test w ps js (Some op) ls value = do
  u ← found w nat_shape
  v ← test (nat_eq (length ls) 0)
  y ← found w (def_given (stated_by op))
  laws_read w ps js (laws_of op value)

abbrev pub body_test : Place → List Claim → Left → Decl → Level → Body → Option (Unit {0})
body_test w ps js d l as_axiom = ends js
body_test w ps js d l (as_def h value) = do
  r ← value_read ps js d.type value
  laws_test w ps r (lawful_op d.name) d.levels value
body_test w ps js d l (as_thm value) = test (is_zero_level l) >>= λ u. value_test ps js d.type value
body_test w ps js d l (as_opaque value) = value_test ps js d.type value
body_test w ps js d l as_quot = found w (quot_steps d.name d.levels d.type) >>= λ u. ends js

-- sort type = l, then the body's
abbrev pub parts_test : Place → List Claim → Left → Decl → Option (Unit {0})
parts_test w ps js d = do
  l ← sorted ps js d.type
  body_test w ps l.1 d l.0 d.body

abbrev pub section_test : Place → Decl → Section → Option (Unit {0})
section_test w d s = do
  ps ← claims_by w [] s.lines
  parts_test w ps s.parts d

-- the section is one of unit n, which is no block
abbrev pub unit_section : Library → ℕ → LibraryUnit → Section → Bool
unit_section us n (of_decl d) s =
    is_none (scan_of us n (of_decl d)) && passes (section_test (place_of us n []) d s)
unit_section us n (of_block b rs) s = false

abbrev pub section_holds : Library → ℕ → Section → Bool
section_holds us n s = elim (slice_get us n) [ Some u ↦ unit_section us n u s | None ↦ false ]

-- the place of the first line that does not hold, where the first of them has place i
abbrev pub line_at_fault : Place → List Claim → ℕ → List Line → Option ℕ
line_at_fault w ps i [] = None
line_at_fault w ps i (l ∷ ls) =
    if line_holds w ps l then line_at_fault w (ps ++ (claim_of l ∷ [])) (suc i) ls else Some i

-- else the place behind them, which is that of the line that ends the section, where the names, the
-- scan or the parts are at fault
abbrev pub unit_at_fault : Library → ℕ → LibraryUnit → Section → Option ℕ
unit_at_fault us n u s = elim (line_at_fault (place_of us n []) [] 0 s.lines) [
  | Some i ↦ Some i
  | None ↦ if unit_section us n u s then None else Some (length s.lines)
]

-- the place of the first line of the section that is at fault, from 0 on
abbrev pub section_at_fault : Library → ℕ → Section → Option ℕ
section_at_fault us n s = elim (slice_get us n) [
  | Some u ↦ unit_at_fault us n u s
  | None ↦ Some (length s.lines)
]
