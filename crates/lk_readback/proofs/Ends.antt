-- The first line of a canonical text, and the empty one behind its last line feed.
use Rattle.std.proofs.Common.{◌≡◌, ◌≢◌, ℕ, zero, suc, ◌==◌, ◌≤◌, ◌^◌, true, false, List, [], ◌∷◌}
use Rattle.std.proofs.Common.{Some, None, Ok, refl, ap, sym, ◌∙◌, arith}
use Rattle.std.specs.Prelude.{slice_get, if◌then◌else◌, codes}
use Rattle.std.proofs.lemmas.Bool.Decides.{nat_tests}
use Rattle.std.proofs.lemmas.List.{append-nil}
use Rattle.std.proofs.lemmas.List.Elements.{All-nil, All-cons}
use Rattle.lk_token.specs.Fields.{fields_of, text_behind}
use Rattle.lk_token.specs.Lines.{HasNoLineFeed}
use Rattle.lk_lines.specs.Limits.{limits}
use Rattle.lk_lines.specs.declared.tags.Dialect.TheVariants as dialects
use Rattle.lk_lines.specs.Says.{said_at, said_below}
use Rattle.lk_units.specs.State.{begin}
use Rattle.lk_book.specs.Course.{Course, begin_course, passed, step}
use Rattle.lk_book.specs.File.{lines_of, after, course_over, course_in, course_of}
use Rattle.lk_book.specs.Passing.{Leads}
use Rattle.lk_book.proofs.FirstLines.{lines_of-line, lines_of-last, has_more-lines_of}
use Rattle.lk_trim.specs.Written.{beginning}
use Rattle.lk_readback.specs.Stated.{IsRead}

-- the course behind the version
abbrev pub begun : Course
begun = record { dialect = dialects.Export; first = false; number = 1; before = 6; state = begin }

version_step : step begin_course true (codes "2.0.0") ≡ Ok begun
unfolding step said_below said_at fields_of text_behind
version_step = refl

version_one : HasNoLineFeed (codes "2.0.0")
version_one =
    let P : ℕ → Type 0 = λ b. b ≢ 10 in
    let two : 50 ≢ 10 = omega arith in
    let dot : 46 ≢ 10 = omega arith in
    let none : 48 ≢ 10 = omega arith in
    All-cons P 50 (46 ∷ 48 ∷ 46 ∷ 48 ∷ []) two (All-cons P 46 (48 ∷ 46 ∷ 48 ∷ []) dot
    (All-cons P 48 (46 ∷ 48 ∷ []) none (All-cons P 46 (48 ∷ []) dot
    (All-cons P 48 [] none (All-nil P)))))

version_leads : Leads begin_course beginning.text begun []
version_leads rest =
    ap (course_over begin_course) (lines_of-line (codes "2.0.0") rest version_one)
    ∙ ap (λ b. after (step begin_course b (codes "2.0.0")) (λ e. course_over e (lines_of rest)))
    (has_more-lines_of rest)
    ∙ ap (λ r. after r (λ e. course_over e (lines_of rest))) version_step

only_first : {X : Type 0} (x : X) (n : ℕ)
    → (if n == 0 then Some x else None) ≡ slice_get (x ∷ []) n
only_first x zero = refl
only_first x (suc n) = let apart : (suc n == 0) ≡ false = grind (arith, nat_tests) in rw apart refl

pub beginning_read : IsRead beginning [] begun
beginning_read = record {
  leads = version_leads;
  dialect = refl;
  begun = refl;
  before = refl;
  anonymous = refl;
  zero = refl;
  names = only_first _;
  levels = only_first _;
  trees = λ n. refl;
  rules_are = λ n. refl;
  rules_many = refl;
  count = refl;
}

-- behind the last line feed nothing follows
last_step : (c : Course) → c.first ≡ false → c.before ≤ 2 ^ 40
    → step c false [] ≡ Ok (passed c 0 false)
unfolding step said_below said_at fields_of text_behind
last_step c first small =
    let none : limits c.before 0 false ≡ None = grind (arith, nat_tests) in rw (first, none) refl

pub read_to_end : (text : List ℕ) (c : Course) → Leads begin_course text c [] → c.first ≡ false
    → c.before ≤ 2 ^ 40 → course_of text ≡ Ok (passed c 0 false)
unfolding course_in
read_to_end text c leads first small =
    ap (λ l. course_over begin_course (lines_of l)) (sym (append-nil text))
    ∙ leads []
    ∙ ap (course_over c) (lines_of-last [] (All-nil (λ b. b ≢ 10)))
    ∙ ap (λ r. after r (λ e. Ok e)) (last_step c first small)
