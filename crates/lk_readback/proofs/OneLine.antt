-- One line more: a reader behind a text takes the item of the line, and is behind the longer text.
use Rattle.std.proofs.Common.{◌≡◌, ℕ, ◌+◌, ◌≤◌, ◌^◌, true, false, List, [], ◌∷◌}
use Rattle.std.proofs.Common.{◌++◌, length, None, Ok, refl, ap, sym, subst, ◌∙◌, append_assoc}
use Rattle.std.proofs.Common.{arith}
use Rattle.std.specs.Prelude.{All}
use Rattle.std.proofs.lemmas.Bool.Decides.{nat_tests}
use Rattle.std.proofs.lemmas.List.{length-append}
use Rattle.std.proofs.lemmas.List.Elements.{All-head}
use Rattle.lk_rulebook.specs.Place.{RecRule}
use Rattle.lk_lines.specs.declared.tags.Dialect.TheVariants as dialects
use Rattle.lk_lines.specs.Limits.{limits}
use Rattle.lk_lines.specs.Reading.{◌>>=◌}
use Rattle.lk_lines.specs.Items.{Item}
use Rattle.lk_lines.specs.Says.{said_in}
use Rattle.lk_units.specs.State.{State, take_item}
use Rattle.lk_book.specs.Course.{Course, begin_course, passed, taken, unless, at_line, step}
use Rattle.lk_book.specs.File.{lines_of, after, course_over}
use Rattle.lk_book.specs.Passing.{Leads}
use Rattle.lk_book.proofs.FirstLines.{lines_of-line, has_more-lines_of}
use Rattle.lk_trim.specs.Written.{File}
use Rattle.lk_readback.specs.Stated.{IsRead}
use Rattle.lk_readback.proofs.Growing.{Fits}
use Rattle.lk_readback.proofs.Fronts.{lines_behind}
use Rattle.lk_readback.proofs.Lines.{IsLine}

-- the course is where a reader is behind the text, of which some line was not blank
pub record IsBehind (text : List ℕ) (c : Course) : Type 0 where
  pub leads : Leads begin_course text c []
  pub dialect : c.dialect ≡ dialects.Export
  pub begun : c.first ≡ false
  pub before : c.before ≡ length text

-- behind one more line of so many bytes, whose item comes to this state
abbrev pub next : Course → ℕ → State → Course
next c n s =
    record c { first = false; number = c.number + 1; before = c.before + n + 1; state = s }

limits_none : (before n : ℕ) → before + n + 1 ≤ 2 ^ 40 → n ≤ 2 ^ 24 → limits before n true ≡ None
limits_none before n input line = grind (arith, nat_tests)

step_item : (c : Course) (bytes : List ℕ) (item : Item) (s : State) → c.dialect ≡ dialects.Export
    → c.first ≡ false → c.before + length bytes + 1 ≤ 2 ^ 40 → length bytes ≤ 2 ^ 24
    → IsLine bytes item → take_item (c.number + 1) c.state item ≡ Ok s
    → step c true bytes ≡ Ok (next c (length bytes) s)
unfolding step
step_item c bytes item s export begun input short line takes =
    let d : Course = passed c (length bytes) true in
    ap (λ o. at_line (c.number + 1) (unless o (said_in c.dialect c.first bytes >>= taken d)))
    (limits_none c.before (length bytes) input short)
    ∙ ap (λ k. at_line (c.number + 1) (said_in k c.first bytes >>= taken d)) export
    ∙ ap (λ b. at_line (c.number + 1) (said_in dialects.Export b bytes >>= taken d)) begun
    ∙ ap (λ r. at_line (c.number + 1) (r >>= taken d)) line.said
    ∙ ap (λ r. at_line (c.number + 1) (r >>= λ t. Ok (record d { first = false; state = t }))) takes

leads_line : (text bytes : List ℕ) (c d : Course) → Leads begin_course text c []
    → step c true bytes ≡ Ok d → (item : Item) → IsLine bytes item
    → Leads begin_course (text ++ (bytes ++ 10 ∷ [])) d []
leads_line text bytes c d leads goes item line rest =
    ap (λ l. course_over begin_course (lines_of l)) (append_assoc text (bytes ++ 10 ∷ []) rest)
    ∙ leads ((bytes ++ 10 ∷ []) ++ rest)
    ∙ ap (λ l. course_over c (lines_of l)) (append_assoc bytes (10 ∷ []) rest)
    ∙ ap (course_over c) (lines_of-line bytes rest line.one)
    ∙ ap (λ b. after (step c b bytes) (λ e. course_over e (lines_of rest))) (has_more-lines_of rest)
    ∙ ap (λ r. after r (λ e. course_over e (lines_of rest))) goes

-- the last line is within the limit of lines
line_short : (text bytes : List ℕ) (item : Item) → IsLine bytes item
    → All (λ line. length line ≤ 2 ^ 24) (lines_of (text ++ (bytes ++ 10 ∷ [])))
    → length bytes ≤ 2 ^ 24
line_short text bytes item line h =
    let P : List (List ℕ) → Type 0 = All (λ l. length l ≤ 2 ^ 24) in
    let last = lines_behind (2 ^ 24) text (bytes ++ 10 ∷ []) h in
    All-head (λ l. length l ≤ 2 ^ 24) bytes (lines_of [])
    (subst P (lines_of-line bytes [] line.one) last)

line_input : (text bytes : List ℕ) (c : Course) → c.before ≡ length text
    → c.before + length bytes + 1 ≡ length (text ++ (bytes ++ 10 ∷ []))
line_input text bytes c before =
    let one = length-append text (bytes ++ 10 ∷ []) in
    let two = length-append bytes (10 ∷ []) in
    omega arith

pub line_passed : (text bytes : List ℕ) (c : Course) (item : Item) (s : State)
    → IsBehind text c → IsLine bytes item
    → All (λ line. length line ≤ 2 ^ 24) (lines_of (text ++ (bytes ++ 10 ∷ [])))
    → length (text ++ (bytes ++ 10 ∷ [])) ≤ 2 ^ 40
    → take_item (c.number + 1) c.state item ≡ Ok s
    → IsBehind (text ++ (bytes ++ 10 ∷ [])) (next c (length bytes) s)
line_passed text bytes c item s behind line lines input takes =
    let long = line_input text bytes c behind.before in
    let goes =
    step_item c bytes item s behind.dialect behind.begun (omega arith)
    (line_short text bytes item line lines) line takes in
    record {
      leads = leads_line text bytes c (next c (length bytes) s) behind.leads goes item line;
      dialect = behind.dialect;
      begun = refl;
      before = long;
    }

pub read_behind : (f : File) (rules : List RecRule) (c : Course) → IsRead f rules c
    → IsBehind f.text c
read_behind f rules c read =
    record {
      leads = read.leads;
      dialect = read.dialect;
      begun = read.begun;
      before = read.before;
    }

-- a reader that stands behind a file passes one line more
pub line_read : (f g : File) (rules : List RecRule) (c : Course) (bytes : List ℕ) (item : Item)
    (s : State) (members : ℕ) → IsRead f rules c → IsLine bytes item
    → g.text ≡ f.text ++ (bytes ++ 10 ∷ []) → Fits members g
    → take_item (c.number + 1) c.state item ≡ Ok s
    → IsBehind g.text (next c (length bytes) s)
line_read f g rules c bytes item s members read line is fits takes =
    let Short : List ℕ → Type 0 = λ t. All (λ l. length l ≤ 2 ^ 24) (lines_of t) in
    let Long : List ℕ → Type 0 = λ t. length t ≤ 2 ^ 40 in
    let Behind : List ℕ → Type 0 = λ t. IsBehind t (next c (length bytes) s) in
    subst Behind (sym is)
    (line_passed f.text bytes c item s (read_behind f rules c read) line
    (subst Short is fits.lines) (subst Long is fits.input) takes)
