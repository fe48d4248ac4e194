-- What is written.
use Rattle.std.specs.Prelude.{ℕ, ◌+◌, Bool, true, false, List, [], ◌∷◌, ◌++◌, length, slice_get}
use Rattle.std.specs.Prelude.{Option, Some, None, decimal, codes, drop, if◌then◌else◌}
use Rattle.std.specs.List.{flat_map}
use Rattle.lk_tree.specs.Tree.{Name, Part, text, number}
use Rattle.lk_lines.specs.declared.line.Fault.{Fault}
use Rattle.lk_lines.specs.Words.{word_text}
use Rattle.lk_tree.specs.declared.rule.Rule.{Rule}
use Rattle.lk_tree.specs.declared.rule.Rule.TheVariants.{UnknownConstant, LevelCount}
use Rattle.lk_tree.specs.declared.rule.Rule.TheVariants.{UndeclaredLevel, DuplicateLevel}
use Rattle.lk_tree.specs.declared.rule.Rule.TheVariants.{DuplicateName, LooseVariable, NotASort}
use Rattle.lk_tree.specs.declared.rule.Rule.TheVariants.{NotAFunction, ArgumentType, LetType}
use Rattle.lk_tree.specs.declared.rule.Rule.TheVariants.{ValueType, TheoremNotProp, BadProjection}
use Rattle.lk_tree.specs.declared.rule.Rule.TheVariants.{PropProjection, WideLiteral, NoBuiltin}
use Rattle.lk_tree.specs.declared.rule.Rule.TheVariants.{BuiltinShape, QuotShape, LevelWidth}
use Rattle.lk_tree.specs.declared.rule.Rule.TheVariants.{BlockShape, ParameterDiffers}
use Rattle.lk_tree.specs.declared.rule.Rule.TheVariants.{ConstructorResult, NotPositive}
use Rattle.lk_tree.specs.declared.rule.Rule.TheVariants.{FieldUniverse, NestedForm, RecursorDiffers}
use Rattle.lk_tree.specs.declared.rule.Rule.TheVariants.{NatLaw, AxiomNotAllowed}
use Rattle.lk_text.specs.declared.counts.VerdictKind.{VerdictKind}
use Rattle.lk_text.specs.declared.counts.VerdictKind.TheVariants.{Yes, No, Memory}
use Rattle.lk_text.specs.declared.submissions.Submission.{Submission}
use Rattle.lk_rulebook.specs.Units.{Body, as_axiom, as_def, as_thm, as_opaque, as_quot, LibraryUnit}
use Rattle.lk_rulebook.specs.Units.{of_decl, of_block, Library, Members, members_of}
use Rattle.lk_reach.specs.Computed.{axioms_of}
use Rattle.lk_verdict.specs.Told.{Verdict, accepted, rejected, out_of_steps, out_of_memory}

-- the line of a file's fault
abbrev pub bad_line : Fault → List ℕ
bad_line f = codes "bad line " ++ (decimal f.line ++ (32 ∷ (word_text f.word ++ 10 ∷ [])))

abbrev pub part_text : Part → List ℕ
part_text (text bytes) = bytes
part_text (number n) = decimal n

-- components, with a dot before each
abbrev pub dotted : Name → List ℕ
dotted [] = []
dotted (p ∷ ps) = 46 ∷ (part_text p ++ dotted ps)

-- components as they are, joined by dots
abbrev pub name_text : Name → List ℕ
name_text [] = codes "[anonymous]"
name_text (p ∷ ps) = part_text p ++ dotted ps

abbrev pub rule_word : Rule → List ℕ
rule_word UnknownConstant = codes "UnknownConstant"
rule_word LevelCount = codes "LevelCount"
rule_word UndeclaredLevel = codes "UndeclaredLevel"
rule_word DuplicateLevel = codes "DuplicateLevel"
rule_word DuplicateName = codes "DuplicateName"
rule_word LooseVariable = codes "LooseVariable"
rule_word NotASort = codes "NotASort"
rule_word NotAFunction = codes "NotAFunction"
rule_word ArgumentType = codes "ArgumentType"
rule_word LetType = codes "LetType"
rule_word ValueType = codes "ValueType"
rule_word TheoremNotProp = codes "TheoremNotProp"
rule_word BadProjection = codes "BadProjection"
rule_word PropProjection = codes "PropProjection"
rule_word WideLiteral = codes "WideLiteral"
rule_word NoBuiltin = codes "NoBuiltin"
rule_word BuiltinShape = codes "BuiltinShape"
rule_word QuotShape = codes "QuotShape"
rule_word LevelWidth = codes "LevelWidth"
rule_word BlockShape = codes "BlockShape"
rule_word ParameterDiffers = codes "ParameterDiffers"
rule_word ConstructorResult = codes "ConstructorResult"
rule_word NotPositive = codes "NotPositive"
rule_word FieldUniverse = codes "FieldUniverse"
rule_word NestedForm = codes "NestedForm"
rule_word RecursorDiffers = codes "RecursorDiffers"
rule_word NatLaw = codes "NatLaw"
rule_word AxiomNotAllowed = codes "AxiomNotAllowed"

abbrev pub body_word : Body → List ℕ
body_word as_axiom = codes "axiom"
body_word (as_def h v) = codes "def"
body_word (as_thm v) = codes "thm"
body_word (as_opaque v) = codes "opaque"
body_word as_quot = codes "quot"

-- the word of what a unit is
abbrev pub kind_word : LibraryUnit → List ℕ
kind_word (of_decl d) = body_word d.body
kind_word (of_block b rs) = codes "block"

-- a unit goes by the name of its first member
abbrev pub first_name : Members → Name
first_name [] = []
first_name (m ∷ ms) = m.0

abbrev pub name_word : LibraryUnit → List ℕ
name_word u = name_text (first_name (members_of u))

-- unit n of this kind and name, to the end of the line
unfoldable pub title_text : List ℕ → ℕ → List ℕ → List ℕ
title_text kind n name = kind ++ (32 ∷ (decimal n ++ (32 ∷ (name ++ 10 ∷ []))))

-- the line of a unit, after a word
abbrev pub head_text : List ℕ → List ℕ → ℕ → List ℕ → List ℕ
head_text word kind n name = word ++ (32 ∷ title_text kind n name)

abbrev pub why_text : List ℕ → List ℕ
why_text word = codes "  why " ++ (word ++ 10 ∷ [])

-- the lines of unit n of this kind and name
abbrev pub verdict_text : List ℕ → ℕ → List ℕ → Verdict → List ℕ
verdict_text kind n name accepted = head_text (codes "yes") kind n name
verdict_text kind n name (rejected r) = head_text (codes "no") kind n name ++ why_text (rule_word r)
verdict_text kind n name out_of_steps =
    head_text (codes "no") kind n name ++ why_text (codes "steps")
verdict_text kind n name out_of_memory =
    head_text (codes "no") kind n name ++ why_text (codes "memory")

-- the line of an axiom of this name
abbrev pub axiom_text : List ℕ → List ℕ
axiom_text name = codes "  axiom " ++ (name ++ 10 ∷ [])

-- the line of the axiom that stands there
abbrev pub axiom_at : Option LibraryUnit → List ℕ
axiom_at None = []
axiom_at (Some u) = axiom_text (name_word u)

-- the lines of axioms, by their numbers
abbrev pub axioms_text : Library → List ℕ → List ℕ
axioms_text us [] = []
axioms_text us (k ∷ ks) = axiom_at (slice_get us k) ++ axioms_text us ks

-- the lines of the units from number n on, each with those of the axioms that it rests on
abbrev pub lines_text : Library → ℕ → Library → List Verdict → List ℕ
lines_text us n [] vs = []
lines_text us n (u ∷ more) [] = []
lines_text us n (u ∷ more) (v ∷ vs) =
    verdict_text (kind_word u) n (name_word u) v ++
    (axioms_text us (axioms_of us n) ++ lines_text us (n + 1) more vs)

-- whether a verdict is of this kind
abbrev pub is_of : VerdictKind → Verdict → Bool
is_of Yes accepted = true
is_of Yes (rejected r) = false
is_of Yes out_of_steps = false
is_of Yes out_of_memory = false
is_of No accepted = false
is_of No (rejected r) = true
is_of No out_of_steps = true
is_of No out_of_memory = false
is_of Memory accepted = false
is_of Memory (rejected r) = false
is_of Memory out_of_steps = false
is_of Memory out_of_memory = true

-- how many are of this kind
abbrev pub count : VerdictKind → List Verdict → ℕ
count k [] = 0
count k (v ∷ vs) = if is_of k v then count k vs + 1 else count k vs

-- a number behind a word
unfoldable pub counted_text : List ℕ → ℕ → List ℕ
counted_text word n = word ++ decimal n

-- the last line
abbrev pub summary_text : List Verdict → List ℕ
summary_text vs =
    counted_text (codes "units ") (length vs) ++ (counted_text (codes " yes ") (count Yes vs) ++
    (counted_text (codes " no ") (count No vs) ++
    (counted_text (codes " memory ") (count Memory vs) ++ 10 ∷ [])))

-- the line that says how many units were checked
abbrev pub checked_line : ℕ → List ℕ
checked_line n = counted_text (codes "checked ") n ++ 10 ∷ []

-- the whole text for these units and verdicts
abbrev pub report_text : Library → List Verdict → List ℕ
report_text us vs = lines_text us 0 us vs ++ summary_text vs

-- a submission to a session, as it is written: its tag, and its units
pub record Submitted : Type 0 where
  pub tag : ℕ
  pub units : Library

-- what a call is told of it: its tag, and how many units it has
abbrev pub told_of : Submitted → Submission
told_of s = record { tag = s.tag; units = length s.units }

-- the line that begins a submission
abbrev pub submission_line : ℕ → List ℕ
submission_line tag = counted_text (codes "submission ") tag ++ 10 ∷ []

-- the lines of submissions, whose units stand one after another from number n on
abbrev pub submissions_text : Library → ℕ → List Submitted → List Verdict → List ℕ
submissions_text us n [] vs = []
submissions_text us n (s ∷ more) vs =
    submission_line s.tag ++ (lines_text us n s.units vs
    ++ submissions_text us (n + length s.units) more (drop (length s.units) vs))

-- the units of submissions, one after another
abbrev pub submitted_units : List Submitted → Library
submitted_units ss = flat_map (λ (s : Submitted). s.units) ss

-- the whole text of a session
abbrev pub session_text : List Submitted → List Verdict → List ℕ
session_text ss vs = submissions_text (submitted_units ss) 0 ss vs ++ summary_text vs
