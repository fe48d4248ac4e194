-- What structure eta goes on with, once the answer is there that it waits for.
use Rattle.std.specs.Prelude.{ℕ, ◌+◌, Bool, false, ◌&&◌, nat_eq, List, drop, length, Option, Some, None, Result, if◌then◌else◌}
use Rattle.lk_tree.specs.Tree.{Tree, const}
use Rattle.lk_tree.specs.Spine.{head, args}
use Rattle.lk_rulebook.specs.Place.{Place, Kind, BlockType, Ctor, a_ctor}
use Rattle.lk_rulebook.specs.Structures.{is_structure_like}
use Rattle.lk_questions.specs.Query.{infer, same}
use Rattle.lk_questions.specs.Program.{Program, done, ask}
use Rattle.lk_questions.specs.Erased.{Value, truth, Steps, erased}
use Rattle.lk_questions.specs.Iota.{has_one_ctor}
use Rattle.lk_questions.specs.Pairs.{Line as PlainLine, same_all, answers_yes, ◌or_else◌, goes_on}
use Rattle.lk_questions.specs.Eta.{same_fields}
use Rattle.lk_store.specs.declared.memory.NoMemory.{NoMemory}
use Rattle.lk_store.specs.Contents.{Contents, tree_at}
use Rattle.lk_env.specs.Lent.{constructor_in}
use Rattle.lk_ask.specs.declared.next.Line.{Line}
use Rattle.lk_ask.specs.declared.sheet.Pair.{Pair}
use Rattle.lk_ask.specs.Lines.{Rest, line_steps, lefts, rights, GivesLine}
use Rattle.lk_ask.specs.Looks.{Sight}
use Rattle.lk_ask.specs.Sheets.{sheet_rest}
use Rattle.lk_eta.specs.declared.sheet.StructureTermSheet.{StructureTermSheet}
use Rattle.lk_eta.specs.declared.sheet.StructureTermSheet.TheVariants.{Left, Right}
use Rattle.lk_eta.specs.declared.sheet.StructureTruthSheet.{StructureTruthSheet}
use Rattle.lk_eta.specs.declared.sheet.StructureTruthSheet.TheVariants.{Types, Fields}
use Rattle.lk_eta.specs.Sheets.{StructureSheet, map_structure_truth, map_structure_sheet, IsKnownStructureSheet}

-- the constructor that a head means at a place, with its type
abbrev pub constructor_at : Place → Tree → Option (BlockType × Ctor)
constructor_at w (const c ks) = elim (w.means c) [ Some g ↦ constructor_in g.kind | None ↦ None ]
constructor_at w _ = None

-- the kind is a structure's constructor, and xs are just as many arguments as it takes
abbrev pub is_full : Kind → List Tree → Bool
is_full (a_ctor b t k) xs = nat_eq (length xs) (k.parameters + k.fields) && (has_one_ctor t.ctors && is_structure_like b t k)
is_full _ xs = false

-- each projection of a is the same as that field of b, which is this constructor applied
abbrev pub fields_line : Tree → Tree → Option (BlockType × Ctor) → PlainLine
fields_line a b None = goes_on
fields_line a b (Some s) = answers_yes (same_fields s.0.name a 0 (drop s.1.parameters (args b)))

-- the same, once the types of a and b were compared
abbrev pub types_line : Tree → Tree → Option (BlockType × Ctor) → Bool → PlainLine
types_line a b s equal = if equal then fields_line a b s else goes_on

-- the same, once the type of b is there, or that of a, or neither
abbrev pub right_line : Tree → Tree → Option (BlockType × Ctor) → Tree → Tree → PlainLine
right_line a b s A B = ask (same A B) (λ equal. types_line a b s equal)

abbrev pub left_line : Tree → Tree → Option (BlockType × Ctor) → Tree → PlainLine
left_line a b s A = ask (infer b) (λ B. right_line a b s A B)

abbrev pub whole_line : Tree → Tree → Option (BlockType × Ctor) → PlainLine
whole_line a b s = ask (infer a) (λ A. left_line a b s A)

-- the pairs of a stack, from the top down
abbrev pub others_same : List (Pair Tree) → Program Bool
others_same ps = same_all (lefts ps) (rights ps)

-- the same, once the pair before them was compared
abbrev pub others_line : List (Pair Tree) → Bool → PlainLine
others_line ps equal = answers_yes (if equal then others_same ps else done false)

-- what a sheet goes on with, once the term is there; p is what comes behind the line, last the last unit that was looked at before
abbrev pub structure_term_rest : Rest → Place → Option ℕ → StructureTermSheet Tree → Tree → Steps
structure_term_rest p w last (Left a b) A =
    erased w truth last (left_line a b (constructor_at w (head b)) A or_else p a b)
structure_term_rest p w last (Right a b A) B =
    erased w truth last (right_line a b (constructor_at w (head b)) A B or_else p a b)

-- the same, once yes or no is there
abbrev pub structure_truth_rest : Rest → Place → Option ℕ → StructureTruthSheet Tree → Bool → Steps
structure_truth_rest p w last (Types a b) equal =
    erased w truth last (types_line a b (constructor_at w (head b)) equal or_else p a b)
structure_truth_rest p w last (Fields a b ps) equal =
    erased w truth last (others_line ps equal or_else p a b)

-- what it waits for, and goes on with
abbrev pub structure_rest : Rest → Place → Option ℕ → StructureSheet Tree → Value → Steps
structure_rest p w last = sheet_rest (structure_term_rest p w last) (structure_truth_rest p w last)

-- what structure eta does next; t is what numbers stand for
abbrev pub structure_line : Rest → Place → (ℕ → Tree) → Option ℕ → Line ℕ (StructureSheet ℕ) → Steps
structure_line p w t last line =
    line_steps p (λ s. structure_rest p w None (map_structure_sheet t s)) w t last line

-- a step of structure eta does what the program does, whatever comes behind it; t is what numbers stood for
abbrev pub BuildsUp : {S R B : Type 0} → (S → Contents) → (S → R) → (R → Sight B) → S → S
    → Result (Line ℕ (StructureSheet ℕ)) NoMemory → (Rest → (ℕ → Tree) → Program Bool) → Type 0
BuildsUp contents rest sight old new result program =
    GivesLine IsKnownStructureSheet structure_line contents rest sight old new result
    (λ p. erased (sight (rest old)).basis.place truth (sight (rest old)).last
    (program p (tree_at (contents old))))

-- it does what the sheet goes on with, now that yes or no is there
abbrev pub ResumesStructure : {S R B : Type 0} → (S → Contents) → (S → R) → (R → Sight B) → S → S
    → Result (Line ℕ (StructureSheet ℕ)) NoMemory → StructureTruthSheet ℕ → Bool → Type 0
ResumesStructure contents rest sight old new result sheet equal =
    GivesLine IsKnownStructureSheet structure_line contents rest sight old new result
    (λ p. structure_truth_rest p (sight (rest old)).basis.place (sight (rest old)).last
    (map_structure_truth (tree_at (contents old)) sheet) equal)
