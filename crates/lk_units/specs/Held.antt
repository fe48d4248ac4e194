-- What an assembler holds, by what its numbers have in a store.
use Rattle.std.specs.Prelude.{◌≡◌, ◌<◌, ◌==◌, ℕ, List, map, length, All, slice_index_or, IfSome, Result}
use Rattle.std.specs.Prelude.{Ok, Err, Some, option_map, is_some, if◌then◌else◌}
use Rattle.std.specs.declared.option.Option.{Option}
use Rattle.lk_tree.specs.Tree.{Level, max_level, imax_level, Tree, lam, pi}
use Rattle.lk_store.specs.Contents.{Contents, name_at, level_at, tree_at}
use Rattle.lk_rulebook.specs.Units.{Body as PlainBody, as_def, as_thm, as_opaque}
use Rattle.lk_rulebook.specs.Place.{RecRule}
use Rattle.lk_env.specs.Units.{hint_of, rule_at, IsRuleIn}
use Rattle.lk_env.specs.declared.unit.RecursorRule.{RecursorRule}
use Rattle.lk_env.specs.Budgets.{budgets_at, AreBudgetsIn}
use Rattle.lk_members.specs.Stored.{lines_of, AreLinesIn}
use Rattle.lk_members.specs.Finishing.{IsFaultless}
use Rattle.lk_members.specs.Plain.{lines_at}
use Rattle.lk_members.specs.Indices.{IsIndexed}
use Rattle.lk_members.specs.declared.members.Members.{Members}
use Rattle.lk_lines.specs.FileNumbers.{NumberView}
use Rattle.lk_lines.specs.declared.words.Word.{Word}
use Rattle.lk_lines.specs.declared.words.Word.TheVariants.{IndexTaken}
use Rattle.lk_units.specs.Numbering.{entry}
use Rattle.lk_members.specs.declared.fault.MemberError.{MemberError}
use Rattle.lk_members.specs.declared.fault.MemberError.TheVariants as members
use Rattle.lk_units.specs.State.{State, Counts, fault_word}
use Rattle.lk_lines.specs.declared.line.RecursorLine.{RecursorLine}
use Rattle.lk_units.specs.declared.numbering.Numbering.{Numbering}
use Rattle.lk_units.specs.declared.assembler.Assembler.{Assembler}
use Rattle.lk_units.specs.declared.assembler.Binder.{Binder}
use Rattle.lk_units.specs.declared.assembler.Binder.TheVariants.{Lambda, Pi}
use Rattle.lk_units.specs.declared.assembler.LevelPair.{LevelPair}
use Rattle.lk_units.specs.declared.assembler.LevelPair.TheVariants.{Max, Imax}
use Rattle.lk_units.specs.declared.assembler.ValueUse.{ValueUse}
use Rattle.lk_units.specs.declared.assembler.ValueUse.TheVariants as uses
use Rattle.lk_units.specs.declared.assembler.TakeError.{TakeError}
use Rattle.lk_units.specs.declared.assembler.TakeError.TheVariants as errors

-- what the numbers have stands for what they mean
pub record Numbered {X : Type 0} (numbers : Numbering) (have : ℕ → X) (mean : ℕ → Option X)
    : Type 0 where
  pub same : (n : ℕ) → option_map have (entry numbers n) ≡ mean n

-- what the numbers have is below a length
pub record Below (numbers : Numbering) (len : ℕ) : Type 0 where
  pub below : (n : ℕ) → IfSome (entry numbers n) (λ i. i < len)

-- the rule of a place
abbrev pub rule_at_place : List RecursorRule → ℕ → RecursorRule
rule_at_place rules i = slice_index_or rules i (record { constructor = 0; fields = 0; value = 0 })

abbrev pub rule_held : Contents → List RecursorRule → ℕ → RecRule
rule_held c rules i = rule_at c (rule_at_place rules i)

-- the lines of a part are in the store, and none of them has a fault among those before it
pub record IsPartIn (c : Contents) (m : Members) : Type 0 where
  pub lines_in : AreLinesIn c m.lines.items
  pub indexed : IsIndexed m
  pub faultless : IsFaultless (lines_of m.lines.items)

-- the numbers that an assembler has are numbers of the store
pub record IsKnown (a : Assembler) (c : Contents) : Type 0 where
  pub names_below : Below a.by_name (length c.names)
  pub levels_below : Below a.by_level (length c.levels)
  pub trees_below : Below a.by_tree (length c.trees)
  pub rules_below : Below a.by_rule (length a.rules.items)
  pub rules_in : All (IsRuleIn c) a.rules.items
  pub parts_in : All (IsPartIn c) a.parts.items
  pub lines_in : AreLinesIn c a.members.lines.items
  pub indexed : IsIndexed a.members
  pub faultless : IsFaultless (lines_of a.members.lines.items)
  pub budgets_in : AreBudgetsIn c a.budgets.items

-- the assembler stands for the state
pub record Holds (a : Assembler) (c : Contents) (s : State) : Type 0 where
  pub names : Numbered a.by_name (name_at c) s.names
  pub levels : Numbered a.by_level (level_at c) s.levels
  pub trees : Numbered a.by_tree (tree_at c) s.trees
  pub rules : Numbered a.by_rule (rule_held c a.rules.items) s.rules
  pub parts : map (λ (m : Members). lines_at c m.lines.items) a.parts.items ≡ s.parts
  pub lines : lines_at c a.members.lines.items ≡ s.lines
  pub budgets : budgets_at c a.budgets.items ≡ s.budgets
  pub count : a.count ≡ s.count

abbrev pub binder_of : Binder → Tree → Tree → Tree
binder_of Lambda = λ A b. lam A b
binder_of Pi = λ A b. pi A b

abbrev pub pair_of : LevelPair → Level → Level → Level
pair_of Max = λ l m. max_level l m
pair_of Imax = λ l m. imax_level l m

abbrev pub body_of : ValueUse → Tree → PlainBody
body_of (uses.Definition h) = λ e. as_def (hint_of h) e
body_of uses.Theorem = λ e. as_thm e
body_of uses.Opaque = λ e. as_opaque e

abbrev pub Fails : {X : Type 0} → TakeError → Result X Word → Type 0
Fails errors.NoMemory said = Unit {0}
Fails (errors.Fault w) said = said ≡ Err w

-- what was made stands for what the line says
abbrev pub Makes : {A X : Type 0} → (A → X) → Result A TakeError → Result X Word → Type 0
Makes have (Ok i) said = said ≡ Ok (have i)
Makes have (Err e) said = Fails e said

-- what a line made, where its own number has no place yet
abbrev pub unless_taken : Numbering → ℕ → Result ℕ TakeError → Result ℕ TakeError
unless_taken numbers own made =
    if is_some (entry numbers own) then Err (errors.Fault IndexTaken) else made

-- the number of a line has what the line made, or its fault is told
abbrev pub Puts : Numbering → Numbering → ℕ → Result ℕ TakeError → Result (Unit {0}) TakeError
    → Type 0
Puts old new own made (Ok u) =
    (i : ℕ) × (unless_taken old own made ≡ Ok i)
    × ((q : ℕ) → entry new q ≡ (if q == own then Some i else entry old q))
Puts old new own made (Err errors.NoMemory) = Unit {0}
Puts old new own made (Err (errors.Fault w)) = unless_taken old own made ≡ Err (errors.Fault w)

-- behind the item the assembler holds what the item makes of the state, or the item's fault is told
abbrev pub Follows : Assembler → Contents → Result (Unit {0}) TakeError → Result State Word → Type 0
Follows a c (Ok u) said = (s : State) × (said ≡ Ok s) × Holds a c s
Follows a c (Err e) said = Fails e said

abbrev pub counts_of : {N : Type 0} → NumberView N → RecursorLine N → Counts
counts_of view line =
    record {
      parameters = view.value line.parameter_count;
      indices = view.value line.index_count;
      motives = view.value line.motive_count;
      minors = view.value line.minor_count;
      k = line.k;
    }

-- why a line is not taken among those before it
abbrev pub told : MemberError → TakeError
told members.NoMemory = errors.NoMemory
told (members.Fault f) = errors.Fault (fault_word f)
