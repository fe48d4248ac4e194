-- How a run ends.
use Rattle.std.specs.Prelude.{ℕ, ◌≡◌, ◌<◌, ◌≤◌, ◌⊎◌, Bool, true, false, List, [], ◌∷◌, ◌++◌, length, map}
use Rattle.std.specs.Prelude.{if◌then◌else◌, nat_eq, codes}
use Rattle.std.specs.Prelude.{Some, None}
use Rattle.std.specs.Prelude.{IfSome, Vec, Result, Ok, Err}
use Rattle.std.specs.declared.alloc.Global.{Global}
use Rattle.std.specs.declared.option.Option.{Option}
use Rattle.std.specs.List.{Contains, range_with_len}
use Rattle.std.specs.Io.KnownBytes.{Appends}
use Rattle.lk_port.specs.Bytes.{AppendsSome}
use Rattle.lk_verdict.specs.GoodUnit.{IsGoodUnit}
use Rattle.lk_verdict.specs.Told.{Verdict, AreVerdicts}
use Rattle.lk_reach.specs.Computed.{axioms_of}
use Rattle.lk_rulebook.specs.Units.{Library}
use Rattle.lk_written.specs.Outcomes.{FileSection, Outcome, holds, outcome_of}
use Rattle.lk_answered.specs.Operations.{OperationsShown}
use Rattle.lk_traced.specs.Trace.{Trace, trace_of}
use Rattle.lk_recheck.specs.Spliced.{next_list}
use Rattle.lk_recheck.specs.Rounds.{IsCount, KeepVerdicts}
use Rattle.lk_book.specs.File.{Export, export_of, rounds_of, budget_of}
use Rattle.lk_book.specs.Texts.{text_of as text_stated, texts_of as texts_stated}
use Rattle.lk_callers.specs.Orders.{IsOrder}
use Rattle.lk_callers.specs.Owned.{all_units}
use Rattle.lk_callers.specs.Reports.{submitted_in}
use Rattle.leancheck.specs.declared.status.Status.{Status}
use Rattle.leancheck.specs.declared.status.Status.TheVariants.{AllYes, SomeNo, Usage, BadFile}
use Rattle.leancheck.specs.declared.status.Status.TheVariants.{ReadFault, WriteFault, NoMemory}
use Rattle.leancheck.specs.declared.status.Status.TheVariants.{NoSuchName, SessionFull, SomeMemory}
use Rattle.lk_command.specs.declared.words.Options.{Options}
use Rattle.lk_command.specs.Words.{allowed_text}
use Rattle.lk_command.specs.declared.words.Meaning.{Meaning}
use Rattle.lk_command.specs.declared.words.Meaning.TheVariants.{Check, Make, Trial, Trim}
use Rattle.lk_command.specs.declared.words.Meaning.TheVariants.{Trace as AskTrace, Replay, Recheck}
use Rattle.lk_command.specs.declared.words.Meaning.TheVariants.{Session}
use Rattle.lk_command.specs.declared.words.Callers.{Callers}
use Rattle.leancheck.specs.declared.extent.Extent.{Extent}
use Rattle.leancheck.specs.declared.extent.Extent.TheVariants.{Report, Summary}
use Rattle.leancheck.specs.Extents.{text_of}
use Rattle.leancheck.specs.Traces.{IsTracing}
use Rattle.lk_text.specs.Text.{bad_line, checked_line, count, report_text}
use Rattle.lk_text.specs.Text.{session_text, submitted_units}
use Rattle.lk_text.specs.Named.{first_printed, unknown_line}
use Rattle.lk_text.specs.Replayed.{count_outcomes, replay_text}
use Rattle.lk_text.specs.declared.outcomes.OutcomeKind.TheVariants as kinds
use Rattle.lk_text.specs.Policy.{Policy, policy_of, texts_of, IsOnList, all_under}
use Rattle.lk_text.specs.declared.counts.VerdictKind.TheVariants.{No, Memory}
use Rattle.lk_readback.specs.Trimmed.{IsTrimmed}
use Rattle.lk_generator.specs.Generated.{file_of}
use Rattle.lk_lines.specs.declared.line.Fault.{Fault}
use Rattle.lk_store.specs.declared.memory.NoMemory.{NoMemory as WantOfMemory}

-- a no before all, then want of memory
abbrev pub status_of : List Verdict → Status
status_of vs =
    if nat_eq (count No vs) 0
    then (if nat_eq (count Memory vs) 0 then AllYes else SomeMemory)
    else SomeNo

-- the exit status, as a number
abbrev pub code_of : Status → ℕ
code_of AllYes = 0
code_of SomeNo = 1
code_of Usage = 2
code_of BadFile = 3
code_of ReadFault = 4
code_of WriteFault = 5
code_of NoMemory = 6
code_of NoSuchName = 7
code_of SessionFull = 8
code_of SomeMemory = 9

-- the status of units that were checked
abbrev pub IsChecked : Status → Type 0
IsChecked AllYes = Unit {0}
IsChecked SomeNo = Unit {0}
IsChecked SomeMemory = Unit {0}
IsChecked Usage = ⊥
IsChecked BadFile = ⊥
IsChecked ReadFault = ⊥
IsChecked WriteFault = ⊥
IsChecked NoMemory = ⊥
IsChecked NoSuchName = ⊥
IsChecked SessionFull = ⊥

-- the status of an export that was trimmed, or has no such name
abbrev pub IsLookedUp : Status → Type 0
IsLookedUp status = (status ≡ AllYes) ⊎ (status ≡ NoSuchName)

-- the status of texts that were checked, or have too many units for one list
abbrev pub IsEndOfSession : Status → Type 0
IsEndOfSession status = IsChecked status ⊎ (status ≡ SessionFull)

-- the status of a run that did what the words ask for
abbrev pub IsDone : Status → Type 0
IsDone status = IsChecked status ⊎ (status ≡ NoSuchName) ⊎ (status ≡ SessionFull)

-- a text that is right was written, with the status that belongs to it
pub record Writes (IsRight : Status → List ℕ → Type 0) (status : Status)
    (old new : Option (List ℕ)) : Type 0 where
  pub text : List ℕ
  pub right : IsRight status text
  pub written : Appends old new text

-- a prefix was written of the line of a fault, or of a text that is right
abbrev pub WritesSome : (Fault → Type 0) → (Status → List ℕ → Type 0)
    → Option (List ℕ) → Option (List ℕ) → Type 0
WritesSome IsFault IsRight old new =
    ((f : Fault) × IsFault f × AppendsSome old new (bad_line f))
    ⊎ ((status : Status) × (text : List ℕ) × IsRight status text × AppendsSome old new text)

-- the text that was made is right, and so is the status
abbrev pub Makes : (Status → List ℕ → Type 0) → Result (Vec ℕ Global × Status) WantOfMemory
    → Type 0
Makes IsRight (Ok (text, status)) = IsRight status text.items
Makes IsRight (Err e) = Unit {0}

-- which axioms the options allow
abbrev pub policy_in : Options → Policy
policy_in o = policy_of (allowed_text o)

-- The bytes spell an export. Each of its units has a verdict, the plain one under the unit's budget
-- or memory; a unit whose verdict is yes is good, where each unit before it that gives an operation
-- on numbers with laws says yes too. What is told are these verdicts under the policy on axioms,
-- and the status belongs to them.
pub record IsReport (extent : Extent) (o : Options) (bytes : List ℕ) (status : Status)
    (text : List ℕ) : Type 0 where
  pub export : Export
  pub plain : List Verdict
  pub verdicts : List Verdict
  pub spelled : export_of bytes ≡ Ok export
  pub are : AreVerdicts export.units (budget_of export o.steps) plain
  pub judged : verdicts ≡ all_under (policy_in o) export.units 0 plain
  pub status_is : status ≡ status_of verdicts
  pub text_is : text ≡ text_of extent export.units verdicts

-- a report of the bytes with these options was written
abbrev pub Reports : Extent → Options → List ℕ → Status → Option (List ℕ) → Option (List ℕ) → Type 0
Reports extent o bytes status old new = Writes (IsReport extent o bytes) status old new

-- a prefix of the text that belongs to the bytes with these options was written
abbrev pub WritesPrefix : Extent → Options → List ℕ → Option (List ℕ) → Option (List ℕ) → Type 0
WritesPrefix extent o bytes old new =
    WritesSome (λ f. export_of bytes ≡ Err f) (IsReport extent o bytes) old new

-- the text that was made, and the status, belong to the bytes with these options
abbrev pub Gives : Extent → Options → List ℕ → Result (Vec ℕ Global × Status) WantOfMemory → Type 0
Gives extent o bytes made = Makes (IsReport extent o bytes) made

-- The bytes spell an export of which each unit is good. Where a list of axioms is given, each axiom
-- that a unit rests on prints as one of the names on it.
pub record IsAllGood (o : Options) (bytes : List ℕ) : Type 0 where
  pub export : Export
  pub spelled : export_of bytes ≡ Ok export
  pub good : (n : ℕ) → n < length export.units → IsGoodUnit export.units n
  pub allowed : (list : List ℕ) → allowed_text o ≡ Some list → (n k : ℕ)
      → n < length export.units → Contains (axioms_of export.units n) k
      → IsOnList (texts_of list) export.units k

-- What `trim` tells for a printed name, by the first unit with a member of that name: the text of
-- this unit with all that it needs, or that there is none.
abbrev pub TellsTrimmed : Export → List ℕ → Option ℕ → Status → List ℕ → Type 0
TellsTrimmed e name (Some n) status text = (status ≡ AllYes) × IsTrimmed e n text
TellsTrimmed e name None status text = (status ≡ NoSuchName) × (text ≡ unknown_line name)

-- the bytes spell an export, and this is told of it for the name
pub record IsTrimming (name bytes : List ℕ) (status : Status) (text : List ℕ) : Type 0 where
  pub export : Export
  pub spelled : export_of bytes ≡ Ok export
  pub told : TellsTrimmed export name (first_printed 0 export.units name) status text

-- what is told of the bytes for this name was written
abbrev pub Trims : List ℕ → List ℕ → Status → Option (List ℕ) → Option (List ℕ) → Type 0
Trims name bytes status old new = Writes (IsTrimming name bytes) status old new

-- a prefix of the text that belongs to the bytes for this name was written
abbrev pub TrimsPrefix : List ℕ → List ℕ → Option (List ℕ) → Option (List ℕ) → Type 0
TrimsPrefix name bytes old new =
    WritesSome (λ f. export_of bytes ≡ Err f) (IsTrimming name bytes) old new

-- the text that was made, and the status, belong to the bytes for this name
abbrev pub GivesTrimmed : List ℕ → List ℕ → Result (Vec ℕ Global × Status) WantOfMemory → Type 0
GivesTrimmed name bytes made = Makes (IsTrimming name bytes) made

-- Where a library that changes stands: whether there was a part, the list of units that it led to,
-- and their verdicts.
pub record Stand : Type 0 where
  pub begun : Bool
  pub list : Library
  pub verdicts : List Verdict

-- there was no part yet
abbrev pub no_stand : Stand
no_stand = record { begun = false; list = []; verdicts = [] }

-- What is told of a part: the lines of the list that it leads to, with the verdicts that a check of
-- this list gives under the budget, and how many units had to be checked for it. The others keep
-- the verdicts that they had.
pub record TellsPart (steps : ℕ) (old new : Stand) (part : Library) (text : List ℕ) : Type 0 where
  pub begun : new.begun ≡ true
  pub list : new.list ≡ next_list old.begun old.list part
  pub verdicts : AreVerdicts new.list (λ n. steps) new.verdicts
  pub kept : KeepVerdicts old.list new.list old.verdicts new.verdicts
  pub count : ℕ
  pub counted : IsCount old.list new.list old.verdicts count
  pub text_is : text ≡ report_text new.list new.verdicts ++ checked_line count

-- what is told of parts one after another, which lead to the last stand
pub data TellsParts (steps : ℕ) (last : Stand) : Stand → List Library → List ℕ → Type 0 where
  no_part : TellsParts steps last last [] []
  one_part : (old new : Stand) (part : Library) (parts : List Library) (text more : List ℕ) →
      TellsPart steps old new part text → TellsParts steps last new parts more →
      TellsParts steps last old (part ∷ parts) (text ++ more)

-- the bytes state a library and changes of it, and this is told of them
pub record IsRechecking (steps : ℕ) (bytes : List ℕ) (status : Status) (text : List ℕ) : Type 0
  where
    pub parts : List Library
    pub spelled : rounds_of bytes ≡ Ok parts
    pub last : Stand
    pub told : TellsParts steps last no_stand parts text
    pub status_is : status ≡ status_of last.verdicts

-- what is told of the bytes under this budget was written
abbrev pub Rechecks : ℕ → List ℕ → Status → Option (List ℕ) → Option (List ℕ) → Type 0
Rechecks steps bytes status old new = Writes (IsRechecking steps bytes) status old new

-- a prefix of the text that belongs to the bytes under this budget was written
abbrev pub RechecksPrefix : ℕ → List ℕ → Option (List ℕ) → Option (List ℕ) → Type 0
RechecksPrefix steps bytes old new =
    WritesSome (λ f. rounds_of bytes ≡ Err f) (IsRechecking steps bytes) old new

-- the text that was made, and the status, belong to the bytes under this budget
abbrev pub GivesRechecked : ℕ → List ℕ → Result (Vec ℕ Global × Status) WantOfMemory → Type 0
GivesRechecked steps bytes made = Makes (IsRechecking steps bytes) made

-- the line that is written where texts have too many units for one list
abbrev pub full_line : List ℕ
full_line = codes "full" ++ 10 ∷ []

-- what is told then
abbrev pub TellsFull : List (List ℕ) → Status → List ℕ → Type 0
TellsFull texts status text =
    (65536 < length (all_units text_stated texts)) × (status ≡ SessionFull) × (text ≡ full_line)

-- What is told of texts that so many callers add to one list at one time. The list has the texts in
-- some order in which each caller's texts rise; told are they in this order, with the verdicts that
-- a check of the list gives under the budget.
pub record TellsTexts (callers steps : ℕ) (texts : List (List ℕ)) (status : Status) (text : List ℕ)
    : Type 0 where
  pub few : length (all_units text_stated texts) ≤ 65536
  pub order : List ℕ
  pub in_order : IsOrder (length texts) callers order
  pub verdicts : List Verdict
  pub are : AreVerdicts (submitted_units (submitted_in text_stated texts order)) (λ n. steps)
      verdicts
  pub status_is : status ≡ status_of verdicts
  pub text_is : text ≡ session_text (submitted_in text_stated texts order) verdicts

-- the bytes state texts, and this is told of them
pub record IsSession (c : Callers) (bytes : List ℕ) (status : Status) (text : List ℕ) : Type 0 where
  pub texts : List (List ℕ)
  pub spelled : texts_stated bytes ≡ Ok texts
  pub told : TellsFull texts status text ⊎ TellsTexts c.workers c.steps texts status text

-- what is told of the texts of the bytes was written
abbrev pub TellsSession : Callers → List ℕ → Status → Option (List ℕ) → Option (List ℕ) → Type 0
TellsSession c bytes status old new = Writes (IsSession c bytes) status old new

-- a prefix of the text that belongs to the bytes was written
abbrev pub SessionPrefix : Callers → List ℕ → Option (List ℕ) → Option (List ℕ) → Type 0
SessionPrefix c bytes old new =
    WritesSome (λ f. texts_stated bytes ≡ Err f) (IsSession c bytes) old new

-- the text that was made, and the status, belong to the bytes
abbrev pub GivesSession : Callers → List ℕ → Result (Vec ℕ Global × Status) WantOfMemory → Type 0
GivesSession c bytes made = Makes (IsSession c bytes) made

-- what `trace` tells of the bytes was written: their units, with a section for each declaration that
-- says yes
abbrev pub Traces : ℕ → List ℕ → Status → Option (List ℕ) → Option (List ℕ) → Type 0
Traces steps bytes status old new = Writes (IsTracing steps bytes) status old new

-- a prefix of the text that belongs to the bytes was written
abbrev pub TracesPrefix : ℕ → List ℕ → Option (List ℕ) → Option (List ℕ) → Type 0
TracesPrefix steps bytes old new =
    WritesSome (λ f. export_of bytes ≡ Err f) (IsTracing steps bytes) old new

-- the text that was made, and the status, belong to the bytes
abbrev pub GivesTraced : ℕ → List ℕ → Result (Vec ℕ Global × Status) WantOfMemory → Type 0
GivesTraced steps bytes made = Makes (IsTracing steps bytes) made

-- what comes of the section of each unit, in their order
abbrev pub outcomes_of : Library → List FileSection → List Outcome
outcomes_of us sections = map (outcome_of us sections) (range_with_len 0 (length us))

-- no section is at fault, and none is missing
abbrev pub replay_status : List Outcome → Status
replay_status os =
    if nat_eq (count_outcomes kinds.Bad os) 0
    then (if nat_eq (count_outcomes kinds.None os) 0 then AllYes else SomeNo)
    else SomeNo

-- The bytes state a library and sections of its units. What is told is what comes of the section of
-- each unit, and the status belongs to that. A unit whose section holds is good, where each unit
-- before it that gives an operation on numbers with laws has a section that holds too, or is
-- answered yes.
pub record IsReplay (bytes : List ℕ) (status : Status) (text : List ℕ) : Type 0 where
  pub trace : Trace
  pub outcomes : List Outcome
  pub spelled : trace_of bytes ≡ Ok trace
  pub are : outcomes ≡ outcomes_of trace.export.units trace.sections
  pub status_is : status ≡ replay_status outcomes
  pub text_is : text ≡ replay_text trace.export.units outcomes
  pub good : (n : ℕ) → outcome_of trace.export.units trace.sections n ≡ holds
      → OperationsShown trace.export.units n → IsGoodUnit trace.export.units n

-- what comes of the sections of the bytes was written
abbrev pub Replays : List ℕ → Status → Option (List ℕ) → Option (List ℕ) → Type 0
Replays bytes status old new = Writes (IsReplay bytes) status old new

-- a prefix of the text that belongs to the bytes was written
abbrev pub ReplaysPrefix : List ℕ → Option (List ℕ) → Option (List ℕ) → Type 0
ReplaysPrefix bytes old new = WritesSome (λ f. trace_of bytes ≡ Err f) (IsReplay bytes) old new

-- the text that was made, and the status, belong to the bytes
abbrev pub GivesReplayed : List ℕ → Result (Vec ℕ Global × Status) WantOfMemory → Type 0
GivesReplayed bytes made = Makes (IsReplay bytes) made

-- what words mean that have the source read
abbrev pub ReadsSource : Meaning → Type 0
ReadsSource (Check o) = Unit {0}
ReadsSource (Make s) = ⊥
ReadsSource (Trial s o) = ⊥
ReadsSource (Trim name) = Unit {0}
ReadsSource (AskTrace steps) = Unit {0}
ReadsSource Replay = Unit {0}
ReadsSource (Recheck steps) = Unit {0}
ReadsSource (Session c) = Unit {0}

-- What words ask for was done, and this is its status, over the bytes of a source, where it tells
-- them: a check writes its report, `make` its file, a trial the last line of what a check of that
-- file would write, `trim` one declaration with all that it needs, or that there is none, `trace`
-- the units with a section for each declaration that says yes, `replay` what comes of the sections
-- of the file, `recheck` what is told of each part of the file, and `session` what is told of its
-- texts.
abbrev pub Does : Meaning → Option (List ℕ) → Status → Option (List ℕ) → Option (List ℕ) → Type 0
Does (Check o) left status old new =
    IsChecked status × IfSome left (λ bytes. Reports Report o bytes status old new)
Does (Make s) left status old new = (status ≡ AllYes) × Appends old new (file_of s.units s.seed)
Does (Trial s o) left status old new =
    Reports Summary o (file_of s.units s.seed) status old new
Does (Trim name) left status old new =
    IsLookedUp status × IfSome left (λ bytes. Trims name.now bytes status old new)
Does (AskTrace steps) left status old new =
    IsChecked status × IfSome left (λ bytes. Traces steps bytes status old new)
Does Replay left status old new =
    IsChecked status × IfSome left (λ bytes. Replays bytes status old new)
Does (Recheck steps) left status old new =
    IsChecked status × IfSome left (λ bytes. Rechecks steps bytes status old new)
Does (Session c) left status old new =
    IsEndOfSession status × IfSome left (λ bytes. TellsSession c bytes status old new)

-- the file that was to be read has a fault, and its line was written
abbrev pub FindsFault : Meaning → Option (List ℕ) → Option (List ℕ) → Option (List ℕ) → Type 0
FindsFault (Check o) left old new =
    (f : Fault) × IfSome left (λ bytes. export_of bytes ≡ Err f) × Appends old new (bad_line f)
FindsFault (Make s) left old new = ⊥
FindsFault (Trial s o) left old new =
    (f : Fault) × (export_of (file_of s.units s.seed) ≡ Err f) × Appends old new (bad_line f)
FindsFault (Trim name) left old new =
    (f : Fault) × IfSome left (λ bytes. export_of bytes ≡ Err f) × Appends old new (bad_line f)
FindsFault (AskTrace steps) left old new =
    (f : Fault) × IfSome left (λ bytes. export_of bytes ≡ Err f) × Appends old new (bad_line f)
FindsFault Replay left old new =
    (f : Fault) × IfSome left (λ bytes. trace_of bytes ≡ Err f) × Appends old new (bad_line f)
FindsFault (Recheck steps) left old new =
    (f : Fault) × IfSome left (λ bytes. rounds_of bytes ≡ Err f) × Appends old new (bad_line f)
FindsFault (Session c) left old new =
    (f : Fault) × IfSome left (λ bytes. texts_stated bytes ≡ Err f) × Appends old new (bad_line f)

-- a prefix was written of what the words ask for
abbrev pub Begins : Meaning → Option (List ℕ) → Option (List ℕ) → Option (List ℕ) → Type 0
Begins (Check o) left old new = IfSome left (λ bytes. WritesPrefix Report o bytes old new)
Begins (Make s) left old new = AppendsSome old new (file_of s.units s.seed)
Begins (Trial s o) left old new = WritesPrefix Summary o (file_of s.units s.seed) old new
Begins (Trim name) left old new = IfSome left (λ bytes. TrimsPrefix name.now bytes old new)
Begins (AskTrace steps) left old new = IfSome left (λ bytes. TracesPrefix steps bytes old new)
Begins Replay left old new = IfSome left (λ bytes. ReplaysPrefix bytes old new)
Begins (Recheck steps) left old new = IfSome left (λ bytes. RechecksPrefix steps bytes old new)
Begins (Session c) left old new = IfSome left (λ bytes. SessionPrefix c bytes old new)
