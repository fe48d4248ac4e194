-- Questions over a lookout: what they leave as it was, and what they come to.
use Rattle.std.specs.Prelude.{◌≡◌, ◌≢◌, ◌<◌, ◌≤◌, ◌+◌, ◌-◌, ◌*◌, ◌^◌, ◌⊎◌, ℕ, Bool, true, false, [], Option, Some, Result, Err, IfOk, OnOk, IfErr, IfSome, length}
use Rattle.lk_rulebook.specs.Place.{Place}
use Rattle.lk_rulebook.specs.Units.{Members}
use Rattle.lk_rulebook.specs.Units.{place_of as unit_place}
use Rattle.lk_questions.specs.Erased.{Out, IsAnsweredAt, run_steps, out_of}
use Rattle.lk_questions.specs.Table.{steps}
use Rattle.lk_store.specs.declared.sizes.Sizes.{Sizes}
use Rattle.lk_store.specs.Contents.{Contents, tree_at, Extends}
use Rattle.lk_store.specs.Store.{no_tables, contents_of}
use Rattle.lk_store.specs.Layers.{layers_contents, Layers}
use Rattle.lk_env.specs.declared.entry.Partial.{Partial}
use Rattle.lk_env.specs.declared.entry.Partial.TheVariants.{Nothing}
use Rattle.lk_env.specs.declared.entry.Site.{Site}
use Rattle.lk_env.specs.Places.{place_beside}
use Rattle.lk_env.specs.Units.{library_of}
use Rattle.lk_env.specs.Scopes.{auxiliary_members, place_in}
use Rattle.lk_env.specs.StoredLibrary.{StoredLibrary}
use Rattle.lk_env.specs.StoredScope.{StoredScope}
use Rattle.lk_ask.specs.Asking.{Standing}
use Rattle.lk_ask.specs.declared.kept.Kept.{Kept}
use Rattle.lk_ask.specs.declared.next.Next.{Next}
use Rattle.lk_ask.specs.declared.query.Query.{Query}
use Rattle.lk_ask.specs.declared.query.Answer.{Answer}
use Rattle.lk_ask.specs.declared.stop.Stop.{Stop}
use Rattle.lk_ask.specs.declared.stop.Stop.TheVariants.{Spent, NoMemory}
use Rattle.lk_ask.specs.Questions.{query_of, value_at, IsKnownAnswer}
use Rattle.lk_ask.specs.Nexts.{IsKnownNext}
use Rattle.lk_ask.specs.Outcomes.{IsExactly, IsStop}
use Rattle.lk_ask.specs.Outlook.{Outlook}
use Rattle.lk_memo.specs.declared.key.Key.{Key}
use Rattle.lk_memo.specs.declared.memo.PrivateMemo.{PrivateMemo}
use Rattle.lk_memo.specs.Entries.{Holds, kept_of}
use Rattle.lk_memo.specs.Lasting.{Outlasts, GoesOn}
use Rattle.lk_desk.specs.Job.{job_of}
use Rattle.lk_engine.specs.Entries.{AreTrue, IsTrueAt}
use Rattle.lk_engine.specs.Rests.{next_of}
use Rattle.lk_engine.specs.Sheets.{AnySheet, IsKnownAny}
use Rattle.lk_engine.specs.Waiting.{WaitsFor}
use Rattle.lk_engine.specs.Shared.{Shared}

-- what names mean from there
abbrev pub place_of : {T : Type 0} → Outlook T → Place
place_of s = place_in s.scope s.site

-- what is kept is true there
abbrev pub AreTrueAt : {T : Type 0} → Outlook T → Contents → PrivateMemo → Type 0
AreTrueAt s c memo = AreTrue s.scope.library (place_of s) c memo

-- how questions are answered from there; no call changes the library and the number of the unit
abbrev pub standing_at : StoredScope → Site → Standing (StoredLibrary × ℕ)
standing_at scope site = record {
  basis = (scope.library, site.unit);
  table = steps;
  place = place_in scope site;
}

-- the same of an outlook
abbrev pub standing_of : {T : Type 0} → Outlook T → Standing (StoredLibrary × ℕ)
standing_of s = standing_at s.scope s.site

-- what names mean at a unit of a library, where so much of it is partial, and auxiliary types
-- beside
abbrev pub places_at : StoredLibrary × ℕ → Partial → Members → Place
places_at b p aux = place_beside b.0 (record { unit = b.1; partial = p }) aux

-- the plain answer of a question there
abbrev pub out_at : {T : Type 0} → (T → Contents) → Outlook T → Query ℕ → Out
out_at contents s query =
    out_of steps (place_of s) (query_of (tree_at (contents s.terms)) query) s.meter.left

-- numbers stand for what they stood for, and of all else no more than the meter is another one
pub record Stays {T R : Type 0} (contents : T → Contents) (rest : T → R)
    (old new : Outlook T) : Type 0 where
  pub library : new.scope ≡ old.scope
  pub site : new.site ≡ old.site
  pub keeps : Extends (contents old.terms) (contents new.terms)
  pub others : rest new.terms ≡ rest old.terms

-- only the meter is another one
pub record Metered {T : Type 0} (old new : Outlook T) : Type 0 where
  pub library : new.scope ≡ old.scope
  pub site : new.site ≡ old.site
  pub terms : new.terms ≡ old.terms

-- a question is opened, which is a turn and costs so much: that is paid, and the last unit that was
-- looked at is this one
pub record Pays {T : Type 0} (old new : Outlook T) (result : Result (Unit {0}) Stop) (cost : ℕ)
    (top : Option ℕ) : Type 0 where
  pub stays : Metered old new
  pub paid : OnOk result ((cost ≤ old.meter.left) × (new.meter.left ≡ old.meter.left - cost))
  pub last : OnOk result (new.meter.last ≡ top)
  pub spent : IfErr result (λ e. (e ≡ Spent) × (old.meter.left < cost))
  pub turns : old.meter.turns < 2 ^ 64 - 1 → new.meter.turns ≡ old.meter.turns + 1

-- an answer that is kept costs what it cost before, and is one turn
pub record Repeats {T : Type 0} (old new : Outlook T) (result : Result (Answer ℕ) Stop)
    (kept : Kept) : Type 0 where
  pub stays : Metered old new
  pub answer : IfOk result (λ a. a ≡ kept.answer)
  pub paid : OnOk result ((kept.cost ≤ old.meter.left)
      × (new.meter.left ≡ old.meter.left - kept.cost))
  pub exact : (c : Contents) (o : ℕ → Out)
      → IsAnsweredAt o (value_at (tree_at c) kept.answer) kept.cost kept.top
      → IsExactly c (o old.meter.left) new.meter.left new.meter.last result
  pub spent : IfErr result (λ e. (e ≡ Spent) × (old.meter.left < kept.cost))
  pub turns : old.meter.turns < 2 ^ 64 - 1 → new.meter.turns ≡ old.meter.turns + 1

-- a question was opened: what comes next comes to its plain answer, and is waited for under every
-- budget
pub record Opens {T R : Type 0} (contents : T → Contents) (rest : T → R) (old new : Outlook T)
    (result : Result (Next ℕ (AnySheet ℕ)) Stop) (query : Query ℕ) : Type 0 where
  pub stays : Stays contents rest old new
  pub known : IfOk result (IsKnownNext IsKnownAny (length (contents new.terms).trees))
  pub runs : IfOk result
      (λ next. run_steps (out_of steps (place_of old))
      (next_of (place_of old) (tree_at (contents new.terms)) new.meter.last next) new.meter.left
      ≡ out_at contents old query)
  pub waits : IfOk result (λ next. WaitsFor
      (out_of steps (place_of old) (query_of (tree_at (contents old.terms)) query))
      (run_steps (out_of steps (place_of old))
      (next_of (place_of old) (tree_at (contents new.terms)) new.meter.last next)))
  pub less : OnOk result (new.meter.left < old.meter.left)
  pub err : IfErr result (IsStop (out_at contents old query))

-- a question is answered by its plain answer, and exactly its cost is spent; what is kept is true
pub record Answers {T R : Type 0} (contents : T → Contents) (rest : T → R) (old new : Outlook T)
    (later : PrivateMemo) (result : Result (Answer ℕ) Stop) (query : Query ℕ) : Type 0 where
  pub stays : Stays contents rest old new
  pub entries_true : AreTrueAt old (contents new.terms) later
  pub known : IfOk result (IsKnownAnswer (length (contents new.terms).trees))
  pub outcome : IsExactly (contents new.terms) (out_at contents old query) new.meter.left
      new.meter.last result
  pub nothing_left : old.meter.left ≡ 0 → result ≢ Err NoMemory

-- a question whose answer is kept takes one turn, and no memory
pub record AnswersKept {T : Type 0} (old new : Outlook T) (memo : PrivateMemo)
    (result : Result (Answer ℕ) Stop) (query : Query ℕ) : Type 0 where
  pub turns : (kept : Kept) → kept_of memo query ≡ Some kept → old.meter.turns < 2 ^ 64 - 1
      → new.meter.turns ≡ old.meter.turns + 1
  pub memory : (kept : Kept) → kept_of memo query ≡ Some kept → result ≢ Err NoMemory

-- how many rows there are, those of all kinds together
abbrev pub row_count : Sizes → ℕ
row_count s = s.numbers + s.names + s.texts + s.levels + s.lists + s.terms

-- beside a library of so many rows, a unit is begun with fewer than these
abbrev pub IsBounded : ℕ → ℕ → Type 0
IsBounded made library = (made < 16384) ⊎ (made < 4 * library)

-- what units made over the library's store stays, or all of it was forgotten
pub record Tidies (old new : Layers) (stays : Bool) : Type 0 where
  pub base : new.base ≡ old.base
  pub same : stays ≡ true → new ≡ old
  pub none : stays ≡ false → new.own ≡ no_tables
  pub emptied : stays ≡ false → layers_contents new ≡ contents_of old.base

-- a lookout over the library's store looks from this unit, of which nothing is partial, with no
-- auxiliary types; numbers stand for what the library has, and where what was made stays, for what
-- they stood for; where it goes nothing stands beside the library; and this budget is left
pub record Restarts (old new : Outlook Layers) (unit budget : ℕ)
    (stays : Bool) : Type 0 where
  pub library : new.scope.library ≡ old.scope.library
  pub auxiliary : new.scope.auxiliary ≡ []
  pub site : new.site ≡ record { unit = unit; partial = Nothing }
  pub base : new.terms.base ≡ old.terms.base
  pub contents : Extends (contents_of old.terms.base) (layers_contents new.terms)
  pub same : stays ≡ true → new.terms ≡ old.terms
  pub none : stays ≡ false → new.terms.own ≡ no_tables
  pub left : new.meter.left ≡ budget
  pub turns : new.meter.turns ≡ 0

-- a memo begins a unit: it has only what outlasts a unit, for this one, over so many terms, and of
-- what units made only where it stays
pub record BeginsUnit (old new : PrivateMemo) (unit count : ℕ) (stays : Bool) : Type 0 where
  pub private : (k : Key) (v : Kept) → Holds new k v → ⊥
  pub lasting : GoesOn old.lasting new.lasting old.lasting.terms (Some unit)
  pub each : (k : Key) (v : Kept) → Outlasts new.staying k v
      → (stays ≡ true) × Outlasts old.staying k v
  pub terms : new.staying.terms ≡ count
  pub looks : new.staying.unit ≡ Some unit

-- from here on so much of the unit is partial, and these auxiliary types beside
pub record GivesMembers (old new : Outlook Layers) (partial : Partial)
    (aux : Members) : Type 0 where
  pub library : new.scope.library ≡ old.scope.library
  pub auxiliary : auxiliary_members (contents_of new.scope.tables) new.scope.auxiliary ≡ aux
  pub site : new.site ≡ record { unit = old.site.unit; partial = partial }
  pub terms : new.terms ≡ old.terms
  pub meter : new.meter ≡ old.meter

-- a desk is for the library; if a unit looks there, the place is its own, and nothing of it is
-- partial
pub record Shares (s : Outlook Layers) (share : Shared) : Type 0 where
  pub job : share.job ≡ job_of s.scope.library
  pub looks : (unit : ℕ) → share.unit ≡ Some unit
      → place_of s ≡ unit_place (library_of s.scope.library) unit []

-- a lookout over the library's store, what is kept of its questions, which is true at the place
-- that stands, whatever was looked at for it, and the desk where answers are shared, if there is
-- one
pub record Stands (s : Outlook Layers) (memo : PrivateMemo)
    (share : Option Shared) : Type 0 where
  pub base : s.terms.base ≡ s.scope.library.tables
  pub entries_true : AreTrueAt s (layers_contents s.terms) memo
  pub shared : IfSome share (Shares s)

-- an answer was looked for at the desk: terms were made for it, and what is kept is true
pub record Fetches (old new : Outlook Layers) (later : PrivateMemo) : Type 0 where
  pub stays : Stays layers_contents (λ l. l.base) old new
  pub meter : new.meter ≡ old.meter
  pub entries_true : AreTrueAt old (layers_contents new.terms) later

-- what was worked out, under this budget, is true, and costs what was taken of that
pub record IsWorkedOut (s : Outlook Layers) (budget : ℕ) (query : Query ℕ)
    (answer : Answer ℕ) : Type 0 where
  pub left : s.meter.left ≤ budget
  pub is : IsTrueAt (place_of s) (layers_contents s.terms) query (record {
    answer = answer;
    cost = budget - s.meter.left;
    top = s.meter.last;
  })
