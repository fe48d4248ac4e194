-- What lines before `#TR` and behind it make of what was read.
use Rattle.std.proofs.Common.{◌≡◌, ℕ, Bool, true, false, List, [], ◌∷◌, Ok, Err, Some, None, refl, sym, ap, ◌∙◌, subst}
use Rattle.std.specs.Prelude.{Result, Option, IfOk}
use Rattle.lk_tree.specs.Tree.{Name, Tree}
use Rattle.lk_tree.specs.Mentions.{same_name}
use Rattle.lk_rulebook.specs.Units.{Body, as_def, as_opaque}
use Rattle.lk_store.specs.Contents.{Contents}
use Rattle.lk_members.specs.declared.fault.MemberFault.{MemberFault}
use Rattle.lk_members.specs.Lines.{alone}
use Rattle.lk_members.specs.Faults.{fault_of}
use Rattle.lk_members.specs.Plain.{PlainMember, PlainLine}
use Rattle.lk_lines.specs.declared.words.Word.{Word}
use Rattle.lk_lines.specs.declared.words.Word.TheVariants.{TraceOrder}
use Rattle.lk_lines.specs.declared.line.Fault.{Fault}
use Rattle.lk_lines.specs.declared.line.LineError.{LineError}
use Rattle.lk_lines.specs.declared.line.LineError.TheVariants as line_errors
use Rattle.lk_lines.specs.declared.line.Statement.{Statement}
use Rattle.lk_lines.specs.declared.line.Statement.TheVariants as statement
use Rattle.lk_lines.specs.declared.line.DeclarationLine.{DeclarationLine}
use Rattle.lk_lines.specs.declared.line.DeclarationLine.TheVariants as declarations
use Rattle.lk_lines.specs.declared.tags.EntryTag.{EntryTag}
use Rattle.lk_lines.specs.declared.tags.EntryTag.TheVariants as entry
use Rattle.lk_lines.specs.Reading.{◌>>=◌}
use Rattle.lk_lines.specs.FileNumbers.{NumberView, narrow, wide}
use Rattle.lk_lines.specs.Lines.{TellsBy}
use Rattle.lk_lines.specs.Items.{Item}
use Rattle.lk_lines.specs.Says.{Says, Blank, Version, OfItem}
use Rattle.lk_lines.specs.Views.{says_of, hint_value, declaration_tag, declaration_values}
use Rattle.lk_units.specs.State.{State, known, all_known, declaration_said, unless_fault, with_line, value_body, valued_of, hint_said, take_item}
use Rattle.lk_units.specs.Held.{Fails, Holds, Follows}
use Rattle.lk_units.specs.declared.assembler.Assembler.{Assembler}
use Rattle.lk_units.specs.declared.assembler.TakeError.{TakeError}
use Rattle.lk_units.specs.declared.assembler.TakeError.TheVariants as errors
use Rattle.lk_units.proofs.Lines.{fails_then}
use Rattle.lk_book.specs.Course.{Course, taken, at_line}
use Rattle.lk_book.specs.Courses.{Goes, Fails as FailsLine}
use Rattle.lk_book.specs.File.{after, export_stated}
use Rattle.lk_book.specs.Passing.{Stands, IsLibraryLine, line_error}
use Rattle.lk_book.specs.declared.reader.Reader.{Reader}
use Rattle.lk_traced.specs.Begun.{HoldsSections, FollowsSections}
use Rattle.lk_traced.specs.Course.{TraceCourse, taken_before, taken_behind}
use Rattle.lk_traced.specs.Placed.{Behind, Both, misplaced, entry_behind, with_state, with_behind, declared_behind}
use Rattle.lk_traced.specs.Standing.{GoesBefore, stands_behind, said_alike, said_behind, FollowsBoth}
use Rattle.lk_traced.specs.declared.sections.Sections.{Sections}
use Rattle.lk_traced.proofs.Keeping.{StatesBoth, said_kept, export_kept}

-- what stands before `#TR` alone
abbrev only : Course → TraceCourse
only c = record { course = c; behind = None }

state_only : (n : ℕ) (c : Course) (r : Result State Word)
    → at_line n (r >>= λ s. Ok (only (record c { first = false; state = s }))) ≡ after (at_line n (r >>= λ s. Ok (record c { first = false; state = s }))) (λ d. Ok (only d))
state_only n c (Ok s) = refl
state_only n c (Err w) = refl

-- a line that a library may have is taken as there
before_is : (c : Course) (st : Statement ℕ) → IsLibraryLine st → taken_before c (says_of narrow st) ≡ after (at_line c.number (taken c (says_of narrow st))) (λ d. Ok (only d))
before_is c statement.Blank h = refl
before_is c statement.Version h = refl
before_is c (statement.Entry own e) h = state_only c.number c _
before_is c (statement.Declaration d) h = state_only c.number c _
before_is c (statement.Budget name steps) h = state_only c.number c _
before_is c statement.Go h = state_only c.number c _
before_is c statement.Trace h = absurd h
before_is c (statement.Local own number type) h = absurd h
before_is c (statement.Section unit) h = absurd h
before_is c (statement.Derivation own line) h = absurd h
before_is c (statement.Parts premises) h = absurd h

module _ (c : Course) (st : Statement ℕ) (h : IsLibraryLine st) (number : ℕ) (e : number ≡ c.number) where
  pub library_goes : (r : Reader) (k : Contents) → Goes (Stands r k) (Ok tt) (at_line number (taken c (says_of narrow st))) → GoesBefore r k (Ok None) (taken_before c (says_of narrow st))
  library_goes r k g =
      let is : at_line c.number (taken c (says_of narrow st)) ≡ Ok g.0 = rw e at g.1 in
      (only g.0, before_is c st h ∙ ap (λ x. after x (λ d. Ok (only d))) is, g.2, tt)

  pub library_stops : (x : LineError) → FailsLine x (at_line number (taken c (says_of narrow st))) → FailsLine x (taken_before c (says_of narrow st))
  library_stops line_errors.NoMemory f = tt
  library_stops (line_errors.Fault w) f =
      let is : at_line c.number (taken c (says_of narrow st)) ≡ Err w = rw e at f in
      before_is c st h ∙ ap (λ x. after x (λ d. Ok (only d))) is

-- a fault of an item is that of its line
pub item_fails : {X Y : Type 0} (n number : ℕ) (e : TakeError) (said : Result X Word) (next : X → Result Y Word) → number ≡ n → Fails e said → FailsLine (line_error number e) (at_line n (said >>= next))
item_fails n number errors.NoMemory said next is h = tt
item_fails n number (errors.Fault w) said next is h = rw (h, is) refl

-- only levels and expressions are defined behind `#TR`
pub entry_stands : (t : EntryTag) (said : Result State Word) → stands_behind t ≡ true → entry_behind t said ≡ said
entry_stands entry.NameText said h = absurd (cc)
entry_stands entry.NameNumber said h = absurd (cc)
entry_stands entry.Rule said h = absurd (cc)
entry_stands entry.Successor said h = refl
entry_stands entry.Max said h = refl
entry_stands entry.Imax said h = refl
entry_stands entry.Parameter said h = refl
entry_stands entry.Variable said h = refl
entry_stands entry.Sort said h = refl
entry_stands entry.Constant said h = refl
entry_stands entry.Apply said h = refl
entry_stands entry.Lambda said h = refl
entry_stands entry.Pi said h = refl
entry_stands entry.Let said h = refl
entry_stands entry.Project said h = refl
entry_stands entry.NatLiteral said h = refl
entry_stands entry.TextLiteral said h = refl

entry_misplaced : (t : EntryTag) (said : Result State Word) → stands_behind t ≡ false → entry_behind t said ≡ misplaced said
entry_misplaced entry.NameText said h = refl
entry_misplaced entry.NameNumber said h = refl
entry_misplaced entry.Rule said h = refl
entry_misplaced entry.Successor said h = absurd (cc)
entry_misplaced entry.Max said h = absurd (cc)
entry_misplaced entry.Imax said h = absurd (cc)
entry_misplaced entry.Parameter said h = absurd (cc)
entry_misplaced entry.Variable said h = absurd (cc)
entry_misplaced entry.Sort said h = absurd (cc)
entry_misplaced entry.Constant said h = absurd (cc)
entry_misplaced entry.Apply said h = absurd (cc)
entry_misplaced entry.Lambda said h = absurd (cc)
entry_misplaced entry.Pi said h = absurd (cc)
entry_misplaced entry.Let said h = absurd (cc)
entry_misplaced entry.Project said h = absurd (cc)
entry_misplaced entry.NatLiteral said h = absurd (cc)
entry_misplaced entry.TextLiteral said h = absurd (cc)

pub entry_refused : (t : EntryTag) (said : Result State Word) (s : State) → stands_behind t ≡ false → said ≡ Ok s → entry_behind t said ≡ Err TraceOrder
entry_refused t said s h is = entry_misplaced t said h ∙ ap (λ r. misplaced {B = State} r) is

pub entry_fails : (t : EntryTag) (said : Result State Word) (e : TakeError) → Fails e said → Fails e (entry_behind t said)
entry_fails t said e h = go (stands_behind t) refl
  where
    go : (b : Bool) → stands_behind t ≡ b → Fails e (entry_behind t said)
    go true is = rw (entry_stands t said is) h
    go false is = rw (entry_misplaced t said is) (fails_then e said (λ x. Err TraceOrder) h)

-- a definition has the faults of an opaque one
module _ (s : State) (ls : List PlainLine) where
  abbrev Refused : Result PlainMember Word → Result State Word
  Refused said = said >>= λ x. misplaced (unless_fault (fault_of same_name ls x) s)

  abbrev with_body : (Tree → Body) → Result Name Word → Result Tree Word → Result Tree Word → Result (List Name) Word → Result PlainMember Word
  with_body f n a v ps = n >>= λ name. (a >>= λ type. ((v >>= λ value. Ok (f value)) >>= λ body. (ps >>= λ levels.
      Ok (alone (record { name = name; levels = levels; type = type; body = body })))))

  bodies_alike : (f g : Tree → Body) (n : Result Name Word) (a v : Result Tree Word) (ps : Result (List Name) Word) → Refused (with_body f n a v ps) ≡ Refused (with_body g n a v ps)
  bodies_alike f g (Err w) a v ps = refl
  bodies_alike f g (Ok n) (Err w) v ps = refl
  bodies_alike f g (Ok n) (Ok a) (Err w) ps = refl
  bodies_alike f g (Ok n) (Ok a) (Ok v) (Err w) = refl
  bodies_alike f g (Ok n) (Ok a) (Ok v) (Ok ps) = refl

alike : (s : State) (d : DeclarationLine ℕ) → declared_behind s (said_alike s wide d) ≡ declared_behind s (declaration_said s (declaration_tag d) (declaration_values wide d))
unfolding declaration_said
alike s (declarations.Definition name type value hint parameters) =
    bodies_alike s s.lines (λ e. as_opaque e) (λ e. as_def (hint_said (hint_value wide hint)) e) (known s.names name) (known s.trees type) (known s.trees value) (all_known s.names parameters.items)
alike s (declarations.Theorem name type value parameters) = refl
alike s (declarations.Opaque name type value parameters) = refl
alike s (declarations.Axiom name type parameters) = refl
alike s (declarations.Quotient name type parameters) = refl
alike s (declarations.Inductive line) = refl
alike s (declarations.Constructor line) = refl
alike s (declarations.Recursor line) = refl

unless_alike : (f : Option MemberFault) (s t : State) → misplaced {B = State} (unless_fault f s) ≡ misplaced (unless_fault f t)
unless_alike None s t = refl
unless_alike (Some f) s t = refl

-- a line that declares something was looked at beside those before it
pub placed_refused : (s : State) (l : ℕ) (d : DeclarationLine ℕ) (x : PlainMember) (e : TakeError) → said_alike s wide d ≡ Ok x → Fails e (misplaced {B = State} (with_line l s x))
    → Fails e (declared_behind s (declaration_said s (declaration_tag d) (declaration_values wide d)))
placed_refused s l d x e is h =
    let P : Result State Word → Type 0 = Fails e in
    subst P (alike s d) (rw is (subst P (unless_alike (fault_of same_name s.lines x) _ s) h))

pub stated_refused : (s : State) (d : DeclarationLine ℕ) (e : TakeError) → Fails e (said_alike s wide d) → Fails e (declared_behind s (declaration_said s (declaration_tag d) (declaration_values wide d)))
stated_refused s d e h =
    let P : Result State Word → Type 0 = Fails e in
    subst P (alike s d) (fails_then e (said_alike s wide d) (λ x. misplaced (unless_fault (fault_of same_name s.lines x) s)) h)

-- behind a line that changes what numbers stand for, or the sections
pub both_state : (a : Assembler) (x : Sections) (k : Contents) (b : Behind) (r : Result (Unit {0}) TakeError) (said : Result State Word) → HoldsSections x k b → Follows a k r said → FollowsBoth a x k r (with_state b said)
both_state a x k b (Ok u) said h f = (record { state = f.0; behind = b }, rw f.1 refl, f.2, h)
both_state a x k b (Err e) said h f = fails_then e said (λ s. Ok (record { state = s; behind = b })) f

pub both_behind : (a : Assembler) (x : Sections) (k : Contents) (s : State) (r : Result (Unit {0}) TakeError) (said : Result Behind Word) → Holds a k s → FollowsSections x k r said → FollowsBoth a x k r (with_behind s said)
both_behind a x k s (Ok u) said h f = (record { state = s; behind = f.0 }, rw f.1 refl, h, f.2)
both_behind a x k s (Err e) said h f = fails_then e said (λ b. Ok (record { state = s; behind = b })) f

abbrev both_taken : Course → Both → TraceCourse
both_taken c x = record { course = record c { state = x.state }; behind = Some x.behind }

behind_is : (c : Course) (b : Behind) (says : Says) → taken_behind c b says ≡ at_line c.number (said_behind c.number c.state b says >>= λ x. Ok (both_taken c x))
behind_is c b Blank = refl
behind_is c b Version = refl
behind_is c b (OfItem item) = refl

if_ok : {A : Type 0} (P : A → Type 0) (r : Result A Word) (x : A) → IfOk r P → r ≡ Ok x → P x
if_ok P r x h e = rw e at h

pub behind_goes : (r : Reader) (a : Assembler) (x : Sections) (old k : Contents) (c : Course) (b : Behind) (says : Says) → Stands r old c → export_stated c.state ≡ Ok b.export
    → FollowsBoth a x k (Ok tt) (said_behind c.number c.state b says) → GoesBefore (record r { assembler = a }) k (Ok (Some x)) (taken_behind c b says)
behind_goes r a x old k c b says h e f =
    let kept = if_ok (StatesBoth c.state b) (said_behind c.number c.state b says) f.0 (said_kept c.number c.state b says) f.1 in (
      both_taken c f.0,
      behind_is c b says ∙ ap (λ y. at_line c.number (y >>= λ z. Ok (both_taken c z))) f.1,
      record { dialect = h.dialect; first = h.first; number = h.number; before = h.before; holds = f.2 },
      (f.3, export_kept c.state b f.0 kept e),
    )

pub behind_stops : (c : Course) (b : Behind) (says : Says) (number : ℕ) (e : TakeError) → number ≡ c.number → Fails e (said_behind c.number c.state b says) → FailsLine (line_error number e) (taken_behind c b says)
behind_stops c b says number e is h = rw (behind_is c b says) (item_fails c.number number e (said_behind c.number c.state b says) (λ x. Ok (both_taken c x)) is h)

-- a line was read, or has a fault
module _ {N : Type 0} {X : Type 0} (view : NumberView N) (n number : ℕ) (said : Result Says Word) (next : Says → Result X Fault) where
  pub read_fails : (e : LineError) → number ≡ n → TellsBy view number (Err e) said → FailsLine e (after (at_line n said) next)
  read_fails line_errors.NoMemory is h = tt
  read_fails (line_errors.Fault f) is h = let line : n ≡ f.line = sym is ∙ sym h.0 in rw (h.1, line) refl

  pub read_on : (says : Says) → said ≡ Ok says → after (at_line n said) next ≡ next says
  read_on says h = rw h refl
