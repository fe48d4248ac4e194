-- The line that a text's fault names is one of the text's lines.
use Rattle.std.proofs.Common.{◌≡◌, ℕ, ◌+◌, ◌≤◌, ◌-◌, ◌^◌, Bool, true, false, List, [], ◌∷◌, ◌++◌, length, Ok, Err, Some, None, nat_lt, refl, arith}
use Rattle.std.specs.Prelude.{IfOk, IfErr, IfSome, Result, if◌then◌else◌}
use Rattle.std.specs.declared.option.Option.{Option}
use Rattle.lk_tree.specs.Tree.{Name, text, number, Level, max_level, imax_level, Tree, var, lam, pi, str}
use Rattle.lk_tree.specs.Mentions.{same_name}
use Rattle.lk_rulebook.specs.Place.{RecRule}
use Rattle.lk_rulebook.specs.Units.{Library}
use Rattle.lk_members.specs.declared.fault.MemberFault.{MemberFault}
use Rattle.lk_members.specs.Faults.{fault_of, is_open, first_open}
use Rattle.lk_members.specs.Plain.{PlainMember, PlainLine}
use Rattle.lk_lines.specs.declared.words.Word.{Word}
use Rattle.lk_lines.specs.declared.words.Word.TheVariants.{TooManyItems}
use Rattle.lk_lines.specs.declared.line.Fault.{Fault}
use Rattle.lk_lines.specs.declared.line.LineError.{LineError}
use Rattle.lk_lines.specs.declared.line.LineError.TheVariants as errors
use Rattle.lk_lines.specs.declared.tags.EntryTag.{EntryTag}
use Rattle.lk_lines.specs.declared.tags.EntryTag.TheVariants as entry
use Rattle.lk_lines.specs.declared.tags.Tag.{Tag}
use Rattle.lk_lines.specs.declared.tags.Tag.TheVariants.{Entry, Declaration, Budget, Go, Trace, Section, Parts, Local, Derivation}
use Rattle.lk_lines.specs.Limits.{limits}
use Rattle.lk_lines.specs.Reading.{◌>>=◌}
use Rattle.lk_lines.specs.Items.{Item}
use Rattle.lk_lines.specs.Says.{Says, Blank, Version, OfItem, said_in}
use Rattle.lk_lines.specs.Values.{Value}
use Rattle.lk_lines.specs.Values as value
use Rattle.lk_units.specs.State.{State, known, fresh, put, with_name, with_level, with_tree, with_rule, longer_name, successor_level, pair_level, parameter_level, sort_tree, constant_tree, application_tree, binder_tree, let_tree, projection_tree, number_literal, rule_of, entry_added, declaration_said, counted, unless_fault, with_line, declared, with_budget, added, take_item}
use Rattle.lk_book.specs.Course.{Course, passed, taken, unless, at_line, step}
use Rattle.lk_book.specs.Courses.{Fails}
use Rattle.lk_book.specs.File.{lines_of, has_more, after, course_over, closed}
use Rattle.lk_book.specs.Texts.{begin_behind, text_course, Cut, ending_fault, ended, cut_stated}
use Rattle.lk_book.specs.ReadingTexts.{line_named}

-- these lines have numbers up to n
abbrev AreUpTo : ℕ → List PlainLine → Type 0
AreUpTo n [] = Unit {0}
AreUpTo n (l ∷ ls) = (l.number ≤ n) × AreUpTo n ls

up_to_more : (n m : ℕ) (ls : List PlainLine) → n ≤ m → AreUpTo n ls → AreUpTo m ls
up_to_more n m [] h k = tt
up_to_more n m (l ∷ ls) h k = let first = k.0 in (omega arith, up_to_more n m ls h k.1)

up_to_push : (n : ℕ) (ls : List PlainLine) (x : PlainMember) → AreUpTo n ls → AreUpTo n (ls ++ record { number = n; said = x } ∷ [])
up_to_push n [] x h = (omega arith, tt)
up_to_push n (l ∷ ls) x h = (h.0, up_to_push n ls x h.1)

-- what follows something, whatever it is
for_any : {X Y : Type 0} (Q : Y → Type 0) (r : Result X Word) (f : X → Result Y Word) → ((x : X) → IfOk (f x) Q) → IfOk (r >>= f) Q
for_any Q (Ok x) f h = h x
for_any Q (Err w) f h = tt

-- what follows something that has P
if_then : {X Y : Type 0} (P : X → Type 0) (Q : Y → Type 0) (r : Result X Word) (f : X → Result Y Word) → IfOk r P → ((x : X) → P x → IfOk (f x) Q) → IfOk (r >>= f) Q
if_then P Q (Ok x) f h g = g x h
if_then P Q (Err w) f h g = tt

-- the state's lines have numbers up to n
abbrev IsUpTo : ℕ → State → Type 0
IsUpTo n s = AreUpTo n s.lines

module _ (n : ℕ) (s : State) (k : IsUpTo n s) where
  up_name : (own : ℕ) (said : Result Name Word) → IfOk (with_name s own said) (IsUpTo n)
  up_name own said = for_any (IsUpTo n) (fresh s.names own said) (λ x. Ok (record s { names = put s.names own x })) (λ x. k)

  up_level : (own : ℕ) (said : Result Level Word) → IfOk (with_level s own said) (IsUpTo n)
  up_level own said = for_any (IsUpTo n) (fresh s.levels own said) (λ x. Ok (record s { levels = put s.levels own x })) (λ x. k)

  up_tree : (own : ℕ) (said : Result Tree Word) → IfOk (with_tree s own said) (IsUpTo n)
  up_tree own said = for_any (IsUpTo n) (fresh s.trees own said) (λ x. Ok (record s { trees = put s.trees own x })) (λ x. k)

  up_rule : (own : ℕ) (said : Result RecRule Word) → IfOk (with_rule s own said) (IsUpTo n)
  up_rule own said = for_any (IsUpTo n) (fresh s.rules own said) (λ x. Ok (record s { rules = put s.rules own x })) (λ x. k)

  up_entry : (own : ℕ) (t : EntryTag) (values : List Value) → IfOk (entry_added s own t values) (IsUpTo n)
  unfolding entry_added
  up_entry own entry.NameText (value.Number p ∷ value.Bytes bytes ∷ []) = up_name own (longer_name s p (text bytes))
  up_entry own entry.NameNumber (value.Number p ∷ value.Number i ∷ []) = up_name own (longer_name s p (number i))
  up_entry own entry.Successor (value.Number l ∷ []) = up_level own (successor_level s l)
  up_entry own entry.Max (value.Number l ∷ value.Number m ∷ []) = up_level own (pair_level s (λ x y. max_level x y) l m)
  up_entry own entry.Imax (value.Number l ∷ value.Number m ∷ []) = up_level own (pair_level s (λ x y. imax_level x y) l m)
  up_entry own entry.Parameter (value.Number i ∷ []) = up_level own (parameter_level s i)
  up_entry own entry.Variable (value.Number i ∷ []) = up_tree own (Ok (var i))
  up_entry own entry.Sort (value.Number u ∷ []) = up_tree own (sort_tree s u)
  up_entry own entry.Constant (value.Number i ∷ value.Numbers ls ∷ []) = up_tree own (constant_tree s i ls)
  up_entry own entry.Apply (value.Number f ∷ value.Number a ∷ []) = up_tree own (application_tree s f a)
  up_entry own entry.Lambda (value.OfInfo o ∷ value.Number i ∷ value.Number a ∷ value.Number b ∷ []) = up_tree own (binder_tree s (λ A e. lam A e) i a b)
  up_entry own entry.Pi (value.OfInfo o ∷ value.Number i ∷ value.Number a ∷ value.Number b ∷ []) = up_tree own (binder_tree s (λ A e. pi A e) i a b)
  up_entry own entry.Let (value.Number i ∷ value.Number a ∷ value.Number v ∷ value.Number b ∷ []) = up_tree own (let_tree s i a v b)
  up_entry own entry.Project (value.Number i ∷ value.Number f ∷ value.Number e ∷ []) = up_tree own (projection_tree s i f e)
  up_entry own entry.NatLiteral (value.Literal i ∷ []) = up_tree own (Ok (number_literal i))
  up_entry own entry.TextLiteral (value.Bytes bytes ∷ []) = up_tree own (Ok (str bytes))
  up_entry own entry.Rule (value.Number i ∷ value.Number f ∷ value.Number v ∷ []) = up_rule own (rule_of s i f v)
  up_entry own t values = tt

  up_counted : IfOk (counted s) (IsUpTo n)
  up_counted = go (nat_lt s.count (2 ^ 32 - 1))
    where
      go : (b : Bool) → IfOk (if b then Ok (record s { count = s.count + 1 }) else Err TooManyItems) (IsUpTo n)
      go true = k
      go false = tt

  up_line : (x : PlainMember) → IfOk (with_line n s x) (IsUpTo n)
  up_line x = go (fault_of same_name s.lines x)
    where
      go : (o : Option MemberFault) → IfOk (unless_fault o (record s { lines = s.lines ++ record { number = n; said = x } ∷ [] })) (IsUpTo n)
      go None = up_to_push n s.lines x k
      go (Some f) = tt

  up_budget : (i steps : ℕ) → IfOk (with_budget s i steps) (IsUpTo n)
  up_budget i steps = for_any (IsUpTo n) (known s.names i) (λ name. Ok (record s { budgets = s.budgets ++ record { name = name; steps = steps } ∷ [] })) (λ name. k)

up_declared : (n : ℕ) (s : State) (said : Result PlainMember Word) → IsUpTo n s → IfOk (declared n s said) (IsUpTo n)
up_declared n s said k =
    for_any (IsUpTo n) said (λ x. (counted s >>= λ t. with_line n t x))
    (λ x. if_then (IsUpTo n) (IsUpTo n) (counted s) (λ t. with_line n t x) (up_counted n s k) (λ t j. up_line n t j x))

up_added : (n : ℕ) (s : State) (own : Option ℕ) (t : Tag) (values : List Value) → IsUpTo n s → IfOk (added n s own t values) (IsUpTo n)
up_added n s (Some own) (Entry t) values k = if_then (IsUpTo n) (IsUpTo n) (entry_added s own t values) (λ u. counted u) (up_entry n s k own t values) (λ u j. up_counted n u j)
up_added n s None (Declaration t) values k = up_declared n s (declaration_said s t values) k
up_added n s None Budget (value.Number i ∷ value.Number steps ∷ []) k = up_budget n s k i steps
up_added n s None Budget values k = tt
up_added n s None Go [] k = tt
up_added n s None Go (v ∷ values) k = tt
up_added n s (Some own) (Declaration t) values k = tt
up_added n s (Some own) Budget values k = tt
up_added n s (Some own) Go values k = tt
up_added n s None (Entry t) values k = tt
up_added n s (Some own) Trace values k = tt
up_added n s (Some own) Section values k = tt
up_added n s (Some own) Parts values k = tt
up_added n s (Some own) Local values k = tt
up_added n s (Some own) (Derivation f) values k = tt
up_added n s None Trace values k = tt
up_added n s None Section values k = tt
up_added n s None Parts values k = tt
up_added n s None Local values k = tt
up_added n s None (Derivation f) values k = tt

up_item : (n : ℕ) (s : State) (item : Item) → IsUpTo n s → IfOk (take_item n s item) (IsUpTo n)
unfolding take_item
up_item n s item k = up_added n s item.own item.tag item.values k

-- the course has one line more
abbrev IsNext : ℕ → Course → Type 0
IsNext n d = (d.number ≡ n) × AreUpTo n d.state.lines

next_at : (P : Course → Type 0) (n : ℕ) (r : Result Course Word) → IfOk r P → IfOk (at_line n r) P
next_at P n (Ok c) h = h
next_at P n (Err w) h = tt

next_unless : (P : Course → Type 0) (o : Option Word) (r : Result Course Word) → IfOk r P → IfOk (unless o r) P
next_unless P (Some w) r h = tt
next_unless P None r h = h

next_state : (c : Course) (r : Result State Word) → IfOk r (IsUpTo c.number) → IfOk (r >>= λ s. Ok (record c { first = false; state = s })) (IsNext c.number)
next_state c (Ok s) h = (refl, h)
next_state c (Err w) h = tt

next_taken : (c : Course) (says : Says) → IsUpTo c.number c.state → IfOk (taken c says) (IsNext c.number)
next_taken c Blank k = (refl, k)
next_taken c Version k = (refl, k)
next_taken c (OfItem item) k = next_state c (take_item c.number c.state item) (up_item c.number c.state item k)

next_said : (c : Course) (said : Result Says Word) → IsUpTo c.number c.state → IfOk (said >>= taken c) (IsNext c.number)
next_said c (Ok says) k = next_taken c says k
next_said c (Err w) k = tt

next_step : (c : Course) (feed : Bool) (line : List ℕ) → IsUpTo c.number c.state → IfOk (step c feed line) (IsNext (c.number + 1))
unfolding step
next_step c feed line k =
    let p = passed c (length line) feed in
    let said = said_in c.dialect c.first line in
    next_at (IsNext (c.number + 1)) _ _ (next_unless (IsNext (c.number + 1)) (limits c.before (length line) feed) (said >>= taken p) (next_said p said (up_to_more c.number (c.number + 1) c.state.lines (omega arith) k)))

-- the fault names a line up to n
abbrev IsAt : ℕ → Fault → Type 0
IsAt n f = f.line ≤ n

told_at : (n m : ℕ) (r : Result Course Word) → n ≤ m → IfErr (at_line n r) (IsAt m)
told_at n m (Ok c) h = tt
told_at n m (Err w) h = h

told_step : (c : Course) (feed : Bool) (line : List ℕ) (m : ℕ) → c.number + 1 ≤ m → IfErr (step c feed line) (IsAt m)
unfolding step
told_step c feed line m h = told_at (c.number + 1) m _ h

told_after : {A B : Type 0} (P : A → Type 0) (m : ℕ) (r : Result A Fault) (f : A → Result B Fault) → IfOk r P → IfErr r (IsAt m) → ((x : A) → P x → IfErr (f x) (IsAt m)) → IfErr (after r f) (IsAt m)
told_after P m (Ok x) f h e g = g x h
told_after P m (Err y) f h e g = e

told_over : (c : Course) (lines : List (List ℕ)) (m : ℕ) → IsUpTo c.number c.state → c.number + length lines ≤ m → IfErr (course_over c lines) (IsAt m)
told_over c [] m k h = tt
told_over c (line ∷ more) m k h =
    told_after (IsNext (c.number + 1)) m (step c (has_more more) line) (λ d. course_over d more) (next_step c (has_more more) line k) (told_step c (has_more more) line m (omega arith))
    (λ d j. let is = j.0 in told_over d more m (rw is j.1) (omega arith))

if_after : {A B : Type 0} (P : A → Type 0) (Q : B → Type 0) (r : Result A Fault) (f : A → Result B Fault) → IfOk r P → ((x : A) → P x → IfOk (f x) Q) → IfOk (after r f) Q
if_after P Q (Ok x) f h g = g x h
if_after P Q (Err e) f h g = tt

up_over : (c : Course) (lines : List (List ℕ)) (m : ℕ) → IsUpTo c.number c.state → c.number + length lines ≤ m → IfOk (course_over c lines) (λ d. AreUpTo m d.state.lines)
up_over c [] m k h = up_to_more c.number m c.state.lines (omega arith) k
up_over c (line ∷ more) m k h =
    if_after (IsNext (c.number + 1)) (λ d. AreUpTo m d.state.lines) (step c (has_more more) line) (λ d. course_over d more) (next_step c (has_more more) line k)
    (λ d j. let is = j.0 in up_over d more m (rw is j.1) (omega arith))

open_up_to : (n : ℕ) (all ls : List PlainLine) → AreUpTo n ls → IfSome (first_open same_name all ls) (λ i. i ≤ n)
open_up_to n all [] h = tt
open_up_to n all (l ∷ ls) h = go (is_open same_name all l.said) (open_up_to n all ls h.1)
  where
    go : (b : Bool) → IfSome (first_open same_name all ls) (λ i. i ≤ n) → IfSome (if b then Some l.number else first_open same_name all ls) (λ i. i ≤ n)
    go true more = h.0
    go false more = more

told_closed : (n : ℕ) (o : Option ℕ) (ls : List PlainLine) → IfSome o (λ i. i ≤ n) → IfErr (closed o ls) (IsAt n)
told_closed n None ls h = tt
told_closed n (Some i) ls h = h

told_ended : (n : ℕ) (o : Option Word) (bytes : List ℕ) (d : Course) → length (lines_of bytes) ≤ n → AreUpTo n d.state.lines → IfErr (ended o bytes d) (IsAt n)
told_ended n (Some w) bytes d l k = l
told_ended n None bytes d l k = told_closed n (first_open same_name d.state.lines d.state.lines) d.state.lines (open_up_to n d.state.lines d.state.lines k)

told_cut : (before : ℕ) (c : Cut) → IfErr (cut_stated before c) (IsAt (length (lines_of c.bytes)))
unfolding text_course
told_cut before c =
    let n = length (lines_of c.bytes) in
    told_after (λ d. AreUpTo n d.state.lines) n (course_over (begin_behind before) (lines_of c.bytes)) (ended (ending_fault before c) c.bytes) (up_over (begin_behind before) (lines_of c.bytes) n tt (omega arith))
    (told_over (begin_behind before) (lines_of c.bytes) n tt (omega arith)) (λ d k. told_ended n (ending_fault before c) c.bytes d (omega arith) k)

named_within : (e : LineError) (n : ℕ) (r : Result Library Fault) → Fails e r → IfErr r (IsAt n) → line_named e ≤ n
named_within errors.NoMemory n r h k = omega arith
named_within (errors.Fault f) n r h k = rw h at k

-- a text's fault is in one of its lines
pub line_within : (before : ℕ) (c : Cut) (e : LineError) → Fails e (cut_stated before c) → line_named e ≤ length (lines_of c.bytes)
line_within before c e h = named_within e (length (lines_of c.bytes)) (cut_stated before c) h (told_cut before c)
