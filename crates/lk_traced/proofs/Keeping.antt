-- Behind `#TR` no line changes what the lines before it state.
use Rattle.std.proofs.Common.{◌≡◌, ℕ, ◌+◌, Bool, true, false, List, [], ◌∷◌, Ok, Err, Some, None, refl, sym}
use Rattle.std.specs.Prelude.{Result, Option, IfOk, slice_get, if◌then◌else◌}
use Rattle.lk_tree.specs.Tree.{Name, text, number, Level, max_level, imax_level, Tree, var, lam, pi, str}
use Rattle.lk_tree.specs.Mentions.{same_name}
use Rattle.lk_rulebook.specs.Place.{RecRule}
use Rattle.lk_members.specs.Faults.{fault_of}
use Rattle.lk_members.specs.Plain.{PlainMember}
use Rattle.lk_lines.specs.declared.words.Word.{Word}
use Rattle.lk_lines.specs.declared.words.Word.TheVariants.{TraceOrder}
use Rattle.lk_lines.specs.declared.tags.EntryTag.{EntryTag}
use Rattle.lk_lines.specs.declared.tags.EntryTag.TheVariants as entry
use Rattle.lk_lines.specs.declared.tags.Tag.{Tag}
use Rattle.lk_lines.specs.declared.tags.Tag.TheVariants.{Entry, Declaration, Budget, Trace, Section, Parts, Local, Derivation}
use Rattle.lk_lines.specs.Reading.{◌>>=◌}
use Rattle.lk_lines.specs.Says.{Says, Blank, Version, OfItem}
use Rattle.lk_lines.specs.Values.{Value}
use Rattle.lk_lines.specs.Values as value
use Rattle.lk_written.specs.Line.{Line}
use Rattle.lk_units.specs.State.{State, fresh, put, with_name, with_level, with_tree, with_rule, longer_name, successor_level, pair_level, parameter_level, sort_tree, constant_tree, application_tree, binder_tree, let_tree, projection_tree, number_literal, rule_of, all_known, entry_added, declaration_said, unless_fault, with_budget}
use Rattle.lk_book.specs.File.{export_stated}
use Rattle.lk_traced.specs.Placed.{Behind, OpenSection, Both, places_of, local_tree, misplaced, entry_behind, has_section, begin_section, with_derivation, end_section, derivation_said, with_state, with_behind, declared_behind, behind_taken}
use Rattle.lk_traced.specs.Standing.{said_behind}

-- what lines declare and what they state of budgets is the same
pub record StatesSame (s u : State) : Type 0 where
  pub lines : u.lines ≡ s.lines
  pub budgets : u.budgets ≡ s.budgets

pub record StatesBoth (s : State) (b : Behind) (r : Both) : Type 0 where
  pub state : StatesSame s r.state
  pub export : r.behind.export ≡ b.export

for_any : {X Y : Type 0} (Q : Y → Type 0) (r : Result X Word) (f : X → Result Y Word) → ((x : X) → IfOk (f x) Q) → IfOk (r >>= f) Q
for_any Q (Ok x) f h = h x
for_any Q (Err w) f h = tt

same : (s : State) → StatesSame s s
same s = record { lines = refl; budgets = refl }

module _ (s : State) (own : ℕ) where
  kept_name : (said : Result Name Word) → IfOk (with_name s own said) (StatesSame s)
  kept_name said = for_any (StatesSame s) (fresh s.names own said) (λ x. Ok (record s { names = put s.names own x })) (λ x. record { lines = refl; budgets = refl })

  kept_level : (said : Result Level Word) → IfOk (with_level s own said) (StatesSame s)
  kept_level said = for_any (StatesSame s) (fresh s.levels own said) (λ x. Ok (record s { levels = put s.levels own x })) (λ x. record { lines = refl; budgets = refl })

  kept_tree : (said : Result Tree Word) → IfOk (with_tree s own said) (StatesSame s)
  kept_tree said = for_any (StatesSame s) (fresh s.trees own said) (λ x. Ok (record s { trees = put s.trees own x })) (λ x. record { lines = refl; budgets = refl })

  kept_rule : (said : Result RecRule Word) → IfOk (with_rule s own said) (StatesSame s)
  kept_rule said = for_any (StatesSame s) (fresh s.rules own said) (λ x. Ok (record s { rules = put s.rules own x })) (λ x. record { lines = refl; budgets = refl })

  kept_entry : (t : EntryTag) (values : List Value) → IfOk (entry_added s own t values) (StatesSame s)
  unfolding entry_added
  kept_entry entry.NameText (value.Number p ∷ value.Bytes bytes ∷ []) = kept_name (longer_name s p (text bytes))
  kept_entry entry.NameNumber (value.Number p ∷ value.Number n ∷ []) = kept_name (longer_name s p (number n))
  kept_entry entry.Successor (value.Number l ∷ []) = kept_level (successor_level s l)
  kept_entry entry.Max (value.Number l ∷ value.Number m ∷ []) = kept_level (pair_level s (λ x y. max_level x y) l m)
  kept_entry entry.Imax (value.Number l ∷ value.Number m ∷ []) = kept_level (pair_level s (λ x y. imax_level x y) l m)
  kept_entry entry.Parameter (value.Number n ∷ []) = kept_level (parameter_level s n)
  kept_entry entry.Variable (value.Number i ∷ []) = kept_tree (Ok (var i))
  kept_entry entry.Sort (value.Number u ∷ []) = kept_tree (sort_tree s u)
  kept_entry entry.Constant (value.Number n ∷ value.Numbers ls ∷ []) = kept_tree (constant_tree s n ls)
  kept_entry entry.Apply (value.Number f ∷ value.Number a ∷ []) = kept_tree (application_tree s f a)
  kept_entry entry.Lambda (value.OfInfo i ∷ value.Number n ∷ value.Number a ∷ value.Number b ∷ []) = kept_tree (binder_tree s (λ A e. lam A e) n a b)
  kept_entry entry.Pi (value.OfInfo i ∷ value.Number n ∷ value.Number a ∷ value.Number b ∷ []) = kept_tree (binder_tree s (λ A e. pi A e) n a b)
  kept_entry entry.Let (value.Number n ∷ value.Number a ∷ value.Number v ∷ value.Number b ∷ []) = kept_tree (let_tree s n a v b)
  kept_entry entry.Project (value.Number n ∷ value.Number field ∷ value.Number e ∷ []) = kept_tree (projection_tree s n field e)
  kept_entry entry.NatLiteral (value.Literal n ∷ []) = kept_tree (Ok (number_literal n))
  kept_entry entry.TextLiteral (value.Bytes bytes ∷ []) = kept_tree (Ok (str bytes))
  kept_entry entry.Rule (value.Number n ∷ value.Number fields ∷ value.Number v ∷ []) = kept_rule (rule_of s n fields v)
  kept_entry t values = tt

none_kept : {A B : Type 0} (P : B → Type 0) (said : Result A Word) → IfOk (misplaced {B = B} said) P
none_kept P (Ok x) = tt
none_kept P (Err w) = tt

kept_behind : (s : State) (t : EntryTag) (said : Result State Word) → IfOk said (StatesSame s) → IfOk (entry_behind t said) (StatesSame s)
kept_behind s entry.NameText said h = none_kept (StatesSame s) said
kept_behind s entry.NameNumber said h = none_kept (StatesSame s) said
kept_behind s entry.Rule said h = none_kept (StatesSame s) said
kept_behind s entry.Successor said h = h
kept_behind s entry.Max said h = h
kept_behind s entry.Imax said h = h
kept_behind s entry.Parameter said h = h
kept_behind s entry.Variable said h = h
kept_behind s entry.Sort said h = h
kept_behind s entry.Constant said h = h
kept_behind s entry.Apply said h = h
kept_behind s entry.Lambda said h = h
kept_behind s entry.Pi said h = h
kept_behind s entry.Let said h = h
kept_behind s entry.Project said h = h
kept_behind s entry.NatLiteral said h = h
kept_behind s entry.TextLiteral said h = h

abbrev KeepsExport : Behind → Behind → Type 0
KeepsExport b d = d.export ≡ b.export

if_kept : {A : Type 0} (P : A → Type 0) (t : Bool) (r q : Result A Word) → IfOk r P → IfOk q P → IfOk (if t then r else q) P
if_kept P true r q h k = h
if_kept P false r q h k = k

begun_kept : (l : ℕ) (b : Behind) (u : ℕ) → IfOk (begin_section l b u) (KeepsExport b)
begun_kept l b u = go b.begun refl
  where
    go : (p : Option OpenSection) → b.begun ≡ p → IfOk (begin_section l b u) (KeepsExport b)
    go None e =
        rw e (if_kept (KeepsExport b) (has_section b.least u (slice_get b.export.units u))
        (Ok (record b { begun = Some (record { number = l; unit = u; lines = []; places = λ j. None }); least = u + 1 })) (Err TraceOrder) refl tt)
    go (Some o) e = rw e tt

added_kept : (l : ℕ) (b : Behind) (j : ℕ) (line : Line) → IfOk (with_derivation l b j line) (KeepsExport b)
added_kept l b j line = go b.begun refl
  where
    go : (p : Option OpenSection) → b.begun ≡ p → IfOk (with_derivation l b j line) (KeepsExport b)
    go None e = rw e tt
    go (Some o) e = rw e refl

ended_kept : (l : ℕ) (b : Behind) (js : List ℕ) → IfOk (end_section l b js) (KeepsExport b)
ended_kept l b js = go b.begun refl
  where
    go : (p : Option OpenSection) → b.begun ≡ p → IfOk (end_section l b js) (KeepsExport b)
    go None e = rw e tt
    go (Some o) e = rw e refl

state_kept : (s : State) (b : Behind) (said : Result State Word) → IfOk said (StatesSame s) → IfOk (with_state b said) (StatesBoth s b)
state_kept s b (Ok u) h = record { state = h; export = refl }
state_kept s b (Err w) h = tt

sections_kept : (s : State) (b : Behind) (said : Result Behind Word) → IfOk said (KeepsExport b) → IfOk (with_behind s said) (StatesBoth s b)
sections_kept s b (Ok d) h = record { state = record { lines = refl; budgets = refl }; export = h }
sections_kept s b (Err w) h = tt

declared_kept : (s : State) (said : Result PlainMember Word) → IfOk (declared_behind s said) (StatesSame s)
declared_kept s (Ok x) = none_kept (StatesSame s) (unless_fault (fault_of same_name s.lines x) s)
declared_kept s (Err w) = tt

pub behind_kept : (l : ℕ) (s : State) (b : Behind) (own : Option ℕ) (t : Tag) (values : List Value) → IfOk (behind_taken l s b own t values) (StatesBoth s b)
behind_kept l s b (Some own) (Entry t) values = state_kept s b (entry_behind t (entry_added s own t values)) (kept_behind s t (entry_added s own t values) (kept_entry s own t values))
behind_kept l s b (Some own) Local (value.Number k ∷ value.Number t ∷ []) = state_kept s b (with_tree s own (local_tree s k t)) (kept_tree s own (local_tree s k t))
behind_kept l s b (Some own) (Derivation f) values =
    sections_kept s b (derivation_said s b own values >>= λ line. with_derivation l b own line)
    (for_any (KeepsExport b) (derivation_said s b own values) (λ line. with_derivation l b own line) (λ line. added_kept l b own line))
behind_kept l s b None (Declaration t) values = state_kept s b (declared_behind s (declaration_said s t values)) (declared_kept s (declaration_said s t values))
behind_kept l s b None Budget (value.Number n ∷ value.Number steps ∷ []) = none_kept (StatesBoth s b) (with_budget s n steps)
behind_kept l s b None Section (value.Number u ∷ []) = sections_kept s b (begin_section l b u) (begun_kept l b u)
behind_kept l s b None Parts (value.Numbers ps ∷ []) =
    sections_kept s b (all_known (places_of b.begun) ps >>= λ js. end_section l b js)
    (for_any (KeepsExport b) (all_known (places_of b.begun) ps) (λ js. end_section l b js) (λ js. ended_kept l b js))
behind_kept l s b None Trace [] = tt
behind_kept l s b None Trace (v ∷ vs) = tt
behind_kept l s b own t values = tt

pub said_kept : (l : ℕ) (s : State) (b : Behind) (says : Says) → IfOk (said_behind l s b says) (StatesBoth s b)
said_kept l s b Blank = record { state = same s; export = refl }
said_kept l s b Version = record { state = same s; export = refl }
said_kept l s b (OfItem item) = behind_kept l s b item.own item.tag item.values

-- so the export is the same
pub export_kept : (s : State) (b : Behind) (r : Both) → StatesBoth s b r → export_stated s ≡ Ok b.export → export_stated r.state ≡ Ok r.behind.export
export_kept s b r k h = rw (k.state.lines, k.state.budgets, k.export) h
