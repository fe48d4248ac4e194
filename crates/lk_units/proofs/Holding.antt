-- What an assembler stands for, by what it has.
use Rattle.std.proofs.Common.{◌≡◌, ℕ, ◌<◌, ◌≤◌, ◌==◌, Bool, true, false, List, [], ◌∷◌, length, Some, None, refl, sym, ◌∙◌, ap, arith}
use Rattle.std.specs.Prelude.{map, option_map, All, IfSome, is_some, if◌then◌else◌, Ok, Err}
use Rattle.std.specs.declared.option.Option.{Option}
use Rattle.std.proofs.lemmas.List.Elements.{All-weaker, All-head, All-tail}
use Rattle.lk_store.specs.Contents.{Contents, name_at, level_at, tree_at, Extends}
use Rattle.lk_store.proofs.Made.{Extends-self}
use Rattle.lk_lines.specs.declared.words.Word.TheVariants.{IndexUnknown}
use Rattle.lk_units.specs.declared.numbering.Numbering.{Numbering}
use Rattle.lk_units.specs.declared.assembler.Assembler.{Assembler}
use Rattle.lk_units.specs.declared.assembler.TakeError.{TakeError}
use Rattle.lk_units.specs.declared.assembler.TakeError.TheVariants as errors
use Rattle.lk_units.specs.Numbering.{entry}
use Rattle.lk_units.specs.State.{State, known, known_of, put}
use Rattle.lk_env.specs.declared.unit.RecursorRule.{RecursorRule}
use Rattle.lk_env.specs.Units.{IsRuleIn}
use Rattle.lk_env.specs.declared.budget.Budget.{Budget}
use Rattle.lk_env.specs.Budgets.{budget_at, budgets_at, AreBudgetsIn}
use Rattle.lk_units.specs.Held.{Numbered, Below, rule_at_place, rule_held, IsPartIn, IsKnown, Holds, Fails}
use Rattle.lk_members.specs.declared.members.Members.{Members}
use Rattle.lk_members.specs.Plain.{lines_at}
use Rattle.lk_members.proofs.Growing.{rule_same, rule_stays, lines_steady, lines_stay}

-- a store that did not change extends itself
pub ruleset unchanged = (Extends-self)

mean_is : {X : Type 0} → (numbers : Numbering) (have : ℕ → X) (mean : ℕ → Option X) (n : ℕ) (e : Option ℕ) → Numbered numbers have mean → entry numbers n ≡ e → mean n ≡ option_map have e
mean_is numbers have mean n e h q = sym (h.same n) ∙ ap (option_map have) q

pub found : {X : Type 0} → (numbers : Numbering) (have : ℕ → X) (mean : ℕ → Option X) (n i : ℕ) → Numbered numbers have mean → entry numbers n ≡ Some i → known mean n ≡ Ok (have i)
found numbers have mean n i h e = ap known_of (mean_is numbers have mean n (Some i) h e)

pub missing : {X : Type 0} → (numbers : Numbering) (have : ℕ → X) (mean : ℕ → Option X) (n : ℕ) → Numbered numbers have mean → entry numbers n ≡ None → known mean n ≡ Err IndexUnknown
missing numbers have mean n h e = ap known_of (mean_is numbers have mean n None h e)

pub failing : {X : Type 0} (numbers : Numbering) (have : ℕ → X) (mean : ℕ → Option X) (n : ℕ) (e : TakeError) → Numbered numbers have mean
    → e ≡ errors.Fault IndexUnknown → entry numbers n ≡ None → Fails e (known mean n)
failing numbers have mean n e h is none = rw is (missing numbers have mean n h none)

if_some : (o : Option ℕ) (i len : ℕ) → IfSome o (λ j. j < len) → o ≡ Some i → i < len
if_some o i len h e = rw e at h

pub is_below : (numbers : Numbering) (len n i : ℕ) → Below numbers len → entry numbers n ≡ Some i → i < len
is_below numbers len n i h e = if_some (entry numbers n) i len (h.below n) e

-- a numbering as what it stands for grows
grown_lem : {X : Type 0} → (e : Option ℕ) (len : ℕ) (have have2 : ℕ → X) → IfSome e (λ i. i < len) → ((i : ℕ) → i < len → have2 i ≡ have i) → option_map have2 e ≡ option_map have e
grown_lem None len have have2 lt same = refl
grown_lem (Some i) len have have2 lt same = ap Some (same i lt)

below_lem : (e : Option ℕ) (len len2 : ℕ) → len ≤ len2 → IfSome e (λ i. i < len) → IfSome e (λ i. i < len2)
below_lem None len len2 le lt = lt
below_lem (Some i) len len2 le lt = omega arith

pub grown_numbered : {X : Type 0} → (numbers : Numbering) (len : ℕ) (have have2 : ℕ → X) (mean : ℕ → Option X) → ((i : ℕ) → i < len → have2 i ≡ have i) → Below numbers len → Numbered numbers have mean → Numbered numbers have2 mean
grown_numbered numbers len have have2 mean same b h = record { same = λ n. grown_lem (entry numbers n) len have have2 (b.below n) same ∙ h.same n }

pub grown_below : (numbers : Numbering) (len len2 : ℕ) → len ≤ len2 → Below numbers len → Below numbers len2
grown_below numbers len len2 le h = record { below = λ n. below_lem (entry numbers n) len len2 le (h.below n) }

-- rules stand for the same for good
rules_steady : (c d : Contents) → Extends c d → (rules : List RecursorRule) → All (IsRuleIn c) rules → (i : ℕ) → i < length rules → rule_held d rules i ≡ rule_held c rules i
rules_steady c d x rules h i l = rule_same c d x (rule_at_place rules i) (h i _ l)

-- the lines of parts stand for the same for good
parts_steady : (c d : Contents) → Extends c d → (ms : List Members) → All (IsPartIn c) ms → map (λ (m : Members). lines_at d m.lines.items) ms ≡ map (λ (m : Members). lines_at c m.lines.items) ms
parts_steady c d x [] h = refl
parts_steady c d x (m ∷ ms) h =
    let first = lines_steady c d x m.lines.items (All-head (IsPartIn c) m ms h).lines_in in
    let others = parts_steady c d x ms (All-tail (IsPartIn c) m ms h) in
    cc

part_stays : (c d : Contents) → Extends c d → (m : Members) → IsPartIn c m → IsPartIn d m
part_stays c d x m p = record { lines_in = lines_stay c d x m.lines.items p.lines_in; indexed = p.indexed; faultless = p.faultless }

-- what lines state of budgets stays the same for good
budget_steady : (c d : Contents) → Extends c d → (b : Budget) → b.name < length c.names → budget_at d b ≡ budget_at c b
budget_steady c d x b l = rw (x.names.same b.name l) refl

budgets_steady : (c d : Contents) → Extends c d → (bs : List Budget) → AreBudgetsIn c bs → budgets_at d bs ≡ budgets_at c bs
budgets_steady c d x [] h = refl
budgets_steady c d x (b ∷ bs) h =
    let P : Budget → Type 0 = λ k. k.name < length c.names in
    rw (budget_steady c d x b (All-head P b bs h), budgets_steady c d x bs (All-tail P b bs h)) refl

budgets_stay : (c d : Contents) → Extends c d → (bs : List Budget) → AreBudgetsIn c bs → AreBudgetsIn d bs
budgets_stay c d x bs h =
    All-weaker (λ (b : Budget). b.name < length c.names) (λ (b : Budget). b.name < length d.names) (λ b l. let longer = x.names.longer in omega arith) bs h

-- an assembler as the store grows
pub grown_holds : (c d : Contents) → Extends c d → (a : Assembler) (s : State) → IsKnown a c → Holds a c s → Holds a d s
grown_holds c d x a s k h = record {
  names = grown_numbered a.by_name (length c.names) (name_at c) (name_at d) s.names x.names.same k.names_below h.names;
  levels = grown_numbered a.by_level (length c.levels) (level_at c) (level_at d) s.levels x.levels.same k.levels_below h.levels;
  trees = grown_numbered a.by_tree (length c.trees) (tree_at c) (tree_at d) s.trees x.trees.same k.trees_below h.trees;
  rules = grown_numbered a.by_rule (length a.rules.items) (rule_held c a.rules.items) (rule_held d a.rules.items) s.rules (rules_steady c d x a.rules.items k.rules_in) k.rules_below h.rules;
  parts = parts_steady c d x a.parts.items k.parts_in ∙ h.parts;
  lines = lines_steady c d x a.members.lines.items k.lines_in ∙ h.lines;
  budgets = budgets_steady c d x a.budgets.items k.budgets_in ∙ h.budgets;
  count = h.count;
}

pub grown_known : (c d : Contents) → Extends c d → (a : Assembler) → IsKnown a c → IsKnown a d
grown_known c d x a k = record {
  names_below = grown_below a.by_name (length c.names) (length d.names) x.names.longer k.names_below;
  levels_below = grown_below a.by_level (length c.levels) (length d.levels) x.levels.longer k.levels_below;
  trees_below = grown_below a.by_tree (length c.trees) (length d.trees) x.trees.longer k.trees_below;
  rules_below = k.rules_below;
  rules_in = All-weaker (IsRuleIn c) (IsRuleIn d) (rule_stays c d x) a.rules.items k.rules_in;
  parts_in = All-weaker (IsPartIn c) (IsPartIn d) (part_stays c d x) a.parts.items k.parts_in;
  lines_in = lines_stay c d x a.members.lines.items k.lines_in;
  indexed = k.indexed;
  faultless = k.faultless;
  budgets_in = budgets_stay c d x a.budgets.items k.budgets_in;
}

-- one more number
put_lem : {X : Type 0} → (b : Bool) (e old : Option ℕ) (i : ℕ) (have : ℕ → X) (mean : Option X) → e ≡ (if b then Some i else old) → option_map have old ≡ mean → option_map have e ≡ (if b then Some (have i) else mean)
put_lem true e old i have mean q h = ap (option_map have) q
put_lem false e old i have mean q h = ap (option_map have) q ∙ h

put_below_lem : (b : Bool) (e old : Option ℕ) (i len : ℕ) → e ≡ (if b then Some i else old) → IfSome old (λ j. j < len) → i < len → IfSome e (λ j. j < len)
put_below_lem true e old i len q h lt = rw q lt
put_below_lem false e old i len q h lt = rw q h

pub put_numbered : {X : Type 0} → (old new : Numbering) (have : ℕ → X) (mean : ℕ → Option X) (own i : ℕ) → Numbered old have mean
    → ((q : ℕ) → entry new q ≡ (if q == own then Some i else entry old q)) → Numbered new have (put mean own (have i))
put_numbered old new have mean own i h e = record { same = λ q. put_lem (q == own) (entry new q) (entry old q) i have (mean q) (e q) (h.same q) }

pub put_below : (old new : Numbering) (len own i : ℕ) → Below old len → i < len → ((q : ℕ) → entry new q ≡ (if q == own then Some i else entry old q)) → Below new len
put_below old new len own i h lt e = record { below = λ q. put_below_lem (q == own) (entry new q) (entry old q) i len (e q) (h.below q) lt }

some_of : {X : Type 0} (e : Option ℕ) (have : ℕ → X) (mean : Option X) → option_map have e ≡ mean → is_some mean ≡ is_some e
some_of None have mean h = ap is_some (sym h)
some_of (Some i) have mean h = ap is_some (sym h)

-- a number is taken exactly where it has a place
pub is_taken : {X : Type 0} (numbers : Numbering) (have : ℕ → X) (mean : ℕ → Option X) (own : ℕ) → Numbered numbers have mean → is_some (mean own) ≡ is_some (entry numbers own)
is_taken numbers have mean own h = some_of (entry numbers own) have (mean own) (h.same own)

-- the first numbers
pub first_numbered : {X : Type 0} (numbers : Numbering) (have : ℕ → X) (i : ℕ) (x : X) → have i ≡ x → ((q : ℕ) → entry numbers q ≡ (if q == 0 then Some i else None)) → Numbered numbers have (λ n. if n == 0 then Some x else None)
first_numbered numbers have i x is e = record { same = λ q. rw (← is) (put_lem (q == 0) (entry numbers q) None i have None (e q) refl) }

pub first_below : (numbers : Numbering) (len i : ℕ) → i < len → ((q : ℕ) → entry numbers q ≡ (if q == 0 then Some i else None)) → Below numbers len
first_below numbers len i lt e = record { below = λ q. put_below_lem (q == 0) (entry numbers q) None i len (e q) tt lt }

pub none_below : (numbers : Numbering) (len : ℕ) → ((q : ℕ) → entry numbers q ≡ None) → Below numbers len
none_below numbers len e = record { below = λ q. rw (e q) tt }

pub none_numbered : {X : Type 0} (numbers : Numbering) (have : ℕ → X) → ((q : ℕ) → entry numbers q ≡ None) → Numbered numbers have (λ n. None)
none_numbered numbers have e = record { same = λ q. ap (option_map have) (e q) }
