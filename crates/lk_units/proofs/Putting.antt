-- The number of a line gets what the line made.
use Rattle.std.proofs.Common.{◌≡◌, ℕ, ◌<◌, ◌+◌, Bool, true, false, List, [], ◌∷◌, ◌++◌, length, Some, refl, ap, ◌∙◌, arith, Vec}
use Rattle.std.specs.Prelude.{is_some, if◌then◌else◌, Ok, Err, Result, OnOk, IfOk}
use Rattle.std.specs.declared.option.Option.{Option}
use Rattle.std.specs.declared.alloc.Global.{Global}
use Rattle.std.proofs.lemmas.List.{get_or_append_left, length-append, map-append}
use Rattle.std.proofs.lemmas.List.Elements.{All-push}
use Rattle.lk_store.specs.Contents.{Contents, name_at, level_at, tree_at, Extends}
use Rattle.lk_tree.specs.Tree.{Name, Level, Tree}
use Rattle.lk_lines.specs.declared.words.Word.{Word}
use Rattle.lk_lines.specs.declared.words.Word.TheVariants.{IndexTaken}
use Rattle.lk_lines.specs.Reading.{◌>>=◌}
use Rattle.lk_units.specs.declared.numbering.Numbering.{Numbering}
use Rattle.lk_units.specs.declared.assembler.Assembler.{Assembler}
use Rattle.lk_units.specs.declared.assembler.TakeError.{TakeError}
use Rattle.lk_units.specs.declared.assembler.TakeError.TheVariants as errors
use Rattle.lk_units.specs.Numbering.{entry}
use Rattle.lk_units.specs.State.{State, fresh, put, with_name, with_level, with_tree, with_rule, with_budget}
use Rattle.lk_rulebook.specs.Place.{RecRule}
use Rattle.lk_env.specs.declared.unit.RecursorRule.{RecursorRule}
use Rattle.lk_env.specs.Units.{rule_at, IsRuleIn}
use Rattle.lk_env.specs.declared.budget.Budget.{Budget}
use Rattle.lk_env.specs.Budgets.{budget_at, budgets_at}
use Rattle.lk_units.specs.Held.{Numbered, Below, rule_at_place, rule_held, IsKnown, Holds, Fails, Makes, unless_taken, Puts, Follows}
use Rattle.lk_units.proofs.Holding.{found, is_below, is_taken, put_numbered, put_below, grown_numbered, grown_below, grown_holds, grown_known}
use Rattle.lk_units.proofs.Lines.{fails_then}

fresh_lem : {X : Type 0} (b b' : Bool) (have : ℕ → X) (made : Result ℕ TakeError) (said : Result X Word) → b' ≡ b → Makes have made said
    → Makes have (if b then Err (errors.Fault IndexTaken) else made) (if b' then Err IndexTaken else said)
fresh_lem true b' have made said e h = rw e refl
fresh_lem false b' have made said e h = rw e h

-- what was made stands for what the line says, and it is told that a number is taken
makes_fresh : {X : Type 0} (numbers : Numbering) (have : ℕ → X) (mean : ℕ → Option X) (own : ℕ) (made : Result ℕ TakeError) (said : Result X Word) → Numbered numbers have mean → Makes have made said
    → Makes have (unless_taken numbers own made) (fresh mean own said)
makes_fresh numbers have mean own made said n h = fresh_lem (is_some (entry numbers own)) (is_some (mean own)) have made said (is_taken numbers have mean own n) h

-- behind the line the numbering stands for what the line says
abbrev IsPut : {X : Type 0} → Numbering → (ℕ → X) → (ℕ → Option X) → ℕ → Result (Unit {0}) TakeError → Result X Word → Type 0
IsPut {X} new have mean own (Ok u) said = (x : X) × (said ≡ Ok x) × Numbered new have (put mean own x)
IsPut new have mean own (Err e) said = Fails e said

put_lem : {X : Type 0} (old new : Numbering) (have : ℕ → X) (mean : ℕ → Option X) (own : ℕ) (made : Result ℕ TakeError) (said : Result X Word) (r : Result (Unit {0}) TakeError)
    → Numbered old have mean → Puts old new own made r → Makes have (unless_taken old own made) (fresh mean own said) → IsPut new have mean own r (fresh mean own said)
put_lem old new have mean own made said (Ok u) n p h = (have p.0, rw p.1 at h, put_numbered old new have mean own p.0 n p.2)
put_lem old new have mean own made said (Err errors.NoMemory) n p h = tt
put_lem old new have mean own made said (Err (errors.Fault w)) n p h = rw p at h

is_put : {X : Type 0} (old new : Numbering) (have : ℕ → X) (mean : ℕ → Option X) (own : ℕ) (made : Result ℕ TakeError) (said : Result X Word) (r : Result (Unit {0}) TakeError)
    → Numbered old have mean → Puts old new own made r → Makes have made said → IsPut new have mean own r (fresh mean own said)
is_put old new have mean own made said r n p h = put_lem old new have mean own made said r n p (makes_fresh old have mean own made said n h)

taken_lem : (b : Bool) (made : Result ℕ TakeError) (i len : ℕ) → (if b then Err (errors.Fault IndexTaken) else made) ≡ Ok i → IfOk made (λ j. j < len) → i < len
taken_lem true made i len e h = absurd (cc)
taken_lem false made i len e h = rw e at h

-- and what it has is below the same length
still_below : (old new : Numbering) (len own : ℕ) (made : Result ℕ TakeError) (r : Result (Unit {0}) TakeError) → Below old len → IfOk made (λ i. i < len) → Puts old new own made r → OnOk r (Below new len)
still_below old new len own made (Ok u) b h p = put_below old new len own p.0 b (taken_lem (is_some (entry old own)) made p.0 len p.1 h) p.2
still_below old new len own made (Err e) b h p = tt

put_follows : {X : Type 0} (new : Numbering) (have : ℕ → X) (mean : ℕ → Option X) (own : ℕ) (r : Result (Unit {0}) TakeError) (said : Result X Word) (state : X → State) (b : Assembler) (c : Contents) → IsPut new have mean own r said
    → ((x : X) → Numbered new have (put mean own x) → Holds b c (state x)) → Follows b c r (said >>= λ x. Ok (state x))
put_follows new have mean own (Ok u) said state b c p h = (state p.0, rw p.1 refl, h p.0 p.2)
put_follows new have mean own (Err e) said state b c p h = fails_then e said (λ x. Ok (state x)) p

pub name_follows : (a : Assembler) (new : Numbering) (c d : Contents) (s : State) (own : ℕ) (made : Result ℕ TakeError) (said : Result Name Word) (r : Result (Unit {0}) TakeError) → IsKnown a c → Extends c d → Holds a c s
    → Makes (name_at d) made said → Puts a.by_name new own made r → Follows (record a { by_name = new }) d r (with_name s own said)
name_follows a new c d s own made said r k x h m p =
    let g = grown_holds c d x a s k h in
    put_follows new (name_at d) s.names own r (fresh s.names own said) (λ y. record s { names = put s.names own y }) (record a { by_name = new }) d
    (is_put a.by_name new (name_at d) s.names own made said r g.names p m) (λ y n. record { names = n; levels = g.levels; trees = g.trees; rules = g.rules; parts = g.parts; lines = g.lines; budgets = g.budgets; count = g.count })

pub level_follows : (a : Assembler) (new : Numbering) (c d : Contents) (s : State) (own : ℕ) (made : Result ℕ TakeError) (said : Result Level Word) (r : Result (Unit {0}) TakeError) → IsKnown a c → Extends c d → Holds a c s
    → Makes (level_at d) made said → Puts a.by_level new own made r → Follows (record a { by_level = new }) d r (with_level s own said)
level_follows a new c d s own made said r k x h m p =
    let g = grown_holds c d x a s k h in
    put_follows new (level_at d) s.levels own r (fresh s.levels own said) (λ y. record s { levels = put s.levels own y }) (record a { by_level = new }) d
    (is_put a.by_level new (level_at d) s.levels own made said r g.levels p m) (λ y n. record { names = g.names; levels = n; trees = g.trees; rules = g.rules; parts = g.parts; lines = g.lines; budgets = g.budgets; count = g.count })

pub tree_follows : (a : Assembler) (new : Numbering) (c d : Contents) (s : State) (own : ℕ) (made : Result ℕ TakeError) (said : Result Tree Word) (r : Result (Unit {0}) TakeError) → IsKnown a c → Extends c d → Holds a c s
    → Makes (tree_at d) made said → Puts a.by_tree new own made r → Follows (record a { by_tree = new }) d r (with_tree s own said)
tree_follows a new c d s own made said r k x h m p =
    let g = grown_holds c d x a s k h in
    put_follows new (tree_at d) s.trees own r (fresh s.trees own said) (λ y. record s { trees = put s.trees own y }) (record a { by_tree = new }) d
    (is_put a.by_tree new (tree_at d) s.trees own made said r g.trees p m) (λ y n. record { names = g.names; levels = g.levels; trees = n; rules = g.rules; parts = g.parts; lines = g.lines; budgets = g.budgets; count = g.count })

-- what the numbers have is still known
known_lem : (r : Result (Unit {0}) TakeError) (P Q : Type 0) → (P → Q) → OnOk r P → OnOk r Q
known_lem (Ok u) P Q f h = f h
known_lem (Err e) P Q f h = tt

pub name_known : (a : Assembler) (new : Numbering) (c d : Contents) (own : ℕ) (made : Result ℕ TakeError) (r : Result (Unit {0}) TakeError) → IsKnown a c → Extends c d → IfOk made (λ i. i < length d.names)
    → Puts a.by_name new own made r → OnOk r (IsKnown (record a { by_name = new }) d)
name_known a new c d own made r k x m p =
    let g = grown_known c d x a k in
    known_lem r (Below new (length d.names)) (IsKnown (record a { by_name = new }) d) (λ b. record { names_below = b; levels_below = g.levels_below; trees_below = g.trees_below; rules_below = g.rules_below; rules_in = g.rules_in; parts_in = g.parts_in; lines_in = g.lines_in; indexed = g.indexed; faultless = g.faultless; budgets_in = g.budgets_in })
    (still_below a.by_name new (length d.names) own made r g.names_below m p)

pub level_known : (a : Assembler) (new : Numbering) (c d : Contents) (own : ℕ) (made : Result ℕ TakeError) (r : Result (Unit {0}) TakeError) → IsKnown a c → Extends c d → IfOk made (λ i. i < length d.levels)
    → Puts a.by_level new own made r → OnOk r (IsKnown (record a { by_level = new }) d)
level_known a new c d own made r k x m p =
    let g = grown_known c d x a k in
    known_lem r (Below new (length d.levels)) (IsKnown (record a { by_level = new }) d) (λ b. record { names_below = g.names_below; levels_below = b; trees_below = g.trees_below; rules_below = g.rules_below; rules_in = g.rules_in; parts_in = g.parts_in; lines_in = g.lines_in; indexed = g.indexed; faultless = g.faultless; budgets_in = g.budgets_in })
    (still_below a.by_level new (length d.levels) own made r g.levels_below m p)

pub tree_known : (a : Assembler) (new : Numbering) (c d : Contents) (own : ℕ) (made : Result ℕ TakeError) (r : Result (Unit {0}) TakeError) → IsKnown a c → Extends c d → IfOk made (λ i. i < length d.trees)
    → Puts a.by_tree new own made r → OnOk r (IsKnown (record a { by_tree = new }) d)
tree_known a new c d own made r k x m p =
    let g = grown_known c d x a k in
    known_lem r (Below new (length d.trees)) (IsKnown (record a { by_tree = new }) d) (λ b. record { names_below = g.names_below; levels_below = g.levels_below; trees_below = b; rules_below = g.rules_below; rules_in = g.rules_in; parts_in = g.parts_in; lines_in = g.lines_in; indexed = g.indexed; faultless = g.faultless; budgets_in = g.budgets_in })
    (still_below a.by_tree new (length d.trees) own made r g.trees_below m p)

-- a rule
pub rule_follows : (a : Assembler) (new : Numbering) (c : Contents) (s : State) (own : ℕ) (made : Result ℕ TakeError) (said : Result RecRule Word) (r : Result (Unit {0}) TakeError) → Holds a c s
    → Makes (rule_held c a.rules.items) made said → Puts a.by_rule new own made r → Follows (record a { by_rule = new }) c r (with_rule s own said)
rule_follows a new c s own made said r g m p =
    put_follows new (rule_held c a.rules.items) s.rules own r (fresh s.rules own said) (λ y. record s { rules = put s.rules own y }) (record a { by_rule = new }) c
    (is_put a.by_rule new (rule_held c a.rules.items) s.rules own made said r g.rules p m) (λ y n. record { names = g.names; levels = g.levels; trees = g.trees; rules = n; parts = g.parts; lines = g.lines; budgets = g.budgets; count = g.count })

pub rule_known : (a : Assembler) (new : Numbering) (c : Contents) (own : ℕ) (made : Result ℕ TakeError) (r : Result (Unit {0}) TakeError) → IsKnown a c → IfOk made (λ i. i < length a.rules.items)
    → Puts a.by_rule new own made r → OnOk r (IsKnown (record a { by_rule = new }) c)
rule_known a new c own made r g m p =
    known_lem r (Below new (length a.rules.items)) (IsKnown (record a { by_rule = new }) c)
    (λ b. record { names_below = g.names_below; levels_below = g.levels_below; trees_below = g.trees_below; rules_below = b; rules_in = g.rules_in; parts_in = g.parts_in; lines_in = g.lines_in; indexed = g.indexed; faultless = g.faultless; budgets_in = g.budgets_in })
    (still_below a.by_rule new (length a.rules.items) own made r g.rules_below m p)

-- one more rule
rule_same_place : (rules more : List RecursorRule) (r : RecursorRule) (i : ℕ) → i < length rules → more ≡ rules ++ r ∷ [] → rule_at_place more i ≡ rule_at_place rules i
rule_same_place rules more r i l e = rw e (get_or_append_left rules (r ∷ []) _ i l)

pub rule_pushed : (a : Assembler) (rules : Vec RecursorRule Global) (c : Contents) (s : State) (r : RecursorRule) → IsKnown a c → rules.items ≡ a.rules.items ++ r ∷ [] → Holds a c s → Holds (record a { rules = rules }) c s
rule_pushed a rules c s r k e h = record {
  names = h.names;
  levels = h.levels;
  trees = h.trees;
  rules = grown_numbered a.by_rule (length a.rules.items) (rule_held c a.rules.items) (rule_held c rules.items) s.rules (λ i l. ap (rule_at c) (rule_same_place a.rules.items rules.items r i l e)) k.rules_below h.rules;
  parts = h.parts;
  lines = h.lines;
  budgets = h.budgets;
  count = h.count;
}

pub rule_pushed_known : (a : Assembler) (rules : Vec RecursorRule Global) (c : Contents) (r : RecursorRule) → IsKnown a c → IsRuleIn c r → rules.items ≡ a.rules.items ++ r ∷ [] → IsKnown (record a { rules = rules }) c
rule_pushed_known a rules c r k in_ e = record {
  names_below = k.names_below;
  levels_below = k.levels_below;
  trees_below = k.trees_below;
  rules_below = grown_below a.by_rule (length a.rules.items) (length rules.items) (let l : length rules.items ≡ length a.rules.items + 1 = rw (e, length-append a.rules.items (r ∷ [])) refl in omega arith) k.rules_below;
  rules_in = rw e (All-push (IsRuleIn c) a.rules.items r k.rules_in in_);
  parts_in = k.parts_in;
  lines_in = k.lines_in;
  indexed = k.indexed;
  faultless = k.faultless;
  budgets_in = k.budgets_in;
}

-- one more line of a budget
pub budget_pushed : (a : Assembler) (budgets : Vec Budget Global) (c : Contents) (s : State) (n i steps : ℕ) → entry a.by_name n ≡ Some i → budgets.items ≡ a.budgets.items ++ record { name = i; steps = steps } ∷ [] → Holds a c s
    → Follows (record a { budgets = budgets }) c (Ok tt) (with_budget s n steps)
budget_pushed a budgets c s n i steps e is h = (
  record s { budgets = s.budgets ++ record { name = name_at c i; steps = steps } ∷ [] },
  rw (found a.by_name (name_at c) s.names n i h.names e) refl,
  record {
    names = h.names;
    levels = h.levels;
    trees = h.trees;
    rules = h.rules;
    parts = h.parts;
    lines = h.lines;
    budgets = ap (budgets_at c) is ∙ map-append (budget_at c) a.budgets.items (record { name = i; steps = steps } ∷ []) ∙ ap (λ bs. bs ++ record { name = name_at c i; steps = steps } ∷ []) h.budgets;
    count = h.count;
  },
)

pub budget_pushed_known : (a : Assembler) (budgets : Vec Budget Global) (c : Contents) (n i steps : ℕ) → entry a.by_name n ≡ Some i → budgets.items ≡ a.budgets.items ++ record { name = i; steps = steps } ∷ [] → IsKnown a c → IsKnown (record a { budgets = budgets }) c
budget_pushed_known a budgets c n i steps e is k = record {
  names_below = k.names_below;
  levels_below = k.levels_below;
  trees_below = k.trees_below;
  rules_below = k.rules_below;
  rules_in = k.rules_in;
  parts_in = k.parts_in;
  lines_in = k.lines_in;
  indexed = k.indexed;
  faultless = k.faultless;
  budgets_in = rw is (All-push (λ (b : Budget). b.name < length c.names) a.budgets.items (record { name = i; steps = steps }) k.budgets_in (is_below a.by_name (length c.names) n i k.names_below e));
}
