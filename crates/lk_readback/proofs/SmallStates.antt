-- What the numbers of a file stand for, and what its lines state, can be stated: each item keeps
-- this.
use Rattle.std.proofs.Common.{ℕ, ◌≡◌, ◌+◌, ◌==◌, Bool, true, false, List, [], ◌∷◌, ◌++◌, Some, None}
use Rattle.std.proofs.Common.{nat_lt, refl}
use Rattle.std.specs.Prelude.{IfSome, IfOk, is_some, if◌then◌else◌, ◌^◌, ◌<◌, ◌-◌, Result, Ok, Err}
use Rattle.std.specs.Prelude.{All}
use Rattle.std.specs.declared.option.Option.{Option}
use Rattle.std.proofs.lemmas.List.Elements.{All-nil, All-push}
use Rattle.lk_tree.specs.Tree.{Name, text, number, Level, zero_level, succ_level, max_level}
use Rattle.lk_tree.specs.Tree.{imax_level, param, Tree, var, sort, app, lam, pi, str}
use Rattle.lk_tree.specs.Mentions.{same_name}
use Rattle.lk_rulebook.specs.Place.{RecRule}
use Rattle.lk_rulebook.specs.Units.{Body, as_axiom, as_def, as_thm, as_opaque, as_quot}
use Rattle.lk_members.specs.declared.fault.MemberFault.{MemberFault}
use Rattle.lk_members.specs.Faults.{fault_of}
use Rattle.lk_members.specs.Plain.{PlainMember, PlainLine}
use Rattle.lk_lines.specs.declared.words.Word.{Word}
use Rattle.lk_lines.specs.declared.words.Word.TheVariants.{IndexTaken, TooManyItems}
use Rattle.lk_lines.specs.declared.tags.EntryTag.{EntryTag}
use Rattle.lk_lines.specs.declared.tags.EntryTag.TheVariants as entry
use Rattle.lk_lines.specs.declared.tags.DeclarationTag.{DeclarationTag}
use Rattle.lk_lines.specs.declared.tags.DeclarationTag.TheVariants as decl
use Rattle.lk_lines.specs.declared.tags.Tag.{Tag}
use Rattle.lk_lines.specs.declared.tags.Tag.TheVariants.{Entry, Declaration, Budget, Go, Trace, Section, Parts, Local, Derivation}
use Rattle.lk_lines.specs.Reading.{◌>>=◌}
use Rattle.lk_lines.specs.Table.{dues_of}
use Rattle.lk_lines.specs.Items.{Item}
use Rattle.lk_lines.specs.Values.{Value}
use Rattle.lk_lines.specs.Values as value
use Rattle.lk_units.specs.State.{State, begin, known, all_known, fresh, put, with_name}
use Rattle.lk_units.specs.State.{with_level, with_tree, with_rule, longer_name, successor_level}
use Rattle.lk_units.specs.State.{pair_level, parameter_level, sort_tree, constant_tree}
use Rattle.lk_units.specs.State.{application_tree, binder_tree, let_tree, projection_tree}
use Rattle.lk_units.specs.State.{number_literal, rule_of}
use Rattle.lk_units.specs.State.{declaration_of, hint_said, value_body, valued_of, entry_added}
use Rattle.lk_units.specs.State.{declaration_said, counted, unless_fault, with_line, declared}
use Rattle.lk_units.specs.State.{with_budget, next_part, added, take_item}
use Rattle.lk_readback.specs.Statable.{IsName, IsLevel, IsTree, IsBody, IsRule}
use Rattle.lk_readback.specs.Statable.{IsBudget}
use Rattle.lk_readback.proofs.SmallMembers.{IsMember, AreMembers, HaveNoFault, none_at_first}
use Rattle.lk_readback.proofs.SmallMembers.{one_more_line}
use Rattle.lk_readback.proofs.SmallItems.{AreDueValues, IsSmallItem}
use Rattle.lk_readback.proofs.SmallMade.{AreKnown, if_known, if_all_known}
use Rattle.lk_readback.proofs.SmallMade.{longer_made, one_made, two_made, binder_made, let_made}
use Rattle.lk_readback.proofs.SmallMade.{projection_made, constant_made, rule_made}
use Rattle.lk_readback.proofs.SmallMade.{declaration_made, type_made, ctor_made, recursor_made}

pub record IsSmallState (s : State) : Type 0 where
  pub names : (n : ℕ) → IfSome (s.names n) IsName
  pub levels : (n : ℕ) → IfSome (s.levels n) IsLevel
  pub trees : (n : ℕ) → IfSome (s.trees n) IsTree
  pub rules : (n : ℕ) → IfSome (s.rules n) IsRule
  pub lines : AreMembers s.lines
  pub faultless : HaveNoFault s.lines
  pub budgets : All IsBudget s.budgets

put_if : {X : Type 0} (P : X → Type 0) (b : Bool) (x : X) (o : Option X) → P x → IfSome o P
    → IfSome (if b then Some x else o) P
put_if P true x o p h = p
put_if P false x o p h = h

if_fresh : {X : Type 0} (P : X → Type 0) (b : Bool) (r : Result X Word) → IfOk r P
    → IfOk (if b then Err IndexTaken else r) P
if_fresh P true r h = tt
if_fresh P false r h = h

kept_name : (s : State) (own : ℕ) (said : Result Name Word) → IsSmallState s → IfOk said IsName
    → IfOk (with_name s own said) IsSmallState
kept_name s own said k h =
    go (fresh s.names own said) (if_fresh IsName (is_some (s.names own)) said h)
  where
    go : (r : Result Name Word) → IfOk r IsName
        → IfOk (r >>= λ x. Ok (record s { names = put s.names own x })) IsSmallState
    go (Ok x) p = record {
      names = λ q. put_if IsName (q == own) x (s.names q) p (k.names q);
      levels = k.levels;
      trees = k.trees;
      rules = k.rules;
      lines = k.lines;
      faultless = k.faultless;
      budgets = k.budgets;
    }
    go (Err w) p = tt

kept_level : (s : State) (own : ℕ) (said : Result Level Word) → IsSmallState s → IfOk said IsLevel
    → IfOk (with_level s own said) IsSmallState
kept_level s own said k h =
    go (fresh s.levels own said) (if_fresh IsLevel (is_some (s.levels own)) said h)
  where
    go : (r : Result Level Word) → IfOk r IsLevel
        → IfOk (r >>= λ x. Ok (record s { levels = put s.levels own x })) IsSmallState
    go (Ok x) p = record {
      names = k.names;
      levels = λ q. put_if IsLevel (q == own) x (s.levels q) p (k.levels q);
      trees = k.trees;
      rules = k.rules;
      lines = k.lines;
      faultless = k.faultless;
      budgets = k.budgets;
    }
    go (Err w) p = tt

kept_tree : (s : State) (own : ℕ) (said : Result Tree Word) → IsSmallState s → IfOk said IsTree
    → IfOk (with_tree s own said) IsSmallState
kept_tree s own said k h =
    go (fresh s.trees own said) (if_fresh IsTree (is_some (s.trees own)) said h)
  where
    go : (r : Result Tree Word) → IfOk r IsTree
        → IfOk (r >>= λ x. Ok (record s { trees = put s.trees own x })) IsSmallState
    go (Ok x) p = record {
      names = k.names;
      levels = k.levels;
      trees = λ q. put_if IsTree (q == own) x (s.trees q) p (k.trees q);
      rules = k.rules;
      lines = k.lines;
      faultless = k.faultless;
      budgets = k.budgets;
    }
    go (Err w) p = tt

kept_rule : (s : State) (own : ℕ) (said : Result RecRule Word) → IsSmallState s → IfOk said IsRule
    → IfOk (with_rule s own said) IsSmallState
kept_rule s own said k h =
    go (fresh s.rules own said) (if_fresh IsRule (is_some (s.rules own)) said h)
  where
    go : (r : Result RecRule Word) → IfOk r IsRule
        → IfOk (r >>= λ x. Ok (record s { rules = put s.rules own x })) IsSmallState
    go (Ok x) p = record {
      names = k.names;
      levels = k.levels;
      trees = k.trees;
      rules = λ q. put_if IsRule (q == own) x (s.rules q) p (k.rules q);
      lines = k.lines;
      faultless = k.faultless;
      budgets = k.budgets;
    }
    go (Err w) p = tt

-- what one number stands for, or several
module _ (s : State) (k : IsSmallState s) where
  name_of : (n : ℕ) → IfOk (known s.names n) IsName
  name_of n = if_known IsName (s.names n) (k.names n)

  level_of : (n : ℕ) → IfOk (known s.levels n) IsLevel
  level_of n = if_known IsLevel (s.levels n) (k.levels n)

  tree_of : (n : ℕ) → IfOk (known s.trees n) IsTree
  tree_of n = if_known IsTree (s.trees n) (k.trees n)

  names_of : (ns : List ℕ) → IfOk (all_known s.names ns) (AreKnown IsName ns)
  names_of ns = if_all_known IsName s.names ns k.names

  levels_of : (ns : List ℕ) → IfOk (all_known s.levels ns) (AreKnown IsLevel ns)
  levels_of ns = if_all_known IsLevel s.levels ns k.levels

  rules_of : (ns : List ℕ) → IfOk (all_known s.rules ns) (AreKnown IsRule ns)
  rules_of ns = if_all_known IsRule s.rules ns k.rules

kept_binder : (f : Tree → Tree → Tree) → ((a b : Tree) → IsTree a → IsTree b → IsTree (f a b))
    → (s : State) (own n a b : ℕ) → IsSmallState s
    → IfOk (with_tree s own (binder_tree s f n a b)) IsSmallState
kept_binder f g s own n a b k =
    kept_tree s own (binder_tree s f n a b) k
    (binder_made f g (known s.names n) (known s.trees a) (known s.trees b) (tree_of s k a)
    (tree_of s k b))

kept_pair : (f : Level → Level → Level)
    → ((l m : Level) → IsLevel l → IsLevel m → IsLevel (f l m)) → (s : State) (own l m : ℕ)
    → IsSmallState s → IfOk (with_level s own (pair_level s f l m)) IsSmallState
kept_pair f g s own l m k =
    kept_level s own (pair_level s f l m) k
    (two_made IsLevel IsLevel IsLevel f g (known s.levels l) (known s.levels m) (level_of s k l)
    (level_of s k m))

kept_entry : (s : State) (own : ℕ) (t : EntryTag) (values : List Value)
    → AreDueValues (dues_of (Entry t)) values → IsSmallState s
    → IfOk (entry_added s own t values) IsSmallState
unfolding entry_added
kept_entry s own entry.NameText (value.Number p ∷ value.Bytes bytes ∷ []) i k =
    kept_name s own (longer_name s p (text bytes)) k
    (longer_made (known s.names p) (text bytes) (name_of s k p) i.1.0)
kept_entry s own entry.NameNumber (value.Number p ∷ value.Number n ∷ []) i k =
    kept_name s own (longer_name s p (number n)) k
    (longer_made (known s.names p) (number n) (name_of s k p) i.1.0)
kept_entry s own entry.Successor (value.Number l ∷ []) i k =
    kept_level s own (successor_level s l) k
    (one_made IsLevel IsLevel (λ x. succ_level x) (λ x h. h) (known s.levels l) (level_of s k l))
kept_entry s own entry.Max (value.Number l ∷ value.Number m ∷ []) i k =
    kept_pair (λ x y. max_level x y) (λ x y h j. (h, j)) s own l m k
kept_entry s own entry.Imax (value.Number l ∷ value.Number m ∷ []) i k =
    kept_pair (λ x y. imax_level x y) (λ x y h j. (h, j)) s own l m k
kept_entry s own entry.Parameter (value.Number n ∷ []) i k =
    kept_level s own (parameter_level s n) k
    (one_made IsName IsLevel (λ x. param x) (λ x h. h) (known s.names n) (name_of s k n))
kept_entry s own entry.Variable (value.Number x ∷ []) i k = kept_tree s own (Ok (var x)) k i.0
kept_entry s own entry.Sort (value.Number u ∷ []) i k =
    kept_tree s own (sort_tree s u) k
    (one_made IsLevel IsTree (λ x. sort x) (λ x h. h) (known s.levels u) (level_of s k u))
kept_entry s own entry.Constant (value.Number n ∷ value.Numbers ls ∷ []) i k =
    kept_tree s own (constant_tree s n ls) k
    (constant_made ls (known s.names n) (all_known s.levels ls) (name_of s k n) (levels_of s k ls))
kept_entry s own entry.Apply (value.Number f ∷ value.Number a ∷ []) i k =
    kept_tree s own (application_tree s f a) k
    (two_made IsTree IsTree IsTree (λ x y. app x y) (λ x y h j. (h, j)) (known s.trees f)
    (known s.trees a) (tree_of s k f) (tree_of s k a))
kept_entry s own entry.Lambda
    (value.OfInfo o ∷ value.Number n ∷ value.Number a ∷ value.Number b ∷ []) i k =
    kept_binder (λ A e. lam A e) (λ x y h j. (h, j)) s own n a b k
kept_entry s own entry.Pi
    (value.OfInfo o ∷ value.Number n ∷ value.Number a ∷ value.Number b ∷ []) i k =
    kept_binder (λ A e. pi A e) (λ x y h j. (h, j)) s own n a b k
kept_entry s own entry.Let
    (value.Number n ∷ value.Number a ∷ value.Number v ∷ value.Number b ∷ []) i k =
    kept_tree s own (let_tree s n a v b) k
    (let_made (known s.names n) (known s.trees a) (known s.trees v) (known s.trees b)
    (tree_of s k a) (tree_of s k v) (tree_of s k b))
kept_entry s own entry.Project (value.Number n ∷ value.Number f ∷ value.Number e ∷ []) i k =
    kept_tree s own (projection_tree s n f e) k
    (projection_made f (known s.names n) (known s.trees e) i.1.0 (name_of s k n) (tree_of s k e))
kept_entry s own entry.NatLiteral (value.Literal n ∷ []) i k =
    kept_tree s own (Ok (number_literal n)) k i.0
kept_entry s own entry.TextLiteral (value.Bytes bytes ∷ []) i k =
    kept_tree s own (Ok (str bytes)) k i.0
kept_entry s own entry.Rule (value.Number n ∷ value.Number f ∷ value.Number v ∷ []) i k =
    kept_rule s own (rule_of s n f v) k
    (rule_made f (known s.names n) (known s.trees v) i.1.0 (name_of s k n) (tree_of s k v))
kept_entry s own t values i k = tt

made_declaration : (s : State) (n a : ℕ) (said : Result Body Word) (ps : List ℕ) → IsSmallState s
    → IfOk said IsBody → IfOk (declaration_of s n a said ps) IsMember
made_declaration s n a said ps k h =
    declaration_made ps (known s.names n) (known s.trees a) said (all_known s.names ps)
    (name_of s k n) (tree_of s k a) h (names_of s k ps)

made_valued : (f : Tree → Body) → ((e : Tree) → IsTree e → IsBody (f e)) → (s : State)
    (n a v : ℕ) (ps : List ℕ) → IsSmallState s → IfOk (valued_of s f n a v ps) IsMember
made_valued f g s n a v ps k =
    made_declaration s n a (value_body s f v) ps k
    (one_made IsTree IsBody f g (known s.trees v) (tree_of s k v))

made_declared : (s : State) (t : DeclarationTag) (values : List Value)
    → AreDueValues (dues_of (Declaration t)) values → IsSmallState s
    → IfOk (declaration_said s t values) IsMember
unfolding declaration_said
made_declared s decl.Definition
    (value.Number n ∷ value.Number a ∷ value.Number v ∷ value.OfHint h ∷ value.Numbers ps ∷ []) i
    k =
    made_valued (λ e. as_def (hint_said h) e) (λ e p. (i.1.1.1.0, p)) s n a v ps k
made_declared s decl.Theorem
    (value.Number n ∷ value.Number a ∷ value.Number v ∷ value.Numbers ps ∷ []) i k =
    made_valued (λ e. as_thm e) (λ e p. p) s n a v ps k
made_declared s decl.Opaque
    (value.Number n ∷ value.Number a ∷ value.Number v ∷ value.Numbers ps ∷ []) i k =
    made_valued (λ e. as_opaque e) (λ e p. p) s n a v ps k
made_declared s decl.Axiom (value.Number n ∷ value.Number a ∷ value.Numbers ps ∷ []) i k =
    made_declaration s n a (Ok as_axiom) ps k tt
made_declared s decl.Quotient (value.Number n ∷ value.Number a ∷ value.Numbers ps ∷ []) i k =
    made_declaration s n a (Ok as_quot) ps k tt
made_declared s decl.Inductive
    (value.Number n ∷ value.Number a ∷ value.Number u ∷ value.Number v ∷ value.Number p
    ∷ value.Number x ∷ value.Numbers ts ∷ value.Numbers cs ∷ value.Numbers ps ∷ []) i k =
    let counts = i.1.1.1.1 in
    type_made p x ts cs ps (known s.names n) (known s.trees a) (all_known s.names ts)
    (all_known s.names cs) (all_known s.names ps) counts.0 counts.1.0 counts.1.1.0 counts.1.1.1.0
    (name_of s k n) (tree_of s k a) (names_of s k ts) (names_of s k cs) (names_of s k ps)
made_declared s decl.Constructor
    (value.Number n ∷ value.Number a ∷ value.Number q ∷ value.Number x ∷ value.Number p
    ∷ value.Number f ∷ value.Numbers ps ∷ []) i k =
    let counts = i.1.1.1 in
    ctor_made x p f ps (known s.names n) (known s.trees a) (known s.names q) (all_known s.names ps)
    counts.0 counts.1.0 counts.1.1.0 (name_of s k n) (tree_of s k a) (names_of s k ps)
made_declared s decl.Recursor
    (value.Number n ∷ value.Number a ∷ value.Numbers ts ∷ value.Number p ∷ value.Number x
    ∷ value.Number m ∷ value.Number o ∷ value.Numbers rs ∷ value.Flag b ∷ value.Numbers ps ∷ []) i
    k =
    let counts = i.1.1.1 in
    recursor_made
    (record { parameters = p; indices = x; motives = m; minors = o; k = b }) ts rs ps
    (known s.names n) (known s.trees a) (all_known s.names ts) (all_known s.rules rs)
    (all_known s.names ps)
    (record {
      parameters = counts.0;
      indices = counts.1.0;
      motives = counts.1.1.0;
      minors = counts.1.1.1.0;
    }) counts.1.1.1.1.0 (name_of s k n) (tree_of s k a) (rules_of s k rs) (names_of s k ps)
made_declared s t values i k = tt

kept_counted : (s : State) → IsSmallState s → IfOk (counted s) IsSmallState
kept_counted s k = go (nat_lt s.count (2 ^ 32 - 1))
  where
    go : (b : Bool)
        → IfOk (if b then Ok (record s { count = s.count + 1 }) else Err TooManyItems) IsSmallState
    go true = record {
      names = k.names;
      levels = k.levels;
      trees = k.trees;
      rules = k.rules;
      lines = k.lines;
      faultless = k.faultless;
      budgets = k.budgets;
    }
    go false = tt

kept_line : (l : ℕ) (s : State) (x : PlainMember) → IsSmallState s → IsMember x
    → IfOk (with_line l s x) IsSmallState
kept_line l s x k h = go (fault_of same_name s.lines x) refl
  where
    go : (o : Option MemberFault) → fault_of same_name s.lines x ≡ o
        → IfOk
        (unless_fault o (record s { lines = s.lines ++ record { number = l; said = x } ∷ [] }))
        IsSmallState
    go None none = record {
      names = k.names;
      levels = k.levels;
      trees = k.trees;
      rules = k.rules;
      lines = All-push (λ (y : PlainLine). IsMember y.said) s.lines
          (record { number = l; said = x }) k.lines h;
      faultless = one_more_line s.lines (record { number = l; said = x }) k.faultless none;
      budgets = k.budgets;
    }
    go (Some f) is = tt

-- what follows something that has P
if_then : {X Y : Type 0} (P : X → Type 0) (Q : Y → Type 0) (r : Result X Word)
    (f : X → Result Y Word) → IfOk r P → ((x : X) → P x → IfOk (f x) Q) → IfOk (r >>= f) Q
if_then P Q (Ok x) f h g = g x h
if_then P Q (Err w) f h g = tt

kept_declared : (l : ℕ) (s : State) (said : Result PlainMember Word) → IsSmallState s
    → IfOk said IsMember → IfOk (declared l s said) IsSmallState
kept_declared l s said k h =
    if_then IsMember IsSmallState said (λ x. (counted s >>= λ t. with_line l t x)) h
    (λ x p. if_then IsSmallState IsSmallState (counted s) (λ t. with_line l t x) (kept_counted s k)
    (λ t kt. kept_line l t x kt p))

kept_budget : (s : State) (n steps : ℕ) → steps < 2 ^ 64 → IsSmallState s
    → IfOk (with_budget s n steps) IsSmallState
kept_budget s n steps small k =
    if_then IsName IsSmallState (known s.names n)
    (λ name. Ok (record s { budgets = s.budgets ++ record { name = name; steps = steps } ∷ [] }))
    (name_of s k n)
    (λ name h. record {
      names = k.names;
      levels = k.levels;
      trees = k.trees;
      rules = k.rules;
      lines = k.lines;
      faultless = k.faultless;
      budgets = All-push IsBudget s.budgets (record { name = name; steps = steps }) k.budgets
          (record { name = h; steps = small });
    })

kept_part : (s : State) → IsSmallState s → IsSmallState (next_part s)
kept_part s k = record {
  names = k.names;
  levels = k.levels;
  trees = k.trees;
  rules = k.rules;
  lines = All-nil (λ (y : PlainLine). IsMember y.said);
  faultless = none_at_first;
  budgets = k.budgets;
}

kept_added : (l : ℕ) (s : State) (own : Option ℕ) (t : Tag) (values : List Value)
    → AreDueValues (dues_of t) values → IsSmallState s → IfOk (added l s own t values) IsSmallState
kept_added l s (Some own) (Entry t) values i k =
    if_then IsSmallState IsSmallState (entry_added s own t values) (λ u. counted u)
    (kept_entry s own t values i k) (λ u ku. kept_counted u ku)
kept_added l s None (Declaration t) values i k =
    kept_declared l s (declaration_said s t values) k (made_declared s t values i k)
kept_added l s None Budget (value.Number n ∷ value.Number steps ∷ []) i k =
    kept_budget s n steps i.1.0 k
kept_added l s None Budget values i k = tt
kept_added l s None Go [] i k = kept_part s k
kept_added l s None Go values i k = tt
kept_added l s (Some own) (Declaration t) values i k = tt
kept_added l s (Some own) Budget values i k = tt
kept_added l s (Some own) Go values i k = tt
kept_added l s None (Entry t) values i k = tt
kept_added l s (Some own) Trace values i k = tt
kept_added l s (Some own) Section values i k = tt
kept_added l s (Some own) Parts values i k = tt
kept_added l s (Some own) Local values i k = tt
kept_added l s (Some own) (Derivation f) values i k = tt
kept_added l s None Trace values i k = tt
kept_added l s None Section values i k = tt
kept_added l s None Parts values i k = tt
kept_added l s None Local values i k = tt
kept_added l s None (Derivation f) values i k = tt

pub kept_item : (l : ℕ) (s : State) (item : Item) → IsSmallItem item → IsSmallState s
    → IfOk (take_item l s item) IsSmallState
unfolding take_item
kept_item l s item i k = kept_added l s item.own item.tag item.values i k

pub kept_begin : IsSmallState begin
kept_begin = record {
  names = λ q. put_if IsName (q == 0) [] None (All-nil _) tt;
  levels = λ q. put_if IsLevel (q == 0) zero_level None tt tt;
  trees = λ q. tt;
  rules = λ q. tt;
  lines = All-nil (λ (y : PlainLine). IsMember y.said);
  faultless = none_at_first;
  budgets = All-nil IsBudget;
}
