-- What the numbers of a file stand for behind its lines so far, and what an item adds, or its
-- fault. Of the lines that declare something, those of a part that is ended stand apart.
use Rattle.std.specs.Prelude.{ℕ, ◌==◌, ◌+◌, ◌-◌, ◌^◌, Bool, List, [], ◌∷◌, ◌++◌, Result, Ok, Err}
use Rattle.std.specs.Prelude.{Some, None, if◌then◌else◌, is_some, nat_lt}
use Rattle.std.specs.declared.option.Option.{Option}
use Rattle.lk_tree.specs.Tree.{Name, Part, text, number, Level, zero_level, succ_level, max_level}
use Rattle.lk_tree.specs.Tree.{imax_level, param, Tree, var, sort, const, app, lam, pi, let_in}
use Rattle.lk_tree.specs.Tree.{proj, lit, wide, str}
use Rattle.lk_tree.specs.Mentions.{same_name}
use Rattle.lk_rulebook.specs.Place.{Hint, opaque_hint, abbreviation, regular, RecRule}
use Rattle.lk_rulebook.specs.Units.{Body, as_axiom, as_def, as_thm, as_opaque, as_quot}
use Rattle.lk_env.specs.Budgets.{StatedBudget}
use Rattle.lk_members.specs.declared.fault.MemberFault.{MemberFault}
use Rattle.lk_members.specs.declared.fault.MemberFault.TheVariants as faults
use Rattle.lk_members.specs.Lines.{alone, a_type, a_ctor, a_recursor}
use Rattle.lk_members.specs.Faults.{fault_of}
use Rattle.lk_members.specs.Plain.{PlainMember, PlainLine}
use Rattle.lk_num.specs.declared.numeral.Nat.{Nat}
use Rattle.lk_num.specs.declared.numeral.Nat.TheVariants as nats
use Rattle.lk_lines.specs.declared.line.ReducibilityHint.{ReducibilityHint}
use Rattle.lk_lines.specs.declared.line.ReducibilityHint.TheVariants as hints
use Rattle.lk_lines.specs.declared.words.Word.{Word}
use Rattle.lk_lines.specs.declared.words.Word.TheVariants.{UnknownTag, IndexTaken, IndexUnknown}
use Rattle.lk_lines.specs.declared.words.Word.TheVariants.{TooManyItems, BadCount, RepeatedMember}
use Rattle.lk_lines.specs.declared.tags.EntryTag.{EntryTag}
use Rattle.lk_lines.specs.declared.tags.EntryTag.TheVariants as entry
use Rattle.lk_lines.specs.declared.tags.DeclarationTag.{DeclarationTag}
use Rattle.lk_lines.specs.declared.tags.DeclarationTag.TheVariants as decl
use Rattle.lk_lines.specs.declared.tags.Tag.{Tag}
use Rattle.lk_lines.specs.declared.tags.Tag.TheVariants.{Entry, Declaration, Budget, Go}
use Rattle.lk_lines.specs.Reading.{◌>>=◌}
use Rattle.lk_lines.specs.Items.{Item}
use Rattle.lk_lines.specs.Values.{Value}
use Rattle.lk_lines.specs.Values as value

pub record State : Type 0 where
  pub names : ℕ → Option Name
  pub levels : ℕ → Option Level
  pub trees : ℕ → Option Tree
  pub rules : ℕ → Option RecRule
  pub parts : List (List PlainLine)
  pub lines : List PlainLine
  pub budgets : List StatedBudget
  pub count : ℕ

-- name 0 is the anonymous name, and level 0 is zero
abbrev pub begin : State
begin = record {
  names = λ n. if n == 0 then Some [] else None;
  levels = λ n. if n == 0 then Some zero_level else None;
  trees = λ n. None;
  rules = λ n. None;
  parts = [];
  lines = [];
  budgets = [];
  count = 0;
}

-- what a number that is referred to stands for
abbrev pub known_of : {X : Type 0} → Option X → Result X Word
known_of (Some x) = Ok x
known_of None = Err IndexUnknown

abbrev pub known : {X : Type 0} → (ℕ → Option X) → ℕ → Result X Word
known mean n = known_of (mean n)

abbrev pub all_known : {X : Type 0} → (ℕ → Option X) → List ℕ → Result (List X) Word
all_known mean [] = Ok []
all_known mean (n ∷ ns) = known mean n >>= λ x. (all_known mean ns >>= λ xs. Ok (x ∷ xs))

-- what a line says, where its own number is not taken
abbrev pub fresh : {X : Type 0} → (ℕ → Option X) → ℕ → Result X Word → Result X Word
fresh mean own said = if is_some (mean own) then Err IndexTaken else said

-- own stands for x from here on
abbrev pub put : {X : Type 0} → (ℕ → Option X) → ℕ → X → (ℕ → Option X)
put mean own x = λ q. if q == own then Some x else mean q

abbrev pub with_name : State → ℕ → Result Name Word → Result State Word
with_name s own said = fresh s.names own said >>= λ x. Ok (record s { names = put s.names own x })

abbrev pub with_level : State → ℕ → Result Level Word → Result State Word
with_level s own said =
    fresh s.levels own said >>= λ x. Ok (record s { levels = put s.levels own x })

abbrev pub with_tree : State → ℕ → Result Tree Word → Result State Word
with_tree s own said = fresh s.trees own said >>= λ x. Ok (record s { trees = put s.trees own x })

abbrev pub with_rule : State → ℕ → Result RecRule Word → Result State Word
with_rule s own said = fresh s.rules own said >>= λ x. Ok (record s { rules = put s.rules own x })

-- a name with one more component
abbrev pub longer_name : State → ℕ → Part → Result Name Word
longer_name s p part = known s.names p >>= λ x. Ok (x ++ part ∷ [])

abbrev pub successor_level : State → ℕ → Result Level Word
successor_level s l = known s.levels l >>= λ x. Ok (succ_level x)

-- the greater of two levels, or 0 where it is an `imax` and the right one is 0
abbrev pub pair_level : State → (Level → Level → Level) → ℕ → ℕ → Result Level Word
pair_level s f l m = known s.levels l >>= λ x. (known s.levels m >>= λ y. Ok (f x y))

abbrev pub parameter_level : State → ℕ → Result Level Word
parameter_level s n = known s.names n >>= λ name. Ok (param name)

abbrev pub sort_tree : State → ℕ → Result Tree Word
sort_tree s u = known s.levels u >>= λ l. Ok (sort l)

-- a lambda or a Pi, whose binder's name is to stand for something
abbrev pub binder_tree : State → (Tree → Tree → Tree) → ℕ → ℕ → ℕ → Result Tree Word
binder_tree s f n a b =
    known s.names n >>= λ name. (known s.trees a >>= λ x. (known s.trees b >>= λ y. Ok (f x y)))

-- a let, whose name is to stand for something
abbrev pub let_tree : State → ℕ → ℕ → ℕ → ℕ → Result Tree Word
let_tree s n a v b =
    known s.names n >>= λ name. (known s.trees a >>= λ x. (known s.trees v >>= λ y.
    (known s.trees b >>= λ z. Ok (let_in x y z))))

-- a constant at levels, each of which is to stand for something
abbrev pub constant_tree : State → ℕ → List ℕ → Result Tree Word
constant_tree s n ls =
    known s.names n >>= λ name. (all_known s.levels ls >>= λ levels. Ok (const name levels))

abbrev pub application_tree : State → ℕ → ℕ → Result Tree Word
application_tree s f a = known s.trees f >>= λ x. (known s.trees a >>= λ y. Ok (app x y))

-- a projection, of which the structure's name and the subject are to stand for something
abbrev pub projection_tree : State → ℕ → ℕ → ℕ → Result Tree Word
projection_tree s n field e =
    known s.names n >>= λ name. (known s.trees e >>= λ x. Ok (proj name field x))

-- a number literal; all above 2^128 - 1 are one tree
abbrev pub number_literal : Nat → Tree
number_literal (nats.Fits n) = lit n
number_literal nats.Wide = wide

-- a declaration with this body
abbrev pub declaration_of : State → ℕ → ℕ → Result Body Word → List ℕ → Result PlainMember Word
declaration_of s n a said ps =
    known s.names n >>= λ name. (known s.trees a >>= λ type. (said >>= λ body.
    (all_known s.names ps >>= λ levels.
    Ok (alone (record { name = name; levels = levels; type = type; body = body })))))

-- how readily a definition is unfolded, as its line says it
abbrev pub hint_said : ReducibilityHint ℕ → Hint
hint_said hints.Opaque = opaque_hint
hint_said hints.Abbreviation = abbreviation
hint_said (hints.Regular n) = regular n

-- the body that a value makes
abbrev pub value_body : State → (Tree → Body) → ℕ → Result Body Word
value_body s f v = known s.trees v >>= λ value. Ok (f value)

-- a declaration with a value
abbrev pub valued_of : State → (Tree → Body) → ℕ → ℕ → ℕ → List ℕ → Result PlainMember Word
valued_of s f n a v ps = declaration_of s n a (value_body s f v) ps

abbrev pub axiom_of : State → ℕ → ℕ → List ℕ → Result PlainMember Word
axiom_of s n a ps = declaration_of s n a (Ok as_axiom) ps

-- a constant of quotient types
abbrev pub quotient_of : State → ℕ → ℕ → List ℕ → Result PlainMember Word
quotient_of s n a ps = declaration_of s n a (Ok as_quot) ps

-- a rule of a recursor
abbrev pub rule_of : State → ℕ → ℕ → ℕ → Result RecRule Word
rule_of s n fields v =
    known s.names n >>= λ name. (known s.trees v >>= λ value.
    Ok (record { ctor = name; fields = fields; value = value }))

-- a type of a block, with the names of the block's types and of its own constructors
abbrev pub type_said : State → ℕ → ℕ → ℕ → ℕ → List ℕ → List ℕ → List ℕ → Result PlainMember Word
type_said s n a parameters indices ts cs ps =
    known s.names n >>= λ name. (known s.trees a >>= λ type.
    (all_known s.names ts >>= λ types. (all_known s.names cs >>= λ ctors.
    (all_known s.names ps >>= λ levels.
    Ok (a_type name types ctors (record {
      name = name;
      levels = levels;
      type = type;
      parameters = parameters;
      indices = indices;
    }))))))

abbrev pub ctor_said : State → ℕ → ℕ → ℕ → ℕ → ℕ → ℕ → List ℕ → Result PlainMember Word
ctor_said s n a p place parameters fields ps =
    known s.names n >>= λ name. (known s.trees a >>= λ type.
    (known s.names p >>= λ parent. (all_known s.names ps >>= λ levels.
    Ok (a_ctor parent name (record {
      name = name;
      levels = levels;
      type = type;
      parent = parent;
      place = place;
      parameters = parameters;
      fields = fields;
    })))))

-- how a recursor counts its arguments, and whether it has K
pub record Counts : Type 0 where
  pub parameters : ℕ
  pub indices : ℕ
  pub motives : ℕ
  pub minors : ℕ
  pub k : Bool

abbrev pub recursor_said : State → ℕ → ℕ → List ℕ → Counts → List ℕ → List ℕ
    → Result PlainMember Word
recursor_said s n a ts counts rs ps =
    known s.names n >>= λ name. (known s.trees a >>= λ type.
    (all_known s.names ts >>= λ types. (all_known s.rules rs >>= λ rules.
    (all_known s.names ps >>= λ levels.
    Ok (a_recursor types name (record {
      name = name;
      levels = levels;
      type = type;
      recursor = record {
        parameters = counts.parameters;
        indices = counts.indices;
        motives = counts.motives;
        minors = counts.minors;
        k = counts.k;
        rules = rules;
      };
    }))))))

-- What the values behind each tag add. No line gives a tag with values of another shape; UnknownTag
-- stands for it.
unfoldable pub entry_added : State → ℕ → EntryTag → List Value → Result State Word
entry_added s own entry.NameText (value.Number p ∷ value.Bytes bytes ∷ []) =
    with_name s own (longer_name s p (text bytes))
entry_added s own entry.NameNumber (value.Number p ∷ value.Number n ∷ []) =
    with_name s own (longer_name s p (number n))
entry_added s own entry.Successor (value.Number l ∷ []) = with_level s own (successor_level s l)
entry_added s own entry.Max (value.Number l ∷ value.Number m ∷ []) =
    with_level s own (pair_level s (λ x y. max_level x y) l m)
entry_added s own entry.Imax (value.Number l ∷ value.Number m ∷ []) =
    with_level s own (pair_level s (λ x y. imax_level x y) l m)
entry_added s own entry.Parameter (value.Number n ∷ []) = with_level s own (parameter_level s n)
entry_added s own entry.Variable (value.Number i ∷ []) = with_tree s own (Ok (var i))
entry_added s own entry.Sort (value.Number u ∷ []) = with_tree s own (sort_tree s u)
entry_added s own entry.Constant (value.Number n ∷ value.Numbers ls ∷ []) =
    with_tree s own (constant_tree s n ls)
entry_added s own entry.Apply (value.Number f ∷ value.Number a ∷ []) =
    with_tree s own (application_tree s f a)
entry_added s own entry.Lambda
    (value.OfInfo i ∷ value.Number n ∷ value.Number a ∷ value.Number b ∷ []) =
    with_tree s own (binder_tree s (λ A e. lam A e) n a b)
entry_added s own entry.Pi
    (value.OfInfo i ∷ value.Number n ∷ value.Number a ∷ value.Number b ∷ []) =
    with_tree s own (binder_tree s (λ A e. pi A e) n a b)
entry_added s own entry.Let
    (value.Number n ∷ value.Number a ∷ value.Number v ∷ value.Number b ∷ []) =
    with_tree s own (let_tree s n a v b)
entry_added s own entry.Project (value.Number n ∷ value.Number field ∷ value.Number e ∷ []) =
    with_tree s own (projection_tree s n field e)
entry_added s own entry.NatLiteral (value.Literal n ∷ []) = with_tree s own (Ok (number_literal n))
entry_added s own entry.TextLiteral (value.Bytes bytes ∷ []) = with_tree s own (Ok (str bytes))
entry_added s own entry.Rule (value.Number n ∷ value.Number fields ∷ value.Number v ∷ []) =
    with_rule s own (rule_of s n fields v)
entry_added s own t values = Err UnknownTag

-- What the values behind each tag state, in the same way.
unfoldable pub declaration_said : State → DeclarationTag → List Value → Result PlainMember Word
declaration_said s decl.Definition
    (value.Number n ∷ value.Number a ∷ value.Number v ∷ value.OfHint h ∷ value.Numbers ps ∷ []) =
    valued_of s (λ e. as_def (hint_said h) e) n a v ps
declaration_said s decl.Theorem
    (value.Number n ∷ value.Number a ∷ value.Number v ∷ value.Numbers ps ∷ []) =
    valued_of s (λ e. as_thm e) n a v ps
declaration_said s decl.Opaque
    (value.Number n ∷ value.Number a ∷ value.Number v ∷ value.Numbers ps ∷ []) =
    valued_of s (λ e. as_opaque e) n a v ps
declaration_said s decl.Axiom (value.Number n ∷ value.Number a ∷ value.Numbers ps ∷ []) =
    axiom_of s n a ps
declaration_said s decl.Quotient (value.Number n ∷ value.Number a ∷ value.Numbers ps ∷ []) =
    quotient_of s n a ps
declaration_said s decl.Inductive
    (value.Number n ∷ value.Number a ∷ value.Number recursive ∷ value.Number nested
    ∷ value.Number parameters ∷ value.Number indices ∷ value.Numbers ts ∷ value.Numbers cs
    ∷ value.Numbers ps ∷ []) =
    type_said s n a parameters indices ts cs ps
declaration_said s decl.Constructor
    (value.Number n ∷ value.Number a ∷ value.Number p ∷ value.Number place
    ∷ value.Number parameters ∷ value.Number fields ∷ value.Numbers ps ∷ []) =
    ctor_said s n a p place parameters fields ps
declaration_said s decl.Recursor
    (value.Number n ∷ value.Number a ∷ value.Numbers ts ∷ value.Number parameters
    ∷ value.Number indices ∷ value.Number motives ∷ value.Number minors ∷ value.Numbers rs
    ∷ value.Flag k ∷ value.Numbers ps ∷ []) =
    recursor_said s n a ts (record {
      parameters = parameters;
      indices = indices;
      motives = motives;
      minors = minors;
      k = k;
    }) rs ps
declaration_said s t values = Err UnknownTag

-- items are counted, and there are fewer than 2^32
abbrev pub counted : State → Result State Word
counted s =
    if nat_lt s.count (2 ^ 32 - 1) then Ok (record s { count = s.count + 1 }) else Err TooManyItems

abbrev pub fault_word : MemberFault → Word
fault_word faults.BadCount = BadCount
fault_word faults.RepeatedMember = RepeatedMember

abbrev pub unless_fault : Option MemberFault → State → Result State Word
unless_fault None s = Ok s
unless_fault (Some f) s = Err (fault_word f)

-- line l, which declares something, behind those before it, unless it has a fault among those
-- before it
abbrev pub with_line : ℕ → State → PlainMember → Result State Word
with_line l s said =
    unless_fault (fault_of same_name s.lines said)
    (record s { lines = s.lines ++ record { number = l; said = said } ∷ [] })

-- a line that declares something is counted before it is looked at beside others
abbrev pub declared : ℕ → State → Result PlainMember Word → Result State Word
declared l s said = said >>= λ x. (counted s >>= λ t. with_line l t x)

-- the first unit that gives the name takes so many steps at most, by a line that is not counted
abbrev pub with_budget : State → ℕ → ℕ → Result State Word
with_budget s n steps =
    known s.names n >>= λ name.
    Ok (record s { budgets = s.budgets ++ record { name = name; steps = steps } ∷ [] })

-- the part ends: its lines stand apart, and what its numbers stand for is known further on
abbrev pub next_part : State → State
next_part s = record s { parts = s.parts ++ s.lines ∷ []; lines = [] }

-- What line l adds, by its own number, its tag and its values. No library has the tags of
-- derivations.
abbrev pub added : ℕ → State → Option ℕ → Tag → List Value → Result State Word
added l s (Some own) (Entry t) values = entry_added s own t values >>= λ u. counted u
added l s None (Declaration t) values = declared l s (declaration_said s t values)
added l s None Budget (value.Number n ∷ value.Number steps ∷ []) = with_budget s n steps
added l s None Go [] = Ok (next_part s)
added l s own t values = Err UnknownTag

unfoldable pub take_item : ℕ → State → Item → Result State Word
take_item l s item = added l s item.own item.tag item.values
