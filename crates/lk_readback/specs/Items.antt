-- What the lines of a canonical text say, by what has its line before them.
use Rattle.std.specs.Prelude.{ℕ, List, [], ◌∷◌, map, reverse, Some, None}
use Rattle.lk_tree.specs.Tree.{Name, Part, text, number, Level, zero_level, succ_level, max_level}
use Rattle.lk_tree.specs.Tree.{imax_level, param, Tree, var, sort, const, app, lam, pi, let_in}
use Rattle.lk_tree.specs.Tree.{proj, lit, wide, str, local}
use Rattle.lk_rulebook.specs.Place.{Hint, opaque_hint, abbreviation, regular, Ctor, BlockType}
use Rattle.lk_rulebook.specs.Place.{RecRule, BlockRecursor}
use Rattle.lk_rulebook.specs.Units.{Body, as_axiom, as_def, as_thm, as_opaque, as_quot, Decl}
use Rattle.lk_env.specs.Budgets.{StatedBudget}
use Rattle.lk_num.specs.declared.numeral.Nat.TheVariants as nats
use Rattle.lk_lines.specs.declared.line.BinderInfo.TheVariants.{Default}
use Rattle.lk_lines.specs.declared.line.ReducibilityHint.{ReducibilityHint}
use Rattle.lk_lines.specs.declared.line.ReducibilityHint.TheVariants as hints
use Rattle.lk_lines.specs.declared.tags.EntryTag.{EntryTag}
use Rattle.lk_lines.specs.declared.tags.EntryTag.TheVariants as entry
use Rattle.lk_lines.specs.declared.tags.DeclarationTag.{DeclarationTag}
use Rattle.lk_lines.specs.declared.tags.DeclarationTag.TheVariants as declaration
use Rattle.lk_lines.specs.declared.tags.Tag.TheVariants.{Entry, Declaration, Budget}
use Rattle.lk_lines.specs.Values.{Value, Number, Literal, OfInfo, OfHint, Flag, Numbers, Bytes}
use Rattle.lk_lines.specs.Items.{Item}
use Rattle.lk_trim.specs.Written.{Written}
use Rattle.lk_trim.specs.Names.{name_number, name_numbers}
use Rattle.lk_trim.specs.Levels.{level_number}
use Rattle.lk_trim.specs.Trees.{tree_number}
use Rattle.lk_trim.specs.Units.{ctor_names, rules_since}

abbrev pub defines : ℕ → EntryTag → List Value → Item
defines own t values = record { own = Some own; tag = Entry t; values = values }

abbrev pub declares : DeclarationTag → List Value → Item
declares t values = record { own = None; tag = Declaration t; values = values }

-- a name, by its components, the last one first; the anonymous name has no line
abbrev pub name_item : ℕ → Written → List Part → Item
name_item own w [] = defines own entry.NameText []
name_item own w (text bytes ∷ ps) =
    defines own entry.NameText (Number (name_number w (reverse ps)) ∷ Bytes bytes ∷ [])
name_item own w (number k ∷ ps) =
    defines own entry.NameNumber (Number (name_number w (reverse ps)) ∷ Number k ∷ [])

-- a level; level 0 has no line
abbrev pub level_item : ℕ → Written → Level → Item
level_item own w zero_level = defines own entry.Successor []
level_item own w (succ_level l) = defines own entry.Successor (Number (level_number w l) ∷ [])
level_item own w (max_level l m) =
    defines own entry.Max (Number (level_number w l) ∷ Number (level_number w m) ∷ [])
level_item own w (imax_level l m) =
    defines own entry.Imax (Number (level_number w l) ∷ Number (level_number w m) ∷ [])
level_item own w (param n) = defines own entry.Parameter (Number (name_number w n) ∷ [])

-- a tree; no line states a Local
abbrev pub tree_item : ℕ → Written → Tree → Item
tree_item own w (var i) = defines own entry.Variable (Number i ∷ [])
tree_item own w (sort l) = defines own entry.Sort (Number (level_number w l) ∷ [])
tree_item own w (const n ls) =
    defines own entry.Constant
    (Number (name_number w n) ∷ Numbers (map (level_number w) ls) ∷ [])
tree_item own w (app f a) =
    defines own entry.Apply (Number (tree_number w f) ∷ Number (tree_number w a) ∷ [])
tree_item own w (lam A b) =
    defines own entry.Lambda
    (OfInfo Default ∷ Number 0 ∷ Number (tree_number w A) ∷ Number (tree_number w b) ∷ [])
tree_item own w (pi A B) =
    defines own entry.Pi
    (OfInfo Default ∷ Number 0 ∷ Number (tree_number w A) ∷ Number (tree_number w B) ∷ [])
tree_item own w (let_in A v b) =
    defines own entry.Let
    (Number 0 ∷ Number (tree_number w A) ∷ Number (tree_number w v) ∷ Number (tree_number w b) ∷ [])
tree_item own w (proj S i s) =
    defines own entry.Project
    (Number (name_number w S) ∷ Number i ∷ Number (tree_number w s) ∷ [])
tree_item own w (lit n) = defines own entry.NatLiteral (Literal (nats.Fits n) ∷ [])
tree_item own w wide = defines own entry.NatLiteral (Literal nats.Wide ∷ [])
tree_item own w (str bytes) = defines own entry.TextLiteral (Bytes bytes ∷ [])
tree_item own w (local k T) = defines own entry.Variable []

abbrev pub hint_value : Hint → ReducibilityHint ℕ
hint_value opaque_hint = hints.Opaque
hint_value abbreviation = hints.Abbreviation
hint_value (regular n) = hints.Regular n

-- a declaration of this name and type, with these level parameters
abbrev pub decl_item_of : Body → Written → ℕ → ℕ → List ℕ → Item
decl_item_of as_axiom w n a ps =
    declares declaration.Axiom (Number n ∷ Number a ∷ Numbers ps ∷ [])
decl_item_of (as_def h v) w n a ps =
    declares declaration.Definition
    (Number n ∷ Number a ∷ Number (tree_number w v) ∷ OfHint (hint_value h) ∷ Numbers ps ∷ [])
decl_item_of (as_thm v) w n a ps =
    declares declaration.Theorem
    (Number n ∷ Number a ∷ Number (tree_number w v) ∷ Numbers ps ∷ [])
decl_item_of (as_opaque v) w n a ps =
    declares declaration.Opaque
    (Number n ∷ Number a ∷ Number (tree_number w v) ∷ Numbers ps ∷ [])
decl_item_of as_quot w n a ps =
    declares declaration.Quotient (Number n ∷ Number a ∷ Numbers ps ∷ [])

abbrev pub decl_item : Decl → Written → Item
decl_item d w =
    decl_item_of d.body w (name_number w d.name) (tree_number w d.type) (name_numbers w d.levels)

-- a type of a block whose types have these names
abbrev pub type_item : List Name → BlockType → Written → Item
type_item family t w =
    declares declaration.Inductive
    (Number (name_number w t.name) ∷ Number (tree_number w t.type) ∷ Number 0 ∷ Number 0
    ∷ Number t.parameters ∷ Number t.indices ∷ Numbers (name_numbers w family)
    ∷ Numbers (name_numbers w (ctor_names t.ctors)) ∷ Numbers (name_numbers w t.levels) ∷ [])

abbrev pub ctor_item : Ctor → Written → Item
ctor_item c w =
    declares declaration.Constructor
    (Number (name_number w c.name) ∷ Number (tree_number w c.type)
    ∷ Number (name_number w c.parent) ∷ Number c.place ∷ Number c.parameters ∷ Number c.fields
    ∷ Numbers (name_numbers w c.levels) ∷ [])

abbrev pub rule_item : RecRule → Written → Item
rule_item r w =
    defines w.rules entry.Rule
    (Number (name_number w r.ctor) ∷ Number r.fields ∷ Number (tree_number w r.value) ∷ [])

-- a recursor whose rules begin with this number
abbrev pub rec_item : List Name → ℕ → BlockRecursor → Written → Item
rec_item family first r w =
    declares declaration.Recursor
    (Number (name_number w r.name) ∷ Number (tree_number w r.type)
    ∷ Numbers (name_numbers w family) ∷ Number r.recursor.parameters ∷ Number r.recursor.indices
    ∷ Number r.recursor.motives ∷ Number r.recursor.minors ∷ Numbers (rules_since first w)
    ∷ Flag r.recursor.k ∷ Numbers (name_numbers w r.levels) ∷ [])

abbrev pub budget_item : StatedBudget → Written → Item
budget_item b w =
    record { own = None; tag = Budget; values = Number (name_number w b.name) ∷ Number b.steps ∷ [] }
