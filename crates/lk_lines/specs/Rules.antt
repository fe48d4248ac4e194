-- The rules of a line of a derivation: their words, and what stands beside the two trees of one.
use Rattle.std.specs.Prelude.{ℕ, List, [], ◌∷◌, ◌++◌, Result, Ok, Err, codes}
use Rattle.lk_lines.specs.declared.words.Word.{Word}
use Rattle.lk_lines.specs.declared.words.Word.TheVariants.{BadWord, MissingField}
use Rattle.lk_lines.specs.declared.dues.Due.{Due}
use Rattle.lk_lines.specs.declared.dues.Due.TheVariants.{Known, Number, Rest}
use Rattle.lk_lines.specs.declared.dues.Numbering.TheVariants.{Expressions, Lines}
use Rattle.lk_lines.specs.declared.rules.TypingTag.TheVariants as typing
use Rattle.lk_lines.specs.declared.rules.ReductionTag.TheVariants as reduction
use Rattle.lk_lines.specs.declared.rules.ConversionTag.TheVariants as conversion
use Rattle.lk_lines.specs.declared.rules.RuleTag.{RuleTag}
use Rattle.lk_lines.specs.declared.rules.RuleTag.TheVariants.{Typing, Reduction, Conversion}
use Rattle.lk_lines.specs.declared.rules.Family.{Family}
use Rattle.lk_lines.specs.declared.rules.Family.TheVariants as family
use Rattle.lk_lines.specs.declared.rules.Beside.{Beside}
use Rattle.lk_lines.specs.declared.rules.Beside.TheVariants as beside
use Rattle.lk_lines.specs.Reading.{◌>>=◌}
use Rattle.lk_lines.specs.Words.{find_word}

-- the word of a rule
abbrev pub rule_word : RuleTag → List ℕ
rule_word (Typing typing.Sort) = codes "T-Sort"
rule_word (Typing typing.Local) = codes "T-Local"
rule_word (Typing typing.Constant) = codes "T-Const"
rule_word (Typing typing.Apply) = codes "T-App"
rule_word (Typing typing.Lambda) = codes "T-Lam"
rule_word (Typing typing.Pi) = codes "T-Pi"
rule_word (Typing typing.Let) = codes "T-Let"
rule_word (Typing typing.NatLiteral) = codes "T-Lit"
rule_word (Typing typing.TextLiteral) = codes "T-Str"
rule_word (Typing typing.Project) = codes "T-Proj"
rule_word (Reduction reduction.Chain) = codes "R-Trans"
rule_word (Reduction reduction.Head) = codes "R-Head"
rule_word (Reduction reduction.Beta) = codes "R-Beta"
rule_word (Reduction reduction.Zeta) = codes "R-Zeta"
rule_word (Reduction reduction.Delta) = codes "R-Delta"
rule_word (Reduction reduction.Project) = codes "R-Proj"
rule_word (Reduction reduction.Major) = codes "R-Major"
rule_word (Reduction reduction.Iota) = codes "R-Iota"
rule_word (Reduction reduction.K) = codes "R-K"
rule_word (Reduction reduction.Structure) = codes "R-Struct"
rule_word (Reduction reduction.Lift) = codes "R-Lift"
rule_word (Reduction reduction.Induction) = codes "R-Ind"
rule_word (Reduction reduction.Operation) = codes "R-Op"
rule_word (Conversion conversion.Reduce) = codes "E-Reduce"
rule_word (Conversion conversion.Sorts) = codes "E-Sort"
rule_word (Conversion conversion.Constants) = codes "E-Const"
rule_word (Conversion conversion.Apply) = codes "E-App"
rule_word (Conversion conversion.Lambda) = codes "E-Lam"
rule_word (Conversion conversion.Pi) = codes "E-Pi"
rule_word (Conversion conversion.Project) = codes "E-Proj"
rule_word (Conversion conversion.Eta) = codes "E-Eta"
rule_word (Conversion conversion.StructureLeft) = codes "E-StructL"
rule_word (Conversion conversion.StructureRight) = codes "E-StructR"
rule_word (Conversion conversion.UnitLike) = codes "E-Unit"
rule_word (Conversion conversion.Proof) = codes "E-Proof"
rule_word (Conversion conversion.Zero) = codes "E-Zero"
rule_word (Conversion conversion.Successor) = codes "E-Succ"
rule_word (Conversion conversion.TextLeft) = codes "E-StrL"
rule_word (Conversion conversion.TextRight) = codes "E-StrR"

abbrev pub typing_rules : List RuleTag
typing_rules = Typing typing.Sort ∷ Typing typing.Local ∷ Typing typing.Constant
    ∷ Typing typing.Apply ∷ Typing typing.Lambda ∷ Typing typing.Pi ∷ Typing typing.Let
    ∷ Typing typing.NatLiteral ∷ Typing typing.TextLiteral ∷ Typing typing.Project ∷ []

abbrev pub reduction_rules : List RuleTag
reduction_rules = Reduction reduction.Chain ∷ Reduction reduction.Head
    ∷ Reduction reduction.Beta ∷ Reduction reduction.Zeta ∷ Reduction reduction.Delta
    ∷ Reduction reduction.Project ∷ Reduction reduction.Major ∷ Reduction reduction.Iota
    ∷ Reduction reduction.K ∷ Reduction reduction.Structure ∷ Reduction reduction.Lift
    ∷ Reduction reduction.Induction ∷ Reduction reduction.Operation ∷ []

abbrev pub conversion_rules : List RuleTag
conversion_rules = Conversion conversion.Reduce ∷ Conversion conversion.Sorts
    ∷ Conversion conversion.Constants ∷ Conversion conversion.Apply
    ∷ Conversion conversion.Lambda ∷ Conversion conversion.Pi ∷ Conversion conversion.Project
    ∷ Conversion conversion.Eta ∷ Conversion conversion.StructureLeft
    ∷ Conversion conversion.StructureRight ∷ Conversion conversion.UnitLike
    ∷ Conversion conversion.Proof ∷ Conversion conversion.Zero
    ∷ Conversion conversion.Successor ∷ Conversion conversion.TextLeft
    ∷ Conversion conversion.TextRight ∷ []

-- the rules that a line of this family may name
abbrev pub rules_of : Family → List RuleTag
rules_of family.Typing = typing_rules
rules_of family.Reduction = reduction_rules
rules_of family.Conversion = conversion_rules

abbrev pub family_of : RuleTag → Family
family_of (Typing t) = family.Typing
family_of (Reduction t) = family.Reduction
family_of (Conversion t) = family.Conversion

abbrev pub find_rule : List RuleTag → List ℕ → Result RuleTag Word
find_rule rules word = find_word BadWord rule_word rules word

-- the rule that the first field is, of this family, and the fields behind it
unfoldable pub rule_at : Family → List (List ℕ) → Result (RuleTag × List (List ℕ)) Word
rule_at f [] = Err MissingField
rule_at f (field ∷ fields) = find_rule (rules_of f) field >>= λ r. Ok (r, fields)

-- what a line has beside its two trees: a rule that goes under a binder the Local in the variable's
-- place, and R-Iota the place of the recursor's rule
abbrev pub beside_of : RuleTag → Beside
beside_of (Typing typing.Lambda) = beside.Local
beside_of (Typing typing.Pi) = beside.Local
beside_of (Reduction reduction.Iota) = beside.Place
beside_of (Conversion conversion.Lambda) = beside.Local
beside_of (Conversion conversion.Pi) = beside.Local
beside_of r = beside.Nothing

abbrev pub beside_dues : Beside → List Due
beside_dues beside.Nothing = []
beside_dues beside.Local = Known Expressions ∷ []
beside_dues beside.Place = Number ∷ []

-- what is due behind a rule: two trees, what it has beside them, and its premises
abbrev pub rule_dues : RuleTag → List Due
rule_dues r = Known Expressions ∷ Known Expressions
    ∷ (beside_dues (beside_of r) ++ Rest Lines ∷ [])
