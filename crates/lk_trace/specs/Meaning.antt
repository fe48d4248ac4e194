-- The lines and the section that those by numbers stand for.
use Rattle.std.specs.Prelude.{◌<◌, length, map, All}
use Rattle.lk_store.specs.Contents.{Contents, tree_at}
use Rattle.lk_written.specs.Line as written
use Rattle.lk_written.specs.Line.{ty, rd, cv}
use Rattle.lk_written.specs.Section.{Section as WrittenSection}
use Rattle.lk_trace.specs.declared.rules.TypingRule.{TypingRule}
use Rattle.lk_trace.specs.declared.rules.TypingRule.TheVariants as typing
use Rattle.lk_trace.specs.declared.rules.ReductionRule.{ReductionRule}
use Rattle.lk_trace.specs.declared.rules.ReductionRule.TheVariants as reduction
use Rattle.lk_trace.specs.declared.rules.ConversionRule.{ConversionRule}
use Rattle.lk_trace.specs.declared.rules.ConversionRule.TheVariants as conversion
use Rattle.lk_trace.specs.declared.rules.Rule.{Rule}
use Rattle.lk_trace.specs.declared.rules.Rule.TheVariants.{Typing, Reduction, Conversion}
use Rattle.lk_trace.specs.declared.sections.Line.{Line}
use Rattle.lk_trace.specs.declared.sections.Section.{Section}

abbrev pub typing_rule_of : Contents → TypingRule → written.TypingRule
typing_rule_of c typing.Sort = written.sort_rule
typing_rule_of c typing.Local = written.local_rule
typing_rule_of c typing.Constant = written.const_rule
typing_rule_of c typing.Apply = written.app_rule
typing_rule_of c typing.Let = written.let_rule
typing_rule_of c typing.NatLiteral = written.lit_rule
typing_rule_of c typing.TextLiteral = written.str_rule
typing_rule_of c typing.Project = written.proj_rule
typing_rule_of c (typing.Lambda x) = written.lam_rule (tree_at c x)
typing_rule_of c (typing.Pi x) = written.pi_rule (tree_at c x)

abbrev pub reduction_rule_of : ReductionRule → written.ReductionRule
reduction_rule_of reduction.Chain = written.chain_rule
reduction_rule_of reduction.Head = written.head_rule
reduction_rule_of reduction.Beta = written.beta_rule
reduction_rule_of reduction.Zeta = written.zeta_rule
reduction_rule_of reduction.Delta = written.delta_rule
reduction_rule_of reduction.Project = written.field_rule
reduction_rule_of reduction.Major = written.major_rule
reduction_rule_of reduction.K = written.k_rule
reduction_rule_of reduction.Structure = written.expand_rule
reduction_rule_of reduction.Lift = written.lift_rule
reduction_rule_of reduction.Induction = written.ind_rule
reduction_rule_of reduction.Operation = written.operation_rule
reduction_rule_of (reduction.Iota i) = written.iota_rule i

abbrev pub conversion_rule_of : Contents → ConversionRule → written.EqualityRule
conversion_rule_of c conversion.Reduce = written.reduce_rule
conversion_rule_of c conversion.Sorts = written.sorts_rule
conversion_rule_of c conversion.Constants = written.consts_rule
conversion_rule_of c conversion.Apply = written.apps_rule
conversion_rule_of c conversion.Project = written.projs_rule
conversion_rule_of c (conversion.Lambda x) = written.lams_rule (tree_at c x)
conversion_rule_of c (conversion.Pi x) = written.pis_rule (tree_at c x)
conversion_rule_of c conversion.Eta = written.eta_rule
conversion_rule_of c conversion.StructureLeft = written.struct_left_rule
conversion_rule_of c conversion.StructureRight = written.struct_right_rule
conversion_rule_of c conversion.UnitLike = written.unit_rule
conversion_rule_of c conversion.Proof = written.proof_rule
conversion_rule_of c conversion.Zero = written.zero_rule
conversion_rule_of c conversion.Successor = written.succ_rule
conversion_rule_of c conversion.TextLeft = written.str_left_rule
conversion_rule_of c conversion.TextRight = written.str_right_rule

-- the line of a rule, two trees and premises
abbrev pub line_by : Contents → Rule → Line → written.Line
line_by c (Typing r) l =
    ty (typing_rule_of c r) (tree_at c l.left) (tree_at c l.right) l.premises.items
line_by c (Reduction r) l =
    rd (reduction_rule_of r) (tree_at c l.left) (tree_at c l.right) l.premises.items
line_by c (Conversion r) l =
    cv (conversion_rule_of c r) (tree_at c l.left) (tree_at c l.right) l.premises.items

abbrev pub line_of : Contents → Line → written.Line
line_of c l = line_by c l.rule l

abbrev pub section_of : Contents → Section → WrittenSection
section_of c s = record { lines = map (line_of c) s.lines.items; parts = s.parts.items }

-- the tree of its Local, where it has one, is one of the store's
abbrev pub IsTypingRuleIn : Contents → TypingRule → Type 0
IsTypingRuleIn c (typing.Lambda x) = x < length c.trees
IsTypingRuleIn c (typing.Pi x) = x < length c.trees
IsTypingRuleIn c _ = Unit {0}

abbrev pub IsConversionRuleIn : Contents → ConversionRule → Type 0
IsConversionRuleIn c (conversion.Lambda x) = x < length c.trees
IsConversionRuleIn c (conversion.Pi x) = x < length c.trees
IsConversionRuleIn c _ = Unit {0}

abbrev pub IsRuleIn : Contents → Rule → Type 0
IsRuleIn c (Typing r) = IsTypingRuleIn c r
IsRuleIn c (Reduction r) = Unit {0}
IsRuleIn c (Conversion r) = IsConversionRuleIn c r

-- its trees are trees of the store
pub record IsLineIn (c : Contents) (l : Line) : Type 0 where
  pub rule_in : IsRuleIn c l.rule
  pub left_in : l.left < length c.trees
  pub right_in : l.right < length c.trees

abbrev pub IsSectionIn : Contents → Section → Type 0
IsSectionIn c s = All (IsLineIn c) s.lines.items
