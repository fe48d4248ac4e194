-- The rule of a written line by the word that a file has for it, and what stands beside the line's
-- two trees.
use Rattle.std.specs.Prelude.{ℕ, List}
use Rattle.lk_tree.specs.Tree.{Tree}
use Rattle.lk_lines.specs.declared.rules.TypingTag.{TypingTag}
use Rattle.lk_lines.specs.declared.rules.TypingTag.TheVariants as typing
use Rattle.lk_lines.specs.declared.rules.ReductionTag.{ReductionTag}
use Rattle.lk_lines.specs.declared.rules.ReductionTag.TheVariants as reduction
use Rattle.lk_lines.specs.declared.rules.ConversionTag.{ConversionTag}
use Rattle.lk_lines.specs.declared.rules.ConversionTag.TheVariants as conversion
use Rattle.lk_lines.specs.declared.rules.RuleTag.{RuleTag}
use Rattle.lk_lines.specs.declared.rules.RuleTag.TheVariants.{Typing, Reduction, Conversion}
use Rattle.lk_written.specs.Line as written
use Rattle.lk_written.specs.Line.{Line, ty, rd, cv}

abbrev pub typing_tag : written.TypingRule → TypingTag
typing_tag written.sort_rule = typing.Sort
typing_tag written.local_rule = typing.Local
typing_tag written.const_rule = typing.Constant
typing_tag written.app_rule = typing.Apply
typing_tag written.let_rule = typing.Let
typing_tag written.lit_rule = typing.NatLiteral
typing_tag written.str_rule = typing.TextLiteral
typing_tag written.proj_rule = typing.Project
typing_tag (written.lam_rule x) = typing.Lambda
typing_tag (written.pi_rule x) = typing.Pi

abbrev pub reduction_tag : written.ReductionRule → ReductionTag
reduction_tag written.chain_rule = reduction.Chain
reduction_tag written.head_rule = reduction.Head
reduction_tag written.beta_rule = reduction.Beta
reduction_tag written.zeta_rule = reduction.Zeta
reduction_tag written.delta_rule = reduction.Delta
reduction_tag written.field_rule = reduction.Project
reduction_tag written.major_rule = reduction.Major
reduction_tag written.k_rule = reduction.K
reduction_tag written.expand_rule = reduction.Structure
reduction_tag written.lift_rule = reduction.Lift
reduction_tag written.ind_rule = reduction.Induction
reduction_tag written.operation_rule = reduction.Operation
reduction_tag (written.iota_rule i) = reduction.Iota

abbrev pub conversion_tag : written.EqualityRule → ConversionTag
conversion_tag written.reduce_rule = conversion.Reduce
conversion_tag written.sorts_rule = conversion.Sorts
conversion_tag written.consts_rule = conversion.Constants
conversion_tag written.apps_rule = conversion.Apply
conversion_tag written.projs_rule = conversion.Project
conversion_tag (written.lams_rule x) = conversion.Lambda
conversion_tag (written.pis_rule x) = conversion.Pi
conversion_tag written.eta_rule = conversion.Eta
conversion_tag written.struct_left_rule = conversion.StructureLeft
conversion_tag written.struct_right_rule = conversion.StructureRight
conversion_tag written.unit_rule = conversion.UnitLike
conversion_tag written.proof_rule = conversion.Proof
conversion_tag written.zero_rule = conversion.Zero
conversion_tag written.succ_rule = conversion.Successor
conversion_tag written.str_left_rule = conversion.TextLeft
conversion_tag written.str_right_rule = conversion.TextRight

-- nothing; the Local of a rule that goes under a binder; of R-Iota the place of the recursor's rule
pub data Extra : Type 0 where
  bare : Extra
  with_local : Tree → Extra
  with_place : ℕ → Extra

abbrev pub typing_extra : written.TypingRule → Extra
typing_extra (written.lam_rule x) = with_local x
typing_extra (written.pi_rule x) = with_local x
typing_extra r = bare

abbrev pub reduction_extra : written.ReductionRule → Extra
reduction_extra (written.iota_rule i) = with_place i
reduction_extra r = bare

abbrev pub conversion_extra : written.EqualityRule → Extra
conversion_extra (written.lams_rule x) = with_local x
conversion_extra (written.pis_rule x) = with_local x
conversion_extra r = bare

-- what a line is made of
pub record LineFields : Type 0 where
  pub rule : RuleTag
  pub extra : Extra
  pub left : Tree
  pub right : Tree
  pub premises : List ℕ

abbrev pub line_fields : Line → LineFields
line_fields (ty r e T js) = record {
  rule = Typing (typing_tag r);
  extra = typing_extra r;
  left = e;
  right = T;
  premises = js;
}
line_fields (rd r a b js) = record {
  rule = Reduction (reduction_tag r);
  extra = reduction_extra r;
  left = a;
  right = b;
  premises = js;
}
line_fields (cv r a b js) = record {
  rule = Conversion (conversion_tag r);
  extra = conversion_extra r;
  left = a;
  right = b;
  premises = js;
}
