-- What a line of a derivation states: by which rule, of which trees, from which earlier lines.
use Rattle.std.specs.Prelude.{ℕ, List, [], ◌∷◌, Result, Ok, Err, Option}
use Rattle.lk_tree.specs.Tree.{Tree}
use Rattle.lk_written.specs.Line as written
use Rattle.lk_written.specs.Line.{Line, ty, rd, cv}
use Rattle.lk_lines.specs.declared.words.Word.{Word}
use Rattle.lk_lines.specs.declared.words.Word.TheVariants.{UnknownTag}
use Rattle.lk_lines.specs.declared.rules.TypingTag.{TypingTag}
use Rattle.lk_lines.specs.declared.rules.TypingTag.TheVariants as typing
use Rattle.lk_lines.specs.declared.rules.ReductionTag.{ReductionTag}
use Rattle.lk_lines.specs.declared.rules.ReductionTag.TheVariants as reduction
use Rattle.lk_lines.specs.declared.rules.ConversionTag.{ConversionTag}
use Rattle.lk_lines.specs.declared.rules.ConversionTag.TheVariants as conversion
use Rattle.lk_lines.specs.declared.rules.RuleTag.{RuleTag}
use Rattle.lk_lines.specs.declared.rules.RuleTag.TheVariants.{Typing, Reduction, Conversion}
use Rattle.lk_lines.specs.Reading.{◌>>=◌}
use Rattle.lk_lines.specs.Values.{Value, Number, Numbers, OfRule}
use Rattle.lk_units.specs.State.{State, known, all_known}

-- a rule that has nothing beside its two trees
abbrev pub typing_rule : TypingTag → Result written.TypingRule Word
typing_rule typing.Sort = Ok written.sort_rule
typing_rule typing.Local = Ok written.local_rule
typing_rule typing.Constant = Ok written.const_rule
typing_rule typing.Apply = Ok written.app_rule
typing_rule typing.Let = Ok written.let_rule
typing_rule typing.NatLiteral = Ok written.lit_rule
typing_rule typing.TextLiteral = Ok written.str_rule
typing_rule typing.Project = Ok written.proj_rule
typing_rule typing.Lambda = Err UnknownTag
typing_rule typing.Pi = Err UnknownTag

abbrev pub reduction_rule : ReductionTag → Result written.ReductionRule Word
reduction_rule reduction.Chain = Ok written.chain_rule
reduction_rule reduction.Head = Ok written.head_rule
reduction_rule reduction.Beta = Ok written.beta_rule
reduction_rule reduction.Zeta = Ok written.zeta_rule
reduction_rule reduction.Delta = Ok written.delta_rule
reduction_rule reduction.Project = Ok written.field_rule
reduction_rule reduction.Major = Ok written.major_rule
reduction_rule reduction.K = Ok written.k_rule
reduction_rule reduction.Structure = Ok written.expand_rule
reduction_rule reduction.Lift = Ok written.lift_rule
reduction_rule reduction.Induction = Ok written.ind_rule
reduction_rule reduction.Operation = Ok written.operation_rule
reduction_rule reduction.Iota = Err UnknownTag

abbrev pub equality_rule : ConversionTag → Result written.EqualityRule Word
equality_rule conversion.Reduce = Ok written.reduce_rule
equality_rule conversion.Sorts = Ok written.sorts_rule
equality_rule conversion.Constants = Ok written.consts_rule
equality_rule conversion.Apply = Ok written.apps_rule
equality_rule conversion.Project = Ok written.projs_rule
equality_rule conversion.Eta = Ok written.eta_rule
equality_rule conversion.StructureLeft = Ok written.struct_left_rule
equality_rule conversion.StructureRight = Ok written.struct_right_rule
equality_rule conversion.UnitLike = Ok written.unit_rule
equality_rule conversion.Proof = Ok written.proof_rule
equality_rule conversion.Zero = Ok written.zero_rule
equality_rule conversion.Successor = Ok written.succ_rule
equality_rule conversion.TextLeft = Ok written.str_left_rule
equality_rule conversion.TextRight = Ok written.str_right_rule
equality_rule conversion.Lambda = Err UnknownTag
equality_rule conversion.Pi = Err UnknownTag

-- the line of a rule with nothing beside its two trees
abbrev pub plain_line : RuleTag → Tree → Tree → List ℕ → Result Line Word
plain_line (Typing t) a b js = typing_rule t >>= λ r. Ok (ty r a b js)
plain_line (Reduction t) a b js = reduction_rule t >>= λ r. Ok (rd r a b js)
plain_line (Conversion t) a b js = equality_rule t >>= λ r. Ok (cv r a b js)

-- the line of a rule that has a Local beside its two trees
abbrev pub local_line : RuleTag → Tree → Tree → Tree → List ℕ → Result Line Word
local_line (Typing typing.Lambda) a b x js = Ok (ty (written.lam_rule x) a b js)
local_line (Typing typing.Pi) a b x js = Ok (ty (written.pi_rule x) a b js)
local_line (Conversion conversion.Lambda) a b x js = Ok (cv (written.lams_rule x) a b js)
local_line (Conversion conversion.Pi) a b x js = Ok (cv (written.pis_rule x) a b js)
local_line r a b x js = Err UnknownTag

-- Two trees and premises, each of which is to stand for something: the premises for places in the
-- section.
module _ (s : State) (places : ℕ → Option ℕ) where
  -- a line of a rule that has nothing beside its two trees
  abbrev pub plain_said : RuleTag → Tree → Tree → List ℕ → Result Line Word
  plain_said r a b ps = all_known places ps >>= λ js. plain_line r a b js

  -- the same where it has the number of a Local there
  abbrev pub local_said : RuleTag → Tree → Tree → ℕ → List ℕ → Result Line Word
  local_said r a b x ps =
      known s.trees x >>= λ tree. (all_known places ps >>= λ js. local_line r a b tree js)

  -- what stands beside the two trees is for R-Iota a number, else the number of a Local
  abbrev pub beside_said : RuleTag → Tree → Tree → ℕ → List ℕ → Result Line Word
  beside_said (Reduction reduction.Iota) a b i ps =
      all_known places ps >>= λ js. Ok (rd (written.iota_rule i) a b js)
  beside_said r a b x ps = local_said r a b x ps

  -- What the values of a line state. No line gives values of another shape; UnknownTag stands for
  -- it.
  abbrev pub line_said : List Value → Result Line Word
  line_said (OfRule r ∷ Number a ∷ Number b ∷ Numbers ps ∷ []) =
      known s.trees a >>= λ left. (known s.trees b >>= λ right. plain_said r left right ps)
  line_said (OfRule r ∷ Number a ∷ Number b ∷ Number x ∷ Numbers ps ∷ []) =
      known s.trees a >>= λ left. (known s.trees b >>= λ right. beside_said r left right x ps)
  line_said values = Err UnknownTag
