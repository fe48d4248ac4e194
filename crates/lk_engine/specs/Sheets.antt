-- What any question keeps: over other things, and with known numbers.
use Rattle.std.specs.Prelude.{ℕ}
use Rattle.lk_ask.specs.declared.sheet.Sheet.{Sheet}
use Rattle.lk_ask.specs.Sheets.{map_sheet, IsKnownSheet}
use Rattle.lk_core.specs.Sheets.{map_core, IsKnownCore}
use Rattle.lk_iota.specs.Sheets.{map_iota_term, map_iota_truth, IsKnownIotaTerm, IsKnownIotaTruth}
use Rattle.lk_proj.specs.Sheets.{map_infer, IsKnownInfer}
use Rattle.lk_proj.specs.Sheets.{map_core as map_reduced, IsKnownCore as IsKnownReduced}
use Rattle.lk_quot.specs.Sheets.{map_quot_sheet, IsKnownQuotSheet}
use Rattle.lk_type.specs.Sheets.{map_type_term, map_type_truth, IsKnownTypeTerm, IsKnownTypeTruth}
use Rattle.lk_same.specs.Sheets.{map_same_term, map_same_truth, IsKnownSameTerm, IsKnownSameTruth}
use Rattle.lk_engine.specs.declared.sheet.TermSheet.{TermSheet}
use Rattle.lk_engine.specs.declared.sheet.TermSheet.TheVariants as term
use Rattle.lk_engine.specs.declared.sheet.TruthSheet.{TruthSheet}
use Rattle.lk_engine.specs.declared.sheet.TruthSheet.TheVariants as truth

abbrev pub AnySheet : Type 0 → Type 0
AnySheet X = Sheet (TermSheet X) (TruthSheet X)

abbrev pub map_term : {X Y : Type 0} → (X → Y) → TermSheet X → TermSheet Y
map_term f (term.Core s) = term.Core (map_core f s)
map_term f (term.Iota s) = term.Iota (map_iota_term f s)
map_term f (term.Quotient s) = term.Quotient (map_quot_sheet f s)
map_term f (term.Reduced s) = term.Reduced (map_reduced f s)
map_term f (term.Type s) = term.Type (map_type_term f s)
map_term f (term.Projected s) = term.Projected (map_infer f s)
map_term f (term.Same s) = term.Same (map_same_term f s)

abbrev pub map_truth : {X Y : Type 0} → (X → Y) → TruthSheet X → TruthSheet Y
map_truth f (truth.Iota s) = truth.Iota (map_iota_truth f s)
map_truth f (truth.Type s) = truth.Type (map_type_truth f s)
map_truth f (truth.Same s) = truth.Same (map_same_truth f s)

abbrev pub map_any : {X Y : Type 0} → (X → Y) → AnySheet X → AnySheet Y
map_any f = map_sheet (map_term f) (map_truth f)

-- its numbers are below n
abbrev pub IsKnownTerm : ℕ → TermSheet ℕ → Type 0
IsKnownTerm n (term.Core s) = IsKnownCore n s
IsKnownTerm n (term.Iota s) = IsKnownIotaTerm n s
IsKnownTerm n (term.Quotient s) = IsKnownQuotSheet n s
IsKnownTerm n (term.Reduced s) = IsKnownReduced n s
IsKnownTerm n (term.Type s) = IsKnownTypeTerm n s
IsKnownTerm n (term.Projected s) = IsKnownInfer n s
IsKnownTerm n (term.Same s) = IsKnownSameTerm n s

abbrev pub IsKnownTruth : ℕ → TruthSheet ℕ → Type 0
IsKnownTruth n (truth.Iota s) = IsKnownIotaTruth n s
IsKnownTruth n (truth.Type s) = IsKnownTypeTruth n s
IsKnownTruth n (truth.Same s) = IsKnownSameTruth n s

abbrev pub IsKnownAny : ℕ → AnySheet ℕ → Type 0
IsKnownAny = IsKnownSheet IsKnownTerm IsKnownTruth
