-- What any question keeps stays as it is, and known, while the contents grow.
use Rattle.std.proofs.Common.{◌≡◌, ℕ, length, ap}
use Rattle.lk_store.specs.Contents.{Contents, tree_at, Extends}
use Rattle.lk_ask.proofs.Sheets.{sheet_steady, sheet_known}
use Rattle.lk_core.proofs.Sheets.{core_steady, core_known}
use Rattle.lk_iota.proofs.Sheets.{iota_term_steady, iota_truth_steady}
use Rattle.lk_iota.proofs.Sheets.{iota_term_known, iota_truth_known}
use Rattle.lk_proj.proofs.Sheets.{infer_steady, infer_known}
use Rattle.lk_proj.proofs.Sheets.{core_steady as reduced_steady, core_known as reduced_known}
use Rattle.lk_quot.proofs.Sheets.{quot_steady, quot_known}
use Rattle.lk_type.proofs.Sheets.{type_term_steady, type_truth_steady}
use Rattle.lk_type.proofs.Sheets.{type_term_known, type_truth_known}
use Rattle.lk_same.proofs.Sheets.{same_term_steady, same_truth_steady}
use Rattle.lk_same.proofs.Sheets.{same_term_known, same_truth_known}
use Rattle.lk_engine.specs.declared.sheet.TermSheet.{TermSheet}
use Rattle.lk_engine.specs.declared.sheet.TermSheet.TheVariants as term
use Rattle.lk_engine.specs.declared.sheet.TruthSheet.{TruthSheet}
use Rattle.lk_engine.specs.declared.sheet.TruthSheet.TheVariants as truth
use Rattle.lk_engine.specs.Sheets.{AnySheet, map_term, map_truth, map_any}
use Rattle.lk_engine.specs.Sheets.{IsKnownTerm, IsKnownTruth, IsKnownAny}

module _ {c d : Contents} (x : Extends c d) where
  term_steady : (s : TermSheet ℕ) → IsKnownTerm (length c.trees) s
      → map_term (tree_at d) s ≡ map_term (tree_at c) s
  term_steady (term.Core s) h = ap (λ t. term.Core t) (core_steady x s h)
  term_steady (term.Iota s) h = ap (λ t. term.Iota t) (iota_term_steady x s h)
  term_steady (term.Quotient s) h = ap (λ t. term.Quotient t) (quot_steady x s h)
  term_steady (term.Reduced s) h = ap (λ t. term.Reduced t) (reduced_steady x s h)
  term_steady (term.Type s) h = ap (λ t. term.Type t) (type_term_steady x s h)
  term_steady (term.Projected s) h = ap (λ t. term.Projected t) (infer_steady x s h)
  term_steady (term.Same s) h = ap (λ t. term.Same t) (same_term_steady x s h)

  truth_steady : (s : TruthSheet ℕ) → IsKnownTruth (length c.trees) s
      → map_truth (tree_at d) s ≡ map_truth (tree_at c) s
  truth_steady (truth.Iota s) h = ap (λ t. truth.Iota t) (iota_truth_steady x s h)
  truth_steady (truth.Type s) h = ap (λ t. truth.Type t) (type_truth_steady x s h)
  truth_steady (truth.Same s) h = ap (λ t. truth.Same t) (same_truth_steady x s h)

  pub any_steady : (s : AnySheet ℕ) → IsKnownAny (length c.trees) s
      → map_any (tree_at d) s ≡ map_any (tree_at c) s
  any_steady = sheet_steady IsKnownTerm IsKnownTruth (length c.trees) term_steady truth_steady

  term_known : (s : TermSheet ℕ) → IsKnownTerm (length c.trees) s → IsKnownTerm (length d.trees) s
  term_known (term.Core s) h = core_known x s h
  term_known (term.Iota s) h = iota_term_known x s h
  term_known (term.Quotient s) h = quot_known x s h
  term_known (term.Reduced s) h = reduced_known x s h
  term_known (term.Type s) h = type_term_known x s h
  term_known (term.Projected s) h = infer_known x s h
  term_known (term.Same s) h = same_term_known x s h

  truth_known : (s : TruthSheet ℕ) → IsKnownTruth (length c.trees) s
      → IsKnownTruth (length d.trees) s
  truth_known (truth.Iota s) h = iota_truth_known x s h
  truth_known (truth.Type s) h = type_truth_known x s h
  truth_known (truth.Same s) h = same_truth_known x s h

  pub any_known : (s : AnySheet ℕ) → IsKnownAny (length c.trees) s
      → IsKnownAny (length d.trees) s
  any_known = sheet_known IsKnownTerm IsKnownTruth (length c.trees) (length d.trees)
      term_known truth_known
