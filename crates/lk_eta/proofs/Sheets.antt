-- What eta keeps stands for the same as a store grows, and its numbers stay known.
use Rattle.std.proofs.Common.{◌≡◌, ℕ, length, refl, ap}
use Rattle.lk_store.specs.Contents.{Contents, tree_at, Extends}
use Rattle.lk_ask.proofs.Sheets.{grown, pairs_steady, pairs_known}
use Rattle.lk_eta.specs.declared.sheet.FunctionSheet.{FunctionSheet}
use Rattle.lk_eta.specs.declared.sheet.FunctionSheet.TheVariants.{First, FirstForm, Second, SecondForm}
use Rattle.lk_eta.specs.declared.sheet.StructureTermSheet.{StructureTermSheet}
use Rattle.lk_eta.specs.declared.sheet.StructureTermSheet.TheVariants as terms
use Rattle.lk_eta.specs.declared.sheet.StructureTruthSheet.{StructureTruthSheet}
use Rattle.lk_eta.specs.declared.sheet.StructureTruthSheet.TheVariants as truths
use Rattle.lk_eta.specs.declared.sheet.UnitSheet.{UnitSheet}
use Rattle.lk_eta.specs.declared.sheet.UnitSheet.TheVariants as unit
use Rattle.lk_eta.specs.declared.sheet.EtaTermSheet.{EtaTermSheet}
use Rattle.lk_eta.specs.declared.sheet.EtaTermSheet.TheVariants as term
use Rattle.lk_eta.specs.declared.sheet.EtaTruthSheet.{EtaTruthSheet}
use Rattle.lk_eta.specs.declared.sheet.EtaTruthSheet.TheVariants as truth
use Rattle.lk_eta.specs.Sheets.{map_function, map_structure_term, map_structure_truth, map_unit, map_eta_term, map_eta_truth}
use Rattle.lk_eta.specs.Sheets.{IsKnownFunction, IsKnownStructureTerm, IsKnownStructureTruth, IsKnownUnit, IsKnownEtaTerm, IsKnownEtaTruth}

module _ {c d : Contents} (x : Extends c d) where
  function_steady : (s : FunctionSheet ℕ) → IsKnownFunction (length c.trees) s
      → map_function (tree_at d) s ≡ map_function (tree_at c) s
  function_steady (First a b) h = let p = x.trees.same a h.0 in let q = x.trees.same b h.1 in cc
  function_steady (FirstForm a b) h = let p = x.trees.same a h.0 in let q = x.trees.same b h.1 in cc
  function_steady (Second a b) h = let p = x.trees.same a h.0 in let q = x.trees.same b h.1 in cc
  function_steady (SecondForm a b) h = let p = x.trees.same a h.0 in let q = x.trees.same b h.1 in cc

  structure_term_steady : (s : StructureTermSheet ℕ) → IsKnownStructureTerm (length c.trees) s
      → map_structure_term (tree_at d) s ≡ map_structure_term (tree_at c) s
  structure_term_steady (terms.Left a b) h =
      let p = x.trees.same a h.0 in let q = x.trees.same b h.1 in cc
  structure_term_steady (terms.Right a b t) h =
      let p = x.trees.same a h.0 in let q = x.trees.same b h.1 in
      let r = x.trees.same t h.2 in cc

  structure_truth_steady : (s : StructureTruthSheet ℕ) → IsKnownStructureTruth (length c.trees) s
      → map_structure_truth (tree_at d) s ≡ map_structure_truth (tree_at c) s
  structure_truth_steady (truths.Types a b) h =
      let p = x.trees.same a h.0 in let q = x.trees.same b h.1 in cc
  structure_truth_steady (truths.Fields a b ps) h =
      let p = x.trees.same a h.0 in let q = x.trees.same b h.1 in
      let r = pairs_steady x ps h.2 in cc

  unit_steady : (s : UnitSheet ℕ) → IsKnownUnit (length c.trees) s
      → map_unit (tree_at d) s ≡ map_unit (tree_at c) s
  unit_steady (unit.Left a b) h = let p = x.trees.same a h.0 in let q = x.trees.same b h.1 in cc
  unit_steady (unit.LeftForm a b t) h =
      let p = x.trees.same a h.0 in let q = x.trees.same b h.1 in
      let r = x.trees.same t h.2 in cc
  unit_steady (unit.Right a b t) h =
      let p = x.trees.same a h.0 in let q = x.trees.same b h.1 in
      let r = x.trees.same t h.2 in cc

  pub eta_term_steady : (s : EtaTermSheet ℕ) → IsKnownEtaTerm (length c.trees) s
      → map_eta_term (tree_at d) s ≡ map_eta_term (tree_at c) s
  eta_term_steady (term.Function s) h = ap (λ t. term.Function t) (function_steady s h)
  eta_term_steady (term.Structure way s) h = ap (λ t. term.Structure way t) (structure_term_steady s h)
  eta_term_steady (term.Unit s) h = ap (λ t. term.Unit t) (unit_steady s h)

  pub eta_truth_steady : (s : EtaTruthSheet ℕ) → IsKnownEtaTruth (length c.trees) s
      → map_eta_truth (tree_at d) s ≡ map_eta_truth (tree_at c) s
  eta_truth_steady (truth.Long a b) h =
      let p = x.trees.same a h.0 in let q = x.trees.same b h.1 in cc
  eta_truth_steady (truth.Structure way s) h = ap (λ t. truth.Structure way t) (structure_truth_steady s h)
  eta_truth_steady truth.Passed h = refl

  function_known : (s : FunctionSheet ℕ) → IsKnownFunction (length c.trees) s
      → IsKnownFunction (length d.trees) s
  function_known (First a b) h = (grown x a h.0, grown x b h.1)
  function_known (FirstForm a b) h = (grown x a h.0, grown x b h.1)
  function_known (Second a b) h = (grown x a h.0, grown x b h.1)
  function_known (SecondForm a b) h = (grown x a h.0, grown x b h.1)

  structure_term_known : (s : StructureTermSheet ℕ) → IsKnownStructureTerm (length c.trees) s
      → IsKnownStructureTerm (length d.trees) s
  structure_term_known (terms.Left a b) h = (grown x a h.0, grown x b h.1)
  structure_term_known (terms.Right a b t) h = (grown x a h.0, grown x b h.1, grown x t h.2)

  structure_truth_known : (s : StructureTruthSheet ℕ) → IsKnownStructureTruth (length c.trees) s
      → IsKnownStructureTruth (length d.trees) s
  structure_truth_known (truths.Types a b) h = (grown x a h.0, grown x b h.1)
  structure_truth_known (truths.Fields a b ps) h =
      (grown x a h.0, grown x b h.1, pairs_known x ps h.2)

  unit_known : (s : UnitSheet ℕ) → IsKnownUnit (length c.trees) s
      → IsKnownUnit (length d.trees) s
  unit_known (unit.Left a b) h = (grown x a h.0, grown x b h.1)
  unit_known (unit.LeftForm a b t) h = (grown x a h.0, grown x b h.1, grown x t h.2)
  unit_known (unit.Right a b t) h = (grown x a h.0, grown x b h.1, grown x t h.2)

  pub eta_term_known : (s : EtaTermSheet ℕ) → IsKnownEtaTerm (length c.trees) s
      → IsKnownEtaTerm (length d.trees) s
  eta_term_known (term.Function s) h = function_known s h
  eta_term_known (term.Structure way s) h = structure_term_known s h
  eta_term_known (term.Unit s) h = unit_known s h

  pub eta_truth_known : (s : EtaTruthSheet ℕ) → IsKnownEtaTruth (length c.trees) s
      → IsKnownEtaTruth (length d.trees) s
  eta_truth_known (truth.Long a b) h = (grown x a h.0, grown x b h.1)
  eta_truth_known (truth.Structure way s) h = structure_truth_known s h
  eta_truth_known truth.Passed h = tt
