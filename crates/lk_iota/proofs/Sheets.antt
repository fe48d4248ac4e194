-- What is kept stays as it is, and known, while the contents grow.
use Rattle.std.proofs.Common.{◌≡◌, ℕ, length, refl, ap}
use Rattle.lk_store.specs.Contents.{Contents, tree_at, Extends}
use Rattle.lk_ask.proofs.Sheets.{grown}
use Rattle.lk_iota.specs.declared.sheet.IotaTermSheet.{IotaTermSheet}
use Rattle.lk_iota.specs.declared.sheet.IotaTermSheet.TheVariants.{Passed, MajorType, MajorTypeForm}
use Rattle.lk_iota.specs.declared.sheet.IotaTermSheet.TheVariants.{Candidate, Major, StructureType}
use Rattle.lk_iota.specs.declared.sheet.IotaTermSheet.TheVariants.{StructureTypeForm, StructureSort}
use Rattle.lk_iota.specs.declared.sheet.IotaTermSheet.TheVariants.{StructureSortForm}
use Rattle.lk_iota.specs.declared.sheet.IotaTruthSheet.{IotaTruthSheet}
use Rattle.lk_iota.specs.declared.sheet.IotaTruthSheet.TheVariants.{CandidateSame}
use Rattle.lk_iota.specs.Sheets.{map_iota_term, map_iota_truth, IsKnownIotaTerm, IsKnownIotaTruth}

module _ {c d : Contents} (x : Extends c d) where
  pub iota_term_steady : (s : IotaTermSheet ℕ) → IsKnownIotaTerm (length c.trees) s
      → map_iota_term (tree_at d) s ≡ map_iota_term (tree_at c) s
  iota_term_steady Passed h = refl
  iota_term_steady (MajorType e) h = ap (λ t. MajorType t) (x.trees.same e h)
  iota_term_steady (MajorTypeForm e) h = ap (λ t. MajorTypeForm t) (x.trees.same e h)
  iota_term_steady (Candidate e t k) h =
      let p = x.trees.same e h.0 in
      let q = x.trees.same t h.1 in
      let r = x.trees.same k h.2 in
      cc
  iota_term_steady (Major e) h = ap (λ t. Major t) (x.trees.same e h)
  iota_term_steady (StructureType e m) h =
      let p = x.trees.same e h.0 in
      let q = x.trees.same m h.1 in
      cc
  iota_term_steady (StructureTypeForm e m) h =
      let p = x.trees.same e h.0 in
      let q = x.trees.same m h.1 in
      cc
  iota_term_steady (StructureSort e m t) h =
      let p = x.trees.same e h.0 in
      let q = x.trees.same m h.1 in
      let r = x.trees.same t h.2 in
      cc
  iota_term_steady (StructureSortForm e m t) h =
      let p = x.trees.same e h.0 in
      let q = x.trees.same m h.1 in
      let r = x.trees.same t h.2 in
      cc

  pub iota_truth_steady : (s : IotaTruthSheet ℕ) → IsKnownIotaTruth (length c.trees) s
      → map_iota_truth (tree_at d) s ≡ map_iota_truth (tree_at c) s
  iota_truth_steady (CandidateSame e k) h =
      let p = x.trees.same e h.0 in
      let q = x.trees.same k h.1 in
      cc

  pub iota_term_known : (s : IotaTermSheet ℕ) → IsKnownIotaTerm (length c.trees) s
      → IsKnownIotaTerm (length d.trees) s
  iota_term_known Passed h = tt
  iota_term_known (MajorType e) h = grown x e h
  iota_term_known (MajorTypeForm e) h = grown x e h
  iota_term_known (Candidate e t k) h = (grown x e h.0, grown x t h.1, grown x k h.2)
  iota_term_known (Major e) h = grown x e h
  iota_term_known (StructureType e m) h = (grown x e h.0, grown x m h.1)
  iota_term_known (StructureTypeForm e m) h = (grown x e h.0, grown x m h.1)
  iota_term_known (StructureSort e m t) h = (grown x e h.0, grown x m h.1, grown x t h.2)
  iota_term_known (StructureSortForm e m t) h = (grown x e h.0, grown x m h.1, grown x t h.2)

  pub iota_truth_known : (s : IotaTruthSheet ℕ) → IsKnownIotaTruth (length c.trees) s
      → IsKnownIotaTruth (length d.trees) s
  iota_truth_known (CandidateSame e k) h = (grown x e h.0, grown x k h.1)
