-- What Core of a recursor that is applied keeps: over other things, and with known numbers.
use Rattle.std.specs.Prelude.{ℕ, ◌<◌}
use Rattle.lk_ask.specs.declared.sheet.Sheet.{Sheet}
use Rattle.lk_ask.specs.Sheets.{map_sheet, IsKnownSheet}
use Rattle.lk_iota.specs.declared.sheet.IotaTermSheet.{IotaTermSheet}
use Rattle.lk_iota.specs.declared.sheet.IotaTermSheet.TheVariants.{Passed, MajorType, MajorTypeForm}
use Rattle.lk_iota.specs.declared.sheet.IotaTermSheet.TheVariants.{Candidate, Major, StructureType}
use Rattle.lk_iota.specs.declared.sheet.IotaTermSheet.TheVariants.{StructureTypeForm, StructureSort}
use Rattle.lk_iota.specs.declared.sheet.IotaTermSheet.TheVariants.{StructureSortForm}
use Rattle.lk_iota.specs.declared.sheet.IotaTruthSheet.{IotaTruthSheet}
use Rattle.lk_iota.specs.declared.sheet.IotaTruthSheet.TheVariants.{CandidateSame}

abbrev pub IotaSheet : Type 0 → Type 0
IotaSheet X = Sheet (IotaTermSheet X) (IotaTruthSheet X)

abbrev pub map_iota_term : {X Y : Type 0} → (X → Y) → IotaTermSheet X → IotaTermSheet Y
map_iota_term f Passed = Passed
map_iota_term f (MajorType e) = MajorType (f e)
map_iota_term f (MajorTypeForm e) = MajorTypeForm (f e)
map_iota_term f (Candidate e T d) = Candidate (f e) (f T) (f d)
map_iota_term f (Major e) = Major (f e)
map_iota_term f (StructureType e m) = StructureType (f e) (f m)
map_iota_term f (StructureTypeForm e m) = StructureTypeForm (f e) (f m)
map_iota_term f (StructureSort e m T) = StructureSort (f e) (f m) (f T)
map_iota_term f (StructureSortForm e m T) = StructureSortForm (f e) (f m) (f T)

abbrev pub map_iota_truth : {X Y : Type 0} → (X → Y) → IotaTruthSheet X → IotaTruthSheet Y
map_iota_truth f (CandidateSame e d) = CandidateSame (f e) (f d)

abbrev pub map_iota_sheet : {X Y : Type 0} → (X → Y) → IotaSheet X → IotaSheet Y
map_iota_sheet f = map_sheet (map_iota_term f) (map_iota_truth f)

-- its numbers are below n
abbrev pub IsKnownIotaTerm : ℕ → IotaTermSheet ℕ → Type 0
IsKnownIotaTerm n Passed = Unit {0}
IsKnownIotaTerm n (MajorType e) = e < n
IsKnownIotaTerm n (MajorTypeForm e) = e < n
IsKnownIotaTerm n (Candidate e T d) = (e < n) × (T < n) × (d < n)
IsKnownIotaTerm n (Major e) = e < n
IsKnownIotaTerm n (StructureType e m) = (e < n) × (m < n)
IsKnownIotaTerm n (StructureTypeForm e m) = (e < n) × (m < n)
IsKnownIotaTerm n (StructureSort e m T) = (e < n) × (m < n) × (T < n)
IsKnownIotaTerm n (StructureSortForm e m T) = (e < n) × (m < n) × (T < n)

abbrev pub IsKnownIotaTruth : ℕ → IotaTruthSheet ℕ → Type 0
IsKnownIotaTruth n (CandidateSame e d) = (e < n) × (d < n)

abbrev pub IsKnownIotaSheet : ℕ → IotaSheet ℕ → Type 0
IsKnownIotaSheet = IsKnownSheet IsKnownIotaTerm IsKnownIotaTruth
