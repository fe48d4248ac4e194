-- What Same keeps: over other things, and with known numbers.
use Rattle.std.specs.Prelude.{ℕ, ◌<◌, map, All}
use Rattle.lk_ask.specs.declared.sheet.Sheet.{Sheet}
use Rattle.lk_ask.specs.Sheets.{map_sheet, map_pair, IsKnownSheet, IsKnownPair}
use Rattle.lk_eta.specs.Sheets.{map_eta_term, map_eta_truth, IsKnownEtaTerm, IsKnownEtaTruth}
use Rattle.lk_lazy.specs.Sheets.{map_lazy, IsKnownLazy}
use Rattle.lk_lit.specs.Sheets.{map_literals, IsKnownLiterals}
use Rattle.lk_same.specs.declared.sheet.ProofSheet.{ProofSheet}
use Rattle.lk_same.specs.declared.sheet.ProofSheet.TheVariants.{Left, LeftSort, LeftSortForm, Right}
use Rattle.lk_same.specs.declared.sheet.SameTermSheet.{SameTermSheet}
use Rattle.lk_same.specs.declared.sheet.SameTermSheet.TheVariants as term
use Rattle.lk_same.specs.declared.sheet.SameTruthSheet.{SameTruthSheet}
use Rattle.lk_same.specs.declared.sheet.SameTruthSheet.TheVariants as truths

abbrev pub SameSheet : Type 0 → Type 0
SameSheet X = Sheet (SameTermSheet X) (SameTruthSheet X)

abbrev pub map_proof : {X Y : Type 0} → (X → Y) → ProofSheet X → ProofSheet Y
map_proof f (Left a b) = Left (f a) (f b)
map_proof f (LeftSort a b t) = LeftSort (f a) (f b) (f t)
map_proof f (LeftSortForm a b t) = LeftSortForm (f a) (f b) (f t)
map_proof f (Right a b t) = Right (f a) (f b) (f t)

abbrev pub map_same_term : {X Y : Type 0} → (X → Y) → SameTermSheet X → SameTermSheet Y
map_same_term f (term.CoreLeft a b) = term.CoreLeft (f a) (f b)
map_same_term f (term.CoreRight a b e) = term.CoreRight (f a) (f b) (f e)
map_same_term f (term.Proof s) = term.Proof (map_proof f s)
map_same_term f (term.Literals s) = term.Literals (map_literals f s)
map_same_term f (term.Eta s) = term.Eta (map_eta_term f s)

abbrev pub map_same_truth : {X Y : Type 0} → (X → Y) → SameTruthSheet X → SameTruthSheet Y
map_same_truth f truths.Passed = truths.Passed
map_same_truth f (truths.Domains d l r k) = truths.Domains (f d) (f l) (f r) k
map_same_truth f (truths.Parts a b ps) = truths.Parts (f a) (f b) (map (map_pair f) ps)
map_same_truth f (truths.Subjects a b) = truths.Subjects (f a) (f b)
map_same_truth f (truths.Types a b) = truths.Types (f a) (f b)
map_same_truth f (truths.Lazy s) = truths.Lazy (map_lazy f s)
map_same_truth f (truths.Eta s) = truths.Eta (map_eta_truth f s)

abbrev pub map_same_sheet : {X Y : Type 0} → (X → Y) → SameSheet X → SameSheet Y
map_same_sheet f = map_sheet (map_same_term f) (map_same_truth f)

-- its numbers are below n
abbrev pub IsKnownProof : ℕ → ProofSheet ℕ → Type 0
IsKnownProof n (Left a b) = (a < n) × (b < n)
IsKnownProof n (LeftSort a b t) = (a < n) × (b < n) × (t < n)
IsKnownProof n (LeftSortForm a b t) = (a < n) × (b < n) × (t < n)
IsKnownProof n (Right a b t) = (a < n) × (b < n) × (t < n)

-- its numbers are below n
abbrev pub IsKnownSameTerm : ℕ → SameTermSheet ℕ → Type 0
IsKnownSameTerm n (term.CoreLeft a b) = (a < n) × (b < n)
IsKnownSameTerm n (term.CoreRight a b e) = (a < n) × (b < n) × (e < n)
IsKnownSameTerm n (term.Proof s) = IsKnownProof n s
IsKnownSameTerm n (term.Literals s) = IsKnownLiterals n s
IsKnownSameTerm n (term.Eta s) = IsKnownEtaTerm n s

-- its numbers are below n
abbrev pub IsKnownSameTruth : ℕ → SameTruthSheet ℕ → Type 0
IsKnownSameTruth n truths.Passed = Unit {0}
IsKnownSameTruth n (truths.Domains d l r k) = (d < n) × (l < n) × (r < n)
IsKnownSameTruth n (truths.Parts a b ps) = (a < n) × (b < n) × All (IsKnownPair n) ps
IsKnownSameTruth n (truths.Subjects a b) = (a < n) × (b < n)
IsKnownSameTruth n (truths.Types a b) = (a < n) × (b < n)
IsKnownSameTruth n (truths.Lazy s) = IsKnownLazy n s
IsKnownSameTruth n (truths.Eta s) = IsKnownEtaTruth n s

-- its numbers are below n
abbrev pub IsKnownSameSheet : ℕ → SameSheet ℕ → Type 0
IsKnownSameSheet = IsKnownSheet IsKnownSameTerm IsKnownSameTruth
