-- What Same keeps stands for the same as a store grows, and its numbers stay known.
use Rattle.std.proofs.Common.{◌≡◌, ℕ, length, refl, ap}
use Rattle.lk_store.specs.Contents.{Contents, tree_at, Extends}
use Rattle.lk_ask.proofs.Sheets.{grown, pairs_steady, pairs_known}
use Rattle.lk_eta.proofs.Sheets.{eta_term_steady, eta_truth_steady}
use Rattle.lk_eta.proofs.Sheets.{eta_term_known, eta_truth_known}
use Rattle.lk_lazy.proofs.Sheets.{lazy_steady, lazy_known}
use Rattle.lk_lit.proofs.Sheets.{literals_steady, literals_known}
use Rattle.lk_same.specs.declared.sheet.ProofSheet.{ProofSheet}
use Rattle.lk_same.specs.declared.sheet.ProofSheet.TheVariants.{Left, LeftSort, LeftSortForm, Right}
use Rattle.lk_same.specs.declared.sheet.SameTermSheet.{SameTermSheet}
use Rattle.lk_same.specs.declared.sheet.SameTermSheet.TheVariants as term
use Rattle.lk_same.specs.declared.sheet.SameTruthSheet.{SameTruthSheet}
use Rattle.lk_same.specs.declared.sheet.SameTruthSheet.TheVariants as truths
use Rattle.lk_same.specs.Sheets.{map_proof, map_same_term, map_same_truth}
use Rattle.lk_same.specs.Sheets.{IsKnownProof, IsKnownSameTerm, IsKnownSameTruth}

module _ {c d : Contents} (x : Extends c d) where
  proof_steady : (s : ProofSheet ℕ) → IsKnownProof (length c.trees) s
      → map_proof (tree_at d) s ≡ map_proof (tree_at c) s
  proof_steady (Left a b) h =
      let p = x.trees.same a h.0 in let q = x.trees.same b h.1 in cc
  proof_steady (LeftSort a b t) h =
      let p = x.trees.same a h.0 in let q = x.trees.same b h.1 in
      let r = x.trees.same t h.2 in cc
  proof_steady (LeftSortForm a b t) h =
      let p = x.trees.same a h.0 in let q = x.trees.same b h.1 in
      let r = x.trees.same t h.2 in cc
  proof_steady (Right a b t) h =
      let p = x.trees.same a h.0 in let q = x.trees.same b h.1 in
      let r = x.trees.same t h.2 in cc

  pub same_term_steady : (s : SameTermSheet ℕ) → IsKnownSameTerm (length c.trees) s
      → map_same_term (tree_at d) s ≡ map_same_term (tree_at c) s
  same_term_steady (term.CoreLeft a b) h =
      let p = x.trees.same a h.0 in let q = x.trees.same b h.1 in cc
  same_term_steady (term.CoreRight a b e) h =
      let p = x.trees.same a h.0 in let q = x.trees.same b h.1 in
      let r = x.trees.same e h.2 in cc
  same_term_steady (term.Proof s) h = ap (λ t. term.Proof t) (proof_steady s h)
  same_term_steady (term.Literals s) h = ap (λ t. term.Literals t) (literals_steady x s h)
  same_term_steady (term.Eta s) h = ap (λ t. term.Eta t) (eta_term_steady x s h)

  pub same_truth_steady : (s : SameTruthSheet ℕ) → IsKnownSameTruth (length c.trees) s
      → map_same_truth (tree_at d) s ≡ map_same_truth (tree_at c) s
  same_truth_steady truths.Passed h = refl
  same_truth_steady (truths.Domains a l r k) h =
      let p = x.trees.same a h.0 in let q = x.trees.same l h.1 in
      let o = x.trees.same r h.2 in cc
  same_truth_steady (truths.Parts a b ps) h =
      let p = x.trees.same a h.0 in let q = x.trees.same b h.1 in
      let r = pairs_steady x ps h.2 in cc
  same_truth_steady (truths.Subjects a b) h =
      let p = x.trees.same a h.0 in let q = x.trees.same b h.1 in cc
  same_truth_steady (truths.Types a b) h =
      let p = x.trees.same a h.0 in let q = x.trees.same b h.1 in cc
  same_truth_steady (truths.Lazy s) h = ap (λ t. truths.Lazy t) (lazy_steady x s h)
  same_truth_steady (truths.Eta s) h = ap (λ t. truths.Eta t) (eta_truth_steady x s h)

  proof_known : (s : ProofSheet ℕ) → IsKnownProof (length c.trees) s
      → IsKnownProof (length d.trees) s
  proof_known (Left a b) h = (grown x a h.0, grown x b h.1)
  proof_known (LeftSort a b t) h = (grown x a h.0, grown x b h.1, grown x t h.2)
  proof_known (LeftSortForm a b t) h = (grown x a h.0, grown x b h.1, grown x t h.2)
  proof_known (Right a b t) h = (grown x a h.0, grown x b h.1, grown x t h.2)

  pub same_term_known : (s : SameTermSheet ℕ) → IsKnownSameTerm (length c.trees) s
      → IsKnownSameTerm (length d.trees) s
  same_term_known (term.CoreLeft a b) h = (grown x a h.0, grown x b h.1)
  same_term_known (term.CoreRight a b e) h = (grown x a h.0, grown x b h.1, grown x e h.2)
  same_term_known (term.Proof s) h = proof_known s h
  same_term_known (term.Literals s) h = literals_known x s h
  same_term_known (term.Eta s) h = eta_term_known x s h

  pub same_truth_known : (s : SameTruthSheet ℕ) → IsKnownSameTruth (length c.trees) s
      → IsKnownSameTruth (length d.trees) s
  same_truth_known truths.Passed h = tt
  same_truth_known (truths.Domains a l r k) h = (grown x a h.0, grown x l h.1, grown x r h.2)
  same_truth_known (truths.Parts a b ps) h =
      (grown x a h.0, grown x b h.1, pairs_known x ps h.2)
  same_truth_known (truths.Subjects a b) h = (grown x a h.0, grown x b h.1)
  same_truth_known (truths.Types a b) h = (grown x a h.0, grown x b h.1)
  same_truth_known (truths.Lazy s) h = lazy_known x s h
  same_truth_known (truths.Eta s) h = eta_truth_known x s h
