-- What Infer keeps stands for the same as a store grows, and its numbers stay known.
use Rattle.std.proofs.Common.{◌≡◌, ℕ, length, refl, ap}
use Rattle.lk_store.specs.Contents.{Contents, tree_at, Extends}
use Rattle.lk_ask.proofs.Sheets.{grown}
use Rattle.lk_type.specs.declared.sheet.TypeTermSheet.{TypeTermSheet}
use Rattle.lk_type.specs.declared.sheet.TypeTermSheet.TheVariants.{Passed, LamDomain, LamDomainSort}
use Rattle.lk_type.specs.declared.sheet.TypeTermSheet.TheVariants.{LamBody, PiDomain, PiDomainSort}
use Rattle.lk_type.specs.declared.sheet.TypeTermSheet.TheVariants.{PiBody, PiBodySort, Function}
use Rattle.lk_type.specs.declared.sheet.TypeTermSheet.TheVariants.{FunctionForm, Argument, LetType}
use Rattle.lk_type.specs.declared.sheet.TypeTermSheet.TheVariants.{LetTypeSort, LetValue}
use Rattle.lk_type.specs.declared.sheet.TypeTermSheet.TheVariants.{TelescopeLocal, TelescopeDomain}
use Rattle.lk_type.specs.declared.sheet.TypeTermSheet.TheVariants.{TelescopeSort, TelescopeBody, PisSort}
use Rattle.lk_type.specs.declared.sheet.Telescope.{Telescope}
use Rattle.lk_type.specs.declared.sheet.TypeTruthSheet.{TypeTruthSheet}
use Rattle.lk_type.specs.declared.sheet.TypeTruthSheet.TheVariants.{ArgumentSame, LetValueSame}
use Rattle.lk_type.specs.Sheets.{map_telescope, map_type_term, map_type_truth}
use Rattle.lk_type.specs.Sheets.{IsKnownTelescope, IsKnownTypeTerm, IsKnownTypeTruth}

module _ {c d : Contents} (x : Extends c d) where
  telescope_steady : (s : Telescope ℕ) → IsKnownTelescope (length c.trees) s
      → map_telescope (tree_at d) s ≡ map_telescope (tree_at c) s
  telescope_steady s h = rw (x.trees.same s.opened h.0, x.trees.same s.gathered h.1) refl

  pub type_term_steady : (s : TypeTermSheet ℕ) → IsKnownTypeTerm (length c.trees) s
      → map_type_term (tree_at d) s ≡ map_type_term (tree_at c) s
  type_term_steady Passed h = refl
  type_term_steady (LamDomain a b) h =
      let p = x.trees.same a h.0 in let q = x.trees.same b h.1 in cc
  type_term_steady (LamDomainSort a b) h =
      let p = x.trees.same a h.0 in let q = x.trees.same b h.1 in cc
  type_term_steady (LamBody a k) h = ap (λ t. LamBody t k) (x.trees.same a h)
  type_term_steady (PiDomain a b) h =
      let p = x.trees.same a h.0 in let q = x.trees.same b h.1 in cc
  type_term_steady (PiDomainSort a b) h =
      let p = x.trees.same a h.0 in let q = x.trees.same b h.1 in cc
  type_term_steady (PiBody s) h = ap (λ t. PiBody t) (x.trees.same s h)
  type_term_steady (PiBodySort s) h = ap (λ t. PiBodySort t) (x.trees.same s h)
  type_term_steady (TelescopeLocal s) h = ap (λ t. TelescopeLocal t) (telescope_steady s h)
  type_term_steady (TelescopeDomain s) h = ap (λ t. TelescopeDomain t) (telescope_steady s h)
  type_term_steady (TelescopeSort s) h = ap (λ t. TelescopeSort t) (telescope_steady s h)
  type_term_steady (TelescopeBody b us) h = ap (λ t. TelescopeBody b t) (x.trees.same us h)
  type_term_steady (PisSort us s) h =
      let p = x.trees.same us h.0 in let q = x.trees.same s h.1 in cc
  type_term_steady (Function a) h = ap (λ t. Function t) (x.trees.same a h)
  type_term_steady (FunctionForm a) h = ap (λ t. FunctionForm t) (x.trees.same a h)
  type_term_steady (Argument a b e) h =
      let p = x.trees.same a h.0 in let q = x.trees.same b h.1 in
      let r = x.trees.same e h.2 in cc
  type_term_steady (LetType t v b) h =
      let p = x.trees.same t h.0 in let q = x.trees.same v h.1 in
      let r = x.trees.same b h.2 in cc
  type_term_steady (LetTypeSort t v b) h =
      let p = x.trees.same t h.0 in let q = x.trees.same v h.1 in
      let r = x.trees.same b h.2 in cc
  type_term_steady (LetValue t v b) h =
      let p = x.trees.same t h.0 in let q = x.trees.same v h.1 in
      let r = x.trees.same b h.2 in cc

  pub type_truth_steady : (s : TypeTruthSheet ℕ) → IsKnownTypeTruth (length c.trees) s
      → map_type_truth (tree_at d) s ≡ map_type_truth (tree_at c) s
  type_truth_steady (ArgumentSame a b) h =
      let p = x.trees.same a h.0 in let q = x.trees.same b h.1 in cc
  type_truth_steady (LetValueSame v b) h =
      let p = x.trees.same v h.0 in let q = x.trees.same b h.1 in cc

  pub type_term_known : (s : TypeTermSheet ℕ) → IsKnownTypeTerm (length c.trees) s
      → IsKnownTypeTerm (length d.trees) s
  type_term_known Passed h = tt
  type_term_known (LamDomain a b) h = (grown x a h.0, grown x b h.1)
  type_term_known (LamDomainSort a b) h = (grown x a h.0, grown x b h.1)
  type_term_known (LamBody a k) h = grown x a h
  type_term_known (PiDomain a b) h = (grown x a h.0, grown x b h.1)
  type_term_known (PiDomainSort a b) h = (grown x a h.0, grown x b h.1)
  type_term_known (PiBody s) h = grown x s h
  type_term_known (PiBodySort s) h = grown x s h
  type_term_known (TelescopeLocal s) h = (grown x s.opened h.0, grown x s.gathered h.1)
  type_term_known (TelescopeDomain s) h = (grown x s.opened h.0, grown x s.gathered h.1)
  type_term_known (TelescopeSort s) h = (grown x s.opened h.0, grown x s.gathered h.1)
  type_term_known (TelescopeBody b us) h = grown x us h
  type_term_known (PisSort us s) h = (grown x us h.0, grown x s h.1)
  type_term_known (Function a) h = grown x a h
  type_term_known (FunctionForm a) h = grown x a h
  type_term_known (Argument a b e) h = (grown x a h.0, grown x b h.1, grown x e h.2)
  type_term_known (LetType t v b) h = (grown x t h.0, grown x v h.1, grown x b h.2)
  type_term_known (LetTypeSort t v b) h = (grown x t h.0, grown x v h.1, grown x b h.2)
  type_term_known (LetValue t v b) h = (grown x t h.0, grown x v h.1, grown x b h.2)

  pub type_truth_known : (s : TypeTruthSheet ℕ) → IsKnownTypeTruth (length c.trees) s
      → IsKnownTypeTruth (length d.trees) s
  type_truth_known (ArgumentSame a b) h = (grown x a h.0, grown x b h.1)
  type_truth_known (LetValueSame v b) h = (grown x v h.0, grown x b h.1)
