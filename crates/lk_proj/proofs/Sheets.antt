-- What a projection keeps stands for the same as a store grows, and its numbers stay known.
use Rattle.std.proofs.Common.{◌≡◌, ◌<◌, ℕ, length, Option, Some, None, refl, ap}
use Rattle.std.specs.Prelude.{IfSome, option_map}
use Rattle.lk_store.specs.Contents.{Contents, tree_at, Extends}
use Rattle.lk_subst.specs.Numbers.{trees-steady, trees-known}
use Rattle.lk_ask.proofs.Sheets.{grown}
use Rattle.lk_proj.specs.declared.sheet.Applied.{Applied}
use Rattle.lk_proj.specs.declared.sheet.FieldPi.{FieldPi}
use Rattle.lk_proj.specs.declared.sheet.InferSheet.{InferSheet}
use Rattle.lk_proj.specs.declared.sheet.InferSheet.TheVariants.{Subject, SubjectForm, Sort}
use Rattle.lk_proj.specs.declared.sheet.InferSheet.TheVariants.{SortForm, Parameter, Field}
use Rattle.lk_proj.specs.declared.sheet.InferSheet.TheVariants.{FieldSort, FieldSortForm}
use Rattle.lk_proj.specs.declared.sheet.CoreSheet.{CoreSheet}
use Rattle.lk_proj.specs.declared.sheet.CoreSheet.TheVariants as core
use Rattle.lk_proj.specs.Sheets.{map_applied, map_pi, map_infer, map_core, IsKnownApplied}
use Rattle.lk_proj.specs.Sheets.{IsKnownPi, IsKnownInfer, IsKnownCore}

module _ {c d : Contents} (x : Extends c d) where
  option_steady : (r : Option ℕ) → IfSome r (λ t. t < length c.trees)
      → option_map (tree_at d) r ≡ option_map (tree_at c) r
  option_steady None h = refl
  option_steady (Some t) h = ap (λ y. Some y) (x.trees.same t h)

  option_known : (r : Option ℕ) → IfSome r (λ t. t < length c.trees)
      → IfSome r (λ t. t < length d.trees)
  option_known None h = tt
  option_known (Some t) h = grown x t h

  pub applied_steady : (a : Applied ℕ) → IsKnownApplied (length c.trees) a
      → map_applied (tree_at d) a ≡ map_applied (tree_at c) a
  applied_steady a h =
      let p = x.trees.same a.projection h.projection_in in
      let q = trees-steady c d a.arguments x h.arguments_in in cc

  applied_known : (a : Applied ℕ) → IsKnownApplied (length c.trees) a
      → IsKnownApplied (length d.trees) a
  applied_known a h = record {
    projection_in = grown x a.projection h.projection_in;
    arguments_in = trees-known c d a.arguments x h.arguments_in;
  }

  pi_steady : (p : FieldPi ℕ) → IsKnownPi (length c.trees) p
      → map_pi (tree_at d) p ≡ map_pi (tree_at c) p
  pi_steady p h =
      let e = x.trees.same p.projection h.projection_in in
      let q = x.trees.same p.domain h.domain_in in
      let r = x.trees.same p.body h.body_in in cc

  pi_known : (p : FieldPi ℕ) → IsKnownPi (length c.trees) p → IsKnownPi (length d.trees) p
  pi_known p h = record {
    projection_in = grown x p.projection h.projection_in;
    domain_in = grown x p.domain h.domain_in;
    body_in = grown x p.body h.body_in;
  }

  pub infer_steady : (s : InferSheet ℕ) → IsKnownInfer (length c.trees) s
      → map_infer (tree_at d) s ≡ map_infer (tree_at c) s
  infer_steady (Subject e) h = ap (λ t. Subject t) (x.trees.same e h)
  infer_steady (SubjectForm e) h = ap (λ t. SubjectForm t) (x.trees.same e h)
  infer_steady (Sort a r) h =
      let p = applied_steady a h.0 in let q = option_steady r h.1 in cc
  infer_steady (SortForm a r) h =
      let p = applied_steady a h.0 in let q = option_steady r h.1 in cc
  infer_steady (Parameter a b k) h =
      let p = applied_steady a h.0 in let q = x.trees.same b h.1 in cc
  infer_steady (Field e j k) h = ap (λ t. Field t j k) (x.trees.same e h)
  infer_steady (FieldSort p) h = ap (λ q. FieldSort q) (pi_steady p h)
  infer_steady (FieldSortForm p) h = ap (λ q. FieldSortForm q) (pi_steady p h)

  pub infer_known : (s : InferSheet ℕ) → IsKnownInfer (length c.trees) s
      → IsKnownInfer (length d.trees) s
  infer_known (Subject e) h = grown x e h
  infer_known (SubjectForm e) h = grown x e h
  infer_known (Sort a r) h = (applied_known a h.0, option_known r h.1)
  infer_known (SortForm a r) h = (applied_known a h.0, option_known r h.1)
  infer_known (Parameter a b k) h = (applied_known a h.0, grown x b h.1)
  infer_known (Field e j k) h = grown x e h
  infer_known (FieldSort p) h = pi_known p h
  infer_known (FieldSortForm p) h = pi_known p h

  pub core_steady : (s : CoreSheet ℕ) → IsKnownCore (length c.trees) s
      → map_core (tree_at d) s ≡ map_core (tree_at c) s
  core_steady (core.Subject e) h = ap (λ t. core.Subject t) (x.trees.same e h)
  core_steady core.Passed h = refl

  pub core_known : (s : CoreSheet ℕ) → IsKnownCore (length c.trees) s
      → IsKnownCore (length d.trees) s
  core_known (core.Subject e) h = grown x e h
  core_known core.Passed h = tt
