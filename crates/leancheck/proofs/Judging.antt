-- One unit after the test of its names.
use Rattle.std.proofs.Common.{◌≡◌, ℕ, Bool, true, List, None, sym, subst, ◌∙◌, arith}
use Rattle.lk_rulebook.specs.Units.{LibraryUnit, Library, Members, members_of, place_of}
use Rattle.lk_rulebook.specs.Scan.{are_new, own_scan}
use Rattle.lk_store.specs.Contents.{Contents, Extends}
use Rattle.lk_ask.proofs.Sheets.{grown}
use Rattle.lk_env.specs.declared.unit.Body.{Body}
use Rattle.lk_env.specs.declared.unit.Body.TheVariants.{Axiom, Definition, Theorem, Opaque, Quotient}
use Rattle.lk_env.specs.declared.unit.Unit.{Unit as StoredUnit}
use Rattle.lk_env.specs.declared.unit.Unit.TheVariants as unit
use Rattle.lk_env.specs.Units.{declared_levels, unit_at, IsBodyIn, IsStatedIn, IsUnitIn}
use Rattle.lk_env.proofs.Stays.{names_in_stay, types_in_stay, recursors_in_stay, unit_stays}
use Rattle.lk_env.specs.declared.entry.Partial.{Partial}
use Rattle.lk_env.specs.Places.{partial_beside}
use Rattle.lk_block.specs.Stages.{Places}
use Rattle.std.proofs.Math.Path.{fun_ext}
use Rattle.leancheck.specs.Rows.{asked_of, scanned_of, row_verdict}
use Rattle.lk_verdict.specs.declared.verdict.Verdict.{Verdict as HeldVerdict}
use Rattle.leancheck.specs.Held.{IsPlain}

-- its names, and then the rest
module _ (us : Library) (budget n : ℕ) (u : LibraryUnit) where
  pub judged_new : (new : Bool) (w : Places) (v : HeldVerdict) → new ≡ true → new ≡ are_new us n (members_of u) → (are_new us n (members_of u) ≡ true → (p : Partial) (aux : Members) → w p aux ≡ place_of us n (partial_beside u p aux))
      → IsPlain (scanned_of w budget u) v → IsPlain (row_verdict us budget n u) v
  judged_new new w v fresh is here h =
      let tested : are_new us n (members_of u) ≡ true = sym is ∙ fresh in
      rw tested (subst (λ p. IsPlain (scanned_of p budget u) v) (fun_ext (λ p. fun_ext (here tested p))) h)

-- a unit that a store has stands in a larger one
module _ (c d : Contents) (x : Extends c d) where
  stated_on : (name : ℕ) (levels : List ℕ) (ty : ℕ) → IsStatedIn c name levels ty
      → IsStatedIn d name levels ty
  stated_on name levels ty h = record {
    name_in = let small = h.name_in in let longer = x.names.longer in omega arith;
    levels_in = names_in_stay c d x levels h.levels_in;
    ty_in = grown x ty h.ty_in;
  }

  body_on : (b : Body) → IsBodyIn c b → IsBodyIn d b
  body_on Axiom h = tt
  body_on (Definition hint v) h = grown x v h
  body_on (Theorem v) h = grown x v h
  body_on (Opaque v) h = grown x v h
  body_on Quotient h = tt

  pub unit_on : (u : StoredUnit) → IsUnitIn c u → IsUnitIn d u
  unit_on (unit.Declaration a) h = (stated_on a.name (declared_levels a) a.ty h.0, body_on a.body h.1)
  unit_on (unit.Block b) h =
      (types_in_stay c d x b.types.items h.0, recursors_in_stay c d x b.recursors.value.items h.1)

  -- its questions are those that it has there
  pub scanned_on : (w : Places) (budget : ℕ) (u : StoredUnit) (v : HeldVerdict) → IsUnitIn c u
      → own_scan (unit_at c u) ≡ None → IsPlain (asked_of w budget (unit_at d u)) v
      → IsPlain (scanned_of w budget (unit_at c u)) v
  scanned_on w budget u v known clean h =
      rw (clean, scanned_of) (subst (λ k. IsPlain (asked_of w budget k) v) (unit_stays c d x u known) h)
