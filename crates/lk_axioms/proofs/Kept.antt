-- Sets that units have still when a library has changed.
use Rattle.std.proofs.Common.{ℕ, ◌≡◌, ◌+◌, ◌<◌, Bool, true, false, List, [], ◌∷◌, ◌++◌, map, length, get_or, Some, None, refl, sym, subst, ◌∙◌, arith}
use Rattle.std.specs.Prelude.{Option, All, slice_get}
use Rattle.std.proofs.lemmas.List.{get_or-map}
use Rattle.std.proofs.lemmas.Option.{slice_get_within, get_or_from_slice_get}
use Rattle.lk_rulebook.specs.Units.{Library}
use Rattle.lk_reach.specs.Axioms.{IsAxiomOf, IsAxiomList}
use Rattle.lk_reach.specs.Computed.{axioms_of}
use Rattle.lk_reach.proofs.Computed.{axioms_listed}
use Rattle.lk_reach.proofs.Lists.{one_list}
use Rattle.lk_store.specs.Contents.{Contents}
use Rattle.lk_axioms.specs.declared.gathering.Gathering.{Gathering}
use Rattle.lk_axioms.specs.Lists.{axiom_lists, set_at, Keeps, KeepsAxioms, HasSameAxioms, unless_stale}
use Rattle.lk_axioms.specs.Gives.{IsSetOfUnit}
use Rattle.lk_axioms.specs.Gathered.{IsRight, AreKept}
use Rattle.lk_axioms.proofs.Lists.{length-axiom_lists, get_or-axiom_lists}
use Rattle.lk_axioms.proofs.Listed.{listed_as}
use Rattle.lk_axioms.proofs.Left.{set_still}
use Rattle.lk_axioms.proofs.Course.{unit_done}

pub not_stale : (mark : Option Bool) (o : Option ℕ) (set : ℕ) → unless_stale mark o ≡ Some set → (mark ≡ Some false) × (o ≡ Some set)
not_stale (Some false) o set e = (refl, e)
not_stale (Some true) o set e = absurd cc
not_stale None o set e = absurd cc

-- the numbers of the sets that are kept
pub kept_sets : (us : Library) (sets : List (List ℕ)) (units : List ℕ) (stale : List Bool) → All (λ k. k < length sets) units → KeepsAxioms us (map (set_at sets) units) stale → AreKept us sets units stale
kept_sets us sets units stale inside keeps = record { each = each }
  where
    each : (n set : ℕ) → n < length us → slice_get stale n ≡ Some false → slice_get units n ≡ Some set → IsSetOfUnit us sets n set
    each n set l fresh has =
        let there : n < length units = slice_get_within units n set has in
        let is : get_or units n 0 ≡ set = get_or_from_slice_get units n set 0 has in
        let same : set_at sets (get_or units n 0) ≡ axioms_of us n = sym (get_or-map (set_at sets) units n 0 [] there) ∙ (keeps n l fresh).1 in
        let own : IsSetOfUnit us sets n (get_or units n 0) = record { set_in = inside n 0 there; is_list = subst (IsAxiomList us n) (sym same) (axioms_listed us n) } in
        subst (IsSetOfUnit us sets n) is own

pub kept_still : (us : Library) (old new : List (List ℕ)) (kept : List ℕ) (stale : List Bool) → AreKept us old kept stale → Keeps old new → AreKept us new kept stale
kept_still us old new kept stale a k = record { each = λ n set l fresh has. set_still us n set old new k (a.each n set l fresh has) }

-- one more unit is done: it has the set that it had
pub kept_done : (c : Contents) (us : Library) (n : ℕ) (old new : Gathering) (kept : List ℕ) (stale : List Bool) (set : ℕ) → n < length us → IsRight c us n old → AreKept us old.sets kept stale → unless_stale (slice_get stale n) (slice_get kept n) ≡ Some set
    → new.sets ≡ old.sets → new.cells.items ≡ old.cells.items → new.units.items ≡ old.units.items ++ set ∷ [] → IsRight c us (n + 1) new
kept_done c us n old new kept stale set l r a e sets cells units =
    let fresh : (slice_get stale n ≡ Some false) × (slice_get kept n ≡ Some set) = not_stale (slice_get stale n) (slice_get kept n) set e in
    unit_done c us n old new set r (a.each n set l fresh.0 fresh.1) sets cells units

-- the axioms of two libraries
pub same_kept : (us vs : Library) (stale : List Bool) → ((n : ℕ) → n < length vs → slice_get stale n ≡ Some false → HasSameAxioms us vs n) → KeepsAxioms vs (axiom_lists us) stale
same_kept us vs stale h = λ n l fresh. (omega (arith, length-axiom_lists us, (h n l fresh).stands), get_or-axiom_lists us n (h n l fresh).stands ∙ same n (h n l fresh))
  where
    same : (n : ℕ) → HasSameAxioms us vs n → axioms_of us n ≡ axioms_of vs n
    same n s = one_list (IsAxiomOf us n) (axioms_of us n) (axioms_of vs n) (axioms_listed us n) (listed_as (IsAxiomOf vs n) (IsAxiomOf us n) (axioms_of vs n) s.back s.there (axioms_listed vs n))
