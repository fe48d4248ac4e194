-- The axioms of one unit among those of all.
use Rattle.std.proofs.Common.{◌≡◌, ◌<◌, ◌≤◌, ◌+◌, ℕ, List, [], ◌∷◌, length, get_or, ap, ◌∙◌, arith}
use Rattle.std.proofs.lemmas.List.{length-map}
use Rattle.lk_reach.specs.Computed.{axioms_of}
use Rattle.lk_store.specs.Store.{contents_of}
use Rattle.lk_env.specs.declared.unit.Unit.{Unit as StoredUnit}
use Rattle.lk_env.specs.Units.{unit_at, library_of}
use Rattle.lk_env.specs.StoredLibrary.{StoredLibrary}
use Rattle.lk_axioms.specs.Lists.{axiom_lists}
use Rattle.lk_axioms.proofs.Lists.{length-axiom_lists, get_or-axiom_lists}

-- a unit that is left stands in the library
pub is_left : (units left more : List StoredUnit) (u : StoredUnit) (n : ℕ) → left ≡ u ∷ more → n + length left ≤ length units → n < length units
is_left units left more u n e few = omega (arith, ap length e)

module _ (l : StoredLibrary) where
  stands : (n : ℕ) → n < length l.units → n < length (library_of l)
  stands n few = rw (length-map l.units (unit_at (contents_of l.tables))) few

  pub is_listed : (sets : List (List ℕ)) (n at : ℕ) → sets ≡ axiom_lists (library_of l) → at ≡ n → n < length l.units → at < length sets
  is_listed sets n at is same few = rw (is, same, length-axiom_lists (library_of l)) (stands n few)

  pub listed : (sets : List (List ℕ)) (n at : ℕ) (ks : List ℕ) → sets ≡ axiom_lists (library_of l) → at ≡ n → n < length l.units → ks ≡ get_or sets at [] → ks ≡ axioms_of (library_of l) n
  listed sets n at ks is same few found = found ∙ ap (λ s. get_or s at []) is ∙ ap (λ k. get_or (axiom_lists (library_of l)) k []) same ∙ get_or-axiom_lists (library_of l) n (stands n few)
