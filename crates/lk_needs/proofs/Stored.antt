-- A name that a unit gives is one of the store.
use Rattle.std.proofs.Common.{ℕ, zero, suc, ◌≡◌, ◌≢◌, ◌<◌, ◌⊎◌, inl, inr, List, [], ◌∷◌, take, length, get_or, Some, None, sym, ap, ◌∙◌, arith}
use Rattle.std.specs.Prelude.{option_map}
use Rattle.lk_tree.specs.Tree.{Name, name_discrete}
use Rattle.lk_rulebook.specs.Units.{Library, Found, first_giving}
use Rattle.lk_store.specs.Contents.{Contents}
use Rattle.lk_env.specs.declared.unit.Unit.{Unit as StoredUnit}
use Rattle.lk_env.specs.Units.{library_at, AreUnitsIn}
use Rattle.lk_env.specs.Places.{position_in, position_below}
use Rattle.lk_env.proofs.Members.{absent_position}
use Rattle.lk_env.proofs.Before.{position_before_is}
use Rattle.lk_env.proofs.Given.{unit_is}
use Rattle.lk_needs.specs.Leads.{IsStored}

-- the name is one of these, or none of them
stands_among : (x : Name) (ns : List Name) → ((i : ℕ) × (i < length ns) × (get_or ns i [] ≡ x)) ⊎ ((i : ℕ) → i < length ns → get_or ns i [] ≢ x)
stands_among x [] = inr (λ i l e. absurd (omega (arith, l)))
stands_among x (n ∷ ns) = go (name_discrete n x) (stands_among x ns)
  where
    go : Dec (n ≡ x) → ((i : ℕ) × (i < length ns) × (get_or ns i [] ≡ x)) ⊎ ((i : ℕ) → i < length ns → get_or ns i [] ≢ x)
        → ((i : ℕ) × (i < length (n ∷ ns)) × (get_or (n ∷ ns) i [] ≡ x)) ⊎ ((i : ℕ) → i < length (n ∷ ns) → get_or (n ∷ ns) i [] ≢ x)
    go (yes e) r = inl (0, omega arith, e)
    go (no f) (inl h) = inl (suc h.0, omega (arith, h.1), h.2)
    go (no f) (inr h) = inr later
      where
        later : (i : ℕ) → i < length (n ∷ ns) → get_or (n ∷ ns) i [] ≢ x
        later zero l e = f e
        later (suc i) l e = h i (omega (arith, l)) e

pub given_stored : (c : Contents) (us : List StoredUnit) (n : ℕ) (x : Name) (f : Found) → AreUnitsIn c us → first_giving 0 (take n (library_at c us)) x ≡ Some f → IsStored c x
given_stored c us n x f known given = go (stands_among x c.names)
  where
    go : ((i : ℕ) × (i < length c.names) × (get_or c.names i [] ≡ x)) ⊎ ((i : ℕ) → i < length c.names → get_or c.names i [] ≢ x) → IsStored c x
    go (inl h) = (h.0, record { known = h.1; is = h.2 })
    go (inr h) =
        let vs : Library = library_at c us in
        let nowhere : position_in 0 (take n vs) x ≡ None = position_before_is x vs n ∙ ap (position_below n) (absent_position c x h 0 us known) in
        let clash : Some f.unit ≡ None = ap (option_map (λ (y : Found). y.unit)) (sym given) ∙ unit_is (take n vs) x ∙ ap (option_map (λ (p : ℕ × ℕ). p.0)) nowhere in
        absurd cc
