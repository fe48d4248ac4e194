-- Units picked by their numbers.
use Rattle.std.specs.Prelude.{ℕ, zero, suc, ◌≡◌, ◌≢◌, true, List, [], ◌∷◌, ◌++◌, All, Option, Some}
use Rattle.std.specs.Prelude.{None, slice_get}
use Rattle.std.proofs.Common.{refl, ap, ◌∙◌, subst, arith}
use Rattle.std.proofs.lemmas.Option.{same_Some, slice_get_within, get_or_from_slice_get}
use Rattle.std.proofs.lemmas.List.Elements.{All-nil, All-cons, All-get_or}
use Rattle.lk_tree.specs.Tree.{Name}
use Rattle.lk_tree.specs.Mentions.{same_name}
use Rattle.lk_rulebook.specs.Units.{LibraryUnit, Library}
use Rattle.lk_env.specs.Budgets.{StatedBudget}
use Rattle.lk_uses.specs.Listed.{units_at}
use Rattle.lk_members.specs.Lines.{has}
use Rattle.lk_trim.specs.Whole.{kept_if_any, kept_of}
use Rattle.lk_readback.specs.Statable.{IsUnit, types_of}
use Rattle.lk_readback.specs.Stated.{kept_units}

-- what stands at a number, in front of the others
abbrev in_front : Option LibraryUnit → Library → Library
in_front o more = elim o [ Some u ↦ u ∷ more | None ↦ more ]

pub units_kept : (us : Library) (bs : List StatedBudget) (ns : List ℕ)
    → kept_units (kept_of us bs ns) ≡ units_at us ns
units_kept us bs [] = refl
units_kept us bs (n ∷ ns) = go (slice_get us n) (units_kept us bs ns)
  where
    go : (o : Option LibraryUnit) → kept_units (kept_of us bs ns) ≡ units_at us ns
        → kept_units (kept_if_any us bs n o ++ kept_of us bs ns) ≡ in_front o (units_at us ns)
    go None e = e
    go (Some u) e = ap (λ us. u ∷ us) e

-- what stands in a list of which each is so
pub all_at : {X : Type 0} (P : X → Type 0) (xs : List X) (k : ℕ) (x : X) → All P xs
    → slice_get xs k ≡ Some x → P x
all_at P xs k x all at =
    subst P (get_or_from_slice_get xs k x x at)
    (All-get_or P xs k x (slice_get_within xs k x at) all)

pub picked_each : (us : Library) (ns : List ℕ) → All IsUnit us → All IsUnit (units_at us ns)
picked_each us [] all = All-nil IsUnit
picked_each us (n ∷ ns) all =
    go (slice_get us n) (λ u at. all_at IsUnit us n u all at) (picked_each us ns all)
  where
    go : (o : Option LibraryUnit) → ((u : LibraryUnit) → o ≡ Some u → IsUnit u)
        → All IsUnit (units_at us ns) → All IsUnit (in_front o (units_at us ns))
    go None unit more = more
    go (Some u) unit more = All-cons IsUnit u (units_at us ns) (unit u refl) more

-- the number by which a unit was picked
record IsPicked (us : Library) (ns : List ℕ) (u : LibraryUnit) : Type 0 where
  place : ℕ
  number : ℕ
  listed : slice_get ns place ≡ Some number
  there : slice_get us number ≡ Some u

picked_later : (us : Library) (k : ℕ) (ks : List ℕ) (u : LibraryUnit) → IsPicked us ks u
    → IsPicked us (k ∷ ks) u
picked_later us k ks u p =
    record { place = suc p.place; number = p.number; listed = p.listed; there = p.there }

picked_at : (us : Library) (ns : List ℕ) (m : ℕ) (u : LibraryUnit)
    → slice_get (units_at us ns) m ≡ Some u → IsPicked us ns u
picked_at us [] m u at = absurd cc
picked_at us (k ∷ ks) m u at = go m (slice_get us k) refl (picked_at us ks) at
  where
    go : (m : ℕ) (o : Option LibraryUnit) → slice_get us k ≡ o
        → ((j : ℕ) (w : LibraryUnit) → slice_get (units_at us ks) j ≡ Some w → IsPicked us ks w)
        → slice_get (in_front o (units_at us ks)) m ≡ Some u → IsPicked us (k ∷ ks) u
    go m None e more at = picked_later us k ks u (more m u at)
    go zero (Some w) e more at =
        record { place = 0; number = k; listed = refl; there = e ∙ at }
    go (suc m) (Some w) e more at = picked_later us k ks u (more m u at)

-- no number stands twice
abbrev pub StandApart : List ℕ → Type 0
StandApart ns = (i j n : ℕ) → slice_get ns i ≡ Some n → slice_get ns j ≡ Some n → i ≡ j

apart_tail : (k : ℕ) (ks : List ℕ) → StandApart (k ∷ ks) → StandApart ks
apart_tail k ks apart i j n p q = let e = apart (suc i) (suc j) n p q in omega arith

-- no name is a type's of two of these units
abbrev pub ShareNone : Library → Type 0
ShareNone us =
    (m n : ℕ) (u v : LibraryUnit) (x : Name) → m ≢ n → slice_get us m ≡ Some u
    → slice_get us n ≡ Some v → has same_name (types_of u) x ≡ true
    → has same_name (types_of v) x ≡ true → ⊥

-- a unit in front that shares no name with those behind it
pub none_shared : (w : LibraryUnit) (us : Library)
    → ((n : ℕ) (u : LibraryUnit) (x : Name) → slice_get us n ≡ Some u
    → has same_name (types_of w) x ≡ true → has same_name (types_of u) x ≡ true → ⊥)
    → ShareNone us → ShareNone (w ∷ us)
none_shared w us first more zero zero u v x other at_m at_n in_u in_v = other refl
none_shared w us first more zero (suc n) u v x other at_m at_n in_u in_v =
    first n v x at_n (ap (λ z. has same_name (types_of z) x) (same_Some w u at_m) ∙ in_u) in_v
none_shared w us first more (suc m) zero u v x other at_m at_n in_u in_v =
    first m u x at_m (ap (λ z. has same_name (types_of z) x) (same_Some w v at_n) ∙ in_v) in_u
none_shared w us first more (suc m) (suc n) u v x other at_m at_n in_u in_v =
    more m n u v x (λ i. other (ap suc i)) at_m at_n in_u in_v

pub picked_apart : (us : Library) (ns : List ℕ) → ShareNone us → StandApart ns
    → ShareNone (units_at us ns)
picked_apart us [] none apart = λ m n u v x other at_m at_n in_u in_v. absurd cc
picked_apart us (k ∷ ks) none apart =
    go (slice_get us k) refl (picked_apart us ks none (apart_tail k ks apart))
  where
    first : (w u : LibraryUnit) (x : Name) → slice_get us k ≡ Some w → IsPicked us ks u
        → has same_name (types_of w) x ≡ true → has same_name (types_of u) x ≡ true → ⊥
    first w u x at p in_w in_u =
        none k p.number w u x
        (λ e. let twice = apart 0 (suc p.place) p.number (ap (λ i. Some i) e) p.listed in
        omega arith)
        at p.there in_w in_u

    go : (o : Option LibraryUnit) → slice_get us k ≡ o → ShareNone (units_at us ks)
        → ShareNone (in_front o (units_at us ks))
    go None e more = more
    go (Some w) e more =
        none_shared w (units_at us ks) (λ n u x at. first w u x e (picked_at us ks n u at)) more
