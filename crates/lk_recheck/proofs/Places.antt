-- The places of names in a list of units, while units are put into it.
use Rattle.std.proofs.Common.{◌≡◌, ℕ, suc, ◌<◌, Bool, true, false, List, [], ◌∷◌, ◌++◌, length, Option, Some, None, refl, ap, sym, subst, ◌∙◌, eq-eqb, nat_eq, arith}
use Rattle.std.specs.Prelude.{reverse, option_map, option_and_then, slice_index_or, slice_set, IfSome, if◌then◌else◌}
use Rattle.std.proofs.lemmas.Bool.{ne_eqb}
use Rattle.std.proofs.lemmas.List.{map-append, map-set, length-map, reverse-append, reverse-reverse}
use Rattle.std.proofs.lemmas.List.Elements.{All-head, All-tail, All-push, All-set}
use Rattle.lk_tree.specs.Tree.{Name, name_discrete}
use Rattle.lk_rulebook.specs.Units.{LibraryUnit, Library}
use Rattle.lk_store.specs.Values.{AreApart}
use Rattle.lk_store.specs.Contents.{Contents, name_at}
use Rattle.lk_env.specs.declared.unit.Unit.{Unit as StoredUnit}
use Rattle.lk_env.specs.Units.{library_at, unit_at, IsUnitIn, AreUnitsIn}
use Rattle.lk_recheck.specs.Spliced.{unit_name, are_same, put_unit, spliced}
use Rattle.lk_recheck.specs.Places.{place_of, ArePlaces, first_of, own_place, IsNoted, IsPut}

are_same_none : (x : Option Name) → are_same x None ≡ false
are_same_none None = refl
are_same_none (Some x) = refl

-- names that are the same are one
one_name : (x y : Option Name) → are_same x y ≡ true → x ≡ y
one_name None y e = absurd cc
one_name (Some x) None e = absurd cc
one_name (Some x) (Some y) e = go (name_discrete x y) e
  where
    go : (d : Dec (x ≡ y)) → elim d as (λ z. Bool) [ yes e ↦ true | no f ↦ false ] ≡ true → Some x ≡ Some y
    go (yes s) e = ap Some s
    go (no f) e = absurd cc

-- the number of a unit that is the first, or else behind others
abbrev next_place : Bool → Option ℕ → Option ℕ
next_place b o = if b then Some 0 else option_map suc o

-- the place of the last of n + 1 units, where it has the name
abbrev end_place : Bool → ℕ → Option ℕ
end_place b n = if b then Some n else None

no_place : (us : Library) → place_of us None ≡ None
no_place [] = refl
no_place (u ∷ us) =
    ap (λ b. next_place b (place_of us None)) (are_same_none (unit_name u))
    ∙ ap (option_map suc) (no_place us)

-- One unit more, at the end.
next_first : (b : Bool) (o : Option ℕ) (d : Bool) (n : ℕ)
    → next_place b (first_of o (end_place d n)) ≡ first_of (next_place b o) (end_place d (suc n))
next_first true o d n = refl
next_first false (Some p) d n = refl
next_first false None true n = refl
next_first false None false n = refl

place_end : (us : Library) (v : LibraryUnit) (x : Option Name)
    → place_of (us ++ v ∷ []) x ≡ first_of (place_of us x) (end_place (are_same (unit_name v) x) (length us))
place_end [] v x = go (are_same (unit_name v) x)
  where
    go : (b : Bool) → next_place b None ≡ end_place b 0
    go true = refl
    go false = refl
place_end (u ∷ us) v x =
    ap (next_place (are_same (unit_name u) x)) (place_end us v x)
    ∙ next_first (are_same (unit_name u) x) (place_of us x) (are_same (unit_name v) x) (length us)

same_number : (c : Contents) (m n : ℕ) → AreApart [] c.names → m < length c.names → n < length c.names
    → are_same (Some (name_at c m)) (Some (name_at c n)) ≡ nat_eq m n
same_number c m n apart m_in n_in = go (name_discrete (name_at c m) (name_at c n))
  where
    go : (d : Dec (name_at c m ≡ name_at c n)) → elim d as (λ z. Bool) [ yes e ↦ true | no f ↦ false ] ≡ nat_eq m n
    go (yes s) = sym (eq-eqb m n (apart.apart m n m_in n_in s))
    go (no f) = sym (ne_eqb m n (λ e. f (ap (name_at c) e)))

own_is : (c : Contents) (v : LibraryUnit) (name : Option ℕ) (unit n : ℕ) → AreApart [] c.names
    → option_map (name_at c) name ≡ unit_name v → IfSome name (λ m. m < length c.names)
    → n < length c.names → own_place name unit n ≡ end_place (are_same (unit_name v) (Some (name_at c n))) unit
own_is c v None unit n apart is known h = ap (λ x. end_place (are_same x (Some (name_at c n))) unit) is
own_is c v (Some m) unit n apart is known h =
    ap (λ b. end_place b unit) (sym (same_number c m n apart known h))
    ∙ ap (λ x. end_place (are_same x (Some (name_at c n))) unit) is

pub one_more : (c : Contents) (us : List StoredUnit) (u : StoredUnit) (name : Option ℕ) (unit : ℕ)
    (old new : List (Option ℕ)) → AreApart [] c.names → unit ≡ length us
    → option_map (name_at c) name ≡ unit_name (unit_at c u)
    → IfSome name (λ n. n < length c.names) → ArePlaces c us old → IsNoted name unit old new
    → ArePlaces c (us ++ u ∷ []) new
one_more c us u name unit old new apart at is known a s = record {
  one_each = s.one_each ∙ a.one_each;
  right = λ n h.
      let x : Option Name = Some (name_at c n) in
      let units : library_at c (us ++ u ∷ []) ≡ library_at c us ++ unit_at c u ∷ [] = map-append (unit_at c) us (u ∷ []) in
      let count : unit ≡ length (library_at c us) = at ∙ sym (length-map us (unit_at c)) in
      s.noted n (rw a.one_each h)
      ∙ ap (λ o. first_of o (own_place name unit n)) (a.right n h)
      ∙ ap (first_of (place_of (library_at c us) x)) (own_is c (unit_at c u) name unit n apart is known h)
      ∙ ap (λ k. first_of (place_of (library_at c us) x) (end_place (are_same (unit_name (unit_at c u)) x) k)) count
      ∙ sym (place_end (library_at c us) (unit_at c u) x)
      ∙ sym (ap (λ vs. place_of vs x) units);
}

pub nothing_noted : (c : Contents) (places : List (Option ℕ)) (n : ℕ) → n ≡ length c.names → length places ≡ n
    → ((k : ℕ) → k < n → slice_index_or places k None ≡ None) → ArePlaces c [] places
nothing_noted c places n is one_each none = record { one_each = one_each ∙ is; right = λ k h. none k (rw is h) }

-- places are those of what the units stand for
pub same_places : (c : Contents) (us vs : List StoredUnit) (places : List (Option ℕ)) → library_at c vs ≡ library_at c us
    → ArePlaces c us places → ArePlaces c vs places
same_places c us vs places e a = record {
  one_each = a.one_each;
  right = λ n h. a.right n h ∙ sym (ap (λ ws. place_of ws (Some (name_at c n))) e);
}

-- the unit that is noted under a name is the first of it
pub place_found : (c : Contents) (us : List StoredUnit) (v : LibraryUnit) (name : Option ℕ)
    (places : List (Option ℕ)) → option_map (name_at c) name ≡ unit_name v
    → IfSome name (λ n. n < length c.names) → ArePlaces c us places
    → option_and_then (λ n. slice_index_or places n None) name ≡ place_of (library_at c us) (unit_name v)
place_found c us v None places is known a = sym (no_place (library_at c us)) ∙ ap (place_of (library_at c us)) is
place_found c us v (Some n) places is known a = a.right n known ∙ ap (place_of (library_at c us)) is

-- Where no unit has the name of v, v is put at the end.
pub put_end : (us : Library) (v : LibraryUnit) → place_of us (unit_name v) ≡ None → put_unit us v ≡ us ++ v ∷ []
put_end [] v none = refl
put_end (u ∷ us) v none = go (are_same (unit_name u) (unit_name v)) (place_of us (unit_name v)) none (put_end us v)
  where
    go : (b : Bool) (o : Option ℕ) → next_place b o ≡ None → (o ≡ None → put_unit us v ≡ us ++ v ∷ [])
        → (if b then v ∷ us else u ∷ put_unit us v) ≡ u ∷ us ++ v ∷ []
    go true o e r = absurd cc
    go false None e r = ap (λ vs. u ∷ vs) (r refl)
    go false (Some p) e r = absurd cc

-- Where unit p is the first of that name, v is put in its place.
module _ (v : LibraryUnit) where
  -- the unit of this number has v's name, and v is put there
  pub record IsThere (us : Library) (p : ℕ) : Type 0 where
    pub within : p < length us
    pub put : put_unit us v ≡ slice_set us p v
    pub places : (x : Option Name) → place_of (slice_set us p v) x ≡ place_of us x

  first_there : (u : LibraryUnit) (us : Library) → are_same (unit_name u) (unit_name v) ≡ true → IsThere (u ∷ us) 0
  first_there u us e = record {
    within = omega arith;
    put = ap (λ (b : Bool). if b then v ∷ us else u ∷ put_unit us v) e;
    places = λ x. ap (λ y. next_place (are_same y x) (place_of us x)) (sym (one_name (unit_name u) (unit_name v) e));
  }

  later_there : (u : LibraryUnit) (us : Library) (p : ℕ) → are_same (unit_name u) (unit_name v) ≡ false → IsThere us p → IsThere (u ∷ us) (suc p)
  later_there u us p e t = record {
    within = omega (arith, t.within);
    put = ap (λ (b : Bool). if b then v ∷ us else u ∷ put_unit us v) e ∙ ap (λ vs. u ∷ vs) t.put;
    places = λ x. ap (next_place (are_same (unit_name u) x)) (t.places x);
  }

  pub put_there : (us : Library) (p : ℕ) → place_of us (unit_name v) ≡ Some p → IsThere us p
  put_there [] p e = absurd cc
  put_there (u ∷ us) p e = go (are_same (unit_name u) (unit_name v)) refl (place_of us (unit_name v)) e (put_there us)
    where
      go : (b : Bool) → are_same (unit_name u) (unit_name v) ≡ b → (o : Option ℕ) → next_place b o ≡ Some p
          → ((q : ℕ) → o ≡ Some q → IsThere us q) → IsThere (u ∷ us) p
      go true s o is later = let first : 0 ≡ p = cc in subst (IsThere (u ∷ us)) first (first_there u us s)
      go false s None is later = absurd cc
      go false s (Some q) is later = let next : suc q ≡ p = cc in subst (IsThere (u ∷ us)) next (later_there u us q s (later q refl))

pub place_within : (c : Contents) (us : List StoredUnit) (v : LibraryUnit) (p : ℕ)
    → place_of (library_at c us) (unit_name v) ≡ Some p → p < length us
place_within c us v p at =
    let there : IsThere v (library_at c us) p = put_there v (library_at c us) p at in
    let count = length-map us (unit_at c) in
    omega (arith, there.within, count)

-- A unit that is put into a list.
module _ (c : Contents) (us : List StoredUnit) (u : StoredUnit) (known : AreUnitsIn c us) (u_in : IsUnitIn c u) where
  pub pushed : (name : Option ℕ) (unit : ℕ) (old new : List (Option ℕ)) → AreApart [] c.names → unit ≡ length us
      → option_map (name_at c) name ≡ unit_name (unit_at c u) → IfSome name (λ n. n < length c.names)
      → ArePlaces c us old → IsNoted name unit old new
      → place_of (library_at c us) (unit_name (unit_at c u)) ≡ None → IsPut c us u (us ++ u ∷ []) new
  pushed name unit old new apart at is name_in a s none = record {
    known = All-push (IsUnitIn c) us u known u_in;
    list = map-append (unit_at c) us (u ∷ []) ∙ sym (put_end (library_at c us) (unit_at c u) none);
    places_are = one_more c us u name unit old new apart at is name_in a s;
  }

  pub replaced : (p : ℕ) (places : List (Option ℕ)) → ArePlaces c us places
      → place_of (library_at c us) (unit_name (unit_at c u)) ≡ Some p → IsPut c us u (slice_set us p u) places
  replaced p places a at =
      let there : IsThere (unit_at c u) (library_at c us) p = put_there (unit_at c u) (library_at c us) p at in
      let units : library_at c (slice_set us p u) ≡ slice_set (library_at c us) p (unit_at c u) = map-set (unit_at c) us p u in
      record {
        known = All-set (IsUnitIn c) us p u u_in known;
        list = units ∙ sym there.put;
        places_are = record {
          one_each = a.one_each;
          right = λ n h. a.right n h ∙ sym (there.places (Some (name_at c n))) ∙ sym (ap (λ vs. place_of vs (Some (name_at c n))) units);
        };
      }

-- one unit of a part more
pub spliced_more : (us vs : Library) (v : LibraryUnit) → spliced us (vs ++ v ∷ []) ≡ put_unit (spliced us vs) v
spliced_more us [] v = refl
spliced_more us (w ∷ vs) v = spliced_more (put_unit us w) vs v

-- some units of a part were put; those that are left stand in reverse
pub record AreLeft (c : Contents) (first : Library) (part left us : List StoredUnit) (places : List (Option ℕ)) : Type 0 where
  pub known : AreUnitsIn c us
  pub places_are : ArePlaces c us places
  pub left_in : AreUnitsIn c (reverse left)
  pub list : spliced (library_at c us) (library_at c (reverse left)) ≡ spliced first (library_at c part)

pub left_all : (c : Contents) (first : Library) (part left us : List StoredUnit) (places : List (Option ℕ)) → left ≡ reverse part → AreUnitsIn c part → AreUnitsIn c us → library_at c us ≡ first
    → ArePlaces c us places → AreLeft c first part left us places
left_all c first part left us places turned part_in known same places_are =
    let back : reverse left ≡ part = ap reverse turned ∙ reverse-reverse part in
    record {
      known = known;
      places_are = places_are;
      left_in = rw back part_in;
      list = ap (λ xs. spliced xs (library_at c (reverse left))) same ∙ ap (λ xs. spliced first (library_at c xs)) back;
    }

module _ (c : Contents) (first : Library) (part left more us : List StoredUnit) (u : StoredUnit) (places : List (Option ℕ)) (cut : left ≡ more ++ u ∷ []) (a : AreLeft c first part left us places) where
  turned : reverse left ≡ u ∷ reverse more
  turned = ap reverse cut ∙ reverse-append more (u ∷ [])

  pub left_known : IsUnitIn c u
  left_known = All-head (IsUnitIn c) u (reverse more) (rw turned at a.left_in)

  pub left_fewer : (new : List StoredUnit) (moved : List (Option ℕ)) → IsPut c us u new moved → AreLeft c first part more new moved
  left_fewer new moved p = record {
    known = p.known;
    places_are = p.places_are;
    left_in = All-tail (IsUnitIn c) u (reverse more) (rw turned at a.left_in);
    list = ap (λ xs. spliced xs (library_at c (reverse more))) p.list ∙ sym (ap (λ xs. spliced (library_at c us) (library_at c xs)) turned) ∙ a.list;
  }

pub left_none : (c : Contents) (first : Library) (part left us : List StoredUnit) (places : List (Option ℕ)) → left ≡ [] → AreLeft c first part left us places → library_at c us ≡ spliced first (library_at c part)
left_none c first part left us places none a = sym (ap (λ xs. spliced (library_at c us) (library_at c (reverse xs))) none) ∙ a.list
