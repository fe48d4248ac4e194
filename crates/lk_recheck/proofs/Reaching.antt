-- What leads to a unit that changed, and what the closure of a unit holds.
use Rattle.std.proofs.Common.{ℕ, zero, suc, ◌≡◌, ◌<◌, inl, inr, Bool, List, take, length, Some, refl, sym, ap, subst, ◌∙◌, arith}
use Rattle.std.specs.Prelude.{All, slice_get}
use Rattle.std.specs.List.{Contains}
use Rattle.std.proofs.lemmas.List.{length-map}
use Rattle.std.proofs.lemmas.List.Elements.{All-contains, All-weaker, All-contains_itself}
use Rattle.std.proofs.lemmas.Option.{slice_get_within}
use Rattle.lk_tree.specs.Tree.{Name}
use Rattle.lk_rulebook.specs.Units.{LibraryUnit, Found, first_giving}
use Rattle.lk_reach.proofs.Found.{found_below}
use Rattle.lk_uses.specs.Closure.{IsIn as IsOneOf, builtins, IsInClosure, own_unit, of_builtin, of_used}
use Rattle.lk_store.specs.Contents.{Contents, name_at}
use Rattle.lk_env.specs.StoredLibrary.{StoredLibrary}
use Rattle.lk_env.specs.Units.{library_of, unit_at, AreUnitsIn}
use Rattle.lk_needs.specs.declared.thing.Thing.{Thing}
use Rattle.lk_needs.specs.declared.thing.Thing.TheVariants.{Unit as a_unit, Name as a_name, Tree as a_tree, Numbered}
use Rattle.lk_needs.specs.Builtins.{IsBuiltinThing, AreBuiltins}
use Rattle.lk_needs.specs.Leads.{contents_in, room_at, IsOfLibrary, IsNaming, Has, IsStored, AreNamed, rank, IsTaken, UnitUses, IsGiver, Leads}
use Rattle.lk_needs.proofs.Opened.{naming_in}
use Rattle.lk_needs.proofs.Searching.{naming_at, any_of, holder, below_at}
use Rattle.lk_needs.proofs.Stored.{given_stored}
use Rattle.lk_recheck.specs.declared.sources.Sources.{Sources}
use Rattle.lk_recheck.specs.Built.{IsLed, IsBuilt}
use Rattle.lk_recheck.specs.Hits.{IsOpen, Hits, is_changed, leads_on, IsHit, IsTouched}
use Rattle.lk_recheck.proofs.FirstGivers.{given_fewer, given_more}
use Rattle.lk_recheck.proofs.Numbers.{slot_in}

-- What is led to is of the library.
pub led_in : (l : StoredLibrary) (x : Thing) (ts : List Thing) → Leads l (length l.units) x ts → All (IsOfLibrary l) ts
led_in l (a_unit u) ts h = naming_in l ts h.naming
led_in l (a_tree e) ts h = naming_in l ts h.named.naming
led_in l (Numbered m) ts h = naming_in l ts h.named.naming
led_in l (a_name m) ts h = All-weaker (Contains ts) (IsOfLibrary l) (λ t k. giver_in t (h.only t k)) ts (All-contains_itself ts)
  where
    giver_in : (t : Thing) → IsGiver (library_of l) (length l.units) (name_at (contents_in l) m) t → IsOfLibrary l t
    giver_in t g = subst (IsOfLibrary l) (sym g.is_unit) (found_below (length l.units) (library_of l) (name_at (contents_in l) m) g.found g.given)

naming_open : (c : Contents) (n : ℕ) (t : Thing) → IsNaming c t → IsOpen n t
naming_open c n (a_unit u) h = absurd h
naming_open c n (a_name m) h = tt
naming_open c n (a_tree e) h = tt
naming_open c n (Numbered m) h = tt

module _ (l : StoredLibrary) (t : Sources) (changed : List Bool) (n : ℕ) where
  -- Whoever has the unit that gives this name in the closure has one that changed.
  record IsHitName (x : Name) : Type 0 where
    found : Found
    given : first_giving 0 (take n (library_of l)) x ≡ Some found
    touched : IsInClosure (library_of l) n found.unit → IsTouched (library_of l) changed n

  record HasHitName (q : Thing) : Type 0 where
    name : Name
    has : Has (contents_in l) name q
    hit : IsHitName name

  abbrev Means : Thing → Type 0
  Means (a_unit u) = IsInClosure (library_of l) n u → IsTouched (library_of l) changed n
  Means (a_name m) = HasHitName (a_name m)
  Means (a_tree e) = HasHitName (a_tree e)
  Means (Numbered m) = HasHitName (Numbered m)

  -- one of the names is hit
  named_hit : (P : Name → Type 0) (ts : List Thing) → AreNamed (contents_in l) P ts → (y : Thing) → Contains ts y → Means y → (x : Name) × P x × IsHitName x
  named_hit P ts a (a_unit u) k m = absurd (naming_at (contents_in l) ts (a_unit u) a.naming k)
  named_hit P ts a (a_name i) k m = (m.name, a.only m.name (any_of (contents_in l) m.name ts (a_name i) k m.has), m.hit)
  named_hit P ts a (a_tree e) k m = (m.name, a.only m.name (any_of (contents_in l) m.name ts (a_tree e) k m.has), m.hit)
  named_hit P ts a (Numbered i) k m = (m.name, a.only m.name (any_of (contents_in l) m.name ts (Numbered i) k m.has), m.hit)

  means_on : (x : Thing) (ts : List Thing) → Leads l (length l.units) x ts → (y : Thing) → Contains ts y → IsOpen n y → Means y → Means x
  means_on (a_unit u) ts h y k o m =
      let s = named_hit (UnitUses (library_of l) u) ts h y k m in
      λ inside. s.2.touched (of_used u s.1.unit s.0 s.2.found inside s.1.stands s.1.uses s.2.given)
  means_on (a_tree e) ts h y k o m =
      let s = named_hit (λ x. Has (contents_in l) x (a_tree e)) ts h.named y k m in
      record { name = s.0; has = s.1; hit = s.2 }
  means_on (Numbered i) ts h y k o m =
      let s = named_hit (λ x. Has (contents_in l) x (Numbered i)) ts h.named y k m in
      record { name = s.0; has = s.1; hit = s.2 }
  means_on (a_name i) ts h y k o m =
      let g = h.only y k in
      let below : g.found.unit < n = subst (IsOpen n) g.is_unit o in
      let then : Means (a_unit g.found.unit) = subst Means g.is_unit m in
      record {
        name = name_at (contents_in l) i;
        has = refl;
        hit = record { found = g.found; given = given_fewer (length l.units) n (library_of l) (name_at (contents_in l) i) g.found g.given below; touched = then };
      }

  module _ (b : IsBuilt l t) where
    led : (x : Thing) → IsOfLibrary l x → IsLed l t x
    led x h = b.before x h (slot_in (room_at l) x h)

    means : (x : Thing) → Hits (room_at l) t changed n x → Means x
    means x (is_changed u u_in c) = λ inside. (u, inside, c)
    means x (leads_on _ y x_in y_in s o h) =
        let k = led x x_in in
        means_on x k.things k.leads y (k.only y y_in s) o (means y h)

    pub touched : (ts : List Thing) → AreBuiltins (contents_in l) ts → IsHit (room_at l) t changed ts n → IsTouched (library_of l) changed n
    touched ts a (inl h) = means (a_unit n) h own_unit
    touched ts a (inr h) = by_name (a.only h.thing h.is_one)
      where
        by_name : IsBuiltinThing (contents_in l) h.thing → IsTouched (library_of l) changed n
        by_name i =
            let m : HasHitName (a_name i.name) = means (a_name i.name) (subst (Hits (room_at l) t changed n) i.is_name h.hits) in
            m.hit.touched (of_builtin m.name m.hit.found (subst (λ x. IsOneOf x builtins) m.has i.is_builtin) m.hit.given)

    -- Whatever has a name of a unit that is hit is hit.
    module _ (n_in : n < length l.units) (known : AreUnitsIn (contents_in l) l.units) where
      module _ (x : Name) (f : Found) (given : first_giving 0 (take n (library_of l)) x ≡ Some f) (hits : Hits (room_at l) t changed n (a_unit f.unit)) where
        stored : IsStored (contents_in l) x
        stored = given_stored (contents_in l) l.units n x f known given

        below : f.unit < n
        below = found_below n (library_of l) x f given

        name_hits : (m : ℕ) → IsOfLibrary l (a_name m) → name_at (contents_in l) m ≡ x → Hits (room_at l) t changed n (a_name m)
        name_hits m m_in is =
            let k = led (a_name m) m_in in
            let all : first_giving 0 (take (length l.units) (library_of l)) (name_at (contents_in l) m) ≡ Some f =
            ap (first_giving 0 (take (length l.units) (library_of l))) is ∙ given_more n (length l.units) (library_of l) x f (omega (arith, n_in)) given in
            let c : Contains k.things (a_unit f.unit) = k.leads.all (a_unit f.unit) (record { found = f; given = all; is_unit = refl }) in
            leads_on (a_name m) (a_unit f.unit) m_in (omega (arith, below, n_in)) (k.each (a_unit f.unit) c) below hits

        named_hits : (q : Thing) → IsOfLibrary l q → (k : IsLed l t q) → (P : Name → Type 0) → AreNamed (contents_in l) P k.things → (y : Thing) → Contains k.things y
            → Hits (room_at l) t changed n y → Hits (room_at l) t changed n q
        named_hits q q_in k P a y c h =
            leads_on q y q_in (All-contains (IsOfLibrary l) k.things y (naming_in l k.things a.naming) c) (k.each y c)
            (naming_open (contents_in l) n y (naming_at (contents_in l) k.things y a.naming c)) h

        taken_hits : (fuel : ℕ) (q : Thing) → ((y : Thing) → rank (contents_in l) y < fuel → IsOfLibrary l y → Has (contents_in l) x y → Hits (room_at l) t changed n y)
            → rank (contents_in l) q < suc fuel → IsOfLibrary l q → Has (contents_in l) x q → (k : IsLed l t q) → IsTaken (contents_in l) q k.things → Hits (room_at l) t changed n q
        taken_hits fuel q again r q_in h k a =
            let p = holder (contents_in l) x k.things (a.named.all x stored h) in
            let lower = below_at (contents_in l) (rank (contents_in l) q) k.things p.thing a.below p.is_one in
            let p_in : IsOfLibrary l p.thing = All-contains (IsOfLibrary l) k.things p.thing (naming_in l k.things a.named.naming) p.is_one in
            named_hits q q_in k (λ y. Has (contents_in l) y q) a.named p.thing p.is_one (again p.thing (omega (arith, lower, r)) p_in p.has)

        has_hits : (fuel : ℕ) (q : Thing) → rank (contents_in l) q < fuel → IsOfLibrary l q → Has (contents_in l) x q → Hits (room_at l) t changed n q
        has_hits zero q r q_in h = absurd (omega (arith, r))
        has_hits (suc fuel) (a_unit u) r q_in h = absurd h
        has_hits (suc fuel) (a_name m) r q_in h = name_hits m q_in h
        has_hits (suc fuel) (a_tree e) r q_in h = let k = led (a_tree e) q_in in taken_hits fuel (a_tree e) (has_hits fuel) r q_in h k k.leads
        has_hits (suc fuel) (Numbered m) r q_in h = let k = led (Numbered m) q_in in taken_hits fuel (Numbered m) (has_hits fuel) r q_in h k k.leads

        unit_hits : (j : ℕ) → j < length l.units → (u : LibraryUnit) → slice_get (library_of l) j ≡ Some u → UnitUses (library_of l) j x → Hits (room_at l) t changed n (a_unit j)
        unit_hits j j_in u stands uses =
            let k = led (a_unit j) j_in in
            let p = holder (contents_in l) x k.things (k.leads.all x stored uses) in
            let p_in : IsOfLibrary l p.thing = All-contains (IsOfLibrary l) k.things p.thing (naming_in l k.things k.leads.naming) p.is_one in
            named_hits (a_unit j) j_in k (UnitUses (library_of l) j) k.leads p.thing p.is_one (has_hits (suc (rank (contents_in l) p.thing)) p.thing (omega arith) p_in p.has)

      module _ (ts : List Thing) (a : AreBuiltins (contents_in l) ts) where
        hit_from : (k : ℕ) → IsInClosure (library_of l) n k → Hits (room_at l) t changed n (a_unit k) → IsHit (room_at l) t changed ts n
        hit_from k own_unit h = inl h
        hit_from k (of_builtin x f i given) h =
            let s = stored x f given h in
            let is_one : Contains ts (a_name s.0) = a.all s.0 s.1.known (subst (λ y. IsOneOf y builtins) (sym s.1.is) i) in
            inr (record { thing = a_name s.0; is_one = is_one; hits = name_hits x f given h s.0 s.1.known s.1.is })
        hit_from k (of_used j u x f inside stands uses given) h =
            let count : length (library_of l) ≡ length l.units = length-map l.units (unit_at (contents_in l)) in
            let within : j < length (library_of l) = slice_get_within (library_of l) j u stands in
            hit_from j inside (unit_hits x f given h j (omega (arith, count, within)) u stands (record { unit = u; stands = stands; uses = uses }))

        closure_in : (k : ℕ) → IsInClosure (library_of l) n k → k < length l.units
        closure_in k own_unit = n_in
        closure_in k (of_builtin x f i given) = let h = found_below n (library_of l) x f given in omega (arith, h, n_in)
        closure_in k (of_used j u x f inside stands uses given) = let h = found_below n (library_of l) x f given in omega (arith, h, n_in)

        pub hit : IsTouched (library_of l) changed n → IsHit (room_at l) t changed ts n
        hit h = hit_from h.0 h.1 (is_changed h.0 (closure_in h.0 h.1) h.2)
