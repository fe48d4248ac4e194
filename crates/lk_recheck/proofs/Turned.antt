-- What a thing leads to is turned round.
use Rattle.std.proofs.Common.{ℕ, ◌≡◌, ◌+◌, ◌<◌, ◌⊎◌, inl, inr, List, take, length, sym, subst, ◌∙◌, arith}
use Rattle.std.specs.Prelude.{All}
use Rattle.std.specs.List.{Contains}
use Rattle.std.proofs.lemmas.Bool.{cases_eq}
use Rattle.std.proofs.lemmas.List.{length-map, take_all}
use Rattle.std.proofs.lemmas.List.Elements.{All-contains}
use Rattle.lk_env.specs.StoredLibrary.{StoredLibrary}
use Rattle.lk_env.specs.Units.{library_of, unit_at}
use Rattle.lk_needs.specs.declared.thing.Thing.{Thing}
use Rattle.lk_needs.specs.Marks.{Room, IsThing}
use Rattle.lk_needs.specs.Leads.{contents_in, room_at, IsOfLibrary, Leads}
use Rattle.lk_recheck.specs.declared.sources.Sources.{Sources}
use Rattle.lk_recheck.specs.Sources.{slot, slots, IsSource, IsSlotIn, AreMore, HasNone}
use Rattle.lk_recheck.specs.Counts.{IsThingAt}
use Rattle.lk_recheck.specs.Built.{IsLed, IsBuiltTo}
use Rattle.lk_recheck.proofs.Numbers.{one_thing}
use Rattle.lk_recheck.proofs.Reaching.{led_in}

pub none_built : (l : StoredLibrary) (n : ℕ) (t : Sources) → n ≡ slots (room_at l) → HasNone n t → IsBuiltTo l 0 t
none_built l n t is h = record {
  linked = h.linked;
  as_many = h.as_many ∙ is;
  before = λ x x_in low. absurd (omega (arith, low));
  none = λ p q k. absurd (h.none p q k);
}

-- One thing more.
module _ (l : StoredLibrary) (i : ℕ) (old new : Sources) (b : IsBuiltTo l i old) (x : Thing) (ts : List Thing) (at : IsThingAt (room_at l) i x) (leads : Leads l (length l.units) x ts) (m : AreMore (room_at l) old new i ts) where
  abbrev number : Thing → ℕ
  number y = slot (room_at l) y

  only_here : (y : Thing) → IsOfLibrary l y → IsSource new i (number y) → Contains ts y
  only_here y y_in s = go (m.only i (number y) s)
    where
      go : ((i ≡ i) × IsSlotIn (room_at l) ts (number y)) ⊎ IsSource old i (number y) → Contains ts y
      go (inl k) =
          let z_in : IsOfLibrary l k.1.thing = All-contains (IsOfLibrary l) ts k.1.thing (led_in l x ts leads) k.1.is_one in
          subst (Contains ts) (one_thing (room_at l) k.1.thing y z_in y_in k.1.is) k.1.is_one
      go (inr k) = let low = b.none i (number y) k in absurd (omega (arith, low))

  here_led : IsLed l new x
  here_led = record {
    things = ts;
    leads = leads;
    each = λ y k. subst (λ p. IsSource new p (number y)) (sym at.is) (m.each y k);
    only = λ y y_in s. only_here y y_in (subst (λ p. IsSource new p (number y)) at.is s);
  }

  still_led : (z : Thing) → number z < i → IsLed l old z → IsLed l new z
  still_led z low k = record {
    things = k.things;
    leads = k.leads;
    each = λ y c. m.stays (number z) (number y) (k.each y c);
    only = λ y y_in s. elim (m.only (number z) (number y) s) [ inl e ↦ absurd (omega (arith, low, e.0)) | inr o ↦ k.only y y_in o ];
  }

  one_built : IsBuiltTo l (i + 1) new
  one_built = record {
    linked = m.linked;
    as_many = m.as_many ∙ b.as_many;
    before = λ z z_in low. elim (cases_eq (number z) i) [
      | inl e ↦ subst (IsLed l new) (one_thing (room_at l) x z at.thing_in z_in (at.is ∙ sym e)) here_led
      | inr ne ↦ let lower : number z < i = omega (arith, low, ne) in still_led z lower (b.before z z_in lower)
    ];
    none = λ p q k. elim (m.only p q k) [
      | inl e ↦ omega (arith, e.0)
      | inr o ↦ let low = b.none p q o in omega (arith, low)
    ];
  }

-- The same of a room and a list by other names.
pub things_led : (l : StoredLibrary) (r : Room) (x : Thing) (ts us : List Thing) → r ≡ room_at l → us ≡ ts → Leads l (length l.units) x ts → All (IsThing r) us
things_led l r x ts us room is h = subst (λ q. All (IsThing q) us) (sym room) (subst (All (IsOfLibrary l)) (sym is) (led_in l x ts h))

pub one_turned : (l : StoredLibrary) (r : Room) (i : ℕ) (old new : Sources) (x : Thing) (ts us : List Thing) → r ≡ room_at l → us ≡ ts → IsBuiltTo l i old → IsThingAt r i x → Leads l (length l.units) x ts
    → AreMore r old new i us → IsBuiltTo l (i + 1) new
one_turned l r i old new x ts us room is b at h m =
    one_built l i old new b x us (subst (λ q. IsThingAt q i x) room at) (subst (Leads l (length l.units) x) (sym is) h) (subst (λ q. AreMore q old new i us) room m)

-- all units are those that are taken
pub all_units : (l : StoredLibrary) → take (length l.units) (library_of l) ≡ library_of l
all_units l = take_all (length l.units) (library_of l) (let e = length-map l.units (unit_at (contents_in l)) in omega (arith, e))
