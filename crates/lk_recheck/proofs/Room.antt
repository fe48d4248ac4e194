-- What trees and lists of recursors lead to is the same whatever the units are.
use Rattle.std.proofs.Common.{ℕ, ◌≡◌, ◌-◌, ◌<◌, ◌≤◌, zero, suc, List, [], ◌∷◌, ◌++◌, length, get_or, take, replicate, refl, sym, ap, subst, ◌∙◌, arith}
use Rattle.std.specs.Prelude.{Some, slice_get}
use Rattle.std.specs.List.{Contains}
use Rattle.std.proofs.lemmas.List.{length-append, length-replicate, get_or_past, take_all}
use Rattle.lk_store.specs.declared.tables.Tables.{Tables}
use Rattle.lk_env.specs.declared.unit.Unit.{Unit as StoredUnit}
use Rattle.lk_env.specs.StoredLibrary.{StoredLibrary}
use Rattle.lk_needs.specs.declared.thing.Thing.{Thing}
use Rattle.lk_needs.specs.declared.thing.Thing.TheVariants.{Unit as a_unit, Name as a_name, Tree as a_tree, Numbered}
use Rattle.lk_needs.specs.Leads.{room_at, IsOfLibrary}
use Rattle.lk_recheck.specs.declared.sources.Link.{Link}
use Rattle.lk_recheck.specs.declared.sources.Sources.{Sources}
use Rattle.lk_recheck.specs.Sources.{slot, slots, listed, Behind, last_of, IsSource, AreLinked, IsWithRoom}
use Rattle.lk_recheck.specs.Built.{stored_at, IsLed, IsBuiltTo}
use Rattle.lk_recheck.proofs.Chained.{behind_some}

-- chains of more things
module _ (n : ℕ) (old new : Sources) (linked : AreLinked old) (enough : length old.last.items ≤ n) (links : new.links.items ≡ old.links.items)
    (lasts : new.last.items ≡ old.last.items ++ replicate {A = ℕ} (n - length old.last.items) 0) where
  zeros : (k b : ℕ) → get_or (replicate {A = ℕ} k 0) b 0 ≡ 0
  zeros zero b = refl
  zeros (suc k) zero = refl
  zeros (suc k) (suc b) = zeros k b

  padded : (xs : List ℕ) (k b : ℕ) → get_or (xs ++ replicate {A = ℕ} k 0) b 0 ≡ get_or xs b 0
  padded [] k b = zeros k b
  padded (x ∷ xs) k zero = refl
  padded (x ∷ xs) k (suc b) = padded xs k b

  same_last : (b : ℕ) → last_of new b ≡ last_of old b
  same_last b = ap (λ (xs : List ℕ). get_or xs b 0) lasts ∙ padded old.last.items (n - length old.last.items) b

  as_many : length new.last.items ≡ n
  as_many =
      let e = ap length lasts ∙ length-append old.last.items (replicate {A = ℕ} (n - length old.last.items) 0) in
      let z = length-replicate {A = ℕ} (n - length old.last.items) 0 in
      omega (arith, e, z, enough)

  was : (j : ℕ) (l : Link) → slice_get new.links.items j ≡ Some l → slice_get old.links.items j ≡ Some l
  was j l e = ap (λ (xs : List Link). slice_get xs j) (sym links) ∙ e

  to_new : (p h : ℕ) → Behind old.links.items p h → Behind new.links.items p h
  to_new p h k = subst (λ ls. Behind ls p h) (sym links) k

  to_old : (p h : ℕ) → Behind new.links.items p h → Behind old.links.items p h
  to_old p h k = subst (λ ls. Behind ls p h) links k

  pub with_room : IsWithRoom n old new
  with_room = record {
    linked = record {
      last_in = λ b. let e = same_last b in let w = linked.last_in b in let c = ap length links in omega (arith, e, w, c);
      back = λ j l e. linked.back j l (was j l e);
      source_in = λ j l e. let w = linked.source_in j l (was j l e) in omega (arith, w, enough, as_many);
    };
    as_many = as_many;
    stays = λ p q k. subst (Behind new.links.items p) (sym (same_last q)) (to_new p (last_of old q) k);
    only = λ p q k. to_old p (last_of old q) (subst (Behind new.links.items p) (same_last q) k);
  }

-- all that stood in a list stays where it gets longer
pub kept_padded : (n : ℕ) (xs old new : List ℕ) → length xs ≤ n → old ≡ xs → new ≡ take n old ++ replicate {A = ℕ} (n - length old) 0 → new ≡ xs ++ replicate {A = ℕ} (n - length xs) 0
kept_padded n xs old new l e is = let whole = take_all n xs l in cc

module _ (t : Tables) (us : List StoredUnit) (old new : Sources) where
  abbrev alone : StoredLibrary
  alone = stored_at t []

  abbrev whole : StoredLibrary
  whole = stored_at t us

  same_slot : (y : Thing) → slot (room_at alone) y ≡ slot (room_at whole) y
  same_slot (a_unit u) = refl
  same_slot (a_name m) = refl
  same_slot (a_tree e) = refl
  same_slot (Numbered m) = refl

  module _ (b : IsBuiltTo alone (listed (room_at alone)) old) (w : IsWithRoom (slots (room_at whole)) old new) where
    -- nothing leads to a unit yet
    no_unit : (p u : ℕ) → IsSource old p (slot (room_at alone) (a_unit u)) → ⊥
    no_unit p u k =
        let some = behind_some old.links.items p (last_of old (slot (room_at alone) (a_unit u))) k in
        let none = get_or_past old.last.items (slot (room_at alone) (a_unit u)) 0 (omega (arith, b.as_many)) in
        omega (arith, some, none)

    led_only : (p : ℕ) (ts : List Thing) → ((y : Thing) → IsOfLibrary alone y → IsSource old p (slot (room_at alone) y) → Contains ts y)
        → (y : Thing) → IsOfLibrary whole y → IsSource new p (slot (room_at whole) y) → Contains ts y
    led_only p ts only (a_unit u) y_in s = absurd (no_unit p u (w.only p (slot (room_at alone) (a_unit u)) s))
    led_only p ts only (a_name m) y_in s = only (a_name m) y_in (w.only p (slot (room_at alone) (a_name m)) s)
    led_only p ts only (a_tree e) y_in s = only (a_tree e) y_in (w.only p (slot (room_at alone) (a_tree e)) s)
    led_only p ts only (Numbered m) y_in s = only (Numbered m) y_in (w.only p (slot (room_at alone) (Numbered m)) s)

    led_each : (p : ℕ) (ts : List Thing) → ((y : Thing) → Contains ts y → IsSource old p (slot (room_at alone) y)) → (y : Thing) → Contains ts y → IsSource new p (slot (room_at whole) y)
    led_each p ts each y k = w.stays p (slot (room_at whole) y) (subst (IsSource old p) (same_slot y) (each y k))

    before : (x : Thing) → IsOfLibrary whole x → slot (room_at whole) x < listed (room_at whole) → IsLed whole new x
    before (a_unit u) x_in low = absurd (omega (arith, low))
    before (a_name m) x_in low = absurd (omega (arith, low))
    before (a_tree e) x_in low =
        let k = b.before (a_tree e) x_in low in
        record { things = k.things; leads = k.leads; each = led_each (slot (room_at whole) (a_tree e)) k.things k.each; only = led_only (slot (room_at whole) (a_tree e)) k.things k.only }
    before (Numbered m) x_in low =
        let k = b.before (Numbered m) x_in low in
        record { things = k.things; leads = k.leads; each = led_each (slot (room_at whole) (Numbered m)) k.things k.each; only = led_only (slot (room_at whole) (Numbered m)) k.things k.only }

    -- what a store leads to is built of the store and these units too
    pub built_behind : IsBuiltTo whole (listed (room_at whole)) new
    built_behind = record { linked = w.linked; as_many = w.as_many; before = before; none = λ p q k. b.none p q (w.only p q k) }

-- the same by other names of the numbers
pub built_at : (t : Tables) (us : List StoredUnit) (old new : Sources) (n i : ℕ) → n ≡ slots (room_at (stored_at t us)) → i ≡ listed (room_at (stored_at t us))
    → IsBuiltTo (stored_at t []) (listed (room_at (stored_at t []))) old → IsWithRoom n old new → IsBuiltTo (stored_at t us) i new
built_at t us old new n i n_is i_is b w = subst (λ k. IsBuiltTo (stored_at t us) k new) (sym i_is) (built_behind t us old new b (subst (λ k. IsWithRoom k old new) n_is w))
