-- Each thing has a number of its own.
use Rattle.std.proofs.Common.{ℕ, ◌≡◌, ◌<◌, ◌≤◌, ap, arith}
use Rattle.lk_needs.specs.declared.thing.Thing.{Thing}
use Rattle.lk_needs.specs.declared.thing.Thing.TheVariants.{Unit as a_unit, Name as a_name, Tree as a_tree, Numbered}
use Rattle.lk_needs.specs.Marks.{Room, IsThing}
use Rattle.lk_recheck.specs.Sources.{slot, slots, listed, IsTerm}
use Rattle.lk_recheck.specs.Counts.{IsThingAt}

pub slot_in : (r : Room) (x : Thing) → IsThing r x → slot r x < slots r
slot_in r (a_unit u) h = omega (arith, h)
slot_in r (a_name n) h = omega (arith, h)
slot_in r (a_tree e) h = omega (arith, h)
slot_in r (Numbered n) h = omega (arith, h)

pub one_thing : (r : Room) (x y : Thing) → IsThing r x → IsThing r y → slot r x ≡ slot r y → x ≡ y
one_thing r (a_unit u) (a_unit v) h k e = let s : u ≡ v = omega (arith, e) in ap a_unit s
one_thing r (a_unit u) (a_name v) h k e = absurd (omega (arith, h, k, e))
one_thing r (a_unit u) (a_tree v) h k e = absurd (omega (arith, h, k, e))
one_thing r (a_unit u) (Numbered v) h k e = absurd (omega (arith, h, k, e))
one_thing r (a_name u) (a_unit v) h k e = absurd (omega (arith, h, k, e))
one_thing r (a_name u) (a_name v) h k e = let s : u ≡ v = omega (arith, e) in ap a_name s
one_thing r (a_name u) (a_tree v) h k e = absurd (omega (arith, h, k, e))
one_thing r (a_name u) (Numbered v) h k e = absurd (omega (arith, h, k, e))
one_thing r (a_tree u) (a_unit v) h k e = absurd (omega (arith, h, k, e))
one_thing r (a_tree u) (a_name v) h k e = absurd (omega (arith, h, k, e))
one_thing r (a_tree u) (a_tree v) h k e = ap a_tree e
one_thing r (a_tree u) (Numbered v) h k e = absurd (omega (arith, h, k, e))
one_thing r (Numbered u) (a_unit v) h k e = absurd (omega (arith, h, k, e))
one_thing r (Numbered u) (a_name v) h k e = absurd (omega (arith, h, k, e))
one_thing r (Numbered u) (a_tree v) h k e = absurd (omega (arith, h, k, e))
one_thing r (Numbered u) (Numbered v) h k e = let s : u ≡ v = omega (arith, e) in ap Numbered s

-- trees and lists of recursors come first
pub is_term : (r : Room) (i : ℕ) (x : Thing) → IsThingAt r i x → i < listed r → IsTerm x
is_term r i (a_unit u) h l = absurd (omega (arith, h.is, l))
is_term r i (a_name n) h l = absurd (omega (arith, h.is, l))
is_term r i (a_tree e) h l = tt
is_term r i (Numbered n) h l = tt

pub no_term : (r : Room) (i : ℕ) (x : Thing) → IsThingAt r i x → listed r ≤ i → IsTerm x → ⊥
no_term r i (a_unit u) h l k = k
no_term r i (a_name n) h l k = k
no_term r i (a_tree e) h l k = let e_in = h.thing_in in omega (arith, h.is, e_in, l)
no_term r i (Numbered n) h l k = let n_in = h.thing_in in omega (arith, h.is, n_in, l)
