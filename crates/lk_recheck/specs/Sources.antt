-- Which things lead to a thing, by numbers: chains of links, one for each thing.
use Rattle.std.specs.Prelude.{ℕ, ◌≡◌, ◌+◌, ◌-◌, ◌<◌, ◌≤◌, ◌⊎◌, List, length, slice_get, Some}
use Rattle.std.specs.Prelude.{slice_index_or}
use Rattle.std.specs.List.{Contains}
use Rattle.lk_recheck.specs.declared.sources.Link.{Link}
use Rattle.lk_recheck.specs.declared.sources.Sources.{Sources}
use Rattle.lk_needs.specs.declared.thing.Thing.{Thing}
use Rattle.lk_needs.specs.declared.thing.Thing.TheVariants.{Unit as a_unit, Name as a_name}
use Rattle.lk_needs.specs.declared.thing.Thing.TheVariants.{Tree as a_tree, Numbered}
use Rattle.lk_needs.specs.Marks.{Room}

-- the number of a thing: trees come first, then lists of recursors, names and units. So what the
-- store alone has keeps its number whatever the units are.
abbrev pub slot : Room → Thing → ℕ
slot r (a_unit u) = r.trees + r.numbered + r.names + u
slot r (a_name n) = r.trees + r.numbered + n
slot r (a_tree e) = e
slot r (Numbered n) = r.trees + n

-- a tree or a list of recursors
abbrev pub IsTerm : Thing → Type 0
IsTerm (a_unit u) = ⊥
IsTerm (a_name n) = ⊥
IsTerm (a_tree e) = Unit {0}
IsTerm (Numbered n) = Unit {0}

-- how many trees and lists of recursors there are
abbrev pub listed : Room → ℕ
listed r = r.trees + r.numbered

-- how many things there are
abbrev pub slots : Room → ℕ
slots r = r.trees + r.numbered + r.names + r.units

-- a link of the source a stands in the chain that ends before place h
pub data Behind (ls : List Link) (a : ℕ) : ℕ → Type 0 where
  here : (h : ℕ) (l : Link) → 0 < h → slice_get ls (h - 1) ≡ Some l → l.source ≡ a →
      Behind ls a h
  later : (h : ℕ) (l : Link) → 0 < h → slice_get ls (h - 1) ≡ Some l → Behind ls a l.previous →
      Behind ls a h

-- where the chain of number b ends
abbrev pub last_of : Sources → ℕ → ℕ
last_of t b = slice_index_or t.last.items b 0

-- number a leads to number b
abbrev pub IsSource : Sources → ℕ → ℕ → Type 0
IsSource t a b = Behind t.links.items a (last_of t b)

-- chains run back, over numbers of things
pub record AreLinked (t : Sources) : Type 0 where
  pub last_in : (b : ℕ) → last_of t b ≤ length t.links.items
  pub back : (j : ℕ) (l : Link) → slice_get t.links.items j ≡ Some l → l.previous ≤ j
  pub source_in : (j : ℕ) (l : Link) → slice_get t.links.items j ≡ Some l
      → l.source < length t.last.items

-- now a leads to b too
pub record IsOneMore (old new : Sources) (a b : ℕ) : Type 0 where
  pub linked : AreLinked new
  pub as_many : length new.last.items ≡ length old.last.items
  pub added : IsSource new a b
  pub stays : (p q : ℕ) → IsSource old p q → IsSource new p q
  pub only : (p q : ℕ) → IsSource new p q → ((p ≡ a) × (q ≡ b)) ⊎ IsSource old p q

-- the thing of number q is one of these
pub record IsSlotIn (r : Room) (ts : List Thing) (q : ℕ) : Type 0 where
  pub thing : Thing
  pub is_one : Contains ts thing
  pub is : slot r thing ≡ q

-- now a leads to these things too
pub record AreMore (r : Room) (old new : Sources) (a : ℕ) (ts : List Thing) : Type 0 where
  pub linked : AreLinked new
  pub as_many : length new.last.items ≡ length old.last.items
  pub each : (y : Thing) → Contains ts y → IsSource new a (slot r y)
  pub stays : (p q : ℕ) → IsSource old p q → IsSource new p q
  pub only : (p q : ℕ) → IsSource new p q → ((p ≡ a) × IsSlotIn r ts q) ⊎ IsSource old p q

-- nothing leads to anything, of n things
pub record HasNone (n : ℕ) (t : Sources) : Type 0 where
  pub linked : AreLinked t
  pub as_many : length t.last.items ≡ n
  pub none : (p q : ℕ) → IsSource t p q → ⊥

-- the same leads to the same, among n things
pub record IsWithRoom (n : ℕ) (old new : Sources) : Type 0 where
  pub linked : AreLinked new
  pub as_many : length new.last.items ≡ n
  pub stays : (p q : ℕ) → IsSource old p q → IsSource new p q
  pub only : (p q : ℕ) → IsSource new p q → IsSource old p q
