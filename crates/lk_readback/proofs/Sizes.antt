-- The numbers of what is written are numbers of fields.
use Rattle.std.proofs.Common.{◌≡◌, ℕ, zero, suc, ◌+◌, ◌-◌, ◌<◌, ◌≤◌, ◌^◌, List, [], ◌∷◌, length}
use Rattle.std.proofs.Common.{map, Some, None, Option, refl, ap, arith}
use Rattle.std.specs.Prelude.{option_map}
use Rattle.std.specs.List.{range_with_len}
use Rattle.lk_tree.specs.Tree.{Name, name_discrete, Level, level_discrete, Tree, tree_discrete}
use Rattle.lk_rulebook.specs.Place.{Ctor}
use Rattle.lk_trim.specs.Written.{Written, place, number_at}
use Rattle.lk_trim.specs.Names.{name_number}
use Rattle.lk_trim.specs.Levels.{level_number}
use Rattle.lk_trim.specs.Trees.{tree_number}
use Rattle.lk_trim.specs.Units.{ctor_names, rules_since}
use Rattle.lk_readback.specs.Statable.{IsSmall}
use Rattle.lk_readback.proofs.WholeLine.{AreFew}
use Rattle.lk_readback.proofs.Spelled.{AreSmall}

-- a place is below the length
abbrev IsPlace : Option ℕ → ℕ → Type 0
IsPlace None n = Unit {0}
IsPlace (Some i) n = i < n

later : (o : Option ℕ) (n : ℕ) → IsPlace o n → IsPlace (option_map suc o) (suc n)
later None n h = tt
later (Some i) n h = omega arith

place_step : {A : Type 0} (y x : A) (d : Dec (y ≡ x)) (o : Option ℕ) (n : ℕ) → IsPlace o n
    → IsPlace (elim d [ yes e ↦ Some 0 | no f ↦ option_map suc o ]) (suc n)
place_step y x (yes e) o n h = omega arith
place_step y x (no f) o n h = later o n h

place_below : {A : Type 0} (d : Discrete A) (xs : List A) (x : A)
    → IsPlace (place d xs x) (length xs)
place_below d [] x = tt
place_below d (y ∷ ys) x = place_step y x (d y x) (place d ys x) (length ys) (place_below d ys x)

place_small : (o : Option ℕ) (n : ℕ) → n ≤ 2 ^ 32 → IsPlace o n → IsSmall (number_at o)
place_small None n few h = omega arith
place_small (Some i) n few h = omega arith

pub name_small : (w : Written) → AreFew w → (x : Name) → IsSmall (name_number w x)
name_small w few x =
    place_small (place name_discrete w.names x) (length w.names) few.names
    (place_below name_discrete w.names x)

pub level_small : (w : Written) → AreFew w → (l : Level) → IsSmall (level_number w l)
level_small w few l =
    place_small (place level_discrete w.levels l) (length w.levels) few.levels
    (place_below level_discrete w.levels l)

pub tree_small : (w : Written) → AreFew w → (e : Tree) → IsSmall (tree_number w e)
tree_small w few e =
    place_small (place tree_discrete w.trees e) (length w.trees) few.trees
    (place_below tree_discrete w.trees e)

pub map_small : {A : Type 0} (f : A → ℕ) → ((x : A) → IsSmall (f x)) → (xs : List A)
    → AreSmall (map f xs)
map_small f h [] = tt
map_small f h (x ∷ xs) = (h x, map_small f h xs)

range_small : (first count rules : ℕ) → count ≡ rules - first → rules ≤ 2 ^ 32
    → AreSmall (range_with_len first count)
range_small first zero rules e small = tt
range_small first (suc n) rules e small =
    (omega arith, range_small (first + 1) n rules (omega arith) small)

pub since_small : (first : ℕ) (w : Written) → AreFew w → AreSmall (rules_since first w)
since_small first w few = range_small first (w.rules - first) w.rules refl few.rules

length_range : (first count : ℕ) → length (range_with_len first count) ≡ count
length_range first zero = refl
length_range first (suc n) = ap suc (length_range (first + 1) n)

pub length_since : (first : ℕ) (w : Written) → length (rules_since first w) ≡ w.rules - first
length_since first w = length_range first (w.rules - first)

pub length_map : {A : Type 0} (f : A → ℕ) (xs : List A) → length (map f xs) ≡ length xs
length_map f [] = refl
length_map f (x ∷ xs) = ap suc (length_map f xs)

pub length_ctor_names : (cs : List Ctor) → length (ctor_names cs) ≡ length cs
length_ctor_names [] = refl
length_ctor_names (c ∷ cs) = ap suc (length_ctor_names cs)
