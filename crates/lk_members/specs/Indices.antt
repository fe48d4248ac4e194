-- Where each member stands among lines, by places.
use Rattle.std.specs.Prelude.{◌≡◌, ◌<◌, ◌≤◌, ◌^◌, ℕ, nat_eq, Bool, false, ◌&&◌, List, [], ◌∷◌}
use Rattle.std.specs.Prelude.{length, Option, Some, None, IsSome, slice_get, All, if◌then◌else◌}
use Rattle.std.specs.List.{flat_map}
use Rattle.std.specs.HashMap as hash_map
use Rattle.std.specs.HashSet as hash_set
use Rattle.std.specs.Prelude.{Vec}
use Rattle.std.specs.declared.alloc.Global.{Global}
use Rattle.lk_env.specs.declared.unit.Recursor.{Recursor}
use Rattle.lk_members.specs.declared.members.Key.{Key}
use Rattle.lk_members.specs.declared.members.Members.{Members}
use Rattle.lk_members.specs.Lines.{types_with, block_of, type_here, type_of, ctor_here, ctor_of}
use Rattle.lk_members.specs.Lines.{recursor_here, recursors_of, has_recursor, same_list}
use Rattle.lk_members.specs.Stored.{NumberedMember, NumberedLine, lines_of}

abbrev pub key_eq : Key → Key → Bool
key_eq a b = nat_eq a.under b.under && nat_eq a.name b.name

-- the place leads to the line in which this is found; there is none where nothing is found
abbrev pub IsLed : {A : Type 0} → (NumberedMember → Option A) → List NumberedLine → Option ℕ
    → Option A → Type 0
IsLed here lines None found = found ≡ None
IsLed here lines (Some i) found =
    (l : NumberedLine) × (slice_get lines i ≡ Some l) × (here l.said ≡ found) × IsSome found

-- the places of the recursors of a list
abbrev pub group_of : List (List ℕ) → List (Vec ℕ Global) → List ℕ → List ℕ
group_of [] gs us = []
group_of (l ∷ ls) [] us = []
group_of (l ∷ ls) (g ∷ gs) us = if same_list nat_eq l us then g.items else group_of ls gs us

abbrev pub recursor_at : List NumberedLine → List ℕ → ℕ → List Recursor
recursor_at lines us i =
    elim (slice_get lines i) [ Some l ↦ recursor_here nat_eq l.said us | None ↦ [] ]

-- what the members have leads to what a search of these lines finds
pub record IsIndexOf (m : Members) (lines : List NumberedLine) : Type 0 where
  pub types : (n : ℕ) → IsLed (λ s. type_here nat_eq s n) lines (hash_map.get nat_eq m.types n)
      (type_of nat_eq lines n)
  pub ctors : (t n : ℕ) → IsLed (λ s. ctor_here nat_eq s t n) lines
      (hash_map.get key_eq m.constructors (record { under = t; name = n }))
      (ctor_of nat_eq lines t n)
  pub blocks : (n : ℕ) → IsLed (λ s. types_with nat_eq s n) lines (hash_map.get nat_eq m.blocks n)
      (block_of nat_eq lines n)
  pub grouped : length m.recursors.items ≡ length m.lists
  -- each list stands there once
  pub apart : (j k : ℕ) (us : List ℕ) → slice_get m.lists j ≡ Some us
      → slice_get m.lists k ≡ Some us → j ≡ k
  -- the places of recursors are those of lines
  pub placed : (us : List ℕ) → All (λ i. i < length lines) (group_of m.lists m.recursors.items us)
  pub groups : (us : List ℕ) → flat_map (recursor_at lines us)
      (group_of m.lists m.recursors.items us) ≡ recursors_of nat_eq lines us
  pub names : (k n : ℕ) (us : List ℕ) → slice_get m.lists k ≡ Some us
      → hash_set.contains key_eq m.recursor_names (record { under = k; name = n })
      ≡ has_recursor nat_eq lines us n
  pub unlisted : (us : List ℕ) (n : ℕ) → ((k : ℕ) → slice_get m.lists k ≡ Some us → ⊥)
      → has_recursor nat_eq lines us n ≡ false
  -- no name stands under the number of no list
  pub none_above : (k n : ℕ) → length m.lists ≤ k
      → hash_set.contains key_eq m.recursor_names (record { under = k; name = n }) ≡ false
  pub few : length lines < 2 ^ 32

-- what the members have leads to what a search of their lines finds
abbrev pub IsIndexed : Members → Type 0
IsIndexed m = IsIndexOf m (lines_of m.lines.items)
