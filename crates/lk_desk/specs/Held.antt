use Rattle.std.specs.Prelude.{ℕ, Bool, true, false, nat_lt, List, [], ◌∷◌, Some, None}
use Rattle.lk_desk.specs.declared.view.View.{View}
use Rattle.lk_desk.specs.Rule.{Slot}

abbrev pub held_one : ℕ → Slot → Bool
held_one k None = nat_lt k 64
held_one k (Some x) = false

-- nothing is in hand, or one shard, which was taken out of its slot
abbrev pub is_held : List (ℕ × Slot) → Bool
is_held [] = true
is_held (x ∷ []) = held_one x.0 x.1
is_held (x ∷ y ∷ zs) = false

-- a view but for what it notes of shards
abbrev pub still : View → View
still v = record v { outs = 0; takes = 0; taken = None; returned = None }
