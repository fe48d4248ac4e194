-- What a walk keeps of what it made, and what it makes of nodes.
use Rattle.std.specs.Prelude.{◌≡◌, ℕ, [], Option, IfSome}
use Rattle.lk_store.specs.Contents.{Contents, tree_at, tree_of, IsIn, IsTree}
use Rattle.lk_store.specs.declared.node.Node.{Node}
use Rattle.lk_store.specs.declared.room.Spot.{Spot}
use Rattle.lk_store.specs.declared.room.Room.{Room}
use Rattle.lk_subst.specs.Walks.{Change, IsMade, AreMade}

-- no node waits, and each row has what the change makes of its spot
pub record IsReady (f : Change) (c : Contents) (room : Room) : Type 0 where
  pub stack : room.stack.items ≡ []
  pub made : AreMade f c room.made

-- the same of the room, if there is some
abbrev pub AreKept : Change → Contents → Option Room → Type 0
AreKept f c room = IfSome room (IsReady f c)

-- what the change makes of a spot
abbrev pub IsKept : Change → Contents → Spot → ℕ → Type 0
IsKept f c spot r = IsTree c r (f spot.depth (tree_at c spot.e))

-- d has what the change makes of two trees of c
abbrev pub AreBothMade : Change → Contents → ℕ → ℕ → ℕ → ℕ → Contents → ℕ × ℕ → Type 0
AreBothMade f c a depth b inner d r = IsMade f c a depth d r.0 × IsMade f c b inner d r.1

-- the node is in d what the change makes of one of c
abbrev pub IsNodeMade : Change → Contents → Node → ℕ → Contents → Node → Type 0
IsNodeMade f c node depth d made = IsIn d made × (tree_of d made ≡ f depth (tree_of c node))
