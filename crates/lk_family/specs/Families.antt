-- A type and the types of its block, by the numbers of a store.
use Rattle.std.specs.Prelude.{◌≡◌, map, All, Option, Some, option_map, Ok, Err, Result}
use Rattle.lk_tree.specs.Tree.{Name}
use Rattle.lk_rulebook.specs.Place.{Place, Entry, Block, BlockType}
use Rattle.lk_store.specs.Contents.{Contents}
use Rattle.lk_env.specs.Units.{type_at, IsTypeIn}
use Rattle.lk_env.specs.Lent.{type_in}
use Rattle.lk_ask.specs.declared.stop.Stop.{Stop}
use Rattle.lk_ask.specs.declared.stop.Stop.TheVariants.{No, Spent, NoMemory}
use Rattle.lk_ask.specs.Constants.{IsRefused}
use Rattle.lk_family.specs.declared.family.Family.{Family}

abbrev pub family_at : Contents → Family → Block × BlockType
family_at c f = (record { types = map (type_at c) f.types.items }, type_at c f.own)

pub record IsFamilyIn (c : Contents) (f : Family) : Type 0 where
  pub own_in : IsTypeIn c f.own
  pub types_in : All (IsTypeIn c) f.types.items

-- the block and the line of the type that the name means, and none where it means something else
abbrev pub HasFamily : Place → Name → Contents → Result (Option Family) Stop → Type 0
HasFamily w x c (Ok o) = (g : Entry) × (w.means x ≡ Some g) × (type_in g.kind ≡ option_map (family_at c) o)
HasFamily w x c (Err (No r)) = IsRefused w x r
HasFamily w x c (Err Spent) = ⊥
HasFamily w x c (Err NoMemory) = Unit {0}
