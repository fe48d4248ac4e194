-- What trees and units name, by numbers.
use Rattle.std.specs.Prelude.{ℕ, ◌≡◌, ◌≢◌, ◌<◌, List, [], ◌∷◌, ◌++◌, length, map}
use Rattle.std.specs.Prelude.{Option, Some, None}
use Rattle.std.specs.List.{flat_map}
use Rattle.lk_inductive.specs.Restore.{first_name}
use Rattle.lk_store.specs.Contents.{Contents, name_at, IsName}
use Rattle.lk_store.specs.declared.node.Node.{Node}
use Rattle.lk_store.specs.declared.node.Node.TheVariants as node
use Rattle.lk_env.specs.declared.unit.Body.{Body}
use Rattle.lk_env.specs.declared.unit.Body.TheVariants.{Axiom, Definition, Theorem}
use Rattle.lk_env.specs.declared.unit.Body.TheVariants.{Opaque, Quotient}
use Rattle.lk_env.specs.declared.unit.Declaration.{Declaration}
use Rattle.lk_env.specs.declared.unit.Constructor.{Constructor}
use Rattle.lk_env.specs.declared.unit.BlockType.{BlockType}
use Rattle.lk_env.specs.declared.unit.RecursorRule.{RecursorRule}
use Rattle.lk_env.specs.declared.unit.Recursor.{Recursor}
use Rattle.lk_env.specs.declared.unit.Block.{Block}
use Rattle.lk_env.specs.declared.unit.Unit.{Unit as StoredUnit}
use Rattle.lk_env.specs.declared.unit.Unit.TheVariants as unit
use Rattle.lk_env.specs.Units.{type_at}
use Rattle.lk_needs.specs.declared.thing.Thing.{Thing}
use Rattle.lk_needs.specs.declared.thing.Thing.TheVariants.{Unit as a_unit, Name as a_name}
use Rattle.lk_needs.specs.declared.thing.Thing.TheVariants.{Tree as a_tree, Numbered}
use Rattle.lk_needs.specs.Followers.{followers_at}

-- the name in the node, and its parts; the type of a Local is none of them
abbrev pub node_things : Node → List Thing
node_things (node.Const x ls) = a_name x ∷ []
node_things (node.App f a) = a_tree f ∷ a_tree a ∷ []
node_things (node.Lam A b) = a_tree A ∷ a_tree b ∷ []
node_things (node.Pi A B) = a_tree A ∷ a_tree B ∷ []
node_things (node.Let A v b) = a_tree A ∷ a_tree v ∷ a_tree b ∷ []
node_things (node.Proj S i s) = a_name S ∷ a_tree s ∷ []
node_things _ = []

abbrev pub body_things : Body → List Thing
body_things Axiom = []
body_things (Definition h v) = a_tree v ∷ []
body_things (Theorem v) = a_tree v ∷ []
body_things (Opaque v) = a_tree v ∷ []
body_things Quotient = []

abbrev pub declaration_things : Declaration → List Thing
declaration_things d = a_name d.name ∷ a_tree d.ty ∷ body_things d.body

abbrev pub constructor_things : Constructor → List Thing
constructor_things k = a_name k.name ∷ a_tree k.ty ∷ []

abbrev pub type_things : BlockType → List Thing
type_things t =
    a_name t.name ∷ a_tree t.ty ∷ flat_map constructor_things t.constructors.items

abbrev pub rule_things : RecursorRule → List Thing
rule_things r = a_name r.constructor ∷ a_tree r.value ∷ []

abbrev pub recursor_things : Recursor → List Thing
recursor_things r = a_name r.name ∷ a_tree r.ty ∷ flat_map rule_things r.rules.items

-- the recursor of the type, where the lists have it
abbrev pub own_things : List (List ℕ) → BlockType → List Thing
own_things plain t = map a_name (followers_at plain t.name)

-- the numbered recursors of the name of the first type, where the store has it
abbrev pub numbered_things : Option ℕ → List Thing
numbered_things None = []
numbered_things (Some first) = Numbered first ∷ []

abbrev pub block_things : List (List ℕ) → Option ℕ → Block → List Thing
block_things plain first b =
    flat_map type_things b.types.items ++ (flat_map recursor_things b.recursors.value.items
    ++ (flat_map (own_things plain) b.types.items ++ numbered_things first))

abbrev pub unit_things : List (List ℕ) → Option ℕ → StoredUnit → List Thing
unit_things plain first (unit.Declaration d) = declaration_things d
unit_things plain first (unit.Block b) = block_things plain first b

-- the number of the name of the first of these types, where the store has it
abbrev pub IsFirst : Contents → List BlockType → Option ℕ → Type 0
IsFirst c ts None = (n : ℕ) → n < length c.names → name_at c n ≢ first_name (map (type_at c) ts)
IsFirst c ts (Some n) = IsName c n (first_name (map (type_at c) ts))

abbrev pub IsFirstOf : Contents → StoredUnit → Option ℕ → Type 0
IsFirstOf c (unit.Declaration d) first = Unit {0}
IsFirstOf c (unit.Block b) first = IsFirst c b.types.items first

-- all that the unit names is put behind a list
pub record IsUnitListed (c : Contents) (plain : List (List ℕ)) (u : StoredUnit)
    (old new : List Thing) : Type 0 where
  pub first : Option ℕ
  pub is_first : IsFirstOf c u first
  pub pushed : new ≡ old ++ unit_things plain first u

-- the unit of a place
abbrev pub giver_things : Option (ℕ × ℕ) → List Thing
giver_things None = []
giver_things (Some p) = a_unit p.0 ∷ []
