-- The numbers of the trees that a unit states, member by member.
use Rattle.std.specs.Prelude.{ℕ, List, [], ◌∷◌, ◌++◌, map}
use Rattle.std.specs.List.{flat_map}
use Rattle.lk_env.specs.declared.unit.Body.{Body}
use Rattle.lk_env.specs.declared.unit.Body.TheVariants.{Axiom, Definition, Theorem, Opaque, Quotient}
use Rattle.lk_env.specs.declared.unit.Constructor.{Constructor}
use Rattle.lk_env.specs.declared.unit.BlockType.{BlockType}
use Rattle.lk_env.specs.declared.unit.RecursorRule.{RecursorRule}
use Rattle.lk_env.specs.declared.unit.Recursor.{Recursor}
use Rattle.lk_env.specs.declared.unit.Unit.{Unit as StoredUnit}
use Rattle.lk_env.specs.declared.unit.Unit.TheVariants as unit

abbrev pub body_numbers : Body → List ℕ
body_numbers Axiom = []
body_numbers (Definition h v) = v ∷ []
body_numbers (Theorem v) = v ∷ []
body_numbers (Opaque v) = v ∷ []
body_numbers Quotient = []

abbrev pub constructor_numbers : BlockType → List ℕ
constructor_numbers t = map (λ (k : Constructor). k.ty) t.constructors.items

-- its type, and the values of its rules
abbrev pub recursor_numbers : Recursor → List ℕ
recursor_numbers r = r.ty ∷ map (λ (x : RecursorRule). x.value) r.rules.items

abbrev pub stated_numbers : StoredUnit → List ℕ
stated_numbers (unit.Declaration d) = d.ty ∷ body_numbers d.body
stated_numbers (unit.Block b) = map (λ (t : BlockType). t.ty) b.types.items ++ (flat_map constructor_numbers b.types.items ++ flat_map recursor_numbers b.recursors.value.items)
