-- The built-in names by their components, and lists of those that a store has.
use Rattle.std.specs.Prelude.{ℕ, ◌≡◌, ◌<◌, ◌++◌, List, [], ◌∷◌, length, Option, Some, None}
use Rattle.std.specs.List.{Contains}
use Rattle.lk_tree.specs.Tree.{Name, text}
use Rattle.lk_uses.specs.Closure.{builtins, IsIn}
use Rattle.lk_store.specs.Contents.{Contents, name_at}
use Rattle.lk_needs.specs.declared.builtins.Spelling.{Spelling}
use Rattle.lk_needs.specs.declared.builtins.Spelling.TheVariants.{Word, Dotted}
use Rattle.lk_needs.specs.declared.thing.Thing.{Thing}
use Rattle.lk_needs.specs.declared.thing.Thing.TheVariants as thing

-- the name of these components
abbrev pub spelled : Spelling → Name
spelled (Word w) = text w.now ∷ []
spelled (Dotted v w) = text v.now ∷ text w.now ∷ []

-- the number of what stands in the name x before its last component, which is this text; there is
-- none where the last component is another one
abbrev pub IsBefore : Contents → Name → List ℕ → Option ℕ → Type 0
IsBefore c x w (Some p) = (p < length c.names) × (x ≡ name_at c p ++ text w ∷ [])
IsBefore c x w None = (p : Name) → x ≡ p ++ text w ∷ [] → ⊥

-- a name of the store that is a built-in one
pub record IsBuiltinThing (c : Contents) (t : Thing) : Type 0 where
  pub name : ℕ
  pub is_name : t ≡ thing.Name name
  pub name_in : name < length c.names
  pub is_builtin : IsIn (name_at c name) builtins

-- those of the first i names that are built-in ones
pub record AreBuiltinsTo (c : Contents) (i : ℕ) (things : List Thing) : Type 0 where
  pub only : (t : Thing) → Contains things t → IsBuiltinThing c t
  pub all : (n : ℕ) → n < i → IsIn (name_at c n) builtins → Contains things (thing.Name n)

abbrev pub AreBuiltins : Contents → List Thing → Type 0
AreBuiltins c things = AreBuiltinsTo c (length c.names) things
